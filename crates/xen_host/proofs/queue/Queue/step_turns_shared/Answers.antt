use Rattle.std.proofs.Common.{◌∙◌, ap, refl, sym}
use Rattle.xen_host.specs.Queues.{wired_to}
use Rattle.xen_host.specs.declared.queue.Queue.{Queue}
use Rattle.xen_host.proofs.SharedTurnLemmas.{stepped_in, together_in}
use Rattle.xen_host.proofs.queue.Queue.step_turns_shared.Goals as goal

pub returns-clause-steps : goal.returns-clause-steps
returns-clause-steps c =
    let r = c.step_turns_at_seat-count in
    record {
      share = c.in-Some.share;
      share_after = _;
      before = sym c.take.ensures.value ∙ c.in-Some.is;
      after = refl;
      counters = refl;
      seat = r.ensures.same;
      stepped = λ enough g t.
          stepped_in _ c.args.self.now r.new.self _ (record { engine = refl; wires = refl; several = refl }) (record { engine = refl; wires = refl; several = refl })
          (r.ensures.stepped (record { pages = enough.pages; some = enough.some; room = enough.room; several = enough.several }) g
          (together_in c.args.self.now _ (record { engine = refl; wires = refl; several = refl }) g t));
      few = λ several few.
          let n = r.ensures.few several few in
          let kept = n.nothing.kept in
          (n.nothing.none, n.nothing.words, n.nothing.ops_are, n.results_are, record { engine = ap (λ (q : Queue). q.engine) kept; wires = ap (λ (q : Queue). wired_to q) kept; packet = ap (λ (q : Queue). q.packet) kept; several = ap (λ (q : Queue). q.several) kept }, n.nothing.seat);
      alone = λ enough.
          let e = r.ensures.alone (record { page = enough.page; some = enough.some; busy = enough.busy }) in
          let s = e.1 in (
            e.0,
            record {
              first = s.first;
              last = s.last;
              said = s.said;
              told = s.told;
              within = s.within;
              wires = s.wires;
              offload = s.offload;
              labels = s.labels;
              history = s.history;
              turn = s.turn;
              delivery = s.delivery;
              wait = s.wait;
            },
          );
      none = λ other few.
          let e = r.ensures.none other few in
          let n = e.1 in
          (n.none, n.words, n.ops_are, e.0, record { engine = ap (λ (q : Queue). q.engine) n.kept; wires = ap (λ (q : Queue). wired_to q) n.kept; packet = ap (λ (q : Queue). q.packet) n.kept; several = ap (λ (q : Queue). q.several) n.kept }, n.seat);
    }
