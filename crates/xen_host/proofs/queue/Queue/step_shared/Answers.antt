use Rattle.std.proofs.Common.{◌∙◌, ap, refl, sym}
use Rattle.xen_host.specs.Queues.{wired_to}
use Rattle.xen_host.specs.declared.queue.Queue.{Queue}
use Rattle.xen_host.proofs.queue.Queue.step_shared.Goals as goal

pub returns-clause-steps : goal.returns-clause-steps
returns-clause-steps c =
    let r = c.step_at_seat-count in
    record {
      share = c.in-Some.share;
      share_after = _;
      before = sym c.take.ensures.value ∙ c.in-Some.is;
      after = refl;
      counters = refl;
      seat = r.ensures.same;
      stepped = λ enough.
          let s = r.ensures.stepped (record { page = enough.page; some = enough.some; busy = enough.busy }) in
          record {
            first = s.first;
            last = s.last;
            said = s.said;
            told = s.told;
            within = s.within;
            wires = s.wires;
            offload = s.offload;
            labels = s.labels;
            history = s.history;
            turn = s.turn;
            delivery = s.delivery;
            wait = s.wait;
          };
      few = λ few. let n = r.ensures.few few in (n.none, n.words, n.ops_are, record { engine = ap (λ (q : Queue). q.engine) n.kept; wires = ap (λ (q : Queue). wired_to q) n.kept; packet = ap (λ (q : Queue). q.packet) n.kept; several = ap (λ (q : Queue). q.several) n.kept }, n.seat);
    }
