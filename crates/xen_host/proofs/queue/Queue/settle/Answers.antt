use Rattle.std.proofs.Common.{◌≡◌, ℕ, None, ◌<◌, ◌≤◌, ◌-◌, get_or, length, subst, ◌+◌, ◌++◌, ◌∷◌, ◌∙◌, [], ap, drop, refl, sym, take, take-append-drop, arith}
use Rattle.xen_host.specs.Severals.{on, pushes}
use Rattle.std.proofs.lemmas.Option.{slice_get-get_or}
use Rattle.xen_host.specs.SeveralFits.{NumbersFit}
use Rattle.xen_host.specs.Asks.{op_of}
use Rattle.xen_host.specs.Queues.{wiring}
use Rattle.xen_host.specs.Severals.{push_of}
use Rattle.xen_host.specs.Wired.{wiring_of}
use Rattle.xen_host.specs.declared.op.HostOp.{HostOp}
use Rattle.xen_host.specs.declared.several.Phase.{Phase}
use Rattle.xen_host.specs.declared.several.Phase.TheVariants as phase
use Rattle.xen_host.specs.declared.wires.OwnedWiring.{OwnedWiring}
use Rattle.xen_host.specs.declared.several.Several.{Several}
use Rattle.xen_host.proofs.TogetherLemmas.{under_way}
use Rattle.xen_host.proofs.SettleLemmas.{pushed_together}
use Rattle.xen_host.proofs.queue.Queue.settle.Goals as goal

pub returns-then-not-is_halted-clause-settled : goal.returns-then-not-is_halted-clause-settled
returns-then-not-is_halted-clause-settled c = λ g t.
    record { behind = []; filled = sym (take-append-drop c.args.said c.args.ops.now); counted = omega arith; goes = λ event. on c.requires.phase t refl }

pub halt_lanes-requires-clause-halted : goal.halt_lanes-requires-clause-halted
halt_lanes-requires-clause-halted c =
    let v = c.args.self.now.several in
    let numbers = subst (λ (p : Phase). NumbersFit p v) c.requires.phase c.args.self.now.side.numbers in
    let inside : v.held < length v.lanes = omega (arith, c.if-held-self.true, numbers.1) in
    record {
      next = c.if-held-self.true;
      lane = get_or v.lanes v.held c.index-self-held.result;
      there = slice_get-get_or v.lanes v.held c.index-self-held.result inside;
      over = c.is_halted.ensures.0 c.if-not-is_halted.false;
    }

pub returns-then-held-eq0-clause-settled : goal.returns-then-held-eq0-clause-settled
returns-then-held-eq0-clause-settled c = λ g t.
    record { behind = []; filled = sym (take-append-drop c.args.said c.args.ops.now); counted = omega arith; goes = λ event. on c.requires.phase t refl }

pub returns-clause-settled : goal.returns-clause-settled
returns-clause-settled c = λ g t.
    let q = c.args.self.now in
    let v = q.several in
    let r = c.push_all in
    let numbers = subst (λ (p : Phase). NumbersFit p v) c.requires.phase q.side.numbers in
    let held : v.held ≡ v.count = omega (arith, c.if-held-self.false, numbers.0) in
    let k = v.held - 1 in
    let some : v.count ≡ k + 1 = omega (arith, held, c.if-held-eq0.false) in
    let inside : k < length v.lanes = omega (arith, some, numbers.1) in
    let last = get_or v.lanes k c.index-self-held-2.result in
    let there = slice_get-get_or v.lanes k c.index-self-held-2.result inside in
    let within : v.count ≤ length v.lanes = omega (arith, some, inside) in
    let several = r.ensures.several ∙ ap (λ (t : ℕ). record v { phase = phase.Push; after = record { tx_index = t; rx_index = v.rx_index; halt = None } }) c.end.ensures in
    let op_is = ap (λ (x : OwnedWiring). op_of (push_of (wiring_of x) c.end.result)) (sym r.ensures.wires) ∙ ap (λ (x : Several). op_of (push_of (wiring r.new.self) x.after.tx_index)) (sym r.ensures.several) in
    record {
      behind = op_of (push_of (wiring r.new.self) r.new.self.several.after.tx_index) ∷ [];
      filled = r.ensures.ops ∙ ap (λ (x : HostOp). take c.args.said c.args.ops.now ++ x ∷ drop (c.args.said + 1) c.args.ops.now) op_is ∙ ap (λ n. take c.args.said c.args.ops.now ++ op_of (push_of (wiring r.new.self) r.new.self.several.after.tx_index) ∷ drop n c.args.ops.now) (sym r.ensures.counted);
      counted = r.ensures.counted;
      goes = λ event. pushes (ap (λ (x : Several). x.phase) r.ensures.several) (pushed_together q _ g t.group (under_way q g c.requires.phase t) within k last some held there r.ensures.engine r.ensures.wires several) refl;
    }
