use Rattle.std.proofs.Common.{ℕ, ◌<◌, List, length, sym, ap, arith, refl}
use Rattle.std.specs.Prelude.{Option}
use Rattle.xen_steps.specs.Steps.{Steps, bind}
use Rattle.xdp_program.specs.Tallies.{Went}
use Rattle.xen_host.proofs.RanLedLemmas.{ran_led}
use Rattle.xen_turns.specs.Tree.{after_copy}
use Rattle.xen_turns.proofs.RestLemmas.{copy_at}
use Rattle.xen_host.specs.EngineAt.{engine_at}
use Rattle.xen_host.proofs.EarlyLemmas.{early_as, late_early}
use Rattle.xen_turns.specs.declared.state.State.{State}
use Rattle.xen_host.proofs.engine.Engine.next_fragment.Goals as goal

pub returns-else-i-fragment_count-clause-led : goal.returns-else-i-fragment_count-clause-led
returns-else-i-fragment_count-clause-led g c =
    let q = engine_at (g.W.Wires.wiring c.args.wires.now) (g.R.Room.held c.args.packet.now) c.args.self.now in
    let w = q.wires in
    let b = q.work in
    let h : c.args.i < length b.fragments = omega (arith, c.if-i-fragment_count.false, c.requires.copies.within, c.fragment_count.ensures.value) in
    ran_led _ _ _ _ _ _ (Went (g.T.Tallies.did q.wires.program.now.shapes) c.args.counters.now c.args.counters.now) _ _ refl (sym (ap (λ (z : Steps (Option (List ℕ))). bind z (after_copy w q.state b.chain)) (copy_at w b.fragments c.args.i b.packet h))) (c.read_entry.ensures.led q.work.packet c.requires.copies)

pub returns-then-i-fragment_count-clause-early : goal.returns-then-i-fragment_count-clause-early
returns-then-i-fragment_count-clause-early g c = late_early _ _ _ c.run.ensures.late

pub returns-else-i-fragment_count-clause-early : goal.returns-else-i-fragment_count-clause-early
returns-else-i-fragment_count-clause-early g c =
    let q = engine_at (g.W.Wires.wiring c.args.wires.now) (g.R.Room.held c.args.packet.now) c.args.self.now in
    let w = q.wires in
    let b = q.work in
    let h : c.args.i < length b.fragments = omega (arith, c.if-i-fragment_count.false, c.requires.copies.within, c.fragment_count.ensures.value) in
    early_as _ _ _ _ (λ (t : State). sym (ap (λ (z : Steps (Option (List ℕ))). bind z (after_copy w t b.chain)) (copy_at w b.fragments c.args.i b.packet h))) (c.read_entry.ensures.early q.work.packet)
