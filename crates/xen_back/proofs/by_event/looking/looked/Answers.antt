use Rattle.std.proofs.Common.{◌<◌, ap, sym, ◌∙◌, arith, ◌-◌, suc}
use Rattle.xen_steps.specs.Steps.{bind}
use Rattle.xen_turns.specs.Tree.{after_look, after_scan, read_slots}
use Rattle.xen_turns.proofs.RestLemmas.{after_look_some}
use Rattle.xen_back.proofs.by_event.looking.looked.Goals as goal

pub returns-else-n-eq0 : goal.returns-else-n-eq0
returns-else-n-eq0 c w packet =
    let s = c.args.state.now in
    let h : 0 < c.in-Some.n = omega arith in
    c.next_slot.ensures w s packet ∙ ap (λ ch. bind (read_slots w s.tx_index (suc (c.in-Some.n - 1)) ch) (after_scan w s)) c.new.ensures ∙ sym (after_look_some w s c.in-Some.n h) ∙ sym (ap (after_look w s) c.in-Some.is)
