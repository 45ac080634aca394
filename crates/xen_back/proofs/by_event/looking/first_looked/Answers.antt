use Rattle.std.proofs.Common.{◌<◌, ap, sym, ◌∙◌, arith}
use Rattle.xen_steps.specs.Steps.{bind}
use Rattle.xen_turns.specs.Tree.{after_look, seen}
use Rattle.xen_turns.proofs.RestLemmas.{seen_some}
use Rattle.xen_back.proofs.by_event.looking.first_looked.Goals as goal

pub returns-else-n-eq0 : goal.returns-else-n-eq0
returns-else-n-eq0 c w packet =
    let s = c.args.state.now in
    let h : 0 < c.in-Some.n = omega arith in
    c.looked-else-n-eq0.ensures w packet ∙ sym (ap (λ o. bind o (after_look w s)) (ap (seen w s.tx_index) c.in-Some.is ∙ seen_some w s.tx_index c.in-Some.n h))
