use Rattle.std.proofs.Common.{◌<◌, ◌∙◌, sym, arith}
use Rattle.xen_front.proofs.RestLemmas.{take_next}
use Rattle.xen_front.proofs.by_event.feeding.taken.Goals as goal

pub returns-else-n-eq0-clause-rest : goal.returns-else-n-eq0-clause-rest
returns-else-n-eq0-clause-rest c = λ w p counter.
    let h : 0 < c.args.n = omega (arith, c.if-n-eq0.false) in
    c.after_tx_response.ensures.rest w p c.args.received.now ∙ sym (take_next w c.args.n c.args.state.now c.args.word counter h)
