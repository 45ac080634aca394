use Rattle.std.proofs.Common.{◌<◌, ◌∙◌, ap, sym, arith}
use Rattle.xen_front.proofs.RestLemmas.{receive_more}
use Rattle.xen_front.specs.Rest.{before_extra, gathered}
use Rattle.xen_front.specs.Tree.{Extra, Gathered, extra_first, receive}
use Rattle.xen_front.proofs.by_event.extras.extra_next.Goals as goal

pub returns-else-chained-eq0-clause-rest : goal.returns-else-chained-eq0-clause-rest
returns-else-chained-eq0-clause-rest c = λ w p q.
    let h : 0 < c.args.chained.left = omega (arith, c.if-chained-eq0.false) in
    let s = c.args.state.now in
    let x = c.args.chained in
    let more = c.args.more in
    c.shown.ensures.rest w s p q
    ∙ ap (λ (g : Gathered). extra_first w more s (record g { next = Extra more }) (receive w c.one_less.result.left)) (c.one_less.ensures.gathered q)
    ∙ ap (λ n. extra_first w more s (before_extra x more q) (receive w n)) c.one_less.ensures.left
    ∙ sym (receive_more w x.left s (before_extra x more q) h)
