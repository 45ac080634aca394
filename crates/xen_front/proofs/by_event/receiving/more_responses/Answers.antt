use Rattle.std.proofs.Common.{◌<◌, ◌∙◌, ap, sym, arith}
use Rattle.xen_front.specs.Rest.{gathered}
use Rattle.xen_front.specs.Tree.{Gathered, first_word, receive}
use Rattle.xen_front.proofs.RestLemmas.{receive_more}
use Rattle.xen_front.proofs.by_event.receiving.more_responses.Goals as goal

pub returns-else-chained-eq0-clause-rest : goal.returns-else-chained-eq0-clause-rest
returns-else-chained-eq0-clause-rest c = λ w p q.
    let h : 0 < c.args.chained.left = omega (arith, c.if-chained-eq0.false) in
    let s = c.args.state.now in
    let x = c.args.chained in
    c.before_response.ensures.rest w s p q
    ∙ ap (λ (g : Gathered). first_word w s g (receive w c.one_less.result.left)) (c.one_less.ensures.gathered q)
    ∙ ap (λ n. first_word w s (gathered x q) (receive w n)) c.one_less.ensures.left
    ∙ sym (receive_more w x.left s (gathered x q) h)
