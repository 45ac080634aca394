use Rattle.std.proofs.Common.{◌<◌, ◌+◌, ◌-◌, ◌++◌, suc, ap, ◌∙◌, arith}
use Rattle.xen_netif.specs.Copy.{bytes_in}
use Rattle.xen_steps.specs.Pages.{copy_words}
use Rattle.xen_steps.specs.Steps.{bind}
use Rattle.xen_steps.proofs.PageLemmas.{copy_words_more}
use Rattle.xen_front.specs.Rest.{part_rest}
use Rattle.xen_front.proofs.by_event.receiving.after_word.Goals as goal

pub returns-else-paging-eq0-clause-rest : goal.returns-else-paging-eq0-clause-rest
returns-else-paging-eq0-clause-rest c = λ w p.
    let g = c.args.paging in
    let q = c.args.received.now in
    let h : 0 < g.more = omega (arith, c.if-paging-eq0.false) in
    let read = c.push_all.ensures ∙ ap (λ b. q ++ b) (c.as_slice.ensures.value ∙ c.bytes_in-bytes.ensures) in
    c.before_word.ensures.rest w c.args.state.now p c.push_all.new.received
    ∙ ap (λ t. bind t (part_rest w c.args.state.now g.part))
    (ap (λ b. copy_words g.fragment g.frame (g.place + 1) (suc (g.more - 1)) b) read ∙ copy_words_more g.fragment g.frame (g.place + 1) g.more (q ++ bytes_in g.fragment g.place c.args.word) h)
