use Rattle.std.proofs.Common.{◌<◌, ◌+◌, ◌-◌, ◌++◌, suc, ap, ◌∙◌, arith, drop}
use Rattle.xen_netif.specs.Copy.{bytes_in}
use Rattle.xen_steps.specs.Steps.{bind}
use Rattle.xen_turns.specs.Tree.{after_copy, copy}
use Rattle.xen_steps.specs.Pages.{copy_words}
use Rattle.xen_steps.proofs.PageLemmas.{copy_words_more}
use Rattle.xen_back.proofs.by_event.copying.after_page.Goals as goal

pub returns-else-n-eq0 : goal.returns-else-n-eq0
returns-else-n-eq0 c =
    let w = c.args.wiring.now in
    let g = c.args.page in
    let h : 0 < g.n = omega (arith, c.if-n-eq0.false) in
    let read = c.push_all.ensures ∙ ap (λ b. g.packet ++ b) (c.as_slice.ensures.value ∙ c.bytes_in-bytes.ensures) in
    c.paging.ensures w c.args.state.now
    ∙ ap (λ p. bind (bind p (copy w (drop g.i g.fragments.items))) (after_copy w c.args.state.now g.chain))
    (ap (λ b. copy_words g.fragment g.frame (g.place + 1) (suc (g.n - 1)) b) read ∙ copy_words_more g.fragment g.frame (g.place + 1) g.n (g.packet ++ bytes_in g.fragment g.place c.args.word) h)
