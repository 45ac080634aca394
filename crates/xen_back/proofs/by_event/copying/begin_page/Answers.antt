use Rattle.std.proofs.Common.{◌≡◌, ◌<◌, ◌-◌, ◌/◌, suc, ap, sym, ◌∙◌, arith, drop}
use Rattle.xen_steps.specs.Steps.{bind}
use Rattle.xen_turns.specs.Tree.{after_copy, copy}
use Rattle.xen_steps.specs.Pages.{copy_words, covered}
use Rattle.xen_steps.proofs.CopyLemmas.{covered_end}
use Rattle.xen_back.proofs.by_event.copying.begin_page.Goals as goal

pub paging-requires-clause-covers : goal.paging-requires-clause-covers
paging-requires-clause-covers c =
    let r = c.covered_words-words.result in
    let e = c.covered_words-words.ensures in
    let h : r.start < r.end = omega (arith, e.ordered, c.if-words.false) in
    (covered_end c.args.fragment r.start r.end e.start h e.covered).1

pub paging-requires-clause-last : goal.paging-requires-clause-last
paging-requires-clause-last c =
    let r = c.covered_words-words.result in
    let e = c.covered_words-words.ensures in
    let h : r.start < r.end = omega (arith, e.ordered, c.if-words.false) in
    omega (arith, h, (covered_end c.args.fragment r.start r.end e.start h e.covered).0)

pub returns-then-words : goal.returns-then-words
returns-then-words c =
    let w = c.args.wiring.now in
    let f = c.args.fragment in
    let r = c.covered_words-words.result in
    let e = c.covered_words-words.ensures in
    let none : covered f ≡ 0 = omega (arith, e.count, c.if-words.true) in
    c.next_fragment.ensures
    ∙ sym (ap (λ n. bind (bind (copy_words f c.args.frame (f.offset / 4) n c.args.packet) (copy w (drop c.args.i c.args.fragments.items))) (after_copy w c.args.state.now c.args.chain)) none)

pub returns-else-words : goal.returns-else-words
returns-else-words c =
    let w = c.args.wiring.now in
    let f = c.args.fragment in
    let r = c.covered_words-words.result in
    let e = c.covered_words-words.ensures in
    let all : suc (r.end - r.start - 1) ≡ covered f = omega (arith, e.count, e.ordered, c.if-words.false) in
    c.paging.ensures w c.args.state.now
    ∙ ap (λ p. bind (bind (copy_words f c.args.frame p (suc (r.end - r.start - 1)) c.args.packet) (copy w (drop c.args.i c.args.fragments.items))) (after_copy w c.args.state.now c.args.chain)) e.start
    ∙ ap (λ n. bind (bind (copy_words f c.args.frame (f.offset / 4) n c.args.packet) (copy w (drop c.args.i c.args.fragments.items))) (after_copy w c.args.state.now c.args.chain)) all
