use Rattle.std.proofs.Common.{◌≡◌, ◌<◌, ◌-◌, ◌/◌, suc, ap, sym, ◌∙◌, arith}
use Rattle.xen_netif.specs.declared.fragment.Fragment.{Fragment}
use Rattle.xen_steps.specs.Pages.{copy_words, covered}
use Rattle.xen_steps.specs.Steps.{bind}
use Rattle.xen_steps.proofs.CopyLemmas.{covered_count, covered_end}
use Rattle.xen_front.specs.Rest.{part_rest}
use Rattle.xen_front.specs.Slots.{buffer, part_of}
use Rattle.xen_buffers.specs.declared.wiring.GrantedPage.{GrantedPage}
use Rattle.xen_front.proofs.by_event.receiving.grant_ended.Goals as goal

pub before_word-requires-clause-covers : goal.before_word-requires-clause-covers
before_word-requires-clause-covers c =
    let f = c.part_of-fragment.result in
    let r = c.covered_words-words.result in
    let e = c.covered_words-words.ensures in
    let h : r.start < r.end = omega (arith, e.ordered, c.if-words.false) in
    (covered_end f r.start r.end e.start h e.covered).1

pub before_word-requires-clause-last : goal.before_word-requires-clause-last
before_word-requires-clause-last c =
    let f = c.part_of-fragment.result in
    let r = c.covered_words-words.result in
    let e = c.covered_words-words.ensures in
    let h : r.start < r.end = omega (arith, e.ordered, c.if-words.false) in
    omega (arith, h, (covered_end f r.start r.end e.start h e.covered).0)

pub returns-then-words-clause-rest : goal.returns-then-words-clause-rest
returns-then-words-clause-rest c = λ p q.
    let w = c.args.wiring.now in
    let x = c.args.part in
    let b = buffer w.rx.now x.response.id in
    let f = c.part_of-fragment.result in
    let r = c.covered_words-words.result in
    let e = c.covered_words-words.ensures in
    let same : f ≡ part_of b x.response = c.part_of-fragment.ensures ∙ ap (λ (b : GrantedPage). part_of b x.response) c.buffer_of-buffer.ensures in
    let count = covered_count f r.start r.end e.start e.ordered e.covered in
    let zero : covered f ≡ 0 = omega (arith, count, c.if-words.true) in
    let none : covered (part_of b x.response) ≡ 0 = ap covered (sym same) ∙ zero in
    c.after_part.ensures.rest w p q
    ∙ sym (ap (λ n. bind (copy_words (part_of b x.response) b.frame (x.response.offset / 4) n q) (part_rest w c.args.state.now x)) none)

pub returns-else-words-clause-rest : goal.returns-else-words-clause-rest
returns-else-words-clause-rest c = λ p q.
    let w = c.args.wiring.now in
    let x = c.args.part in
    let b = buffer w.rx.now x.response.id in
    let f = c.part_of-fragment.result in
    let frame = c.buffer_of-buffer.result.frame in
    let r = c.covered_words-words.result in
    let e = c.covered_words-words.ensures in
    let k = part_rest w c.args.state.now x in
    let same : f ≡ part_of b x.response = c.part_of-fragment.ensures ∙ ap (λ (b : GrantedPage). part_of b x.response) c.buffer_of-buffer.ensures in
    let count = covered_count f r.start r.end e.start e.ordered e.covered in
    let all : suc (r.end - r.start - 1) ≡ covered f = omega (arith, count, e.ordered, c.if-words.false) in
    c.before_word.ensures.rest w c.args.state.now p q
    ∙ ap (λ m. bind (copy_words f frame m (suc (r.end - r.start - 1)) q) k) e.start
    ∙ ap (λ n. bind (copy_words f frame (f.offset / 4) n q) k) all
    ∙ ap (λ (g : Fragment). bind (copy_words g frame (g.offset / 4) (covered g) q) k) same
    ∙ ap (λ (a : GrantedPage). bind (copy_words (part_of b x.response) a.frame (x.response.offset / 4) (covered (part_of b x.response)) q) k) c.buffer_of-buffer.ensures
