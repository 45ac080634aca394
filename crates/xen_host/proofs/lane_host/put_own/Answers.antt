use Rattle.std.proofs.Common.{◌≡◌, ℕ, ◌+◌, ◌-◌, ◌++◌, length, take, drop, ap, ◌∙◌, arith}
use Rattle.std.proofs.lemmas.List.{drop-drop, length-drop, length-take}
use borrow.Rule.Slice.PartMut.{post_of}
use Rattle.xen_host.specs.LentWords.{lent_words}
use Rattle.xen_host.proofs.LaneWordLemmas.{Words, replaced, words_front, words_rest}
use Rattle.xen_host.proofs.lane_host.put_own.Goals as goal

-- The words behind the page.
behind : (own : ℕ) (part l : Words) → take own l ++ (part ++ post_of own (own + 1024 - own) l) ≡ replaced own part l
behind own part l =
    let n : own + 1024 - own ≡ 1024 = omega arith in
    ap (λ x. take own l ++ (part ++ x)) (ap (λ k. drop k (drop own l)) n ∙ drop-drop 1024 own l)

pub returns-clause-front : goal.returns-clause-front
returns-clause-front c =
    let own = c.args.own in
    let l = c.args.words.now in
    let part = c.put_words.new.words in
    ap (λ (x : Words). take own (lent_words x)) (behind own part l) ∙ words_front own l part (omega (arith, c.requires.enough))

pub returns-clause-rest : goal.returns-clause-rest
returns-clause-rest c =
    let own = c.args.own in
    let n = c.args.count in
    let l = c.args.words.now in
    let part = c.put_words.new.words in
    let same : own + 1024 - own ≡ 1024 = omega arith in
    let width : length part ≡ 1024 =
    c.put_words.ensures.width ∙ ap (λ k. length (take k (drop own l))) same ∙ omega (arith, length-take 1024 (drop own l), length-drop own l, c.requires.enough) in
    ap (λ (x : Words). drop (own + n) (lent_words x)) (behind own part l)
    ∙ words_rest own n l part c.requires.enough width c.requires.page (c.put_words.ensures.rest ∙ ap (λ k. drop n (lent_words (take k (drop own l)))) same)
