use Rattle.std.proofs.Common.{◌*◌, ◌++◌, ◌≡◌, ◌∙◌, [], ap, arith, drop, length, replicate, take}
use Rattle.std.proofs.lemmas.List.{append-nil, drop_all}
use Rattle.xen_page.proofs.RunLemmas.{all_below, bytes_first, bytes_on}
use Rattle.xen_page.proofs.plain_bus.put_bytes.Goals as goal

pub loop-number-preserved : goal.loop-number-preserved
loop-number-preserved c =
    let l = c.loop-number in
    c.put_word.ensures ∙ bytes_on c.args.words.now l.page (replicate 4096 0) l.number c.loop-number-test.true l.invariant

pub returns-clause-bytes : goal.returns-clause-bytes
returns-clause-bytes c =
    let l = c.loop-number in
    let words = c.args.words.now in
    let none : drop (4 * length words) c.args.room.now ≡ [] = drop_all (4 * length words) c.args.room.now (omega (arith, c.requires.length)) in
    let copied = c.copy_from_slice.ensures.after ∙ ap (take (4 * length words)) l.invariant ∙ bytes_first words (replicate 4096 0) l.number c.loop-number-test.false in
    (λ i. copied i ++ none i) ∙ append-nil _

pub returns-clause-below : goal.returns-clause-below
returns-clause-below c = all_below c.args.words.now (λ i. omega (arith, c.type_inv.words i))
