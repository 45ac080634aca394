use Rattle.std.proofs.Common.{◌*◌, ◌<◌, ◌∙◌, ap, arith, length, sym}
use Rattle.std.proofs.lemmas.List.{take_all}
use Rattle.std.specs.Int.{w32, to_le_bytes}
use Rattle.std.specs.List.{flat_map}
use Rattle.xen_page.proofs.RunLemmas.{set_below, set_more}
use Rattle.xen_page.proofs.plain_bus.put_words.Goals as goal

pub loop-number-preserved : goal.loop-number-preserved
loop-number-preserved c =
    let l = c.loop-number in
    let v = c.word_at.result in
    let h : l.number < length l.words = omega (arith, c.loop-number-test.true, l.auto.words) in
    record {
      words = set_more l.words c.args.bytes.now l.number v h c.word_at.ensures l.invariant.words;
      below = set_below l.words l.number v h c.word_at.type_inv l.invariant.below;
    }

pub returns-clause-words : goal.returns-clause-words
returns-clause-words c =
    let l = c.loop-number in
    ap (flat_map (to_le_bytes w32)) (sym (take_all l.number l.words (omega (arith, c.loop-number-test.false, l.auto.words))))
    ∙ sym l.invariant.words
    ∙ take_all (4 * l.number) c.args.bytes.now (omega (arith, c.loop-number-test.false, c.requires))

pub returns-clause-below : goal.returns-clause-below
returns-clause-below c =
    let l = c.loop-number in
    rw (sym (take_all l.number l.words (omega (arith, c.loop-number-test.false, l.auto.words)))) l.invariant.below
