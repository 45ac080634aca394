use Rattle.std.proofs.Common.{arith, ℕ, ◌+◌, get_or, set, sym, ap, ◌∙◌, length-set, get_or-set_same, get_or-set_other}
use mathlib.Core.Logic.{dite}
use native.Mathlib.Decide.{ℕ_discrete}
use Rattle.std.specs.Slots.{slots_items}
use Rattle.bpf_maps.proofs.ClosingLemmas.{read_at}
use Rattle.bpf_maps.proofs.totals.Totals.take_words.Goals as goal

pub loop-i-preserved : goal.loop-i-preserved
loop-i-preserved c =
    let before = c.loop-i.invariant in
    let i = c.loop-i.i in
    let values = c.loop-i.self-inside.values.items in
    let inside = c.loop-i-test.true in
    let wide = before.1 in
    let end = c.len-i-end.ensures in (
      before.0,
      length-set values i c.word.result ∙ before.1,
      λ j h. dite (ℕ_discrete j i)
          (λ e. ap (λ (k : ℕ). get_or (set values i c.word.result) k 0) e ∙ (get_or-set_same values i c.word.result 0 (omega arith)
          ∙ (sym (read_at (slots_items c.args.closed.now.words) (i + 1) c.word.result 0 c.word.ensures) ∙ ap (λ (k : ℕ). get_or (slots_items c.args.closed.now.words) (k + 1) 0) (sym e))))
          (λ ne. get_or-set_other values i j c.word.result 0 ne ∙ before.2 j (omega arith)),
    )
