use Rattle.std.proofs.Common.{◌≡◌, ◌+◌, ◌*◌, ◌-◌, ◌++◌, take, drop, append_assoc, sym, ◌∙◌, ap, arith}
use Rattle.std.proofs.lemmas.List.{drop-drop}
use Rattle.std.specs.Int.{w32, to_le_bytes}
use Rattle.xen_page.proofs.run.put_word.Goals as goal

pub returns : goal.returns
returns c =
    let at = 4 * c.args.number in
    let bytes = c.args.bytes.now in
    let k = at + 4 - at in
    let four : k ≡ 4 = omega arith in
    let is : c.copy_from_slice.new.self ≡ to_le_bytes w32 c.args.word = c.copy_from_slice.ensures.after ∙ c.to_le_bytes-four.ensures in
    ap (λ l. take at bytes ++ l) (λ i. is i ++ (drop-drop k at bytes ∙ ap (λ n. drop (at + n) bytes) four) i)
    ∙ sym (append_assoc (take at bytes) (to_le_bytes w32 c.args.word) (drop (at + 4) bytes))
