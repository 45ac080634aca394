use Rattle.std.proofs.Common.{◌*◌, ◌-◌, ◌∙◌, arith, drop, length}
use Rattle.std.proofs.lemmas.List.{take-take}
use Rattle.xen_page.proofs.RunLemmas.{four_of}
use Rattle.xen_page.proofs.run.word_at.Goals as goal

pub returns : goal.returns
returns c =
    let bytes = c.args.bytes.now in
    let at = 4 * c.args.number in
    four_of bytes c.in-Some.four.now at c.from_le_bytes.result c.requires (λ i. omega (arith, c.type_inv.bytes i))
    (c.in-Some.ensures.cases.0 ∙ take-take 4 (length bytes - at) (drop at bytes) (omega (arith, c.requires))) c.from_le_bytes.ensures
