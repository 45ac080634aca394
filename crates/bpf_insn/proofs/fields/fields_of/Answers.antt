use Rattle.std.proofs.Common.{◌≡◌, ◌<◌, ℕ, get_or, rules, ◌∙◌, to_z, of_z, w16, w32, FitsSigned}
use Rattle.std.specs.Int.{cast_signed}
use Rattle.std.proofs.lemmas.Int.{to_z-of_z}
use Rattle.bpf_insn.proofs.FieldLemmas.{read_slot}
use Rattle.bpf_insn.proofs.fields.fields_of.Goals as goal

pub returns-clause-bytes : goal.returns-clause-bytes
returns-clause-bytes c =
    let small : (k : ℕ) → get_or c.args.bytes.now k 0 < 256 = λ k. search (rules, c.type_inv.bytes k) in
    let off_fits : FitsSigned w16 c.cast_signed.result = search rules in
    let imm_fits : FitsSigned w32 c.cast_signed-2.result = search rules in
    let off : to_z w16 (of_z w16 c.cast_signed.result) ≡ cast_signed w16 c.read_u16-off.result = to_z-of_z w16 _ off_fits ∙ c.cast_signed.ensures in
    let imm : to_z w32 (of_z w32 c.cast_signed-2.result) ≡ cast_signed w32 c.read_u32-imm.result = to_z-of_z w32 _ imm_fits ∙ c.cast_signed-2.ensures in
    rw (off, imm) (read_slot c.args.bytes.now c.read_u16-off.result c.read_u32-imm.result c.requires small c.read_u16-off.ensures c.read_u32-imm.ensures)
