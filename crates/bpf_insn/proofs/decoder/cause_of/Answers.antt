use Rattle.std.proofs.Common.{◌≤◌, ◌<◌, ◌⊎◌, ℕ, inl, inr, ◌∙◌, sym, rules, IsTrue, false}
use Rattle.bpf_insn.specs.Refusal.{unsupported_opcode, unknown_opcode, no_register, unsupported_field, other_field}
use Rattle.bpf_insn.proofs.decoder.cause_of.Goals as goal

not_so : IsTrue false → ⊥
not_so h = search rules

either_above : (a b : ℕ) → (10 < a) ⊎ ((a ≤ 10) × (10 < b)) → (10 < a) ⊎ (10 < b)
either_above a b (inl h) = inl h
either_above a b (inr h) = inr h.1

pub returns-then-is_unsupported_opcode : goal.returns-then-is_unsupported_opcode
returns-then-is_unsupported_opcode c = unsupported_opcode (sym c.is_unsupported_opcode.ensures ∙ c.if-is_unsupported_opcode.true)

pub returns-then-not-is_opcode : goal.returns-then-not-is_opcode
returns-then-not-is_opcode c = unknown_opcode (sym c.is_unsupported_opcode.ensures ∙ c.if-is_unsupported_opcode.false) (λ known. not_so (c.if-not-is_opcode.ensures.1 known))

pub returns-then-f-gt10 : goal.returns-then-f-gt10
returns-then-f-gt10 c = no_register (sym c.is_unsupported_opcode.ensures ∙ c.if-is_unsupported_opcode.false) (c.if-not-is_opcode.ensures.0 (search rules)) (either_above _ _ c.then-f-gt10.either)

pub returns-then-is_unsupported_field : goal.returns-then-is_unsupported_field
returns-then-is_unsupported_field c =
    unsupported_field (sym c.is_unsupported_opcode.ensures ∙ c.if-is_unsupported_opcode.false) (c.if-not-is_opcode.ensures.0 (search rules)) c.if-f-gt10.false c.if-f-gt10-2.false
    (sym c.is_unsupported_field.ensures ∙ c.if-is_unsupported_field.true)

pub returns : goal.returns
returns c =
    other_field (sym c.is_unsupported_opcode.ensures ∙ c.if-is_unsupported_opcode.false) (c.if-not-is_opcode.ensures.0 (search rules)) c.if-f-gt10.false c.if-f-gt10-2.false
    (sym c.is_unsupported_field.ensures ∙ c.if-is_unsupported_field.false)
