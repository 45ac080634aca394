-- Stated: claims rest on this file.
-- When a program is another one but for the numbers of its slots: slots may be moved, copied and left out.
use Rattle.std.specs.Prelude.{ℕ, ℤ, ◌+◌, ◌≡◌, List, Option, None, Some, Bool, slice_get}
use Rattle.bpf_insn.specs.declared.insn.Insn.{Insn}
use Rattle.bpf_insn.specs.declared.insn.Insn.TheVariants.{Ja, Jump, Exit, Second}
use Rattle.bpf_flow.specs.Graph.{next_slot}
use Rattle.bpf_flow.specs.Step.{target}
use Rattle.bpf_same.specs.declared.witness.Witness.{Witness}

-- slot p of the old program is the witness of slot q of the new one
pub record IsWitnessed (witnesses : List Witness) (q p : ℕ) : Type 0 where
  pub witness : Witness
  pub here : slice_get witnesses q ≡ Some witness
  pub at : witness.at ≡ p

abbrev pub AreWitnessed : List Witness → Option ℕ → Option ℕ → Type 0
AreWitnessed witnesses (Some q) (Some p) = IsWitnessed witnesses q p
AreWitnessed witnesses q p = ⊥

-- the old program's instruction j at slot p is the new one's at slot q, but for a jump's offset, and each way leads to its witness
abbrev pub IsRenumbered : List Witness → Insn → ℕ → Insn → ℕ → Type 0
IsRenumbered witnesses (Ja wide to) q j p = (w : Bool) × (o : ℤ) × (j ≡ Ja w o) × AreWitnessed witnesses (target q to) (target p o)
IsRenumbered witnesses (Jump cond wide dst src off) q j p =
    (o : ℤ) × (j ≡ Jump cond wide dst src o) × AreWitnessed witnesses (target q off) (target p o) × IsWitnessed witnesses (q + 1) (p + 1)
IsRenumbered witnesses Exit q j p = j ≡ Exit
IsRenumbered witnesses Second q j p = Unit {0}
IsRenumbered witnesses i q j p = (j ≡ i) × IsWitnessed witnesses (next_slot i q) (next_slot i p)

abbrev pub IsRenumberedFrom : List Witness → Option Insn → Insn → ℕ → ℕ → Type 0
IsRenumberedFrom witnesses None i q p = ⊥
IsRenumberedFrom witnesses (Some j) i q p = IsRenumbered witnesses i q j p

-- both programs begin at slot 0, and each slot that has a witness is that witness's
pub record IsRenumbering (witnesses : List Witness) (old new : List Insn) : Type 0 where
  pub start : IsWitnessed witnesses 0 0
  pub each : (q p : ℕ) (i : Insn) → slice_get new q ≡ Some i → IsWitnessed witnesses q p → IsRenumberedFrom witnesses (slice_get old p) i q p
