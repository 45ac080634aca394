-- Stated: claims rest on this file.
-- When an instruction reads a register of which nothing is known.
use Rattle.std.specs.Prelude.{ℕ, ◌≡◌, true}
use Rattle.bpf_insn.specs.declared.insn.Insn.{Insn}
use Rattle.bpf_insn.specs.declared.insn.Insn.TheVariants.{Call}
use Rattle.bpf_note.specs.Facts.{Facts, is_unset}
use Rattle.bpf_flow.specs.Graph.{reads}
use Rattle.bpf_flow.specs.Call.{is_lookup}

-- no call, or one of the helper that programs may call
abbrev pub IsKnownCall : Insn → Type 0
IsKnownCall (Call helper) = is_lookup helper ≡ true
IsKnownCall i = Unit {0}

-- the instruction reads a register that is Unset
pub record ReadsUnset (i : Insn) (n : Facts) : Type 0 where
  pub known : IsKnownCall i
  pub register : ℕ
  pub read : reads i register ≡ true
  pub unset : is_unset (n.reg register) ≡ true
