-- For proofs: no claim rests on this file.
-- What decides a conditional jump.
use Rattle.std.specs.Prelude.{ℕ, ℤ, pos, ◌^◌, ◌≡◌, ◌≤◌, Option, Some, None, Bool, true, false}
use Rattle.bpf_insn.specs.Register.{number}
use Rattle.bpf_insn.specs.Conditions.{relation, is_met}
use Rattle.bpf_insn.specs.declared.condition.Condition.{Condition}
use Rattle.bpf_insn.specs.declared.insn.Insn.{Insn}
use Rattle.bpf_insn.specs.declared.insn.Insn.TheVariants.{Ja, Jump}
use Rattle.bpf_insn.specs.declared.operand.Operand.{Operand}
use Rattle.bpf_insn.specs.declared.register.Register.{Register}
use Rattle.bpf_flow.specs.Branch.{opposite}
use Rattle.bpf_note.specs.declared.val.Val.TheVariants.{PktEnd}
use Rattle.bpf_note.specs.State.{State}
use Rattle.bpf_note.specs.Facts.{Facts}
use Rattle.bpf_note.specs.Describes.{Describes}
use Rattle.bpf_flow.specs.Step.{operand}
use Rattle.bpf_same.specs.declared.relation.Relation.{Relation}
use Rattle.bpf_same.specs.LinearForms.{held, Hold}

-- between each number of one range and each of another one the condition is the same
abbrev pub IsBetween : Condition → ℕ → ℕ → ℕ → ℕ → Bool → Type 0
IsBetween cond lo hi low high b = (x y : ℕ) → lo ≤ x → x ≤ hi → low ≤ y → y ≤ high → relation cond (2 ^ 64) x y ≡ b

-- between a number and one that is at least as great the condition is this
abbrev pub IsOrdered : Condition → Bool → Type 0
IsOrdered cond b = (x y : ℕ) → x ≤ y → relation cond (2 ^ 64) x y ≡ b

-- register k is known to hold the packet's end
abbrev pub IsPacketEnd : Facts → ℕ → Type 0
IsPacketEnd n k = n.reg k ≡ PktEnd

-- two numbers that are read, between which the condition is this
pub record Compared (cond : Condition) (wide : Bool) (o p : Option ℕ) (b : Bool) : Type 0 where
  pub x : ℕ
  pub y : ℕ
  pub first : o ≡ Some x
  pub second : p ≡ Some y
  pub met : is_met cond wide x y ≡ b

-- where this is known, register k holds at least what register j does
pub record AreOrdered (o p : Option ℕ) : Type 0 where
  pub x : ℕ
  pub y : ℕ
  pub first : o ≡ Some x
  pub second : p ≡ Some y
  pub most : y ≤ x

abbrev pub IsAtLeast : Facts → Relation → ℕ → ℕ → Type 0
IsAtLeast n e k j = (s : State) (g : ℕ → Option ℕ) → Describes n s → Hold e (held s) g → AreOrdered (s.reg k) (s.reg j)

-- a jump that is taken where this one isn't; or one that says nothing
abbrev pub opposed : Option Condition → Register → Operand → ℤ → Insn
opposed None dst src off = Ja false (pos 0)
opposed (Some cond) dst src off = Jump cond true dst src off

-- the jump that is taken where a conditional one isn't; and on a way of it
abbrev pub not_taken : Insn → Insn
not_taken (Jump cond true dst src off) = opposed (opposite cond) dst src off
not_taken (Jump cond false dst src off) = Ja false (pos 0)
not_taken i = i

abbrev pub on_way : Insn → Bool → Insn
on_way i true = i
on_way i false = not_taken i

-- a conditional jump is taken in each state that the facts describe and in which the relation holds, or in none
abbrev pub IsDecided : Insn → Relation → Facts → Bool → Type 0
IsDecided (Jump cond wide dst src off) e n b = (s : State) (g : ℕ → Option ℕ) → Describes n s → Hold e (held s) g → Compared cond wide (s.reg (number dst)) (operand s src) b
IsDecided i e n b = ⊥
