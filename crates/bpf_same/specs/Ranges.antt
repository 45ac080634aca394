-- For proofs: no claim rests on this file.
-- Between which numbers something lies.
use Rattle.std.specs.Prelude.{ℕ, ℤ, ◌*◌, ◌^◌, ◌≡◌, ◌<◌, ◌≤◌, ◌⊎◌, length, Bool, true, Option, Some, IfSome, bit_and, bit_or}
use Rattle.bpf_insn.specs.Conditions.{relation}
use Rattle.bpf_insn.specs.Arithmetic.{computed}
use Rattle.bpf_insn.specs.Register.{number}
use Rattle.bpf_insn.specs.declared.alu_op.AluOp.TheVariants.{Lsh, Arsh}
use Rattle.bpf_insn.specs.declared.condition.Condition.{Condition}
use Rattle.bpf_insn.specs.declared.register.Register.{Register}
use Rattle.bpf_insn.specs.declared.insn.Insn.{Insn}
use Rattle.bpf_insn.specs.declared.insn.Insn.TheVariants.{Jump}
use Rattle.bpf_insn.specs.declared.operand.Operand.{Operand}
use Rattle.bpf_note.specs.declared.val.Val.{Val}
use Rattle.bpf_note.specs.declared.op.Op.{Op}
use Rattle.bpf_note.specs.State.{State}
use Rattle.bpf_note.specs.Facts.{Facts}
use Rattle.bpf_note.specs.Describes.{Describes, Reads, meaning}
use Rattle.bpf_flow.specs.Step.{exec, operand, LeadsTo}
use Rattle.bpf_same.specs.declared.range.Range.{Range}
use Rattle.bpf_same.specs.declared.relation.Relation.{Relation}
use Rattle.bpf_same.specs.declared.sharper.Bounded.{Bounded}
use Rattle.bpf_same.specs.Decided.{Compared}
use Rattle.bpf_same.specs.LinearForms.{held, plus, Hold}

-- a number that is there, from the least to the greatest
pub record Lies (o : Option ℕ) (low high : ℕ) : Type 0 where
  pub x : ℕ
  pub is : o ≡ Some x
  pub least : low ≤ x
  pub most : x ≤ high

-- what has this value lies between these numbers
abbrev pub IsRead : Facts → Val → ℕ → ℕ → Type 0
IsRead n v low high = (s : State) (d : Describes n s) (o : Option ℕ) → Reads (meaning s d.base d.address) v o → Lies o low high

-- an id's base is at most this far from the packet's start
abbrev pub IsFarthest : Facts → ℕ → ℕ → Type 0
IsFarthest n id far = (s : State) (d : Describes n s) → d.base id ≤ far

-- the packet has at least these bytes
abbrev pub IsLeastLength : Facts → ℕ → Type 0
IsLeastLength n least = (s : State) → Describes n s → least ≤ length s.packet

-- a number with another one added to it, modulo 2 ^ 64, lies between two, where the number itself lies between these
abbrev pub IsMoved : ℕ → ℕ → ℕ → ℕ → ℕ → Type 0
IsMoved from to by low high = (o : Option ℕ) → Lies o from to → Lies (plus o (Some by)) low high

-- where this is known, register k lies between these numbers
abbrev pub IsSpan : Facts → Relation → ℕ → ℕ → ℕ → Type 0
IsSpan n e k low high = (s : State) (g : ℕ → Option ℕ) → Describes n s → Hold e (held s) g → Lies (s.reg k) low high

-- the same of an operand
abbrev pub IsOperandSpan : Facts → Relation → Operand → ℕ → ℕ → Type 0
IsOperandSpan n e src low high = (s : State) (g : ℕ → Option ℕ) → Describes n s → Hold e (held s) g → Lies (operand s src) low high

-- the same of an operand, by what is known alone
abbrev pub IsOperandRead : Facts → Operand → ℕ → ℕ → Type 0
IsOperandRead n src low high = (s : State) → Describes n s → Lies (operand s src) low high

-- a sum of a number of each lies between these numbers
abbrev pub IsAdded : ℕ → ℕ → ℕ → ℕ → ℕ → ℕ → Type 0
IsAdded from to first last low high = (o p : Option ℕ) → Lies o from to → Lies p first last → Lies (plus o p) low high

-- the bits of a number of each lie between these numbers
abbrev pub IsUnited : ℕ → ℕ → ℕ → ℕ → ℕ → ℕ → Type 0
IsUnited from to first last low high = (x y : ℕ) → from ≤ x → x ≤ to → first ≤ y → y ≤ last → (low ≤ bit_or x y) × (bit_or x y ≤ high)

-- the product of a number of each lies between these numbers, and doesn't wrap
abbrev pub IsMultiplied : ℕ → ℕ → ℕ → ℕ → ℕ → ℕ → Type 0
IsMultiplied from to first last low high = (x y : ℕ) → from ≤ x → x ≤ to → first ≤ y → y ≤ last → (low ≤ x * y) × (x * y ≤ high) × (x * y < 2 ^ 64)

-- the bits of a mask in a number lie between these numbers
abbrev pub IsMasked : ℕ → ℕ → ℕ → ℕ → ℕ → Type 0
IsMasked from to mask low high = (x : ℕ) → from ≤ x → x ≤ to → (low ≤ bit_and x mask) × (bit_and x mask ≤ high)

-- the numbers from one to another, shifted to the left by each number from one to another, lie between these numbers
abbrev pub IsShiftedLeft : ℕ → ℕ → ℕ → ℕ → ℕ → ℕ → Type 0
IsShiftedLeft from to first last low high = (x by : ℕ) → from ≤ x → x ≤ to → first ≤ by → by ≤ last → (low ≤ computed Lsh true x by) × (computed Lsh true x by ≤ high)

-- the numbers from one to another, shifted to the right with copies of their sign, lie between these numbers
abbrev pub IsShiftedRight : ℕ → ℕ → ℕ → ℕ → ℕ → Type 0
IsShiftedRight from to by low high = (x : ℕ) → from ≤ x → x ≤ to → (low ≤ computed Arsh true x by) × (computed Arsh true x by ≤ high)

-- after the instruction register k lies between these numbers
abbrev pub IsSummed : Insn → Facts → ℕ → ℕ → ℕ → Type 0
IsSummed i n k low high = (s u : State) (label : Option Op) → Describes n s → LeadsTo (exec i s) label u → Lies (u.reg k) low high

-- of the numbers from one to another, those for which a condition with c holds, or doesn't, lie between these
abbrev pub IsLeft : Condition → Bool → ℕ → ℕ → ℕ → ℕ → ℕ → Type 0
IsLeft cond is_met from to c low high = (x : ℕ) → from ≤ x → x ≤ to → relation cond (2 ^ 64) x c ≡ is_met → (low ≤ x) × (x ≤ high)

-- where a conditional jump is taken, or isn't, register k lies between these numbers
abbrev pub IsLeftOn : Insn → Bool → Facts → ℕ → ℕ → ℕ → Type 0
IsLeftOn i way n k low high = (cond : Condition) (wide : Bool) (dst : Register) (src : Operand) (off : ℤ) (s : State) → i ≡ Jump cond wide dst src off → Describes n s → Compared cond wide (s.reg (number dst)) (operand s src) way → Lies (s.reg k) low high

-- after the instruction register k lies between the numbers of one range or of another one
abbrev pub IsParted : Insn → Facts → ℕ → Range → Range → Type 0
IsParted i n k above below = (s u : State) (label : Option Op) → Describes n s → LeadsTo (exec i s) label u → Lies (u.reg k) above.low above.high ⊎ Lies (u.reg k) below.low below.high

-- a register lies between the numbers of a range, if there is one
abbrev pub AreBounded : Option Bounded → State → Type 0
AreBounded known s = IfSome known (λ r. Lies (s.reg r.register) r.range.low r.range.high)

-- what is known at slot q, m, and between which numbers a register lies there, is followed by what is known at slot r, l
pub record IsNarrowed (q : ℕ) (m : Facts) (known : Option Bounded) (r : ℕ) (l : Facts) : Type 0 where
  pub same : r ≡ q
  pub describes : (s : State) → AreBounded known s → Describes m s → Describes l s
