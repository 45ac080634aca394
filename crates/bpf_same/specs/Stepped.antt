-- For proofs: no claim rests on this file.
-- What a step makes of what the new program's terms and the old one's registers hold.
use Rattle.std.specs.Prelude.{ℕ, ℤ, pos, negsuc, ◌+◌, ◌-◌, ◌*◌, ◌^◌, ◌≡◌, ◌<◌, ◌≤◌, ◌⊎◌, length, Option, None, Some, Bool, true, false, ◌&&◌, if◌then◌else◌, ◌==◌, nat_le}
use Rattle.bpf_insn.specs.Register.{number}
use Rattle.bpf_insn.specs.Size.{size_bytes}
use Rattle.bpf_insn.specs.Signed.{sign_extended}
use Rattle.bpf_insn.specs.Arithmetic.{computed}
use Rattle.bpf_insn.specs.Conditions.{relation}
use Rattle.bpf_insn.specs.declared.alu_op.AluOp.{AluOp}
use Rattle.bpf_insn.specs.declared.alu_op.AluOp.TheVariants.{Lsh}
use Rattle.bpf_insn.specs.declared.condition.Condition.{Condition}
use Rattle.bpf_insn.specs.declared.register.Register.{Register}
use Rattle.bpf_insn.specs.declared.register.Register.TheVariants.{R10}
use Rattle.bpf_insn.specs.declared.operand.Operand.{Operand}
use Rattle.bpf_insn.specs.declared.operand.Operand.TheVariants as operands
use Rattle.bpf_insn.specs.declared.size.Size.TheVariants.{Double}
use Rattle.bpf_insn.specs.declared.insn.Insn.{Insn}
use Rattle.bpf_insn.specs.declared.insn.Insn.TheVariants.{Alu, Neg, End, MovSx, Const, MapRef, Ldx, St, Stx, AddCounter, Ja, Jump, Call, Exit, Second}
use Rattle.bpf_note.specs.declared.val.Val.{Val}
use Rattle.bpf_note.specs.declared.val.Val.TheVariants.{Num, Pkt, PktEnd, Value}
use Rattle.bpf_note.specs.State.{State, packet_start, stack_end, values_start}
use Rattle.bpf_note.specs.Regions.{InStack, region}
use Rattle.bpf_note.specs.Facts.{Facts, packet_id}
use Rattle.bpf_note.specs.Describes.{Describes}
use Rattle.bpf_flow.specs.Step.{address, first_operand, reached}
use Rattle.bpf_same.specs.declared.linear_form.LinearForm.{LinearForm}
use Rattle.bpf_same.specs.declared.relation.Relation.{Relation}
use Rattle.bpf_same.specs.declared.room.Room.{Room}
use Rattle.bpf_same.specs.declared.range.Range.{Range}
use Rattle.bpf_same.specs.LinearForms.{plus, gathered, total, IsWord, IsAddress, IsRoom, IsBounded, IsShifted, Hold}
use Rattle.bpf_same.specs.Ranges.{IsLeastLength, IsRead, Lies}
use Rattle.bpf_same.specs.Decided.{Compared}

-- the instruction writes or loses register k
abbrev pub alters : Insn → ℕ → Bool
alters (Alu op wide dst src) k = k == number dst
alters (Neg wide dst) k = k == number dst
alters (End kind width dst) k = k == number dst
alters (MovSx wide bits dst src) k = k == number dst
alters (Const dst value) k = k == number dst
alters (MapRef dst m) k = k == number dst
alters (Ldx size signed dst src off) k = k == number dst
alters (AddCounter fetch dst src off) k = fetch && k == number src
alters (Call helper) k = nat_le k 5
alters i k = false

abbrev pub is_register_store : Insn → Bool
is_register_store (Stx size dst src off) = true
is_register_store i = false

-- term n is a word of the stack that lies below low
pub record IsOwn (low n : ℕ) : Type 0 where
  pub first : 11 ≤ n
  pub last : n < 64
  pub below : 600 ≤ low + 8 * n

-- at this offset from a register lies word n, below low
pub record IsWordAt (base : Register) (off : ℤ) (low n : ℕ) : Type 0 where
  pub frame : base ≡ R10
  pub within : IsOwn low n
  pub at : off ≡ negsuc (8 * n - 81)

abbrev pub operand_in : (ℕ → Option ℕ) → Operand → Option ℕ
operand_in f (operands.Register r) = f (number r)
operand_in f (operands.Immediate i) = Some (sign_extended i)

-- o is what an operation makes of two numbers
pub record Computes (op : AluOp) (wide : Bool) (a b o : Option ℕ) : Type 0 where
  pub x : ℕ
  pub y : ℕ
  pub first : first_operand op a ≡ Some x
  pub second : b ≡ Some y
  pub is : o ≡ Some (computed op wide x y)

-- what an operation makes of a number of each lies between these numbers
abbrev pub IsCombined : AluOp → ℕ → ℕ → ℕ → ℕ → ℕ → ℕ → Type 0
IsCombined op from to first last low high = (a b o : Option ℕ) → Computes op true a b o → Lies a from to → Lies b first last → Lies o low high

-- the number that a value is, if it is one
abbrev pub number_in : Val → Option ℕ
number_in (Num lo hi) = if lo == hi then Some lo else None
number_in (Pkt id off) = if id == packet_id then Some (packet_start + off) else None
number_in v = None

-- register k holds an address of which this many bytes in front, and this many from there on, lie in the packet
pub record IsWithin (f : ℕ → Option ℕ) (k off safe : ℕ) : Type 0 where
  pub x : ℕ
  pub stop : ℕ
  pub is : f k ≡ Some x
  pub packet_end : f 64 ≡ Some stop
  pub from : packet_start + off ≤ x
  pub to : x + safe ≤ stop + off

-- the packet has at least these bytes
pub record IsLong (f : ℕ → Option ℕ) (least : ℕ) : Type 0 where
  pub stop : ℕ
  pub packet_end : f 64 ≡ Some stop
  pub reach : packet_start + least ≤ stop

-- a conditional jump is taken where terms hold these numbers
abbrev pub IsTaken : Insn → (ℕ → Option ℕ) → Type 0
IsTaken i f = (cond : Condition) (wide : Bool) (dst : Register) (src : Operand) (off : ℤ) → i ≡ Jump cond wide dst src off → Compared cond wide (f (number dst)) (operand_in f src) true

-- what term k holds is at most what term j does, even with as much added
pub record IsAtMost (f : ℕ → Option ℕ) (k j by : ℕ) : Type 0 where
  pub x : ℕ
  pub y : ℕ
  pub lesser : f k ≡ Some x
  pub greater : f j ≡ Some y
  pub least : x + by ≤ y

-- the same where a condition holds between what terms dst and src hold; and where an instruction is a jump that is taken
abbrev pub IsOrder : Condition → ℕ → ℕ → ℕ → ℕ → ℕ → Type 0
IsOrder cond dst src k j by = (f : ℕ → Option ℕ) (x y : ℕ) → f dst ≡ Some x → f src ≡ Some y → relation cond (2 ^ 64) x y ≡ true → IsAtMost f k j by

abbrev pub IsOrderOf : Insn → ℕ → ℕ → ℕ → Type 0
IsOrderOf i k j by = (f : ℕ → Option ℕ) → ((n : ℕ) → IsWord (f n)) → IsTaken i f → IsAtMost f k j by

-- what term k holds is at most the packet's end
pub record IsBelow (f f' : ℕ → Option ℕ) (k : ℕ) : Type 0 where
  pub y : ℕ
  pub stop : ℕ
  pub is : f k ≡ Some y
  pub packet_end : f' 64 ≡ Some stop
  pub below : y ≤ stop

-- what term k holds is at least so far from the packet's start
pub record IsFar (f : ℕ → Option ℕ) (k distance : ℕ) : Type 0 where
  pub x : ℕ
  pub is : f k ≡ Some x
  pub from : packet_start + distance ≤ x

-- both, of what term k holds with as much added
pub record IsInside (f f' : ℕ → Option ℕ) (k distance by : ℕ) : Type 0 where
  pub x : ℕ
  pub stop : ℕ
  pub is : f k ≡ Some x
  pub packet_end : f' 64 ≡ Some stop
  pub from : packet_start + distance ≤ x
  pub to : x + by ≤ stop

-- a step, which the old program takes too or not: what terms and the old program's registers hold before and after it
pub record Stepped (i : Insn) (stutters : Bool) (low : ℕ) (m : Facts) (f g f' g' : ℕ → Option ℕ) : Type 0 where
  pub fits : (n : ℕ) → IsWord (f' n)
  pub kept : (k : ℕ) → k < 11 → alters i k ≡ false → f' k ≡ f k
  pub words : (n : ℕ) → IsOwn low n → (stutters ≡ true → is_register_store i ≡ true → ⊥) → f' n ≡ f n
  pub beside : (dst src : Register) (off : ℤ) (w n : ℕ) → stutters ≡ true → i ≡ Stx Double dst src off → IsWordAt dst off low w → IsOwn low n → (n ≡ w → ⊥) → f' n ≡ f n
  pub stored : (dst src : Register) (off : ℤ) (w : ℕ) → stutters ≡ true → i ≡ Stx Double dst src off → IsWordAt dst off low w → f' w ≡ f (number src)
  pub loaded : (dst src : Register) (off : ℤ) (w : ℕ) → stutters ≡ true → i ≡ Ldx Double false dst src off → IsWordAt src off low w → f' (number dst) ≡ f w
  pub made : (op : AluOp) (wide : Bool) (dst : Register) (src : Operand) → i ≡ Alu op wide dst src → Computes op wide (f (number dst)) (operand_in f src) (f' (number dst))
  pub noted : (k x : ℕ) → number_in (m.reg k) ≡ Some x → k < 11 → f' k ≡ Some x
  pub packet : f' 64 ≡ f 64
  pub addresses : (k id off safe : ℕ) → m.reg k ≡ Pkt id off → m.safe id ≡ Some safe → k < 11 → IsWithin f' k off safe
  pub long : (least : ℕ) → IsLeastLength m least → IsLong f' least
  pub ends : (k : ℕ) → m.reg k ≡ PktEnd → k < 11 → f' k ≡ f' 64
  pub values : (k j a b x : ℕ) → m.reg k ≡ Value a → m.reg j ≡ Value b → (a ≡ b → ⊥) → k < 11 → j < 11 → f' k ≡ Some x → f' j ≡ Some x → ⊥
  pub ranged : (k low high : ℕ) → IsRead m (m.reg k) low high → k < 11 → Lies (f' k) low high
  pub met : IsTaken i f
  pub stays : (k : ℕ) → stutters ≡ true → g' k ≡ g k
  pub old_kept : (k : ℕ) → alters i k ≡ false → g' k ≡ g k
  pub old_made : (op : AluOp) (wide : Bool) (dst : Register) (src : Operand) → stutters ≡ false → i ≡ Alu op wide dst src → Computes op wide (g (number dst)) (operand_in g src) (g' (number dst))
  pub alike : (k : ℕ) → k < 11 → stutters ≡ false → alters i k ≡ true → g' k ≡ f' k

-- after the step a term holds this linear form of what was held before it; the same of a register of the old program
abbrev pub IsNewAfter : Insn → Bool → ℕ → Facts → Relation → ℕ → LinearForm → Type 0
IsNewAfter i stutters low m e n s = (f g f' g' : ℕ → Option ℕ) → Stepped i stutters low m f g f' g' → Hold e f g → f' n ≡ total f s

abbrev pub IsOldAfter : Insn → Bool → ℕ → Facts → Relation → ℕ → LinearForm → Type 0
IsOldAfter i stutters low m e k s = (f g f' g' : ℕ → Option ℕ) → Stepped i stutters low m f g f' g' → Hold e f g → g' k ≡ total f s

-- a linear form of what is held after it is this one of what is held before it
abbrev pub IsPulledBack : Insn → Bool → ℕ → Facts → Relation → LinearForm → LinearForm → Type 0
IsPulledBack i stutters low m e there here = (f g f' g' : ℕ → Option ℕ) → Stepped i stutters low m f g f' g' → Hold e f g → total f' there ≡ total f here

-- the first n terms of a linear form come to this before the step, and with the next one to that
abbrev pub IsPart : Insn → Bool → ℕ → Facts → Relation → LinearForm → ℕ → LinearForm → Type 0
IsPart i stutters low m e there n all = (f g f' g' : ℕ → Option ℕ) → Stepped i stutters low m f g f' g' → Hold e f g → plus (Some there.constant) (gathered f' there.terms n) ≡ total f all

abbrev pub IsWithTerm : Insn → Bool → ℕ → Facts → Relation → LinearForm → ℕ → LinearForm → LinearForm → Type 0
IsWithTerm i stutters low m e there n all more = IsPart i stutters low m e there n all → IsPart i stutters low m e there (n + 1) more

-- both programs have written the same into register k, which the linear form says
abbrev pub IsOldAlike : Insn → Bool → ℕ → Facts → ℕ → LinearForm → Type 0
IsOldAlike i stutters low m k s = (f g f' g' : ℕ → Option ℕ) → Stepped i stutters low m f g f' g' → g' k ≡ total f' s

-- after the step register k of the old program holds this linear form of what is held then; the same of a term
abbrev pub PreservesOld : Insn → Bool → ℕ → Facts → Relation → ℕ → LinearForm → Type 0
PreservesOld i stutters low m e k s = (f g f' g' : ℕ → Option ℕ) → Stepped i stutters low m f g f' g' → Hold e f g → g' k ≡ total f' s

abbrev pub PreservesNew : Insn → Bool → ℕ → Facts → Relation → ℕ → LinearForm → Type 0
PreservesNew i stutters low m e n s = (f g f' g' : ℕ → Option ℕ) → Stepped i stutters low m f g f' g' → Hold e f g → f' n ≡ total f' s

-- what is known before the step of what term k holds, the packet's end being that after it
abbrev pub IsBelowEnd : Insn → Bool → ℕ → Facts → Relation → ℕ → Type 0
IsBelowEnd i stutters low m e k = (f g f' g' : ℕ → Option ℕ) → Stepped i stutters low m f g f' g' → Hold e f g → IsBelow f f' k

abbrev pub IsDistance : Insn → Bool → ℕ → Facts → Relation → ℕ → ℕ → Type 0
IsDistance i stutters low m e k distance = (f g f' g' : ℕ → Option ℕ) → Stepped i stutters low m f g f' g' → Hold e f g → IsFar f k distance

abbrev pub IsComparedAddress : Insn → Bool → ℕ → Facts → Relation → ℕ → ℕ → ℕ → Type 0
IsComparedAddress i stutters low m e k distance by = (f g f' g' : ℕ → Option ℕ) → Stepped i stutters low m f g f' g' → Hold e f g → IsInside f f' k distance by

-- a linear form of what is held before the step is, after it, an address from the packet's start to its end; the same of one of what is
-- held after it
abbrev pub IsAddressAfter : Insn → Bool → ℕ → Facts → Relation → LinearForm → Type 0
IsAddressAfter i stutters low m e s = (f g f' g' : ℕ → Option ℕ) → Stepped i stutters low m f g f' g' → Hold e f g → IsAddress f' (total f s)

abbrev pub PreservesAddress : Insn → Bool → ℕ → Facts → Relation → LinearForm → Type 0
PreservesAddress i stutters low m e s = (f g f' g' : ℕ → Option ℕ) → Stepped i stutters low m f g f' g' → Hold e f g → IsAddress f' (total f' s)

-- after the step the room is one
abbrev pub PreservesRoom : Insn → Bool → ℕ → Facts → Relation → Room → Type 0
PreservesRoom i stutters low m e room = (f g f' g' : ℕ → Option ℕ) → Stepped i stutters low m f g f' g' → Hold e f g → IsRoom f' room

-- a linear form of what is held before the step lies between these numbers
abbrev pub LiesBefore : Insn → Bool → ℕ → Facts → Relation → LinearForm → ℕ → ℕ → Type 0
LiesBefore i stutters low m e s from to = (f g f' g' : ℕ → Option ℕ) → Stepped i stutters low m f g f' g' → Hold e f g → Lies (total f s) from to

-- after the step register k holds a number of this range
abbrev pub PreservesBound : Insn → Bool → ℕ → Facts → Relation → ℕ → Range → Type 0
PreservesBound i stutters low m e k r = (f g f' g' : ℕ → Option ℕ) → Stepped i stutters low m f g f' g' → Hold e f g → IsBounded f' k r

-- an instruction shifts register k to its upper half
pub record IsShift (i : Insn) (k : ℕ) : Type 0 where
  pub dst : Register
  pub is : i ≡ Alu Lsh true dst (operands.Immediate (pos 32))
  pub register : k ≡ number dst

-- register k holds before the step what a linear form does after it, and that is below 2 ^ 31
pub record IsSmall (f f' : ℕ → Option ℕ) (k : ℕ) (s : LinearForm) : Type 0 where
  pub x : ℕ
  pub before : f k ≡ Some x
  pub after : total f' s ≡ Some x
  pub small : x < 2 ^ 31

abbrev pub IsSmallAfter : Insn → Bool → ℕ → Facts → Relation → ℕ → LinearForm → Type 0
IsSmallAfter i stutters low m e k s = (f g f' g' : ℕ → Option ℕ) → Stepped i stutters low m f g f' g' → Hold e f g → IsSmall f f' k s

-- after the step register k holds this linear form of what is held then, shifted
abbrev pub PreservesShifted : Insn → Bool → ℕ → Facts → Relation → ℕ → LinearForm → Type 0
PreservesShifted i stutters low m e k s = (f g f' g' : ℕ → Option ℕ) → Stepped i stutters low m f g f' g' → Hold e f g → IsShifted f' k s

-- a shift to the right by half a register brings back what is below 2 ^ 31
pub record BringsBack (op : AluOp) : Type 0 where
  pub reads : (o : Option ℕ) → first_operand op o ≡ o
  pub value : (x : ℕ) → x < 2 ^ 31 → computed op true (x * 2 ^ 32) 32 ≡ x

-- a word of the new program's own is accessed
pub record IsOwnAccess (base : Register) (off : ℤ) (low : ℕ) (n : Facts) : Type 0 where
  pub word : ℕ
  pub at : IsWordAt base off low word
  pub frame : (s : State) → Describes n s → s.reg 10 ≡ Some stack_end

-- where this is known, an access lies below the maps' values
abbrev pub IsBelowValues : Register → ℤ → Facts → Type 0
IsBelowValues base off n = (a : ℕ) (s : State) → Describes n s → s.reg (number base) ≡ Some a → address a off < values_start

-- the instruction writes a register, or a word of the new program's own, and does nothing else
abbrev pub IsOwnStep : Insn → ℕ → Facts → Type 0
IsOwnStep (Alu op wide dst src) low n = Unit {0}
IsOwnStep (Neg wide dst) low n = Unit {0}
IsOwnStep (End kind width dst) low n = Unit {0}
IsOwnStep (MovSx wide bits dst src) low n = Unit {0}
IsOwnStep (Const dst value) low n = Unit {0}
IsOwnStep (MapRef dst m) low n = Unit {0}
IsOwnStep (Ldx size signed dst src off) low n = ((size_bytes size ≡ 8 → ⊥) × IsBelowValues src off n) ⊎ (size ≡ Double) × IsOwnAccess src off low n
IsOwnStep (Stx size dst src off) low n = (size ≡ Double) × IsOwnAccess dst off low n
IsOwnStep i low n = ⊥

-- both programs read the same
abbrev pub AreAlike : Insn → (ℕ → Option ℕ) → (ℕ → Option ℕ) → Type 0
AreAlike (Alu op wide dst src) f g = (operand_in g src ≡ operand_in f src) × (first_operand op (g (number dst)) ≡ first_operand op (f (number dst)))
AreAlike (Neg wide dst) f g = g (number dst) ≡ f (number dst)
AreAlike (End kind width dst) f g = g (number dst) ≡ f (number dst)
AreAlike (MovSx wide bits dst src) f g = g (number src) ≡ f (number src)
AreAlike (Const dst value) f g = Unit {0}
AreAlike (MapRef dst m) f g = Unit {0}
AreAlike (Ldx size signed dst src off) f g = g (number src) ≡ f (number src)
AreAlike (St size dst off imm) f g = g (number dst) ≡ f (number dst)
AreAlike (Stx size dst src off) f g = (g (number dst) ≡ f (number dst)) × (g (number src) ≡ f (number src))
AreAlike (AddCounter fetch dst src off) f g = (g (number dst) ≡ f (number dst)) × (g (number src) ≡ f (number src))
AreAlike (Ja wide_offset to) f g = Unit {0}
AreAlike (Jump cond wide dst src off) f g = (g (number dst) ≡ f (number dst)) × (operand_in g src ≡ operand_in f src)
AreAlike (Call helper) f g = (g 1 ≡ f 1) × (g 2 ≡ f 2)
AreAlike Exit f g = g 0 ≡ f 0
AreAlike Second f g = Unit {0}

abbrev pub ReadsAlike : Relation → Insn → Type 0
ReadsAlike e i = (f g : ℕ → Option ℕ) → Hold e f g → AreAlike i f g

-- what an access reaches of the stack doesn't lie below low
abbrev pub IsAbove : ℕ → State → Option ℕ → ℤ → ℕ → Type 0
IsAbove low s base off z = (a j : ℕ) → base ≡ Some a → reached s a off z ≡ InStack j → low ≤ j

abbrev pub AreShared : Insn → ℕ → State → Type 0
AreShared (Ldx size signed dst src off) low s = IsAbove low s (s.reg (number src)) off (size_bytes size)
AreShared (St size dst off imm) low s = IsAbove low s (s.reg (number dst)) off (size_bytes size)
AreShared (Stx size dst src off) low s = IsAbove low s (s.reg (number dst)) off (size_bytes size)
AreShared (Call helper) low s = (a j z : ℕ) → s.reg 2 ≡ Some a → region (length s.packet) s.shapes a z ≡ InStack j → low ≤ j
AreShared i low s = Unit {0}

-- where this is known, the instruction touches nothing of the stack below low
abbrev pub Shares : ℕ → Facts → Insn → Type 0
Shares low n i = (s : State) → Describes n s → AreShared i low s
