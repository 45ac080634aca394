-- Stated: claims rest on this file.
-- When what is known is true of a state.
use Rattle.std.specs.Prelude.{ℕ, ◌+◌, ◌*◌, ◌≡◌, ◌<◌, ◌≤◌, ◌⊎◌, ◌≤ℤ◌, ◌+ℤ◌, pos, negsuc, List, length, Option, None, Some, IsSome}
use Rattle.std.specs.Prelude.{true, slice_get}
use Rattle.bpf_note.specs.declared.val.Val.{Val}
use Rattle.bpf_note.specs.declared.val.Val.TheVariants.{Unset, Num, Pkt, PktEnd, Stack, Ctx, Map, MaybeValue, Value}
use Rattle.bpf_note.specs.Shape.{Shape}
use Rattle.bpf_note.specs.State.{State, IsState, packet_start, stack_end, context_start, references_start, start_register}
use Rattle.bpf_note.specs.Bytes.{word_at}
use Rattle.bpf_note.specs.Regions.{counter_address}
use Rattle.bpf_note.specs.Facts.{Facts, packet_id}

-- what values speak of: the packet's length, the maps, the base of each id in the packet, and the address or 0 of each id
pub record Meaning : Type 0 where
  pub len : ℕ
  pub shapes : List Shape
  pub base : ℕ → ℕ
  pub address : ℕ → ℕ

abbrev pub meaning : State → (ℕ → ℕ) → (ℕ → ℕ) → Meaning
meaning s base address = record { len = length s.packet; shapes = s.shapes; base = base; address = address }

-- x is the address of a value of map m, which has this shape
abbrev pub IsValueOf : Option Shape → ℕ → ℕ → Type 0
IsValueOf None m x = ⊥
IsValueOf (Some s) m x = (k : ℕ) × (k < s.entries) × (x ≡ counter_address s m k 0)

-- x is a reading of the value
abbrev pub IsReading : Meaning → Val → ℕ → Type 0
IsReading w Unset x = Unit {0}
IsReading w (Num lo hi) x = (lo ≤ x) × (x ≤ hi)
IsReading w (Pkt id off) x = (x ≡ packet_start + w.base id + off) × (off ≤ 65535)
IsReading w PktEnd x = x ≡ packet_start + w.len
IsReading w (Stack off) x = (pos x ≡ pos stack_end +ℤ off) × (negsuc 511 ≤ℤ off) × (off ≤ℤ pos 0)
IsReading w Ctx x = x ≡ context_start
IsReading w (Map m) x = (x ≡ references_start + m) × (m < length w.shapes)
IsReading w (MaybeValue m id) x = (x ≡ w.address id) × ((x ≡ 0) ⊎ IsValueOf (slice_get w.shapes m) m x)
IsReading w (Value m) x = IsValueOf (slice_get w.shapes m) m x

-- x, if there is one, is a reading of a value; if there is none, the value says nothing
abbrev pub Reads : Meaning → Val → Option ℕ → Type 0
Reads w v None = v ≡ Unset
Reads w v (Some x) = IsReading w v x

-- slot j of the stack holds a reading of the value that it keeps
abbrev pub Holds : Meaning → Option Val → (ℕ → Option ℕ) → ℕ → Type 0
Holds w None stack j = Unit {0}
Holds w (Some v) stack j = (x : ℕ) × (word_at stack (8 * j) 8 ≡ Some x) × IsReading w v x

-- what is known is true of the state, for some bases and addresses of the ids
pub record Describes (n : Facts) (s : State) : Type 0 where
  pub state : IsState s
  pub base : ℕ → ℕ
  pub address : ℕ → ℕ
  pub regs : (k : ℕ) → Reads (meaning s base address) (n.reg k) (s.reg k)
  pub kept : (j : ℕ) → Holds (meaning s base address) (n.kept j) s.stack j
  pub set : (i : ℕ) → n.set i ≡ true → IsSome (s.stack i)
  pub start : base packet_id ≡ 0
  pub tops : (id : ℕ) → base id ≤ n.top id
  pub low : (id : ℕ) → base id ≤ 0xFFFFF
  pub safes : (id b : ℕ) → n.safe id ≡ Some b → base id + b ≤ length s.packet

-- a state in which at least what the start sets is set
pub record IsBegun (s : State) : Type 0 where
  pub state : IsState s
  pub reg : (k x : ℕ) → start_register k ≡ Some x → s.reg k ≡ Some x
