-- For proofs: no claim rests on this file.
-- Linear forms of what the new program holds, modulo 2 ^ 64, and what a relation says by them.
use Rattle.std.specs.Prelude.{ℕ, zero, suc, ◌+◌, ◌-◌, ◌*◌, ◌/◌, ◌%◌, ◌^◌, ◌≡◌, ◌<◌, ◌≤◌, length, Option, None, Some, if◌then◌else◌, nat_lt, slice_index_or}
use Rattle.bpf_note.specs.State.{State, packet_start}
use Rattle.bpf_note.specs.Bytes.{word_at}
use Rattle.bpf_same.specs.declared.linear_form.LinearForm.{LinearForm}
use Rattle.bpf_same.specs.declared.relation.Relation.{Relation}
use Rattle.bpf_same.specs.declared.room.Room.{Room}
use Rattle.bpf_same.specs.declared.range.Range.{Range}

-- what a term of the new program holds: a register, or from 11 on eight bytes of the stack, from its top downwards; and past all
-- terms of a form the packet's end
abbrev pub held : State → ℕ → Option ℕ
held s n = if nat_lt n 11 then s.reg n else if nat_lt n 64 then word_at s.stack (592 - 8 * n) 8 else Some (packet_start + length s.packet)

-- a sum of two numbers, where both are there
abbrev pub plus : Option ℕ → Option ℕ → Option ℕ
plus None b = None
plus (Some a) None = None
plus (Some a) (Some b) = Some ((a + b) % 2 ^ 64)

-- bit n of a number, 1 or 0
abbrev pub bit : ℕ → ℕ → ℕ
bit mask n = mask / 2 ^ n % 2

abbrev pub with_bit : ℕ → Option ℕ → Option ℕ → Option ℕ
with_bit zero o x = o
with_bit (suc b) o x = plus o x

-- the sum of what the first n terms of a mask hold
abbrev pub gathered : (ℕ → Option ℕ) → ℕ → ℕ → Option ℕ
gathered f mask zero = Some 0
gathered f mask (suc n) = with_bit (bit mask n) (gathered f mask n) (f n)

-- what a linear form comes to, the terms holding these numbers
abbrev pub total : (ℕ → Option ℕ) → LinearForm → Option ℕ
total f s = plus (Some s.constant) (gathered f s.terms 64)

-- a number that may be there has 64 bits
abbrev pub IsWord : Option ℕ → Type 0
IsWord o = (x : ℕ) → o ≡ Some x → x < 2 ^ 64

abbrev pub old_of : Relation → ℕ → Option LinearForm
old_of e k = slice_index_or e.old k None

abbrev pub new_of : Relation → ℕ → Option LinearForm
new_of e n = slice_index_or e.new n None

abbrev pub room_of : Relation → ℕ → Option Room
room_of e r = slice_index_or e.rooms r None

abbrev pub bound_of : Relation → ℕ → Option Range
bound_of e k = slice_index_or e.bounds k None

abbrev pub shifted_of : Relation → ℕ → Option LinearForm
shifted_of e k = slice_index_or e.shifted k None

-- the linear forms of a room's ends
abbrev pub first_form : Room → LinearForm
first_form r = record { constant = r.first; terms = r.terms }

abbrev pub last_form : Room → LinearForm
last_form r = record { constant = r.last; terms = r.terms }

-- a number that is there, an address from the packet's start to its end
pub record IsAddress (f : ℕ → Option ℕ) (o : Option ℕ) : Type 0 where
  pub x : ℕ
  pub stop : ℕ
  pub is : o ≡ Some x
  pub packet_end : f 64 ≡ Some stop
  pub from : packet_start ≤ x
  pub to : x ≤ stop

-- both ends of a room are such addresses
pub record IsRoom (f : ℕ → Option ℕ) (r : Room) : Type 0 where
  pub first : IsAddress f (total f (first_form r))
  pub last : IsAddress f (total f (last_form r))

-- register k holds a number of a range
pub record IsBounded (f : ℕ → Option ℕ) (k : ℕ) (r : Range) : Type 0 where
  pub x : ℕ
  pub is : f k ≡ Some x
  pub least : r.low ≤ x
  pub most : x ≤ r.high

-- register k holds a linear form, which is below 2 ^ 31, shifted to its upper half
pub record IsShifted (f : ℕ → Option ℕ) (k : ℕ) (s : LinearForm) : Type 0 where
  pub x : ℕ
  pub is : total f s ≡ Some x
  pub small : x < 2 ^ 31
  pub shifted : f k ≡ Some (x * 2 ^ 32)

-- the relation holds of what the terms of the new program and the registers of the old one hold
pub record Hold (e : Relation) (f g : ℕ → Option ℕ) : Type 0 where
  pub olds : (k : ℕ) (s : LinearForm) → k < 11 → old_of e k ≡ Some s → g k ≡ total f s
  pub news : (n : ℕ) (s : LinearForm) → n < 64 → new_of e n ≡ Some s → f n ≡ total f s
  pub rooms : (r : ℕ) (room : Room) → r < 8 → room_of e r ≡ Some room → IsRoom f room
  pub bounds : (k : ℕ) (r : Range) → k < 11 → bound_of e k ≡ Some r → IsBounded f k r
  pub shifted : (k : ℕ) (s : LinearForm) → k < 11 → shifted_of e k ≡ Some s → IsShifted f k s
  pub words : (n : ℕ) → IsWord (f n)
