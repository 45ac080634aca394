-- Stated: claims rest on this file.
-- What an access through a value reaches, what a load makes of it and what a store changes.
use Rattle.std.specs.Prelude.{ℕ, ◌+◌, ◌-◌, ◌*◌, ◌/◌, ◌%◌, zero, suc, min, max, ℤ, pos, negsuc, ◌+ℤ◌, List, Option, None, Some, Bool}
use Rattle.std.specs.Prelude.{true, false, ◌&&◌, ◌||◌, if◌then◌else◌, ◌==◌, nat_le, nat_lt, Result, Ok, Err, slice_get}
use Rattle.bpf_insn.specs.Size.{size_bytes}
use Rattle.bpf_insn.specs.declared.size.Size.{Size}
use Rattle.bpf_insn.specs.declared.size.Size.TheVariants.{Byte, Half, Word, Double}
use Rattle.bpf_insn.specs.declared.refusal.Cause.{Cause}
use Rattle.bpf_insn.specs.declared.refusal.Cause.TheVariants as cause
use Rattle.bpf_note.specs.declared.val.Val.{Val}
use Rattle.bpf_note.specs.declared.val.Val.TheVariants as val
use Rattle.bpf_note.specs.Constants.{are_constants}
use Rattle.bpf_note.specs.Shape.{Shape}
use Rattle.bpf_note.specs.Facts.{Facts, full, packet_id, with_kept}
use Rattle.bpf_flow.specs.Edges.{Answer, and_then, goes_to}
use Rattle.bpf_flow.specs.Step.{address}
use Rattle.bpf_flow.specs.declared.access.Access.{Access}
use Rattle.bpf_flow.specs.declared.access.Access.TheVariants.{InPacket, OnStack, InContext, AtValue}

-- the place of z bytes in a region of `limit` bytes, if they lie in the region
abbrev pub place_in : ℤ → ℕ → ℕ → Option ℕ
place_in (pos p) z limit = if nat_le (p + z) limit then Some p else None
place_in (negsuc m) z limit = None

abbrev pub packet_place : Option ℕ → Result Access Cause
packet_place None = Err cause.Packet
packet_place (Some p) = Ok InPacket

-- z bytes of the packet from an id's base and an offset on: within the id's safe bound
abbrev pub in_packet : Option ℕ → ℤ → ℕ → Result Access Cause
in_packet None at z = Err cause.Packet
in_packet (Some safe) at z = packet_place (place_in at z safe)

abbrev pub on_stack : Option ℕ → Result Access Cause
on_stack None = Err cause.Stack
on_stack (Some p) = Ok (OnStack p)

-- what an access of z bytes through a value with an offset reaches
abbrev pub reach : Facts → Val → ℤ → ℕ → Result Access Cause
reach n val.Unset o z = Err cause.Unset
reach n (val.Num lo hi) o z = Err cause.NoPointer
reach n val.PktEnd o z = Err cause.NoPointer
reach n (val.Pkt id off) o z = in_packet (n.safe id) (pos off +ℤ o) z
reach n (val.Stack off) o z = on_stack (place_in (pos 512 +ℤ off +ℤ o) z 512)
reach n val.Ctx o z = Ok (InContext o)
reach n (val.MaybeValue m id) o z = Err cause.MayBeNull
reach n (val.Value m) o z = Ok (AtValue m o)
reach n (val.Map m) o z = Err cause.MapAccess

-- a field of the context: its offset
abbrev pub is_field : ℤ → Bool
is_field (pos at) = nat_le at 16 && (at % 4 == 0)
is_field (negsuc m) = false

-- a counter of a value whose shape this is
abbrev pub is_counter : Option Shape → ℤ → Bool
is_counter None o = false
is_counter (Some s) (pos at) = (at % 8 == 0) && nat_lt at (8 * s.counters)
is_counter (Some s) (negsuc m) = false

-- z bytes of the stack from p on are set
abbrev pub all_set : Facts → ℕ → ℕ → Bool
all_set n p zero = true
all_set n p (suc z) = n.set p && all_set n (p + 1) z

-- any number of that size
abbrev pub any_of_size : Size → Val
any_of_size Byte = val.Num 0 0xFF
any_of_size Half = val.Num 0 0xFFFF
any_of_size Word = val.Num 0 0xFFFFFFFF
any_of_size Double = full

abbrev pub any_loaded : Bool → Size → Val
any_loaded true size = full
any_loaded false size = any_of_size size

-- a whole slot's eight bytes
abbrev pub is_slot : ℕ → Size → Bool
is_slot p Double = p % 8 == 0
is_slot p size = false

-- a kept value, or any number
abbrev pub kept_or_full : Option Val → Val
kept_or_full None = full
kept_or_full (Some v) = v

-- a load of a whole slot gives the value that it keeps
abbrev pub stack_value : Facts → ℕ → Bool → Size → Val
stack_value n p true size = full
stack_value n p false size = if is_slot p size then kept_or_full (n.kept (p / 8)) else any_of_size size

-- the field of the context at an offset: data and data_meta, data_end, ingress_ifindex and rx_queue_index
abbrev pub field_value : ℤ → Val
field_value (pos at) =
    if at == 4 then val.PktEnd
    else if at == 12 || at == 16 then val.Num 0 0xFFFFFFFF
    else val.Pkt packet_id 0
field_value (negsuc m) = full

abbrev pub is_word : Size → Bool
is_word Word = true
is_word size = false

abbrev pub is_double : Size → Bool
is_double Double = true
is_double size = false

-- what a load gives
abbrev pub loaded_value : Facts → List Shape → Bool → Size → Access → Result Val Cause
loaded_value n shapes signed size InPacket = Ok (any_loaded signed size)
loaded_value n shapes signed size (OnStack p) =
    if all_set n p (size_bytes size) then Ok (stack_value n p signed size) else Err cause.Stack
loaded_value n shapes true size (InContext o) = Err cause.Context
loaded_value n shapes false size (InContext o) = if is_word size && is_field o then Ok (field_value o) else Err cause.Context
loaded_value n shapes true size (AtValue m o) = Err cause.MapAccess
loaded_value n shapes false size (AtValue m o) = if is_double size && is_counter (slice_get shapes m) o then Ok full
    else Err cause.MapAccess

-- fewer than the eight bytes of one counter of a value whose shape this is, if its counters may be loaded in parts
abbrev pub is_part_of : Option Shape → ℤ → ℕ → Bool
is_part_of None o z = false
is_part_of (Some s) (pos at) z = s.parts && nat_lt z 8 && nat_le (at % 8 + z) 8 && nat_lt at (8 * s.counters)
is_part_of (Some s) (negsuc m) z = false

-- the z bytes that a value and an offset name hold any number: they are constants, whichever number of its range it is, or a part of
-- a counter
abbrev pub is_data : List Shape → Val → ℤ → ℕ → Bool
is_data shapes (val.Num lo hi) o z = are_constants shapes (address lo o) (hi - lo + z)
is_data shapes (val.Value m) o z = is_part_of (slice_get shapes m) o z
is_data shapes v o z = false

-- what a load through a value gives
abbrev pub load_value : Facts → List Shape → Val → ℤ → Bool → Size → Result Val Cause
load_value n shapes v o signed size =
    if is_data shapes v o (size_bytes size) then Ok (any_loaded signed size)
    else and_then (reach n v o (size_bytes size)) (loaded_value n shapes signed size)

-- z bytes from p on and the eight of slot j have one in common
abbrev pub touches : ℕ → ℕ → ℕ → Bool
touches p z j = nat_lt (max p (8 * j)) (min (p + z) (8 * j + 8))

-- z bytes of the stack from p on are stored: they are set, and a slot that they touch no longer keeps a value
abbrev pub with_bytes : Facts → ℕ → ℕ → Facts
with_bytes n p z = record {
  reg = n.reg;
  kept = λ j. if touches p z j then None else n.kept j;
  set = λ i. (nat_le p i && nat_lt i (p + z)) || n.set i;
  top = n.top;
  safe = n.safe;
}

-- a whole slot keeps what is stored to it
abbrev pub with_store : Facts → ℕ → Size → Val → Facts
with_store n p size v = if is_slot p size then with_kept n (p / 8) v else with_bytes n p (size_bytes size)

abbrev pub stores : Facts → ℕ → Size → Val → Access → Answer
stores n pc size v InPacket = goes_to pc n
stores n pc size v (OnStack p) = goes_to pc (with_store n p size v)
stores n pc size v (InContext o) = Err cause.Context
stores n pc size v (AtValue m o) = Err cause.MapAccess

-- an add reaches a counter, or is refused
abbrev pub adds_at : List Shape → Val → ℤ → Result Unit Cause
adds_at shapes val.Unset o = Err cause.Unset
adds_at shapes (val.Num lo hi) o = Err cause.NoPointer
adds_at shapes val.PktEnd o = Err cause.NoPointer
adds_at shapes (val.MaybeValue m id) o = Err cause.MayBeNull
adds_at shapes (val.Value m) o = if is_counter (slice_get shapes m) o then Ok tt else Err cause.MapAccess
adds_at shapes v o = Err cause.MapAccess
