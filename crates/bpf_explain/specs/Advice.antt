-- Stated: claims rest on this file.
-- What to write instead of what a cause refuses.
use Rattle.std.specs.Prelude.{ℕ, Bool, true, false, List, ◌++◌, codes, Option, None, Some, slice_get}
use Rattle.bpf_insn.specs.declared.insn.Insn.{Insn}
use Rattle.bpf_insn.specs.declared.insn.Insn.TheVariants.{St, Stx, AddCounter}
use Rattle.bpf_insn.specs.declared.refusal.Cause.{Cause}
use Rattle.bpf_insn.specs.declared.refusal.Cause.TheVariants.{Memory, Length, Opcode, Register, Target, BackJump, End, Unset}
use Rattle.bpf_insn.specs.declared.refusal.Cause.TheVariants.{FramePointer, NoPointer, Packet, Stack, Context, MayBeNull, MapAccess}
use Rattle.bpf_insn.specs.declared.refusal.Cause.TheVariants.{Helper, MapNumber, Argument, Unsupported}
use Rattle.bpf_note.specs.Facts.{Facts}
use Rattle.bpf_note.specs.Shape.{Shape}
use Rattle.bpf_note.specs.declared.key.MapKey.{MapKey}
use Rattle.bpf_note.specs.declared.key.MapKey.TheVariants.{Index, Listed, Constants}
use Rattle.bpf_note.specs.declared.val.Val.{Val}
use Rattle.bpf_note.specs.declared.val.Val.TheVariants as val
use Rattle.bpf_explain.specs.Accesses.{address_of}
use Rattle.bpf_explain.specs.Stack.{place_of}

-- by the cause alone
abbrev pub cause_advice : Cause → List ℕ
cause_advice Memory = codes "the same program, with more memory: memory ran out"
cause_advice Length = codes "1 to 4096 slots of eight bytes"
cause_advice Opcode = codes "an instruction's opcode, with each field as its form wants it"
cause_advice Register = codes "a register from r0 to r10"
cause_advice Target = codes "a jump to a slot of the program that is no second half of a wide load"
cause_advice BackJump = codes "the loop's body as often as it may run, each time left by a forward jump"
cause_advice End = codes "exit at the end of each way through the program"
cause_advice Unset = codes "set the register on each way that leads here; a call leaves r1 to r5 unset"
cause_advice FramePointer = codes "copy r10 to another register, and change the copy"
cause_advice NoPointer = codes "only add to an address and subtract from it, in 64 bits: constants, or to a packet's address a number "
    ++ codes "of at most 65535; where more than eight ways meet, keep the offset as a number and add it to data anew"
cause_advice Packet = codes "compare the address past the last byte with data_end on each way that leads here, after the last addition"
cause_advice Stack = codes "store these bytes first, within the 512 bytes below r10"
cause_advice Context = codes "load four bytes of a field: at 0, 4, 8, 12 or 16"
cause_advice MayBeNull = codes "compare the lookup's result with 0 first; the check frees the copies of that lookup alone"
cause_advice MapAccess = codes "load or atomically add eight bytes at 8*j of a value, j below its number of counters"
cause_advice Helper = codes "call 1, the map lookup: it is the one helper"
cause_advice MapNumber = codes "the number of a map of the settings, or a relocation"
cause_advice Argument = codes "a wide load of a map in r1, and in r2 the address of a stored key"
cause_advice Unsupported = codes "other instructions: this profile leaves this one out"

-- V9: an access through the packet's end, or through a number
abbrev pub pointer_advice : Val → List ℕ
pointer_advice val.PktEnd = codes "access the packet through data: data_end serves comparisons alone"
pointer_advice v = cause_advice NoPointer

-- V9, if the register was an address of this kind before
abbrev pub lost_advice : Val → List ℕ
lost_advice (val.Pkt id off) = codes "narrow the number that is added to at most 65535, in 64 bits, and compare the sum with data_end"
lost_advice (val.Value m) = codes "make the number the key, or choose among constant places by if"
lost_advice (val.Stack off) = codes "choose among constant places by if"
lost_advice v = codes "keep a copy of the address"

-- V9, if more ways meet than notes keep apart
unfoldable pub joined_advice : List ℕ
joined_advice = codes "keep the offset as a number and add it to data anew"

-- V14, at a store to a value
abbrev pub store_advice : List ℕ
store_advice = codes "add to the counter in one step, as __sync_fetch_and_add: a store loses what another queue counts"

-- V14, at a load of a value: where a load may take a part of a counter, and elsewhere
abbrev pub load_by : Bool → List ℕ
load_by true = codes "load 1, 2, 4 or 8 bytes that lie within one counter of the value"
load_by false = codes "load eight bytes, unsigned, at 8*j of the value, j below its number of counters"

abbrev pub counter_advice : Option Shape → List ℕ
counter_advice None = load_by false
counter_advice (Some shape) = load_by shape.parts

-- V14: through a map's reference; an add elsewhere than to a counter; a store to a value; or a load
abbrev pub map_advice : List Shape → Insn → Val → List ℕ
map_advice shapes i (val.Map m) = codes "look a key up first: the reference to a map is no address"
map_advice shapes (AddCounter fetch dst src off) (val.Value m) = codes "add at 8*j of the value, j below its number of counters"
map_advice shapes (AddCounter fetch dst src off) v = codes "add atomically to a map's counter alone; elsewhere load, add and store"
map_advice shapes (St size dst off imm) v = store_advice
map_advice shapes (Stx size dst src off) v = store_advice
map_advice shapes i (val.Value m) = counter_advice (slice_get shapes m)
map_advice shapes i v = load_by false

-- V17, if the key isn't there: an array's, and a list's
abbrev pub advice_by : MapKey → List ℕ
advice_by Index = codes "set all four bytes of the key that r2 points to, within the stack: an unsigned int"
advice_by (Listed kind) = codes "set all bytes of the key that r2 points to, within the stack: as many as each key of the map's list has"
advice_by (Constants bytes) = codes "read constants at their address: a map of constants has no keys"

abbrev pub key_advice : Option Shape → List ℕ
key_advice None = advice_by Index
key_advice (Some shape) = advice_by shape.key

-- V17: r1 is no map; or r2 is no address of the stack; or the key isn't there
abbrev pub argument_advice : List Shape → Val → Val → List ℕ
argument_advice shapes (val.Map m) (val.Stack off) = key_advice (slice_get shapes m)
argument_advice shapes (val.Map m) v = codes "the key on the stack, and its address in r2"
argument_advice shapes v w = codes "a wide load of a map in r1"

-- V11 of a load: it lies outside the stack, or its bytes aren't set
abbrev pub load_advice : Option ℕ → List ℕ
load_advice None = codes "load within the 512 bytes below r10: from r10-512 to r10-1"
load_advice (Some place) = cause_advice Stack

-- V11: a store lies outside the stack; a load may also be of bytes that aren't set
abbrev pub stack_advice : Insn → Facts → List ℕ
stack_advice (St size dst off imm) n = codes "store within the 512 bytes below r10: from r10-512 to r10-1"
stack_advice (Stx size dst src off) n = codes "store within the 512 bytes below r10: from r10-512 to r10-1"
stack_advice i n = load_advice (place_of n i)

-- V12: a store to the context, or a load
abbrev pub context_advice : Insn → List ℕ
context_advice (St size dst off imm) = codes "store to the packet or the stack: the context is only read"
context_advice (Stx size dst src off) = codes "store to the packet or the stack: the context is only read"
context_advice i = cause_advice Context

-- by the cause, for V11 and V12 by the instruction too, and for V9, V11, V14 and V17 by the values that the instruction finds
abbrev pub value_advice : List Shape → Cause → Insn → Facts → List ℕ
value_advice shapes NoPointer i n = pointer_advice (address_of n i)
value_advice shapes Stack i n = stack_advice i n
value_advice shapes Context i n = context_advice i
value_advice shapes MapAccess i n = map_advice shapes i (address_of n i)
value_advice shapes Argument i n = argument_advice shapes (n.reg 1) (n.reg 2)
value_advice shapes c i n = cause_advice c

-- the advice for a cause, and for the instruction and what is known there if both are at hand
abbrev pub advice_text : List Shape → Cause → Option Insn → Option Facts → List ℕ
advice_text shapes c (Some i) (Some n) = value_advice shapes c i n
advice_text shapes c i n = cause_advice c
