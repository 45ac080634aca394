-- Only an addition's step has an addition's label.
use Rattle.std.proofs.Common.{ℕ, ◌+◌, ◌≡◌, ℤ, pos, negsuc, length, Option, None, Some, Bool, true, false}
use Rattle.std.specs.Prelude.{if◌then◌else◌, ◌==◌, slice_get}
use Rattle.bpf_insn.specs.Register.{number}
use Rattle.bpf_insn.specs.Conditions.{is_met}
use Rattle.bpf_insn.specs.Size.{size_bytes}
use Rattle.bpf_insn.specs.declared.size.Size.{Size}
use Rattle.bpf_insn.specs.declared.insn.Insn.{Insn}
use Rattle.bpf_insn.specs.declared.insn.Insn.TheVariants.{Alu, Neg, End, MovSx, Const, MapRef, Ldx, St, Stx, AddCounter, Ja, Jump, Call, Exit, Second}
use Rattle.bpf_note.specs.Constants.{are_constants}
use Rattle.bpf_note.specs.Keys.{key_size}
use Rattle.bpf_note.specs.State.{State}
use Rattle.bpf_note.specs.Regions.{Place, InPacket, InStack, InContext, InCounter, Nowhere, region, load_place}
use Rattle.bpf_note.specs.declared.op.Op.{Op}
use Rattle.bpf_note.specs.declared.op.Op.TheVariants.{Add}
use Rattle.bpf_flow.specs.Step.{Next, Loads, Exited, Fault, at_slot, with_number, is_frame, operand, first_operand, address, reached, loaded, taken, written, load_from, load_constants, load_at, store_to, jumped, target, map_at, key_in, looked_up, helped, exec, LeadsTo, part}
use Rattle.bpf_flow.proofs.StepLemmas.{needed}
use Rattle.bpf_same.specs.Contents.{is_addition}
use Rattle.bpf_same.proofs.StepLemmas.{written_is}

none_some : {op : Op} → Some op ≡ None → ⊥
none_some e = cc

written_adds : (s u : State) (pc n x m k j d v : ℕ) → LeadsTo (written s pc n x) (Some (Add m k j d v)) u → ⊥
written_adds s u pc n x m k j d v h = none_some (written_is s pc n x (Some (Add m k j d v)) u h).0

load_adds : (a : ℕ) (place : Place) (s u : State) (signed : Bool) (size : Size) (n m k j d v : ℕ) → LeadsTo (load_from a place s signed size n) (Some (Add m k j d v)) u → ⊥
load_adds a (InPacket i) s u signed size n m k j d v h = needed (loaded s (InPacket i) (size_bytes size)) _ (Some (Add m k j d v)) u (λ x h. written_adds s u (s.pc + 1) n (taken signed size x) m k j d v h) h
load_adds a (InStack i) s u signed size n m k j d v h = needed (loaded s (InStack i) (size_bytes size)) _ (Some (Add m k j d v)) u (λ x h. written_adds s u (s.pc + 1) n (taken signed size x) m k j d v h) h
load_adds a (InContext i) s u signed size n m k j d v h = needed (loaded s (InContext i) (size_bytes size)) _ (Some (Add m k j d v)) u (λ x h. written_adds s u (s.pc + 1) n (taken signed size x) m k j d v h) h
load_adds a (InCounter e b c) s u signed size n m k j d v h = by (is_frame n) h
  where
    by : (t : Bool) → LeadsTo (if t then Fault else Loads e b c (λ x. with_number s (s.pc + 1) n (taken signed size (part size a x)))) (Some (Add m k j d v)) u → ⊥
    by true h = h
    by false h = h
load_adds a Nowhere s u signed size n m k j d v h = h

load_at_adds : (s u : State) (a : ℕ) (signed : Bool) (size : Size) (n m k j d v : ℕ) → LeadsTo (load_at s a signed size n) (Some (Add m k j d v)) u → ⊥
load_at_adds s u a signed size n m k j d v h = by (are_constants s.shapes a (size_bytes size)) h
  where
    by : (t : Bool) → LeadsTo (if t then load_constants s a signed size n else load_from a (load_place (length s.packet) s.shapes a (size_bytes size)) s signed size n) (Some (Add m k j d v)) u → ⊥
    by true h = written_adds s u (s.pc + 1) n _ m k j d v h
    by false h = load_adds a (load_place (length s.packet) s.shapes a (size_bytes size)) s u signed size n m k j d v h

store_adds : (place : Place) (s u : State) (z x m k j d v : ℕ) → LeadsTo (store_to place s z x) (Some (Add m k j d v)) u → ⊥
store_adds (InPacket i) s u z x m k j d v h = h
store_adds (InStack i) s u z x m k j d v h = h
store_adds (InContext i) s u z x m k j d v h = h
store_adds (InCounter a b c) s u z x m k j d v h = h
store_adds Nowhere s u z x m k j d v h = h

jump_adds : (s u : State) (off : ℤ) (m k j d v : ℕ) → LeadsTo (jumped s off) (Some (Add m k j d v)) u → ⊥
jump_adds s u off m k j d v h = needed (target s.pc off) _ (Some (Add m k j d v)) u (λ q h. h) h

branch_adds : (t : Bool) (s u : State) (off : ℤ) (m k j d v : ℕ) → LeadsTo (if t then jumped s off else Next (at_slot s (s.pc + 1))) (Some (Add m k j d v)) u → ⊥
branch_adds true s u off m k j d v h = jump_adds s u off m k j d v h
branch_adds false s u off m k j d v h = h

call_adds : (helper : ℤ) (s u : State) (m k j d v : ℕ) → LeadsTo (helped helper s) (Some (Add m k j d v)) u → ⊥
call_adds (pos n) s u m k j d v h = by (n == 1) h
  where
    l : Option Op
    l = Some (Add m k j d v)

    by : (t : Bool) → LeadsTo (if t then looked_up s else Fault) (Some (Add m k j d v)) u → ⊥
    by true h = needed (s.reg 1) _ l u (λ x h. needed (s.reg 2) _ l u (λ a h. needed (map_at s x) _ l u (λ i h. needed (slice_get s.shapes i) _ l u (λ shape h.
        needed (key_in (region (length s.packet) s.shapes a (key_size shape.key)) s (key_size shape.key)) _ l u (λ key h. h) h) h) h) h) h
    by false h = h
call_adds (negsuc n) s u m k j d v h = h

pub only_additions : (i : Insn) (s u : State) (m k j d v : ℕ) → is_addition i ≡ false → LeadsTo (exec i s) (Some (Add m k j d v)) u → ⊥
only_additions (Alu op wide dst src) s u m k j d v none h =
    needed (operand s src) _ (Some (Add m k j d v)) u (λ x h. needed (first_operand op (s.reg (number dst))) _ (Some (Add m k j d v)) u (λ y h. written_adds s u (s.pc + 1) (number dst) _ m k j d v h) h) h
only_additions (Neg wide dst) s u m k j d v none h = needed (s.reg (number dst)) _ (Some (Add m k j d v)) u (λ x h. written_adds s u (s.pc + 1) (number dst) _ m k j d v h) h
only_additions (End kind width dst) s u m k j d v none h = needed (s.reg (number dst)) _ (Some (Add m k j d v)) u (λ x h. written_adds s u (s.pc + 1) (number dst) _ m k j d v h) h
only_additions (MovSx wide bits dst src) s u m k j d v none h = needed (s.reg (number src)) _ (Some (Add m k j d v)) u (λ x h. written_adds s u (s.pc + 1) (number dst) _ m k j d v h) h
only_additions (Const dst value) s u m k j d v none h = written_adds s u (s.pc + 2) (number dst) value m k j d v h
only_additions (MapRef dst map) s u m k j d v none h = written_adds s u (s.pc + 2) (number dst) _ m k j d v h
only_additions (Ldx size signed dst src off) s u m k j d v none h = needed (s.reg (number src)) _ (Some (Add m k j d v)) u (λ a h. load_at_adds s u (address a off) signed size (number dst) m k j d v h) h
only_additions (St size dst off imm) s u m k j d v none h = needed (s.reg (number dst)) _ (Some (Add m k j d v)) u (λ a h. store_adds (reached s a off (size_bytes size)) s u (size_bytes size) _ m k j d v h) h
only_additions (Stx size dst src off) s u m k j d v none h =
    needed (s.reg (number src)) _ (Some (Add m k j d v)) u (λ x h. needed (s.reg (number dst)) _ (Some (Add m k j d v)) u (λ a h. store_adds (reached s a off (size_bytes size)) s u (size_bytes size) x m k j d v h) h) h
only_additions (AddCounter fetch dst src off) s u m k j d v none h = cc
only_additions (Ja wide to) s u m k j d v none h = jump_adds s u to m k j d v h
only_additions (Jump cond wide dst src off) s u m k j d v none h =
    needed (s.reg (number dst)) _ (Some (Add m k j d v)) u (λ a h. needed (operand s src) _ (Some (Add m k j d v)) u (λ b h. branch_adds (is_met cond wide a b) s u off m k j d v h) h) h
only_additions (Call helper) s u m k j d v none h = call_adds helper s u m k j d v h
only_additions Exit s u m k j d v none h = needed (s.reg 0) Exited (Some (Add m k j d v)) u (λ x h. h) h
only_additions Second s u m k j d v none h = h
