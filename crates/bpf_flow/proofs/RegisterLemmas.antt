-- A register that is read or written.
use Rattle.std.proofs.Common.{◌≡◌, ℕ, ◌<◌, ◌≤◌, ◌^◌, Bool, true, false, refl, Option, Some, None, cond, [], ◌∷◌, inl, nat_eq, subst, arith}
use Rattle.std.specs.Prelude.{Ok, if◌then◌else◌}
use Rattle.std.proofs.lemmas.Bool.Decides.{nat_tests}
use Rattle.bpf_insn.specs.Register.{number}
use Rattle.bpf_insn.specs.declared.register.Register.{Register}
use Rattle.bpf_insn.specs.declared.register.Register.TheVariants.{R0, R1, R2, R3, R4, R5, R6, R7, R8, R9, R10}
use Rattle.bpf_insn.specs.declared.refusal.Cause.TheVariants as cause
use Rattle.bpf_note.specs.declared.val.Val.{Val}
use Rattle.bpf_note.specs.declared.val.Val.TheVariants.{Unset, Num, Pkt, PktEnd, Stack, Ctx, Map, MaybeValue, Value}
use Rattle.bpf_note.specs.State.{State, IsState}
use Rattle.bpf_note.specs.Facts.{Facts, is_unset, with_reg}
use Rattle.bpf_note.specs.Describes.{Meaning, meaning, Describes, Reads, IsReading}
use Rattle.bpf_flow.specs.Step.{Next, Fault, written, with_number, at_slot, is_frame}
use Rattle.bpf_flow.specs.Edges.{Edges, sets, unless, goes_to}
use Rattle.bpf_flow.specs.Sound.{Accounts, Covers}
use Rattle.bpf_flow.proofs.AnswerLemmas.{same_ok}

pub number_small : (r : Register) → number r < 11
number_small R0 = omega arith
number_small R1 = omega arith
number_small R2 = omega arith
number_small R3 = omega arith
number_small R4 = omega arith
number_small R5 = omega arith
number_small R6 = omega arith
number_small R7 = omega arith
number_small R8 = omega arith
number_small R9 = omega arith
number_small R10 = omega arith

-- a register of which something is known has a number
pub is_set_reads : (w : Meaning) (v : Val) (o : Option ℕ) → is_unset v ≡ false → Reads w v o → (x : ℕ) × (o ≡ Some x) × IsReading w v x
is_set_reads w v (Some x) h r = (x, refl, r)
is_set_reads w Unset None h r = absurd (cc)
is_set_reads w (Num lo hi) None h r = absurd (cc)
is_set_reads w (Pkt id off) None h r = absurd (cc)
is_set_reads w PktEnd None h r = absurd (cc)
is_set_reads w (Stack off) None h r = absurd (cc)
is_set_reads w Ctx None h r = absurd (cc)
is_set_reads w (Map m) None h r = absurd (cc)
is_set_reads w (MaybeValue m id) None h r = absurd (cc)
is_set_reads w (Value m) None h r = absurd (cc)

pub chosen_reads : (w : Meaning) (b : Bool) (v u : Val) (x : ℕ) (o : Option ℕ) → IsReading w v x → Reads w u o → Reads w (cond b v u) (cond b (Some x) o)
chosen_reads w true v u x o h r = h
chosen_reads w false v u x o h r = r

chosen_fits : (b : Bool) (x y : ℕ) (o : Option ℕ) → x < 2 ^ 64 → (o ≡ Some y → y < 2 ^ 64) → cond b (Some x) o ≡ Some y → y < 2 ^ 64
chosen_fits true x y o h g e = let same : x ≡ y = cc in subst (λ (z : ℕ). z < 2 ^ 64) same h
chosen_fits false x y o h g e = g e

other_stays : (k i x : ℕ) (o : Option ℕ) (here : Bool) → here ≡ nat_eq i k → k < 11 → 11 ≤ i → o ≡ None → cond here (Some x) o ≡ None
other_stays k i x o true e small past none = absurd (grind (arith, nat_tests))
other_stays k i x o false e small past none = none

-- a state with a register written is a state
pub with_number_state : (s : State) (pc k x : ℕ) → k < 11 → x < 2 ^ 64 → IsState s → IsState (with_number s pc k x)
with_number_state s pc k x small fits st = record {
  words = λ i y e. chosen_fits (nat_eq i k) x y (s.reg i) fits (st.words i y) e;
  registers = λ i past. other_stays k i x (s.reg i) (nat_eq i k) refl small past (st.registers i past);
  stack_bytes = st.stack_bytes;
  stack_size = st.stack_size;
  packet_bytes = st.packet_bytes;
  packet_size = st.packet_size;
  ifindex_fits = st.ifindex_fits;
  queue_fits = st.queue_fits;
  maps = st.maps;
  shapes = st.shapes;
}

-- what is known with the value describes the state with the number
pub with_number_describes : (n : Facts) (s : State) (pc k x : ℕ) (v : Val) (d : Describes n s) → k < 11 → x < 2 ^ 64 → IsReading (meaning s d.base d.address) v x →
    Describes (with_reg n k v) (with_number s pc k x)
with_number_describes n s pc k x v d small fits r = record {
  state = with_number_state s pc k x small fits d.state;
  base = d.base;
  address = d.address;
  regs = λ i. chosen_reads (meaning s d.base d.address) (nat_eq i k) v (n.reg i) x (s.reg i) r (d.regs i);
  kept = d.kept;
  set = d.set;
  start = d.start;
  tops = d.tops;
  low = d.low;
  safes = d.safes;
}

pub at_slot_state : (s : State) (pc : ℕ) → IsState s → IsState (at_slot s pc)
at_slot_state s pc st = record {
  words = st.words;
  registers = st.registers;
  stack_bytes = st.stack_bytes;
  stack_size = st.stack_size;
  packet_bytes = st.packet_bytes;
  packet_size = st.packet_size;
  ifindex_fits = st.ifindex_fits;
  queue_fits = st.queue_fits;
  maps = st.maps;
  shapes = st.shapes;
}

-- the same is known at any slot
pub at_slot_describes : (n : Facts) (s : State) (pc : ℕ) → Describes n s → Describes n (at_slot s pc)
at_slot_describes n s pc d = record {
  state = at_slot_state s pc d.state;
  base = d.base;
  address = d.address;
  regs = d.regs;
  kept = d.kept;
  set = d.set;
  start = d.start;
  tops = d.tops;
  low = d.low;
  safes = d.safes;
}

-- one edge covers the state
pub one_covers : (pc : ℕ) (n : Facts) (es : Edges) (t : State) → t.pc ≡ pc → Describes n t → goes_to pc n ≡ Ok es → Covers es t
one_covers pc n es t at d e = subst (λ (es : Edges). Covers es t) (same_ok ((pc, n) ∷ []) es e) (inl (at, d))

sets_by : (b : Bool) (n : Facts) (s : State) (pc k x : ℕ) (es : Edges) → Describes n (with_number s pc k x) →
    unless b cause.FramePointer (goes_to pc n) ≡ Ok es → Accounts es (if b then Fault else Next (with_number s pc k x))
sets_by true n s pc k x es d e = absurd (cc)
sets_by false n s pc k x es d e = one_covers pc n es (with_number s pc k x) refl d e

-- a register that is written, what is known then describing the state then
pub written_sound : (n : Facts) (s : State) (pc k x : ℕ) (es : Edges) → Describes n (with_number s pc k x) →
    unless (is_frame k) cause.FramePointer (goes_to pc n) ≡ Ok es → Accounts es (written s pc k x)
written_sound n s pc k x es d e = sets_by (is_frame k) n s pc k x es d e

pub sets_sound : (n : Facts) (s : State) (pc k x : ℕ) (v : Val) (es : Edges) (d : Describes n s) → k < 11 → x < 2 ^ 64 → IsReading (meaning s d.base d.address) v x →
    sets n pc k v ≡ Ok es → Accounts es (written s pc k x)
sets_sound n s pc k x v es d small fits r e = written_sound (with_reg n k v) s pc k x es (with_number_describes n s pc k x v d small fits r) e
