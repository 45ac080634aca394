-- No step changes the maps or the packet's length, and a step reads and adds to counters of the maps alone.
use Rattle.std.proofs.Common.{◌≡◌, ℕ, ◌+◌, ◌-◌, ◌*◌, ◌/◌, ◌%◌, ◌<◌, ◌≤◌, Bool, true, false, ◌&&◌, refl, Option, Some, None, List, length, subst, sym, ap, arith, nat_lt}
use Rattle.std.specs.Prelude.{slice_get, nat_le, if◌then◌else◌, ◌==◌, ℤ, pos, negsuc}
use Rattle.std.proofs.lemmas.Bool.Decides.{nat_tests}
use Rattle.std.proofs.Math.Nat.{div-lt_iff_lt-mul, mod-lt}
use Rattle.bpf_insn.specs.Register.{number}
use Rattle.bpf_insn.specs.Size.{size_bytes}
use Rattle.bpf_insn.specs.Conditions.{is_met}
use Rattle.bpf_insn.specs.declared.size.Size.{Size}
use Rattle.bpf_insn.specs.declared.insn.Insn.{Insn}
use Rattle.bpf_insn.specs.declared.insn.Insn.TheVariants.{Alu, Neg, End, MovSx, Const, MapRef, Ldx, St, Stx, AddCounter, Ja, Jump, Call, Exit, Second}
use Rattle.bpf_note.specs.Shape.{Shape, AreShapes, IsShape, IsCounter, IsWithin}
use Rattle.bpf_note.specs.State.{State, values_start, packet_start, stack_start, stack_end, context_start}
use Rattle.bpf_note.specs.Keys.{key_size}
use Rattle.bpf_note.specs.Constants.{are_constants}
use Rattle.bpf_note.specs.Regions.{Place, InPacket, InStack, InContext, InCounter, Nowhere, region, map_near, map_offset, counter_in, counter_past, counter_from, lies_in, load_place, counter_at, is_part}
use Rattle.bpf_note.specs.declared.op.Op.{Op}
use Rattle.bpf_note.specs.declared.op.Op.TheVariants as op
use Rattle.bpf_flow.specs.Step.{Outcome, Next, Loads, Adds, Exited, Fault, need, exec, step, written, with_number, is_frame, store_to, jumped, target, helped, looked_up, looked_up_in, map_at, key_in, operand, first_operand, at_slot, load_from, load_constants, load_at, loaded, add_to, reached, taken, address, LeadsTo, part}
use Rattle.bpf_flow.specs.Kept.{Kept, IsLabelOf}
use Rattle.bpf_flow.proofs.StoreLemmas.{spliced_length}

-- what a step from s comes to keeps the maps and the packet's length, and waits for a counter of the maps
abbrev pub Keeps : State → Outcome → Type 0
Keeps s (Next t) = Kept s t
Keeps s (Loads m k j to) = (AreShapes s.shapes → IsCounter s.shapes m k j) × ((v : ℕ) → Kept s (to v))
Keeps s (Adds m k j delta to) = (AreShapes s.shapes → IsCounter s.shapes m k j) × ((v : ℕ) → Kept s (to v))
Keeps s (Exited x) = Unit {0}
Keeps s Fault = Unit {0}

-- z bytes at a place lie in a packet of n bytes, or are a counter of the maps
abbrev Lies : ℕ → List Shape → ℕ → Place → Type 0
Lies n shapes z (InPacket i) = i + z ≤ n
Lies n shapes z (InCounter m k j) = AreShapes shapes → IsCounter shapes m k j
Lies n shapes z place = Unit {0}

chosen : (n z : ℕ) (shapes : List Shape) (s : Shape) (m at : ℕ) → slice_get shapes m ≡ Some s → (b : Bool) → (at % 8 == 0 && nat_lt at (8 * (s.counters * s.entries))) ≡ b →
    Lies n shapes z (if b then InCounter m (at / 8 / s.counters) (at / 8 % s.counters) else Nowhere)
chosen n z shapes s m at e true t = λ are.
    let h : IsShape s = are m s e in
    let some : 0 < s.counters = omega (arith, h.some_counters) in
    let inside : at < 8 * (s.counters * s.entries) = grind (arith, nat_tests) in
    let below : at / 8 < s.entries * s.counters = omega (arith, inside) in
    subst (λ (o : Option Shape). IsWithin o (at / 8 / s.counters) (at / 8 % s.counters)) (sym e) ((div-lt_iff_lt-mul some).1 below, mod-lt (at / 8) some)
chosen n z shapes s m at e false t = tt

counter_lies : (n z : ℕ) (shapes : List Shape) (m at : ℕ) (o : Option Shape) → slice_get shapes m ≡ o → Lies n shapes z (counter_in o m at)
counter_lies n z shapes m at None e = tt
counter_lies n z shapes m at (Some s) e = either (nat_le (map_offset s m) at) (at - map_offset s m)
  where
    either : (b : Bool) (r : ℕ) → Lies n shapes z (if b then counter_past s m r else Nowhere)
    either true r = chosen n z shapes s m r e (r % 8 == 0 && nat_lt r (8 * (s.counters * s.entries))) refl
    either false r = tt

region_by : (n : ℕ) (shapes : List Shape) (a z : ℕ) (p s c e v : Bool) → lies_in packet_start (packet_start + n) a z ≡ p →
    Lies n shapes z (if p then InPacket (a - packet_start) else if s then InStack (a - stack_start) else if c then InContext (a - context_start) else if e then (if v then counter_from shapes (a - values_start) else Nowhere) else Nowhere)
region_by n shapes a z true s c e v h = inside (nat_le packet_start a) (nat_le (a + z) (packet_start + n)) refl refl h
  where
    inside : (x y : Bool) → nat_le packet_start a ≡ x → nat_le (a + z) (packet_start + n) ≡ y → (x && y) ≡ true → a - packet_start + z ≤ n
    inside true true f g h = grind (arith, nat_tests)
    inside true false f g h = cc
    inside false y f g h = cc
region_by n shapes a z false true c e v h = tt
region_by n shapes a z false false true e v h = tt
region_by n shapes a z false false false true true h = counter_lies n z shapes (map_near (a - values_start)) (a - values_start) (slice_get shapes (map_near (a - values_start))) refl
region_by n shapes a z false false false true false h = tt
region_by n shapes a z false false false false v h = tt

region_lies : (n : ℕ) (shapes : List Shape) (a z : ℕ) → Lies n shapes z (region n shapes a z)
unfolding region
region_lies n shapes a z = region_by n shapes a z (lies_in packet_start (packet_start + n) a z) (lies_in stack_start stack_end a z) (lies_in context_start (context_start + 20) a z && z == 4 && a % 4 == 0) (z == 8) (nat_le values_start a) refl

counter_at_lies : (n z : ℕ) (shapes : List Shape) (a : ℕ) → Lies n shapes z (counter_at shapes a)
counter_at_lies n z shapes a = by (nat_le values_start a)
  where
    by : (v : Bool) → Lies n shapes z (if v then counter_from shapes (a - values_start) else Nowhere)
    by true = counter_lies n z shapes (map_near (a - values_start)) (a - values_start) (slice_get shapes (map_near (a - values_start))) refl
    by false = tt

load_lies : (n : ℕ) (shapes : List Shape) (a z : ℕ) → Lies n shapes z (load_place n shapes a z)
load_lies n shapes a z = by (nat_lt z 8 && is_part shapes a z)
  where
    by : (b : Bool) → Lies n shapes z (if b then counter_at shapes (a - a % 8) else region n shapes a z)
    by true = counter_at_lies n z shapes (a - a % 8)
    by false = region_lies n shapes a z

needs : {A : Type 0} (s : State) (o : Option A) (go : A → Outcome) → ((x : A) → Keeps s (go x)) → Keeps s (need o go)
needs s None go f = tt
needs s (Some x) go f = f x

with_frame : (s : State) (b : Bool) (o : Outcome) → Keeps s o → Keeps s (if b then Fault else o)
with_frame s true o k = tt
with_frame s false o k = k

unchanged : {s t : State} → t.shapes ≡ s.shapes → t.packet ≡ s.packet → t.find ≡ s.find → Kept s t
unchanged e f g = record { shapes = e; length = ap length f; find = g }

written_keeps : (s : State) (pc k x : ℕ) → Keeps s (written s pc k x)
written_keeps s pc k x = with_frame s (is_frame k) (Next (with_number s pc k x)) (unchanged refl refl refl)

store_keeps : (place : Place) (s : State) (z x : ℕ) → Lies (length s.packet) s.shapes z place → Keeps s (store_to place s z x)
store_keeps (InPacket i) s z x h = record { shapes = refl; length = spliced_length s.packet i z x h; find = refl }
store_keeps (InStack i) s z x h = unchanged refl refl refl
store_keeps (InContext i) s z x h = tt
store_keeps (InCounter m k j) s z x h = tt
store_keeps Nowhere s z x h = tt

plain_keeps : (o : Option ℕ) (s : State) (dst : ℕ) (signed : Bool) (size : Size) → Keeps s (need o (λ x. written s (s.pc + 1) dst (taken signed size x)))
plain_keeps o s dst signed size = needs s o _ (λ x. written_keeps s (s.pc + 1) dst (taken signed size x))

load_keeps : (a : ℕ) (place : Place) (s : State) (signed : Bool) (size : Size) (dst : ℕ) → Lies (length s.packet) s.shapes (size_bytes size) place → Keeps s (load_from a place s signed size dst)
load_keeps a (InPacket i) s signed size dst h = plain_keeps (loaded s (InPacket i) (size_bytes size)) s dst signed size
load_keeps a (InStack i) s signed size dst h = plain_keeps (loaded s (InStack i) (size_bytes size)) s dst signed size
load_keeps a (InContext i) s signed size dst h = plain_keeps (loaded s (InContext i) (size_bytes size)) s dst signed size
load_keeps a (InCounter m k j) s signed size dst h = with_frame s (is_frame dst) _ (h, λ v. unchanged refl refl refl)
load_keeps a Nowhere s signed size dst h = plain_keeps (loaded s Nowhere (size_bytes size)) s dst signed size

load_at_keeps : (s : State) (a : ℕ) (signed : Bool) (size : Size) (dst : ℕ) → Keeps s (load_at s a signed size dst)
load_at_keeps s a signed size dst = by (are_constants s.shapes a (size_bytes size))
  where
    by : (b : Bool) → Keeps s (if b then load_constants s a signed size dst else load_from a (load_place (length s.packet) s.shapes a (size_bytes size)) s signed size dst)
    by true = written_keeps s (s.pc + 1) dst _
    by false = load_keeps a (load_place (length s.packet) s.shapes a (size_bytes size)) s signed size dst (load_lies (length s.packet) s.shapes a (size_bytes size))

add_keeps : (place : Place) (s : State) (fetch : Bool) (src d : ℕ) → Lies (length s.packet) s.shapes 8 place → Keeps s (add_to place s fetch src d)
add_keeps (InCounter m k j) s true src d h = with_frame s (is_frame src) _ (h, λ v. unchanged refl refl refl)
add_keeps (InCounter m k j) s false src d h = (h, λ v. unchanged refl refl refl)
add_keeps (InPacket i) s fetch src d h = tt
add_keeps (InStack i) s fetch src d h = tt
add_keeps (InContext i) s fetch src d h = tt
add_keeps Nowhere s fetch src d h = tt

jumped_keeps : (s : State) (off : ℤ) → Keeps s (jumped s off)
jumped_keeps s off = needs s (target s.pc off) _ (λ to. unchanged refl refl refl)

helped_keeps : (i : ℤ) (s : State) → Keeps s (helped i s)
helped_keeps (pos n) s = by (n == 1)
  where
    by : (b : Bool) → Keeps s (if b then looked_up s else Fault)
    by true = needs s (s.reg 1) _ (λ x. needs s (s.reg 2) _ (λ a. needs s (map_at s x) _ (λ m. needs s (slice_get s.shapes m) (looked_up_in s a m) (λ shape. needs s (key_in (region (length s.packet) s.shapes a (key_size shape.key)) s (key_size shape.key)) _ (λ key. unchanged refl refl refl)))))
    by false = tt
helped_keeps (negsuc n) s = tt

module _ (s : State) where
  there : (a : ℕ) (off : ℤ) (z : ℕ) → Lies (length s.packet) s.shapes z (reached s a off z)
  there a off z = region_lies (length s.packet) s.shapes (address a off) z

  pub exec_keeps : (i : Insn) → Keeps s (exec i s)
  exec_keeps (Alu op wide dst src) = needs s (operand s src) _ (λ x. needs s (first_operand op (s.reg (number dst))) _ (λ d. written_keeps s (s.pc + 1) (number dst) _))
  exec_keeps (Neg wide dst) = needs s (s.reg (number dst)) _ (λ d. written_keeps s (s.pc + 1) (number dst) _)
  exec_keeps (End kind width dst) = needs s (s.reg (number dst)) _ (λ d. written_keeps s (s.pc + 1) (number dst) _)
  exec_keeps (MovSx wide bits dst src) = needs s (s.reg (number src)) _ (λ d. written_keeps s (s.pc + 1) (number dst) _)
  exec_keeps (Const dst value) = written_keeps s (s.pc + 2) (number dst) value
  exec_keeps (MapRef dst m) = written_keeps s (s.pc + 2) (number dst) _
  exec_keeps (Ldx size signed dst src off) = needs s (s.reg (number src)) _ (λ a. load_at_keeps s (address a off) signed size (number dst))
  exec_keeps (St size dst off imm) = needs s (s.reg (number dst)) _ (λ a. store_keeps (reached s a off (size_bytes size)) s (size_bytes size) _ (there a off (size_bytes size)))
  exec_keeps (Stx size dst src off) = needs s (s.reg (number src)) _ (λ x. needs s (s.reg (number dst)) _ (λ a. store_keeps (reached s a off (size_bytes size)) s (size_bytes size) x (there a off (size_bytes size))))
  exec_keeps (AddCounter fetch dst src off) = needs s (s.reg (number src)) _ (λ x. needs s (s.reg (number dst)) _ (λ a. add_keeps (reached s a off 8) s fetch (number src) x (there a off 8)))
  exec_keeps (Ja wide_offset to) = jumped_keeps s to
  exec_keeps (Jump cond wide dst src off) = needs s (s.reg (number dst)) _ (λ a. needs s (operand s src) _ (λ b. either (is_met cond wide a b) off))
    where
      either : (b : Bool) (off : ℤ) → Keeps s (if b then jumped s off else Next (at_slot s (s.pc + 1)))
      either true off = jumped_keeps s off
      either false off = unchanged refl refl refl
  exec_keeps (Call helper) = helped_keeps helper s
  exec_keeps Exit = needs s (s.reg 0) Exited (λ x. tt)
  exec_keeps Second = tt

step_keeps : (code : List Insn) (s : State) → Keeps s (step code s)
step_keeps code s = needs s (slice_get code s.pc) (λ i. exec i s) (λ i. exec_keeps s i)

kept_by : (s : State) (o : Outcome) (label : Option Op) (t : State) → Keeps s o → LeadsTo o label t → Kept s t
kept_by s (Next u) None t k h = subst (λ (t : State). Kept s t) h k
kept_by s (Next u) (Some (op.Load m i j v)) t k h = absurd h
kept_by s (Next u) (Some (op.Add m i j d v)) t k h = absurd h
kept_by s (Loads m i j to) None t k h = absurd h
kept_by s (Loads m i j to) (Some (op.Load m' i' j' v)) t k h = subst (λ (t : State). Kept s t) h.4 (k.1 v)
kept_by s (Loads m i j to) (Some (op.Add m' i' j' d v)) t k h = absurd h
kept_by s (Adds m i j d to) None t k h = absurd h
kept_by s (Adds m i j d to) (Some (op.Load m' i' j' v)) t k h = absurd h
kept_by s (Adds m i j d to) (Some (op.Add m' i' j' d' v)) t k h = subst (λ (t : State). Kept s t) h.5 (k.1 v)
kept_by s (Exited x) label t k h = absurd h
kept_by s Fault label t k h = absurd h

asked_by : (s : State) (o : Outcome) (label : Option Op) (t : State) → AreShapes s.shapes → Keeps s o → LeadsTo o label t → IsLabelOf s.shapes label
asked_by s o None t are k h = tt
asked_by s (Next u) (Some op) t are k h = absurd h
asked_by s (Loads m i j to) (Some (op.Load m' i' j' v)) t are k h = rw (← h.0, ← h.1, ← h.2) (k.0 are)
asked_by s (Loads m i j to) (Some (op.Add m' i' j' d v)) t are k h = absurd h
asked_by s (Adds m i j d to) (Some (op.Load m' i' j' v)) t are k h = absurd h
asked_by s (Adds m i j d to) (Some (op.Add m' i' j' d' v)) t are k h = rw (← h.0, ← h.1, ← h.2) (k.0 are)
asked_by s (Exited x) (Some op) t are k h = absurd h
asked_by s Fault (Some op) t are k h = absurd h

pub kept : (code : List Insn) (s : State) (label : Option Op) (t : State) → LeadsTo (step code s) label t → Kept s t
kept code s label t h = kept_by s (step code s) label t (step_keeps code s) h

pub asked : (code : List Insn) (s : State) (label : Option Op) (t : State) → AreShapes s.shapes → LeadsTo (step code s) label t → IsLabelOf s.shapes label
asked code s label t are h = asked_by s (step code s) label t are (step_keeps code s) h
