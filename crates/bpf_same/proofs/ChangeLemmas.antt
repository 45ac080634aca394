-- What a step of the new program makes of what stands in counters.
use Rattle.std.proofs.Common.{ℕ, ◌+◌, ◌%◌, ◌^◌, ◌≡◌, ◌≢◌, ◌⊎◌, inl, inr, refl, sym, ap, ◌∙◌, subst, arith, ℤ, List, length, Option, None, Some, Bool, true, false, ◌&&◌}
use Rattle.std.specs.Prelude.{◌-◌, ◌≤◌, if◌then◌else◌, ◌==◌, nat_le}
use Rattle.std.proofs.lemmas.Bool.{cases_eq}
use Rattle.std.proofs.lemmas.Bool.Decides.{nat_tests}
use Rattle.bpf_insn.specs.Register.{number}
use Rattle.bpf_insn.specs.Signed.{sign_extended}
use Rattle.bpf_insn.specs.declared.register.Register.{Register}
use Rattle.bpf_insn.specs.declared.size.Size.TheVariants.{Double}
use Rattle.bpf_insn.specs.declared.insn.Insn.{Insn}
use Rattle.bpf_insn.specs.declared.insn.Insn.TheVariants.{Ldx, AddCounter}
use Rattle.bpf_note.specs.Shape.{Shape, AreShapes}
use Rattle.bpf_note.specs.State.{State, packet_start, stack_start, stack_end, context_start, values_start}
use Rattle.bpf_note.specs.Constants.{are_constants}
use Rattle.bpf_note.specs.Regions.{Place, InPacket, InStack, InContext, InCounter, Nowhere, region, lies_in, counter_at, counter_from, counter_address, load_place}
use Rattle.bpf_note.proofs.ConstantLemmas.{none_above}
use Rattle.bpf_note.proofs.RegionLemmas.{counter_found}
use Rattle.bpf_note.specs.declared.op.Op.{Op}
use Rattle.bpf_note.specs.declared.op.Op.TheVariants as ops
use Rattle.bpf_flow.specs.Kept.{Kept}
use Rattle.bpf_flow.proofs.KeptLemmas.{Keeps, exec_keeps}
use Rattle.bpf_same.specs.Simulated.{is_jump}
use Rattle.bpf_flow.specs.Step.{Outcome, Next, Exited, Fault, Loads, Adds, address, at_slot, with_number, is_frame, load_from, load_constants, load_at, add_to, reached, exec, LeadsTo}
use Rattle.bpf_flow.proofs.StepLemmas.{no_fault}
use Rattle.bpf_flow.proofs.RegisterLemmas.{number_small}
use Rattle.bpf_same.specs.LinearForms.{plus, held}
use Rattle.bpf_same.specs.Moved.{address_in}
use Rattle.bpf_same.specs.Alone.{Counters, with_counter}
use Rattle.bpf_same.specs.Traces.{Trace, IsNext, standing, numbers}
use Rattle.bpf_same.specs.Contents.{is_addition, Changes}
use Rattle.bpf_same.proofs.AdditionLemmas.{only_additions}
use Rattle.bpf_same.proofs.StepLemmas.{needed_is, held_register, put_here}

some_is : {A : Type 0} {x y : A} → Some x ≡ Some y → x ≡ y
some_is e = cc

-- --- where a counter lies
at_counter : (len : ℕ) (shapes : List Shape) (a m k j : ℕ) → region len shapes a 8 ≡ InCounter m k j → counter_at shapes a ≡ InCounter m k j
unfolding region
at_counter len shapes a m k j e = by (lies_in packet_start (packet_start + len) a 8) (lies_in stack_start stack_end a 8) (lies_in context_start (context_start + 20) a 8 && 8 == 4 && a % 4 == 0) e
  where
    by : (p s c : Bool) → (if p then InPacket (a - packet_start) else if s then InStack (a - stack_start) else if c then InContext (a - context_start) else if 8 == 8 then counter_at shapes a else Nowhere) ≡ InCounter m k j → counter_at shapes a ≡ InCounter m k j
    by true s c e = cc
    by false true c e = cc
    by false false true e = cc
    by false false false e = e

above_start : (shapes : List Shape) (a m k j : ℕ) → counter_at shapes a ≡ InCounter m k j → values_start ≤ a
above_start shapes a m k j e = by (nat_le values_start a) refl e
  where
    by : (b : Bool) → b ≡ nat_le values_start a → (if b then counter_from shapes (a - values_start) else Nowhere) ≡ InCounter m k j → values_start ≤ a
    by true is e = grind (arith, nat_tests)
    by false is e = cc

-- where a counter lies no constants do
no_constants : (len : ℕ) (shapes : List Shape) (a m k j : ℕ) → region len shapes a 8 ≡ InCounter m k j → are_constants shapes a 8 ≡ false
no_constants len shapes a m k j e = ap (nat_le 8) (none_above shapes a (above_start shapes a m k j (at_counter len shapes a m k j e)))

-- one counter lies at one address
pub one_address : (len : ℕ) (shapes : List Shape) (a b m k j : ℕ) → AreShapes shapes → region len shapes a 8 ≡ InCounter m k j → region len shapes b 8 ≡ InCounter m k j → a ≡ b
one_address len shapes a b m k j are e f =
    let p = counter_found shapes a m k j are (at_counter len shapes a m k j e) in
    let q = counter_found shapes b m k j are (at_counter len shapes b m k j f) in
    let same : p.0 ≡ q.0 = some_is (sym p.1 ∙ q.1) in
    p.2.address ∙ (ap (λ (s : Shape). counter_address s m k j) same ∙ sym q.2.address)

-- --- what an addition and a load of a counter come to
pub record Adding (src base : Register) (off : ℤ) (s u : State) (l : Option Op) : Type 0 where
  pub m : ℕ
  pub k : ℕ
  pub j : ℕ
  pub delta : ℕ
  pub found : ℕ
  pub address : ℕ
  pub value : s.reg (number src) ≡ Some delta
  pub held : s.reg (number base) ≡ Some address
  pub place : reached s address off 8 ≡ InCounter m k j
  pub label : l ≡ Some (ops.Add m k j delta found)

adding_to : (m k j delta : ℕ) (go : ℕ → State) (u : State) (l : Option Op) → LeadsTo (Adds m k j delta go) l u → (found : ℕ) × (l ≡ Some (ops.Add m k j delta found))
adding_to m k j delta go u None h = absurd h
adding_to m k j delta go u (Some (ops.Load m' k' j' v)) h = absurd h
adding_to m k j delta go u (Some (ops.Add m' k' j' d v)) h = (v, let e = h.0 in let f = h.1 in let g = h.2 in let i = h.3 in cc (e, f, g, i))

adding_at : (fetch : Bool) (src base : Register) (off : ℤ) (s u : State) (l : Option Op) (x a : ℕ) → s.reg (number src) ≡ Some x → s.reg (number base) ≡ Some a → (place : Place) → reached s a off 8 ≡ place → LeadsTo (add_to place s fetch (number src) x) l u → Adding src base off s u l
adding_at false src base off s u l x a is_x is_a (InCounter m k j) at h =
    let f = adding_to m k j x (λ v. at_slot s (s.pc + 1)) u l h in
    record { m = m; k = k; j = j; delta = x; found = f.0; address = a; value = is_x; held = is_a; place = at; label = f.1 }
adding_at true src base off s u l x a is_x is_a (InCounter m k j) at h = by (is_frame (number src)) h
  where
    by : (b : Bool) → LeadsTo (if b then Fault else Adds m k j x (λ v. with_number s (s.pc + 1) (number src) v)) l u → Adding src base off s u l
    by true h = absurd (no_fault l u h)
    by false h =
        let f = adding_to m k j x (λ v. with_number s (s.pc + 1) (number src) v) u l h in
        record { m = m; k = k; j = j; delta = x; found = f.0; address = a; value = is_x; held = is_a; place = at; label = f.1 }
adding_at fetch src base off s u l x a is_x is_a (InPacket i) at h = absurd (no_fault l u h)
adding_at fetch src base off s u l x a is_x is_a (InStack i) at h = absurd (no_fault l u h)
adding_at fetch src base off s u l x a is_x is_a (InContext i) at h = absurd (no_fault l u h)
adding_at fetch src base off s u l x a is_x is_a Nowhere at h = absurd (no_fault l u h)

pub adding_is : (fetch : Bool) (src base : Register) (off : ℤ) (s u : State) (l : Option Op) → LeadsTo (exec (AddCounter fetch base src off) s) l u → Adding src base off s u l
adding_is fetch src base off s u l h = needed_is (s.reg (number src)) _ l u (λ x is_x h. needed_is (s.reg (number base)) _ l u (λ a is_a h. adding_at fetch src base off s u l x a is_x is_a (reached s a off 8) refl h) h) h

-- without a fetch it writes no register
slot_after : (s u : State) (m k j x : ℕ) (l : Option Op) → LeadsTo (Adds m k j x (λ v. at_slot s (s.pc + 1))) l u → u ≡ at_slot s (s.pc + 1)
slot_after s u m k j x None h = absurd h
slot_after s u m k j x (Some (ops.Load m' k' j' v)) h = absurd h
slot_after s u m k j x (Some (ops.Add m' k' j' d v)) h = sym h.5

left_at : (place : Place) (s u : State) (src x : ℕ) (l : Option Op) → LeadsTo (add_to place s false src x) l u → u ≡ at_slot s (s.pc + 1)
left_at (InCounter m k j) s u src x l h = slot_after s u m k j x l h
left_at (InPacket i) s u src x l h = absurd (no_fault l u h)
left_at (InStack i) s u src x l h = absurd (no_fault l u h)
left_at (InContext i) s u src x l h = absurd (no_fault l u h)
left_at Nowhere s u src x l h = absurd (no_fault l u h)

pub adding_left : (src base : Register) (off : ℤ) (s u : State) (l : Option Op) → LeadsTo (exec (AddCounter false base src off) s) l u → u ≡ at_slot s (s.pc + 1)
adding_left src base off s u l h = needed_is (s.reg (number src)) _ l u (λ x is_x h. needed_is (s.reg (number base)) _ l u (λ a is_a h. left_at (reached s a off 8) s u (number src) x l h) h) h

-- a load of eight bytes at a counter
pub record Loading (dst : Register) (m k j : ℕ) (u : State) (l : Option Op) : Type 0 where
  pub v : ℕ
  pub label : l ≡ Some (ops.Load m k j v)
  pub value : u.reg (number dst) ≡ Some v

loading_to : (s : State) (dst : Register) (m k j : ℕ) (u : State) (l : Option Op) → LeadsTo (Loads m k j (λ x. with_number s (s.pc + 1) (number dst) x)) l u → Loading dst m k j u l
loading_to s dst m k j u None h = absurd h
loading_to s dst m k j u (Some (ops.Add m' k' j' d v)) h = absurd h
loading_to s dst m k j u (Some (ops.Load m' k' j' v)) h = record {
  v = v;
  label = let e = h.0 in let f = h.1 in let g = h.2 in cc (e, f, g);
  value = sym (ap (λ (u : State). u.reg (number dst)) h.4) ∙ put_here s.reg (number dst) (Some v);
}

from_region : (s : State) (a : ℕ) (dst : Register) (l : Option Op) (u : State) → are_constants s.shapes a 8 ≡ false → LeadsTo (load_at s a false Double (number dst)) l u → LeadsTo (load_from a (load_place (length s.packet) s.shapes a 8) s false Double (number dst)) l u
from_region s a dst l u none h = subst (λ (b : Bool). LeadsTo (if b then load_constants s a false Double (number dst) else load_from a (load_place (length s.packet) s.shapes a 8) s false Double (number dst)) l u) none h

pub loading_is : (dst src : Register) (off : ℤ) (s u : State) (l : Option Op) (a m k j : ℕ) → s.reg (number src) ≡ Some a → reached s a off 8 ≡ InCounter m k j → LeadsTo (exec (Ldx Double false dst src off) s) l u → Loading dst m k j u l
loading_is dst src off s u l a m k j held place h =
    by (is_frame (number dst)) (subst (λ (p : Place). LeadsTo (load_from (address a off) p s false Double (number dst)) l u) place
    (from_region s (address a off) dst l u (no_constants (length s.packet) s.shapes (address a off) m k j place)
    (needed_is (s.reg (number src)) _ l u (λ b is h. subst (λ (b : ℕ). LeadsTo (load_at s (address b off) false Double (number dst)) l u) (some_is (sym is ∙ held)) h) h)))
  where
    by : (b : Bool) → LeadsTo (if b then Fault else Loads m k j (λ x. with_number s (s.pc + 1) (number dst) x)) l u → Loading dst m k j u l
    by true h = absurd (no_fault l u h)
    by false h = loading_to s dst m k j u l h

-- --- what stands in counters
pub address_is : (s : State) (base : Register) (off : ℤ) (a : ℕ) → s.reg (number base) ≡ Some a → address_in (held s) base off ≡ Some (address a off)
address_is s base off a e = ap (λ (o : Option ℕ). plus o (Some (sign_extended off))) (held_register s (number base) (number_small base) ∙ e)

stand_kept : (c : Counters) (s u : State) (a : ℕ) → length u.packet ≡ length s.packet → u.shapes ≡ s.shapes → standing c (region (length u.packet) u.shapes a 8) ≡ standing c (region (length s.packet) s.shapes a 8)
stand_kept c s u a n m = ap (λ (n : ℕ). standing c (region n u.shapes a 8)) n ∙ ap (λ (m : List Shape). standing c (region (length s.packet) m a 8)) m

all_true : (a b c : Bool) → a ≡ true → b ≡ true → c ≡ true → (a && b && c) ≡ true
all_true a b c e f g = cc (e, f, g)

same_test : (a b : ℕ) → a ≡ b → (a == b) ≡ true
same_test a b e = grind (arith, nat_tests, e)

other_test : (a b : ℕ) → a ≢ b → (a == b) ≡ false
other_test a b n = grind (arith, nat_tests, n)

with_here : (c : Counters) (m k j x : ℕ) → with_counter c m k j x m k j ≡ x
with_here c m k j x = ap (λ (b : Bool). if b then x else c m k j) (all_true (m == m) (k == k) (j == j) (same_test m m refl) (same_test k k refl) (same_test j j refl))

with_other : (c : Counters) (m k j x n l i : ℕ) → (n ≡ m → l ≡ k → i ≡ j → ⊥) → with_counter c m k j x n l i ≡ c n l i
with_other c m k j x n l i differ = elim (cases_eq n m) [
  | inl e ↦ elim (cases_eq l k) [
    | inl f ↦ by (n == m) (l == k) (i == j) (inr (inr (other_test i j (λ g. differ e f g))))
    | inr f ↦ by (n == m) (l == k) (i == j) (inr (inl (other_test l k f)))
  ]
  | inr e ↦ by (n == m) (l == k) (i == j) (inl (other_test n m e))
]
  where
    by : (p q r : Bool) → (p ≡ false) ⊎ (q ≡ false) ⊎ (r ≡ false) → (if p && q && r then x else c n l i) ≡ c n l i
    by false q r h = refl
    by true false r h = refl
    by true true false h = refl
    by true true true (inl e) = cc
    by true true true (inr (inl e)) = cc
    by true true true (inr (inr e)) = cc

added_at : (len : ℕ) (shapes : List Shape) (c : Counters) (b m k j v : ℕ) → AreShapes shapes → region len shapes b 8 ≡ InCounter m k j →
    (a : ℕ) → standing (with_counter c m k j ((c m k j + v) % 2 ^ 64)) (region len shapes a 8) ≡ (if a == b then plus (standing c (region len shapes a 8)) (Some v) else standing c (region len shapes a 8))
added_at len shapes c b m k j v are place a = elim (cases_eq a b) [
  | inl e ↦
      let here : region len shapes a 8 ≡ InCounter m k j = ap (λ (a : ℕ). region len shapes a 8) e ∙ place in
      ap (standing (with_counter c m k j ((c m k j + v) % 2 ^ 64))) here ∙ (ap Some (with_here c m k j ((c m k j + v) % 2 ^ 64))
      ∙ (sym (ap (λ (p : Place). plus (standing c p) (Some v)) here)
      ∙ sym (ap (λ (t : Bool). if t then plus (standing c (region len shapes a 8)) (Some v) else standing c (region len shapes a 8)) (same_test a b e))))
  | inr n ↦ by (region len shapes a 8) refl n ∙ sym (ap (λ (t : Bool). if t then plus (standing c (region len shapes a 8)) (Some v) else standing c (region len shapes a 8)) (other_test a b n))
]
  where
    by : (p : Place) → region len shapes a 8 ≡ p → a ≢ b → standing (with_counter c m k j ((c m k j + v) % 2 ^ 64)) (region len shapes a 8) ≡ standing c (region len shapes a 8)
    by (InCounter n l i) at differ =
        ap (standing (with_counter c m k j ((c m k j + v) % 2 ^ 64))) at
        ∙ (ap Some (with_other c m k j ((c m k j + v) % 2 ^ 64) n l i (λ e f g. differ (one_address len shapes a b m k j are (at ∙ cc (e, f, g)) place))) ∙ sym (ap (standing c) at))
    by (InPacket i) at differ = ap (standing (with_counter c m k j ((c m k j + v) % 2 ^ 64))) at ∙ sym (ap (standing c) at)
    by (InStack i) at differ = ap (standing (with_counter c m k j ((c m k j + v) % 2 ^ 64))) at ∙ sym (ap (standing c) at)
    by (InContext i) at differ = ap (standing (with_counter c m k j ((c m k j + v) % 2 ^ 64))) at ∙ sym (ap (standing c) at)
    by Nowhere at differ = ap (standing (with_counter c m k j ((c m k j + v) % 2 ^ 64))) at ∙ sym (ap (standing c) at)

-- --- a step keeps the packet's length and the maps
kept_by : (s : State) (o : Outcome) (l : Option Op) (t : State) → Keeps s o → LeadsTo o l t → Kept s t
kept_by s (Next u) None t k h = subst (λ (t : State). Kept s t) h k
kept_by s (Next u) (Some (ops.Load m i j v)) t k h = absurd h
kept_by s (Next u) (Some (ops.Add m i j d v)) t k h = absurd h
kept_by s (Loads m i j to) None t k h = absurd h
kept_by s (Loads m i j to) (Some (ops.Load m' i' j' v)) t k h = subst (λ (t : State). Kept s t) h.4 (k.1 v)
kept_by s (Loads m i j to) (Some (ops.Add m' i' j' d v)) t k h = absurd h
kept_by s (Adds m i j d to) None t k h = absurd h
kept_by s (Adds m i j d to) (Some (ops.Load m' i' j' v)) t k h = absurd h
kept_by s (Adds m i j d to) (Some (ops.Add m' i' j' d' v)) t k h = subst (λ (t : State). Kept s t) h.5 (k.1 v)
kept_by s (Exited x) l t k h = absurd h
kept_by s Fault l t k h = absurd h

-- the number in an address's base
pub based_in : (f : ℕ → Option ℕ) (base : Register) (off : ℤ) (a : ℕ) → address_in f base off ≡ Some a → (b : ℕ) × (f (number base) ≡ Some b) × (address b off ≡ a)
based_in f base off a e = by (f (number base)) refl e
  where
    by : (o : Option ℕ) → f (number base) ≡ o → plus o (Some (sign_extended off)) ≡ Some a → (b : ℕ) × (f (number base) ≡ Some b) × (address b off ≡ a)
    by None is e = cc
    by (Some b) is e = (b, is, some_is e)

based : (s : State) (base : Register) (off : ℤ) (a : ℕ) → address_in (held s) base off ≡ Some a → (b : ℕ) × (s.reg (number base) ≡ Some b) × (address b off ≡ a)
based s base off a e = by (s.reg (number base)) refl (sym (ap (λ (o : Option ℕ). plus o (Some (sign_extended off))) (held_register s (number base) (number_small base))) ∙ e)
  where
    by : (o : Option ℕ) → s.reg (number base) ≡ o → plus o (Some (sign_extended off)) ≡ Some a → (b : ℕ) × (s.reg (number base) ≡ Some b) × (address b off ≡ a)
    by None is e = cc
    by (Some b) is e = (b, is, some_is e)

-- what is found and left in the trace's counters
record Found (r to : Trace) (m k j v delta : ℕ) : Type 0 where
  found : v ≡ r.found m k j
  left : to.found ≡ with_counter r.found m k j ((r.found m k j + delta) % 2 ^ 64)

found_of : (r to : Trace) (m k j v delta : ℕ) → IsNext true (Some (ops.Add m k j delta v)) r to → Found r to m k j v delta
found_of r to m k j v delta n = record {
  found = n.0;
  left = ap (λ (d : Trace). d.found) n.1 ∙ ap (λ (v : ℕ). with_counter r.found m k j ((v + delta) % 2 ^ 64)) n.0;
}

-- a step that isn't an addition leaves the trace's counters
left_found : (i : Insn) (s u : State) (l : Option Op) (r to : Trace) → is_addition i ≡ false → LeadsTo (exec i s) l u → IsNext true l r to → to.found ≡ r.found
left_found i s u None r to none h n = sym (ap (λ (r : Trace). r.found) n)
left_found i s u (Some (ops.Load m k j v)) r to none h n = ap (λ (d : Trace). d.found) n.1
left_found i s u (Some (ops.Add m k j delta v)) r to none h n = absurd (only_additions i s u m k j delta v none h)

pub changes : (alone : Bool) (i : Insn) (s u : State) (l : Option Op) (r to : Trace) → AreShapes s.shapes → LeadsTo (exec i s) l u → IsNext alone l r to → Changes i (held s) (held u) (numbers alone r s) (numbers alone to u)
changes false i s u l r to are h n = record {
  left = λ none a. refl;
  added = λ fetch dst src off e.
      let a = adding_is fetch src dst off s u l (subst (λ (i : Insn). LeadsTo (exec i s) l u) e h) in (
        address a.address off,
        a.delta,
        address_is s dst off a.address a.held,
        held_register s (number src) (number_small src) ∙ a.value,
        λ b. unknown (b == address a.address off) a.delta,
      );
  loaded = λ dst src off e a x at known. absurd (none_known known);
}
  where
    unknown : (t : Bool) (v : ℕ) → None ≡ (if t then plus None (Some v) else None)
    unknown true v = refl
    unknown false v = refl

    none_known : {x : ℕ} → None ≡ Some x → ⊥
    none_known e = cc
changes true i s u l r to are h n = record {
  left = λ none a. stand_kept to.found s u a k.length k.shapes ∙ ap (λ (c : Counters). standing c (region (length s.packet) s.shapes a 8)) (left_found i s u l r to none h n);
  added = λ fetch dst src off e.
      let a = adding_is fetch src dst off s u l (subst (λ (i : Insn). LeadsTo (exec i s) l u) e h) in
      let f = found_of r to a.m a.k a.j a.found a.delta (subst (λ (l : Option Op). IsNext true l r to) a.label n) in (
        address a.address off,
        a.delta,
        address_is s dst off a.address a.held,
        held_register s (number src) (number_small src) ∙ a.value,
        λ b. stand_kept to.found s u b k.length k.shapes
            ∙ (ap (λ (c : Counters). standing c (region (length s.packet) s.shapes b 8)) f.left
            ∙ added_at (length s.packet) s.shapes r.found (address a.address off) a.m a.k a.j a.delta are a.place b),
      );
  loaded = λ dst src off e a x at known. load dst src off a x at (region (length s.packet) s.shapes a 8) refl known (subst (λ (i : Insn). LeadsTo (exec i s) l u) e h);
}
  where
    k : Kept s u
    k = kept_by s (exec i s) l u (exec_keeps s i) h

    load : (dst src : Register) (off : ℤ) (a x : ℕ) → address_in (held s) src off ≡ Some a → (p : Place) → region (length s.packet) s.shapes a 8 ≡ p → standing r.found p ≡ Some x → LeadsTo (exec (Ldx Double false dst src off) s) l u → held u (number dst) ≡ Some x
    load dst src off a x at (InCounter m k j) place known h =
        let b = based s src off a at in
        let g = loading_is dst src off s u l b.0 m k j b.1 (ap (λ (a : ℕ). region (length s.packet) s.shapes a 8) b.2 ∙ place) h in
        let found : g.v ≡ r.found m k j = (subst (λ (l : Option Op). IsNext true l r to) g.label n).0 in
        held_register u (number dst) (number_small dst) ∙ (g.value ∙ (ap Some found ∙ known))
    load dst src off a x at (InPacket j) place known h = absurd (cc (known))
    load dst src off a x at (InStack j) place known h = absurd (cc (known))
    load dst src off a x at (InContext j) place known h = absurd (cc (known))
    load dst src off a x at Nowhere place known h = absurd (cc (known))

pub jump_changes : (alone : Bool) (i : Insn) (s : State) (q : ℕ) (r to : Trace) → is_jump i ≡ true → r ≡ to → Changes i (held s) (held (at_slot s q)) (numbers alone r s) (numbers alone to (at_slot s q))
jump_changes alone i s q r to jumps same = record {
  left = λ none a. by alone a;
  added = λ fetch dst src off e. absurd (true_false (sym jumps ∙ ap is_jump e));
  loaded = λ dst src off e. absurd (true_false (sym jumps ∙ ap is_jump e));
}
  where
    true_false : true ≡ false → ⊥
    true_false e = cc

    by : (alone : Bool) (a : ℕ) → numbers alone to (at_slot s q) a ≡ numbers alone r s a
    by true a = ap (λ (r : Trace). standing r.found (region (length s.packet) s.shapes a 8)) (sym same)
    by false a = refl
