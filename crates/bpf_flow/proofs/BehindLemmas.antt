-- Which registers are Unset behind an instruction, on each edge that the rule answers.
use Rattle.std.proofs.Common.{◌≡◌, ◌⊎◌, inl, inr, ℕ, ◌+◌, ◌-◌, ◌/◌, List, [], ◌∷◌, Bool, true, false, ◌&&◌, ◌||◌, not, refl, sym, ap, ◌∙◌, subst, Option, Some, None, arith, min, max, ℤ}
use Rattle.std.specs.Prelude.{if◌then◌else◌, ◌==◌, nat_le, slice_get, Ok}
use Rattle.std.proofs.lemmas.Bool.Decides.{nat_tests}
use Rattle.bpf_insn.specs.Register.{number}
use Rattle.bpf_insn.specs.Signed.{sign_extended}
use Rattle.bpf_insn.specs.Size.{size_bytes}
use Rattle.bpf_insn.specs.Arithmetic.{negated}
use Rattle.bpf_insn.specs.ByteOrder.{swapped}
use Rattle.bpf_insn.specs.Extension.{moved_extended}
use Rattle.bpf_insn.specs.declared.insn.Insn.{Insn}
use Rattle.bpf_insn.specs.declared.insn.Insn.TheVariants.{Alu, Neg, End, MovSx, Const, MapRef, Ldx, St, Stx, AddCounter, Ja, Jump, Call, Exit, Second}
use Rattle.bpf_insn.specs.declared.condition.Condition.{Condition}
use Rattle.bpf_insn.specs.declared.condition.Condition.TheVariants.{Equal, Greater, GreaterOrEqual, NotEqual, Less, LessOrEqual}
use Rattle.bpf_insn.specs.declared.operand.Operand.{Operand}
use Rattle.bpf_insn.specs.declared.size.Size.{Size}
use Rattle.bpf_insn.specs.declared.register.Register.{Register}
use Rattle.bpf_insn.specs.declared.refusal.Cause.TheVariants as cause
use Rattle.bpf_note.specs.Shape.{Shape}
use Rattle.bpf_note.specs.declared.val.Val.{Val}
use Rattle.bpf_note.specs.declared.val.Val.TheVariants.{Unset, Num, Pkt, PktEnd, Stack, Ctx, Map, MaybeValue, Value}
use Rattle.bpf_note.specs.Facts.{Facts, full, is_unset, with_reg, with_id, with_each, with_kept, forgotten, resolved}
use Rattle.bpf_flow.specs.Step.{target, is_frame}
use Rattle.bpf_flow.specs.Graph.{Leads, writes, loses}
use Rattle.bpf_flow.specs.Edges.{Edges, and_then, goes_to, sets, sets_computed, with_computed}
use Rattle.bpf_flow.specs.Alu.{exactly, constant, operand_value, any_number, any_of_width, result_of, negated_value, extended_value, swapped_value}
use Rattle.bpf_flow.specs.Memory.{reach, load_value, stores, with_store, with_bytes, is_slot, touches, adds_at}
use Rattle.bpf_flow.specs.Branch.{opposite, raise, narrowed, compared, against_end, end_against, is_null, checked, refined, refined_if, taken, passed}
use Rattle.bpf_flow.specs.Rule.{is_first_unset, at_target, after_of}
use Rattle.bpf_flow.specs.Call.{is_key, key_bytes, has_keys, with_call, looks_up, is_lookup}
use Rattle.bpf_flow.specs.declared.computed.Computed.{Computed}
use Rattle.bpf_flow.specs.declared.computed.Computed.TheVariants.{Plain, Fresh}
use Rattle.bpf_flow.specs.declared.access.Access.{Access}
use Rattle.bpf_flow.specs.declared.access.Access.TheVariants.{InPacket, OnStack, InContext, AtValue}
use Rattle.bpf_flow.proofs.AnswerLemmas.{unless_ok, and_then_ok, at_target_ok, neither, same_ok, same_some}
use Rattle.bpf_flow.proofs.SetLemmas.{KeepsSet, IsSetResult, chosen_kept, forgotten_unset, resolved_unset, mapped_kept, result_set, folded_one_set, any_number_set, any_of_width_set, load_set}

-- whether register k is Unset behind an instruction, where it was so before or wasn't
abbrev pub unset_behind : Insn → ℕ → Bool → Bool
unset_behind i k before = loses i k || (before && not (writes i k))

-- an edge of the flow graph, and what its note says of register k, where no kept value is Unset
pub record Tells (i : Insn) (pc k : ℕ) (n : Facts) (to : ℕ) (m : Facts) : Type 0 where
  pub leads : Leads i pc to
  pub unset : KeepsSet n → is_unset (m.reg k) ≡ unset_behind i k (is_unset (n.reg k))
  pub kept : KeepsSet n → KeepsSet m

abbrev pub AllTell : Insn → ℕ → ℕ → Facts → Edges → Type 0
AllTell i pc k n [] = Unit {0}
AllTell i pc k n (e ∷ es) = Tells i pc k n e.0 e.1 × AllTell i pc k n es

-- an edge to slot q
abbrev pub HasEdge : ℕ → Edges → Type 0
HasEdge q [] = ⊥
HasEdge q (e ∷ es) = (q ≡ e.0) ⊎ HasEdge q es

-- the edges are the flow graph's
pub record IsBehind (i : Insn) (pc k : ℕ) (n : Facts) (es : Edges) : Type 0 where
  pub each : AllTell i pc k n es
  pub all : (q : ℕ) → Leads i pc q → HasEdge q es

same_bool : (a b : Bool) → a ≡ b → a ≡ (b && true)
same_bool a true h = h
same_bool a false h = h

no_bool : (b : Bool) → false ≡ (b && false)
no_bool true = refl
no_bool false = refl

written_unset : (here : Bool) (v w : Val) (u : Bool) → is_unset v ≡ false → is_unset w ≡ u → is_unset (if here then v else w) ≡ (u && not here)
written_unset true v w u h g = h ∙ no_bool u
written_unset false v w u h g = same_bool (is_unset w) u g

one_behind : (i : Insn) (pc k to : ℕ) (n m : Facts) (es : Edges) → Leads i pc to → ((q : ℕ) → Leads i pc q → q ≡ to) → (KeepsSet n → is_unset (m.reg k) ≡ unset_behind i k (is_unset (n.reg k))) → (KeepsSet n → KeepsSet m) → goes_to to m ≡ Ok es → IsBehind i pc k n es
one_behind i pc k to n m es l only u kept h =
    let one : IsBehind i pc k n ((to, m) ∷ []) = record {
      each = (record { leads = l; unset = u; kept = kept }, tt);
      all = λ q l. inl (only q l);
    } in
    subst (IsBehind i pc k n) (same_ok ((to, m) ∷ []) es h) one

computed_unset : (n : Facts) (made dst k : ℕ) (c : Computed) → IsSetResult c → is_unset ((with_computed n made dst c).reg k) ≡ (is_unset (n.reg k) && not (k == dst))
computed_unset n made dst k (Plain v) h = written_unset (k == dst) v (n.reg k) (is_unset (n.reg k)) h refl
computed_unset n made dst k (Fresh top) h = written_unset (k == dst) (Pkt made 0) (forgotten made (n.reg k)) (is_unset (n.reg k)) refl (forgotten_unset made (n.reg k))

computed_kept : (n : Facts) (made dst : ℕ) (c : Computed) → KeepsSet n → KeepsSet (with_computed n made dst c)
computed_kept n made dst (Plain v) kept = kept
computed_kept n made dst (Fresh top) kept = λ j. mapped_kept (forgotten made) (n.kept j) (forgotten_unset made) (kept j)

computed_behind : (dst pc k : ℕ) (n : Facts) (c : Computed) (es : Edges) (i : Insn) → IsSetResult c →
    Leads i pc (pc + 1) → ((q : ℕ) → Leads i pc q → q ≡ pc + 1) → (is_unset (n.reg k) && not (k == dst)) ≡ unset_behind i k (is_unset (n.reg k)) → sets_computed n pc dst c ≡ Ok es → IsBehind i pc k n es
computed_behind dst pc k n c es i s l only u h =
    one_behind i pc k (pc + 1) n (with_computed n pc dst c) es l only (λ g. computed_unset n pc dst k c s ∙ u) (computed_kept n pc dst c) (unless_ok (is_frame dst) cause.FramePointer _ es h).1

sets_behind : (i : Insn) (pc k to dst : ℕ) (n : Facts) (v : Val) (es : Edges) → Leads i pc to → ((q : ℕ) → Leads i pc q → q ≡ to) → (is_unset (n.reg k) && not (k == dst)) ≡ unset_behind i k (is_unset (n.reg k)) → is_unset v ≡ false → sets n to dst v ≡ Ok es → IsBehind i pc k n es
sets_behind i pc k to dst n v es l only u s h =
    one_behind i pc k to n (with_reg n dst v) es l only (λ g. written_unset (k == dst) v (n.reg k) (is_unset (n.reg k)) s refl ∙ u) (λ g. g) (unless_ok (is_frame dst) cause.FramePointer _ es h).1

ldx_behind : (size : Size) (signed : Bool) (i : Insn) (dst pc k : ℕ) (n : Facts) (shapes : List Shape) (pointer : Val) (off : ℤ) (es : Edges) → Leads i pc (pc + 1) → ((q : ℕ) → Leads i pc q → q ≡ pc + 1) → (is_unset (n.reg k) && not (k == dst)) ≡ unset_behind i k (is_unset (n.reg k)) →
    and_then (load_value n shapes pointer off signed size) (λ v. goes_to (pc + 1) (with_reg n dst v)) ≡ Ok es → IsBehind i pc k n es
ldx_behind size signed i dst pc k n shapes pointer off es l only u h =
    let v = and_then_ok (load_value n shapes pointer off signed size) _ es h in
    one_behind i pc k (pc + 1) n (with_reg n dst v.0) es l only (λ g. written_unset (k == dst) v.0 (n.reg k) (is_unset (n.reg k)) (load_set n shapes pointer off signed size v.0 g v.1) refl ∙ u) (λ g. g) v.2

stored_reg : (n : Facts) (p : ℕ) (size : Size) (v : Val) (k : ℕ) → is_unset ((with_store n p size v).reg k) ≡ is_unset (n.reg k)
stored_reg n p size v k = by (is_slot p size)
  where
    by : (b : Bool) → is_unset ((if b then with_kept n (p / 8) v else with_bytes n p (size_bytes size)).reg k) ≡ is_unset (n.reg k)
    by true = refl
    by false = refl

stored_kept : (n : Facts) (p : ℕ) (size : Size) (v : Val) → is_unset v ≡ false → KeepsSet n → KeepsSet (with_store n p size v)
stored_kept n p size v s kept = by (is_slot p size)
  where
    by : (b : Bool) → KeepsSet (if b then with_kept n (p / 8) v else with_bytes n p (size_bytes size))
    by true = λ j. chosen_kept (j == p / 8) (Some v) (n.kept j) s (kept j)
    by false = λ j. chosen_kept (touches p (size_bytes size) j) None (n.kept j) tt (kept j)

stores_behind : (i : Insn) (pc k : ℕ) (n : Facts) (size : Size) (v : Val) (a : Access) (es : Edges) → Leads i pc (pc + 1) → ((q : ℕ) → Leads i pc q → q ≡ pc + 1) → ((u : Bool) → u ≡ unset_behind i k u) → is_unset v ≡ false → stores n (pc + 1) size v a ≡ Ok es → IsBehind i pc k n es
stores_behind i pc k n size v InPacket es l only u s h = one_behind i pc k (pc + 1) n n es l only (λ g. u (is_unset (n.reg k))) (λ g. g) h
stores_behind i pc k n size v (OnStack p) es l only u s h = one_behind i pc k (pc + 1) n (with_store n p size v) es l only (λ g. stored_reg n p size v k ∙ u (is_unset (n.reg k))) (stored_kept n p size v s) h
stores_behind i pc k n size v (InContext o) es l only u s h = absurd (cc)
stores_behind i pc k n size v (AtValue m o) es l only u s h = absurd (cc)

-- what a jump teaches sets and loses no register
record IsLearnt (n m : Facts) : Type 0 where
  pub unset : (k : ℕ) → is_unset (m.reg k) ≡ is_unset (n.reg k)
  pub kept : KeepsSet n → KeepsSet m

learnt_nothing : (n : Facts) → IsLearnt n n
learnt_nothing n = record { unset = λ k. refl; kept = λ h. h }

learnt_raise : (n : Facts) (id s : ℕ) → IsLearnt n (raise n id s)
learnt_raise n id s = record { unset = λ k. refl; kept = λ h. h }

learnt_if_so : (b : Bool) (n m o : Facts) → IsLearnt n m → IsLearnt n o → IsLearnt n (if b then m else o)
learnt_if_so true n m o h g = h
learnt_if_so false n m o h g = g

put_unset : (n : Facts) (k j lo hi : ℕ) (here : Bool) → here ≡ (j == k) → is_unset (n.reg k) ≡ false → is_unset (if here then Num lo hi else n.reg j) ≡ is_unset (n.reg j)
put_unset n k j lo hi true e h = let same : j ≡ k = grind (arith, nat_tests) in sym (subst (λ (k : ℕ). is_unset (n.reg k) ≡ false) (sym same) h)
put_unset n k j lo hi false e h = refl

module _ (n : Facts) (k : ℕ) (set : is_unset (n.reg k) ≡ false) where
  learnt_narrowed : (lo hi : ℕ) → IsLearnt n (narrowed n k lo hi)
  learnt_narrowed lo hi = learnt_if_so (nat_le lo hi) n (with_reg n k (Num lo hi)) n (record { unset = λ j. put_unset n k j lo hi (j == k) refl set; kept = λ h. h }) (learnt_nothing n)

  learnt_compared : (cond : Condition) (lo hi c : ℕ) → IsLearnt n (compared cond n k lo hi c)
  learnt_compared Equal lo hi c = learnt_narrowed (max lo c) (min hi c)
  learnt_compared NotEqual lo hi c =
      learnt_if_so (c == lo) n (narrowed n k (lo + 1) hi) (if c == hi then narrowed n k lo (hi - 1) else n) (learnt_narrowed (lo + 1) hi)
      (learnt_if_so (c == hi) n (narrowed n k lo (hi - 1)) n (learnt_narrowed lo (hi - 1)) (learnt_nothing n))
  learnt_compared Greater lo hi c = learnt_narrowed (max lo (c + 1)) hi
  learnt_compared GreaterOrEqual lo hi c = learnt_narrowed (max lo c) hi
  learnt_compared Less lo hi c = learnt_if_so (c == 0) n n (narrowed n k lo (min hi (c - 1))) (learnt_nothing n) (learnt_narrowed lo (min hi (c - 1)))
  learnt_compared LessOrEqual lo hi c = learnt_narrowed lo (min hi c)
  learnt_compared cond lo hi c = learnt_nothing n

learnt_against : (cond : Condition) (n : Facts) (id off : ℕ) → IsLearnt n (against_end cond n id off)
learnt_against LessOrEqual n id off = learnt_raise n id off
learnt_against Less n id off = learnt_raise n id (off + 1)
learnt_against cond n id off = learnt_nothing n

learnt_end : (cond : Condition) (n : Facts) (id off : ℕ) → IsLearnt n (end_against cond n id off)
learnt_end GreaterOrEqual n id off = learnt_raise n id off
learnt_end Greater n id off = learnt_raise n id (off + 1)
learnt_end cond n id off = learnt_nothing n

learnt_resolved : (n : Facts) (id : ℕ) (w : Val) → is_unset w ≡ false → IsLearnt n (with_each n (resolved id w))
learnt_resolved n id w h = record {
  unset = λ k. resolved_unset id w (n.reg k) h;
  kept = λ kept j. mapped_kept (resolved id w) (n.kept j) (λ v. resolved_unset id w v h) (kept j);
}

learnt_checked : (cond : Condition) (n : Facts) (m id : ℕ) → IsLearnt n (checked cond n m id)
learnt_checked Equal n m id = learnt_resolved n id (Num 0 0) refl
learnt_checked NotEqual n m id = learnt_resolved n id (Value m) refl
learnt_checked cond n m id = learnt_nothing n

learnt_is : (cond : Condition) (n : Facts) (k : ℕ) (operand : Operand) (v w : Val) → n.reg k ≡ v → IsLearnt n (refined cond n k operand v w)
learnt_is cond n k operand (Pkt id off) PktEnd e = learnt_against cond n id off
learnt_is cond n k operand PktEnd (Pkt id off) e = learnt_end cond n id off
learnt_is cond n k operand (Num lo hi) (Num c d) e =
    learnt_if_so (c == d) n (compared cond n k lo hi c) n (learnt_compared n k (ap is_unset e) cond lo hi c) (learnt_nothing n)
learnt_is cond n k operand (MaybeValue m id) w e = learnt_if_so (is_null operand) n (checked cond n m id) n (learnt_checked cond n m id) (learnt_nothing n)
learnt_is cond n k operand v w e = learnt_nothing n

learnt_opposite : (o : Option Condition) (n : Facts) (k : ℕ) (operand : Operand) (v w : Val) → n.reg k ≡ v → IsLearnt n (refined_if o n k operand v w)
learnt_opposite None n k operand v w e = learnt_nothing n
learnt_opposite (Some cond) n k operand v w e = learnt_is cond n k operand v w e

learnt_taken : (cond : Condition) (wide : Bool) (n : Facts) (k : ℕ) (operand : Operand) (w : Val) → IsLearnt n (taken cond wide n k operand (n.reg k) w)
learnt_taken cond false n k operand w = learnt_nothing n
learnt_taken cond true n k operand w = learnt_is cond n k operand (n.reg k) w refl

learnt_passed : (cond : Condition) (wide : Bool) (n : Facts) (k : ℕ) (operand : Operand) (w : Val) → IsLearnt n (passed cond wide n k operand (n.reg k) w)
learnt_passed cond false n k operand w = learnt_nothing n
learnt_passed cond true n k operand w = learnt_opposite (opposite cond) n k operand (n.reg k) w refl

jump_behind : (cond : Condition) (wide : Bool) (dst : Register) (src : Operand) (off : ℤ) (pc k : ℕ) (n : Facts) (es : Edges) →
    at_target (target pc off) (λ q.
    (pc + 1, passed cond wide n (number dst) src (n.reg (number dst)) (operand_value n src))
    ∷ (q, taken cond wide n (number dst) src (n.reg (number dst)) (operand_value n src)) ∷ []) ≡ Ok es → IsBehind (Jump cond wide dst src off) pc k n es
jump_behind cond wide dst src off pc k n es h =
    let t = at_target_ok (target pc off) _ es h in
    let p = learnt_passed cond wide n (number dst) src (operand_value n src) in
    let q = learnt_taken cond wide n (number dst) src (operand_value n src) in
    let both : IsBehind (Jump cond wide dst src off) pc k n
    ((pc + 1, passed cond wide n (number dst) src (n.reg (number dst)) (operand_value n src))
    ∷ (t.0, taken cond wide n (number dst) src (n.reg (number dst)) (operand_value n src)) ∷ []) = record {
      each = (
        record { leads = inl refl; unset = λ g. same_bool _ (is_unset (n.reg k)) (p.unset k); kept = p.kept },
        (record { leads = inr t.1; unset = λ g. same_bool _ (is_unset (n.reg k)) (q.unset k); kept = q.kept }, tt),
      );
      all = λ s l. elim l [ inl e ↦ inl e | inr e ↦ inr (inl (same_some s t.0 (sym e ∙ t.1))) ];
    } in
    subst (IsBehind (Jump cond wide dst src off) pc k n) t.2 both

ja_behind : (wide_offset : Bool) (to : ℤ) (pc k : ℕ) (n : Facts) (es : Edges) → at_target (target pc to) (λ q. (q, n) ∷ []) ≡ Ok es → IsBehind (Ja wide_offset to) pc k n es
ja_behind wide_offset to pc k n es h =
    let t = at_target_ok (target pc to) _ es h in
    let one : IsBehind (Ja wide_offset to) pc k n ((t.0, n) ∷ []) = record {
      each = (record { leads = t.1; unset = λ g. same_bool _ (is_unset (n.reg k)) refl; kept = λ g. g }, tt);
      all = λ q l. inl (same_some q t.0 (sym l ∙ t.1));
    } in
    subst (IsBehind (Ja wide_offset to) pc k n) t.2 one

-- r0 is written by a call, r1 to r5 are lost
called_by : (first low : Bool) (m pc : ℕ) (v : Val) (u : Bool) → is_unset v ≡ u → is_unset (if first then MaybeValue m pc else if low then Unset else v) ≡ ((not first && low) || (u && not first))
called_by true low m pc v u e = no_bool u
called_by false true m pc v u e = refl
called_by false false m pc v u e = same_bool (is_unset v) u e

above_none : (k : ℕ) → not (k == 0) ≡ nat_le 1 k
above_none k = grind (arith, nat_tests)

call_unset : (n : Facts) (m pc k : ℕ) → is_unset ((with_call (with_id n pc 0) m pc).reg k) ≡ ((nat_le 1 k && nat_le k 5) || (is_unset (n.reg k) && not (k == 0)))
call_unset n m pc k =
    called_by (k == 0) (nat_le k 5) m pc (forgotten pc (n.reg k)) (is_unset (n.reg k)) (forgotten_unset pc (n.reg k))
    ∙ ap (λ (b : Bool). (b && nat_le k 5) || (is_unset (n.reg k) && not (k == 0))) (above_none k)

call_behind : (shapes : List Shape) (helper : ℤ) (pc k : ℕ) (n : Facts) (v key : Val) (es : Edges) → looks_up shapes n pc v key ≡ Ok es → IsBehind (Call helper) pc k n es
call_behind shapes helper pc k n (Map m) key es h =
    one_behind (Call helper) pc k (pc + 1) n (with_call (with_id n pc 0) m pc) es refl (λ q l. l) (λ g. call_unset n m pc k)
    (λ g j. mapped_kept (forgotten pc) (n.kept j) (forgotten_unset pc) (g j))
    (unless_ok (not (has_keys (slice_get shapes m) && is_key n (key_bytes (slice_get shapes m)) key)) cause.Argument _ es h).1
call_behind shapes helper pc k n Unset key es h = absurd (cc)
call_behind shapes helper pc k n (Num lo hi) key es h = absurd (cc)
call_behind shapes helper pc k n (Pkt id off) key es h = absurd (cc)
call_behind shapes helper pc k n PktEnd key es h = absurd (cc)
call_behind shapes helper pc k n (Stack off) key es h = absurd (cc)
call_behind shapes helper pc k n Ctx key es h = absurd (cc)
call_behind shapes helper pc k n (MaybeValue m id) key es h = absurd (cc)
call_behind shapes helper pc k n (Value m) key es h = absurd (cc)

-- the edges that the rule answers are the flow graph's, and behind each a register is Unset where it was before and isn't
-- written, or where it is lost
pub after_behind : (i : Insn) (pc k : ℕ) (n : Facts) (shapes : List Shape) (es : Edges) → after_of i pc n shapes ≡ Ok es → IsBehind i pc k n es
after_behind (Alu op wide dst src) pc k n shapes es h =
    let e = unless_ok _ cause.Unset _ es h in
    let set = neither (is_unset (operand_value n src)) (is_first_unset op (n.reg (number dst))) e.0 in
    let c = result_of n op wide (n.reg (number dst)) (operand_value n src) in
    computed_behind (number dst) pc k n c es (Alu op wide dst src) (result_set n op wide (n.reg (number dst)) (operand_value n src) set.0) refl (λ q l. l) refl e.1
after_behind (Neg wide dst) pc k n shapes es h =
    let v = negated_value wide (n.reg (number dst)) in
    sets_behind (Neg wide dst) pc k (pc + 1) (number dst) n v es refl (λ q l. l) refl
    (folded_one_set (constant (n.reg (number dst))) (negated wide) (any_number wide) (any_number_set wide)) (unless_ok _ cause.Unset _ es h).1
after_behind (End kind width dst) pc k n shapes es h =
    let v = swapped_value kind width (n.reg (number dst)) in
    sets_behind (End kind width dst) pc k (pc + 1) (number dst) n v es refl (λ q l. l) refl
    (folded_one_set (constant (n.reg (number dst))) (swapped kind width) (any_of_width width) (any_of_width_set width)) (unless_ok _ cause.Unset _ es h).1
after_behind (MovSx wide bits dst src) pc k n shapes es h =
    let v = extended_value wide bits (n.reg (number src)) in
    sets_behind (MovSx wide bits dst src) pc k (pc + 1) (number dst) n v es refl (λ q l. l) refl
    (folded_one_set (constant (n.reg (number src))) (moved_extended wide bits) (any_number wide) (any_number_set wide)) (unless_ok _ cause.Unset _ es h).1
after_behind (Const dst value) pc k n shapes es h = sets_behind (Const dst value) pc k (pc + 2) (number dst) n (exactly value) es refl (λ q l. l) refl refl h
after_behind (MapRef dst m) pc k n shapes es h = sets_behind (MapRef dst m) pc k (pc + 2) (number dst) n (Map m) es refl (λ q l. l) refl refl h
after_behind (Ldx size signed dst src off) pc k n shapes es h =
    let f = unless_ok (is_frame (number dst)) cause.FramePointer _ es (unless_ok _ cause.Unset _ es h).1 in
    ldx_behind size signed (Ldx size signed dst src off) (number dst) pc k n shapes (n.reg (number src)) off es refl (λ q l. l) refl f.1
after_behind (St size dst off imm) pc k n shapes es h =
    let a = and_then_ok (reach n (n.reg (number dst)) off (size_bytes size)) _ es (unless_ok _ cause.Unset _ es h).1 in
    stores_behind (St size dst off imm) pc k n size (exactly (sign_extended imm)) a.0 es refl (λ q l. l) (λ u. same_bool u u refl) refl a.2
after_behind (Stx size dst src off) pc k n shapes es h =
    let e = unless_ok _ cause.Unset _ es h in
    let set = neither (is_unset (n.reg (number src))) (is_unset (n.reg (number dst))) e.0 in
    let a = and_then_ok (reach n (n.reg (number dst)) off (size_bytes size)) _ es e.1 in
    stores_behind (Stx size dst src off) pc k n size (n.reg (number src)) a.0 es refl (λ q l. l) (λ u. same_bool u u refl) set.0 a.2
after_behind (AddCounter true dst src off) pc k n shapes es h =
    let f = unless_ok (true && is_frame (number src)) cause.FramePointer _ es (unless_ok _ cause.Unset _ es h).1 in
    let u = and_then_ok (adds_at shapes (n.reg (number dst)) off) _ es f.1 in
    one_behind (AddCounter true dst src off) pc k (pc + 1) n (with_reg n (number src) full) es refl (λ q l. l) (λ g. written_unset (k == number src) full (n.reg k) (is_unset (n.reg k)) refl refl) (λ g. g) u.2
after_behind (AddCounter false dst src off) pc k n shapes es h =
    let f = unless_ok (false && is_frame (number src)) cause.FramePointer _ es (unless_ok _ cause.Unset _ es h).1 in
    let u = and_then_ok (adds_at shapes (n.reg (number dst)) off) _ es f.1 in
    one_behind (AddCounter false dst src off) pc k (pc + 1) n n es refl (λ q l. l) (λ g. same_bool (is_unset (n.reg k)) (is_unset (n.reg k)) refl) (λ g. g) u.2
after_behind (Ja wide_offset to) pc k n shapes es h = ja_behind wide_offset to pc k n es h
after_behind (Jump cond wide dst src off) pc k n shapes es h = jump_behind cond wide dst src off pc k n es (unless_ok _ cause.Unset _ es h).1
after_behind (Call helper) pc k n shapes es h =
    call_behind shapes helper pc k n (n.reg 1) (n.reg 2) es (unless_ok _ cause.Unset _ es (unless_ok (not (is_lookup helper)) cause.Helper _ es h).1).1
after_behind Exit pc k n shapes es h =
    let none : Edges = [] in
    let same = same_ok none es (unless_ok (is_unset (n.reg 0)) cause.Unset (Ok none) es h).1 in
    let nothing : IsBehind Exit pc k n none = record { each = tt; all = λ q l. absurd l } in
    subst (IsBehind Exit pc k n) same nothing
after_behind Second pc k n shapes es h = absurd (cc)
