-- The rule's first two causes: a register that is read is Unset; the frame pointer is written.
use Rattle.std.proofs.Common.{◌≡◌, ◌⊎◌, inl, inr, ℕ, ◌+◌, List, [], ◌∷◌, Bool, true, false, ◌&&◌, ◌||◌, not, refl, sym, ap, ◌∙◌, subst, Option, Some, None, arith, ℤ, pos, ◌+ℤ◌}
use Rattle.std.specs.Prelude.{◌↔◌, if◌then◌else◌, ◌==◌, Result, Ok, Err, slice_get}
use Rattle.std.proofs.lemmas.Bool.Decides.{nat_tests}
use Rattle.bpf_insn.specs.Register.{number}
use Rattle.bpf_insn.specs.Signed.{sign_extended}
use Rattle.bpf_insn.specs.Size.{size_bytes}
use Rattle.bpf_insn.specs.declared.insn.Insn.{Insn}
use Rattle.bpf_insn.specs.declared.insn.Insn.TheVariants.{Alu, Neg, End, MovSx, Const, MapRef, Ldx, St, Stx, AddCounter, Ja, Jump, Call, Exit, Second}
use Rattle.bpf_insn.specs.declared.alu_op.AluOp.{AluOp}
use Rattle.bpf_insn.specs.declared.alu_op.AluOp.TheVariants.{Mov}
use Rattle.bpf_insn.specs.declared.operand.Operand.{Operand}
use Rattle.bpf_insn.specs.declared.operand.Operand.TheVariants.{Register, Immediate}
use Rattle.bpf_insn.specs.declared.size.Size.{Size}
use Rattle.bpf_insn.specs.declared.register.Register as register
use Rattle.bpf_insn.specs.declared.refusal.Cause.{Cause}
use Rattle.bpf_insn.specs.declared.refusal.Cause.TheVariants as cause
use Rattle.bpf_note.specs.Shape.{Shape}
use Rattle.bpf_note.specs.declared.val.Val.{Val}
use Rattle.bpf_note.specs.declared.val.Val.TheVariants.{Unset, Num, Pkt, PktEnd, Stack, Ctx, Map, MaybeValue, Value}
use Rattle.bpf_note.specs.Facts.{Facts, full, is_unset, with_reg, with_id}
use Rattle.bpf_flow.specs.Step.{target, is_frame}
use Rattle.bpf_flow.specs.Graph.{reads, writes, is_operand}
use Rattle.bpf_flow.specs.Edges.{Edges, Answer, unless, and_then, goes_to, with_computed}
use Rattle.bpf_flow.specs.Alu.{exactly, operand_value, result_of, negated_value, extended_value, swapped_value}
use Rattle.bpf_flow.specs.Memory.{place_in, packet_place, in_packet, on_stack, reach, is_word, is_field, is_double, is_counter, all_set, any_loaded, stack_value, field_value, loaded_value, is_data, load_value, stores, adds_at}
use Rattle.bpf_flow.specs.Branch.{taken, passed}
use Rattle.bpf_flow.specs.Rule.{is_first_unset, at_target, fetched, after_of}
use Rattle.bpf_flow.specs.Call.{is_key, key_bytes, has_keys, with_call, looks_up, is_lookup}
use Rattle.bpf_flow.specs.Reading.{IsKnownCall, ReadsUnset}
use Rattle.bpf_flow.specs.declared.access.Access.{Access}
use Rattle.bpf_flow.specs.declared.access.Access.TheVariants.{InPacket, OnStack, InContext, AtValue}
use Rattle.bpf_flow.proofs.AnswerLemmas.{neither}

-- a cause other than these two
abbrev other : Cause → Bool
other cause.Unset = false
other cause.FramePointer = false
other c = true

abbrev Others : {A : Type 0} → Result A Cause → Type 0
Others (Ok x) = Unit {0}
Others (Err c) = other c ≡ true

chosen_others : {A : Type 0} (b : Bool) (r s : Result A Cause) → Others r → Others s → Others (if b then r else s)
chosen_others true r s h g = h
chosen_others false r s h g = g

then_others : {A B : Type 0} (r : Result A Cause) (go : A → Result B Cause) → Others r → ((x : A) → Others (go x)) → Others (and_then r go)
then_others (Ok x) go h g = g x
then_others (Err c) go h g = h

packet_others : (safe : Option ℕ) (at : ℤ) (z : ℕ) → Others (in_packet safe at z)
packet_others None at z = refl
packet_others (Some b) at z = by (place_in at z b)
  where
    by : (o : Option ℕ) → Others (packet_place o)
    by None = refl
    by (Some p) = tt

stack_others : (o : Option ℕ) → Others (on_stack o)
stack_others None = refl
stack_others (Some p) = tt

reach_others : (n : Facts) (v : Val) (o : ℤ) (z : ℕ) → is_unset v ≡ false → Others (reach n v o z)
reach_others n Unset o z h = absurd (cc)
reach_others n (Num lo hi) o z h = refl
reach_others n PktEnd o z h = refl
reach_others n (Pkt id off) o z h = packet_others (n.safe id) (pos off +ℤ o) z
reach_others n (Stack off) o z h = stack_others (place_in (pos 512 +ℤ off +ℤ o) z 512)
reach_others n Ctx o z h = tt
reach_others n (MaybeValue m id) o z h = refl
reach_others n (Value m) o z h = tt
reach_others n (Map m) o z h = refl

loaded_others : (n : Facts) (shapes : List Shape) (signed : Bool) (size : Size) (a : Access) → Others (loaded_value n shapes signed size a)
loaded_others n shapes signed size InPacket = tt
loaded_others n shapes signed size (OnStack p) = chosen_others (all_set n p (size_bytes size)) (Ok (stack_value n p signed size)) (Err cause.Stack) tt refl
loaded_others n shapes true size (InContext o) = refl
loaded_others n shapes false size (InContext o) = chosen_others (is_word size && is_field o) (Ok (field_value o)) (Err cause.Context) tt refl
loaded_others n shapes true size (AtValue m o) = refl
loaded_others n shapes false size (AtValue m o) = chosen_others (is_double size && is_counter (slice_get shapes m) o) (Ok full) (Err cause.MapAccess) tt refl

load_others : (n : Facts) (shapes : List Shape) (v : Val) (o : ℤ) (signed : Bool) (size : Size) → is_unset v ≡ false → Others (load_value n shapes v o signed size)
load_others n shapes v o signed size h = chosen_others (is_data shapes v o (size_bytes size)) (Ok (any_loaded signed size)) (and_then (reach n v o (size_bytes size)) (loaded_value n shapes signed size)) tt
    (then_others (reach n v o (size_bytes size)) (loaded_value n shapes signed size) (reach_others n v o (size_bytes size) h) (loaded_others n shapes signed size))

stores_others : (n : Facts) (pc : ℕ) (size : Size) (v : Val) (a : Access) → Others (stores n pc size v a)
stores_others n pc size v InPacket = tt
stores_others n pc size v (OnStack p) = tt
stores_others n pc size v (InContext o) = refl
stores_others n pc size v (AtValue m o) = refl

adds_others : (shapes : List Shape) (v : Val) (o : ℤ) → is_unset v ≡ false → Others (adds_at shapes v o)
adds_others shapes Unset o h = absurd (cc)
adds_others shapes (Num lo hi) o h = refl
adds_others shapes PktEnd o h = refl
adds_others shapes (MaybeValue m id) o h = refl
adds_others shapes (Value m) o h = chosen_others (is_counter (slice_get shapes m) o) (Ok tt) (Err cause.MapAccess) tt refl
adds_others shapes (Pkt id off) o h = refl
adds_others shapes (Stack off) o h = refl
adds_others shapes Ctx o h = refl
adds_others shapes (Map m) o h = refl

target_others : (o : Option ℕ) (edges : ℕ → Edges) → Others (at_target o edges)
target_others None edges = refl
target_others (Some q) edges = tt

looks_up_others : (shapes : List Shape) (n : Facts) (pc : ℕ) (v key : Val) → Others (looks_up shapes n pc v key)
looks_up_others shapes n pc (Map m) key = chosen_others (not (has_keys (slice_get shapes m) && is_key n (key_bytes (slice_get shapes m)) key)) (Err cause.Argument) (goes_to (pc + 1) (with_call (with_id n pc 0) m pc)) refl tt
looks_up_others shapes n pc Unset key = refl
looks_up_others shapes n pc (Num lo hi) key = refl
looks_up_others shapes n pc (Pkt id off) key = refl
looks_up_others shapes n pc PktEnd key = refl
looks_up_others shapes n pc (Stack off) key = refl
looks_up_others shapes n pc Ctx key = refl
looks_up_others shapes n pc (MaybeValue m id) key = refl
looks_up_others shapes n pc (Value m) key = refl

-- the test u holds exactly where one of the registers r is Unset
record IsTestOf (n : Facts) (r : ℕ → Bool) (u : Bool) : Type 0 where
  found : u ≡ true → (k : ℕ) × (r k ≡ true) × (is_unset (n.reg k) ≡ true)
  back : (k : ℕ) → r k ≡ true → is_unset (n.reg k) ≡ true → u ≡ true

same_number : (k : ℕ) → (k == k) ≡ true
same_number k = grind (arith, nat_tests)

equal_numbers : (k a : ℕ) → (k == a) ≡ true → k ≡ a
equal_numbers k a h = grind (arith, nat_tests)

either_true : (a b : Bool) → (a || b) ≡ true → (a ≡ true) ⊎ (b ≡ true)
either_true true b h = inl refl
either_true false b h = inr h

left_true : (a b : Bool) → a ≡ true → (a || b) ≡ true
left_true true b h = refl
left_true false b h = absurd (cc)

right_true : (a b : Bool) → b ≡ true → (a || b) ≡ true
right_true true b h = refl
right_true false b h = h

test_none : (n : Facts) → IsTestOf n (λ k. false) false
test_none n = record { found = λ h. absurd (cc); back = λ k h g. absurd (cc) }

test_register : (n : Facts) (a : ℕ) → IsTestOf n (λ k. k == a) (is_unset (n.reg a))
test_register n a = record {
  found = λ h. (a, same_number a, h);
  back = λ k h g. subst (λ (k : ℕ). is_unset (n.reg k) ≡ true) (equal_numbers k a h) g;
}

test_operand : (n : Facts) (src : Operand) → IsTestOf n (is_operand src) (is_unset (operand_value n src))
test_operand n (Register r) = test_register n (number r)
test_operand n (Immediate i) = test_none n

test_either : (n : Facts) (r s : ℕ → Bool) (u v : Bool) → IsTestOf n r u → IsTestOf n s v → IsTestOf n (λ k. r k || s k) (u || v)
test_either n r s u v a b = record {
  found = λ h. elim (either_true u v h) [
    | inl x ↦ let f = a.found x in (f.0, left_true (r f.0) (s f.0) f.1, f.2)
    | inr x ↦ let f = b.found x in (f.0, right_true (r f.0) (s f.0) f.1, f.2)
  ];
  back = λ k h g. elim (either_true (r k) (s k) h) [ inl x ↦ left_true u v (a.back k x g) | inr x ↦ right_true u v (b.back k x g) ];
}

or_swapped : (a b : Bool) → (a || b) ≡ (b || a)
or_swapped true true = refl
or_swapped true false = refl
or_swapped false true = refl
or_swapped false false = refl

test_swapped : (n : Facts) (r : ℕ → Bool) (u v : Bool) → IsTestOf n r (u || v) → IsTestOf n r (v || u)
test_swapped n r u v h = subst (IsTestOf n r) (or_swapped u v) h

test_both : (n : Facts) (a : ℕ) (s : ℕ → Bool) (v : Bool) → IsTestOf n s v → IsTestOf n (λ k. (k == a) || s k) (v || is_unset (n.reg a))
test_both n a s v h = test_swapped n (λ k. (k == a) || s k) (is_unset (n.reg a)) v (test_either n (λ k. k == a) s (is_unset (n.reg a)) v (test_register n a) h)

test_alone : (n : Facts) (r : ℕ → Bool) (u : Bool) → IsTestOf n r u → IsTestOf n r (u || false)
test_alone n r u h = test_swapped n r false u h

alu_test : (n : Facts) (op : AluOp) (wide : Bool) (dst : register.Register) (src : Operand) → IsTestOf n (reads (Alu op wide dst src)) (is_unset (operand_value n src) || is_first_unset op (n.reg (number dst)))
alu_test n Mov wide dst src = test_alone n (is_operand src) (is_unset (operand_value n src)) (test_operand n src)
alu_test n op wide dst src = test_both n (number dst) (is_operand src) (is_unset (operand_value n src)) (test_operand n src)

-- the rule's answer: first a test for Unset registers, then one for the frame pointer, then other causes
record Form (i : Insn) (pc : ℕ) (n : Facts) (shapes : List Shape) : Type 0 where
  unset : Bool
  frame : Bool
  rest : Answer
  is : after_of i pc n shapes ≡ unless unset cause.Unset (unless frame cause.FramePointer rest)
  others : unset ≡ false → Others rest
  found : unset ≡ true → ReadsUnset i n
  back : ReadsUnset i n → unset ≡ true
  writes_frame : frame ≡ writes i 10

frame_same : (k : ℕ) → is_frame k ≡ (10 == k)
frame_same k = grind (arith, nat_tests)

-- an instruction other than a call
plain_form : (i : Insn) (pc : ℕ) (n : Facts) (shapes : List Shape) (unset frame : Bool) (rest : Answer) → IsKnownCall i → IsTestOf n (reads i) unset → frame ≡ writes i 10 →
    after_of i pc n shapes ≡ unless unset cause.Unset (unless frame cause.FramePointer rest) → (unset ≡ false → Others rest) → Form i pc n shapes
plain_form i pc n shapes unset frame rest known t w is others = record {
  unset = unset;
  frame = frame;
  rest = rest;
  is = is;
  others = others;
  found = λ h. let f = t.found h in record { known = known; register = f.0; read = f.1; unset = f.2 };
  back = λ r. t.back r.register r.read r.unset;
  writes_frame = w;
}

call_form : (helper : ℤ) (pc : ℕ) (n : Facts) (shapes : List Shape) (known : Bool) → is_lookup helper ≡ known → Form (Call helper) pc n shapes
call_form helper pc n shapes true e =
    let unset = is_unset (n.reg 1) || is_unset (n.reg 2) in
    let t = test_either n (λ k. k == 1) (λ k. k == 2) (is_unset (n.reg 1)) (is_unset (n.reg 2)) (test_register n 1) (test_register n 2) in
    plain_form (Call helper) pc n shapes unset false (looks_up shapes n pc (n.reg 1) (n.reg 2)) e t refl
    (ap (λ (b : Bool). unless (not b) cause.Helper (unless unset cause.Unset (looks_up shapes n pc (n.reg 1) (n.reg 2)))) e)
    (λ h. looks_up_others shapes n pc (n.reg 1) (n.reg 2))
call_form helper pc n shapes false e = record {
  unset = false;
  frame = false;
  rest = Err cause.Helper;
  is = ap (λ (b : Bool). unless (not b) cause.Helper (unless (is_unset (n.reg 1) || is_unset (n.reg 2)) cause.Unset (looks_up shapes n pc (n.reg 1) (n.reg 2)))) e;
  others = λ h. refl;
  found = λ h. absurd (cc);
  back = λ r. sym e ∙ r.known;
  writes_frame = refl;
}

form : (i : Insn) (pc : ℕ) (n : Facts) (shapes : List Shape) → Form i pc n shapes
form (Alu op wide dst src) pc n shapes =
    plain_form (Alu op wide dst src) pc n shapes (is_unset (operand_value n src) || is_first_unset op (n.reg (number dst))) (is_frame (number dst))
    (goes_to (pc + 1) (with_computed n pc (number dst) (result_of n op wide (n.reg (number dst)) (operand_value n src)))) tt (alu_test n op wide dst src) (frame_same (number dst)) refl (λ h. tt)
form (Neg wide dst) pc n shapes =
    plain_form (Neg wide dst) pc n shapes (is_unset (n.reg (number dst))) (is_frame (number dst))
    (goes_to (pc + 1) (with_reg n (number dst) (negated_value wide (n.reg (number dst))))) tt (test_register n (number dst)) (frame_same (number dst)) refl (λ h. tt)
form (End kind width dst) pc n shapes =
    plain_form (End kind width dst) pc n shapes (is_unset (n.reg (number dst))) (is_frame (number dst))
    (goes_to (pc + 1) (with_reg n (number dst) (swapped_value kind width (n.reg (number dst))))) tt (test_register n (number dst)) (frame_same (number dst)) refl (λ h. tt)
form (MovSx wide bits dst src) pc n shapes =
    plain_form (MovSx wide bits dst src) pc n shapes (is_unset (n.reg (number src))) (is_frame (number dst))
    (goes_to (pc + 1) (with_reg n (number dst) (extended_value wide bits (n.reg (number src))))) tt (test_register n (number src)) (frame_same (number dst)) refl (λ h. tt)
form (Const dst value) pc n shapes =
    plain_form (Const dst value) pc n shapes false (is_frame (number dst)) (goes_to (pc + 2) (with_reg n (number dst) (exactly value))) tt (test_none n) (frame_same (number dst)) refl (λ h. tt)
form (MapRef dst m) pc n shapes =
    plain_form (MapRef dst m) pc n shapes false (is_frame (number dst)) (goes_to (pc + 2) (with_reg n (number dst) (Map m))) tt (test_none n) (frame_same (number dst)) refl (λ h. tt)
form (Ldx size signed dst src off) pc n shapes =
    plain_form (Ldx size signed dst src off) pc n shapes (is_unset (n.reg (number src))) (is_frame (number dst))
    (and_then (load_value n shapes (n.reg (number src)) off signed size) (λ v. goes_to (pc + 1) (with_reg n (number dst) v)))
    tt (test_register n (number src)) (frame_same (number dst)) refl
    (λ h. then_others (load_value n shapes (n.reg (number src)) off signed size) _ (load_others n shapes (n.reg (number src)) off signed size h) (λ v. tt))
form (St size dst off imm) pc n shapes =
    plain_form (St size dst off imm) pc n shapes (is_unset (n.reg (number dst))) false
    (and_then (reach n (n.reg (number dst)) off (size_bytes size)) (stores n (pc + 1) size (exactly (sign_extended imm))))
    tt (test_register n (number dst)) refl refl
    (λ h. then_others (reach n (n.reg (number dst)) off (size_bytes size)) _ (reach_others n (n.reg (number dst)) off (size_bytes size) h) (stores_others n (pc + 1) size (exactly (sign_extended imm))))
form (Stx size dst src off) pc n shapes =
    plain_form (Stx size dst src off) pc n shapes (is_unset (n.reg (number src)) || is_unset (n.reg (number dst))) false
    (and_then (reach n (n.reg (number dst)) off (size_bytes size)) (stores n (pc + 1) size (n.reg (number src))))
    tt (test_both n (number dst) (λ k. k == number src) (is_unset (n.reg (number src))) (test_register n (number src))) refl refl
    (λ h. then_others (reach n (n.reg (number dst)) off (size_bytes size)) _
    (reach_others n (n.reg (number dst)) off (size_bytes size) (neither (is_unset (n.reg (number src))) (is_unset (n.reg (number dst))) h).1) (stores_others n (pc + 1) size (n.reg (number src))))
form (AddCounter fetch dst src off) pc n shapes =
    plain_form (AddCounter fetch dst src off) pc n shapes (is_unset (n.reg (number src)) || is_unset (n.reg (number dst))) (fetch && is_frame (number src))
    (and_then (adds_at shapes (n.reg (number dst)) off) (λ u. goes_to (pc + 1) (fetched fetch n (number src))))
    tt (test_both n (number dst) (λ k. k == number src) (is_unset (n.reg (number src))) (test_register n (number src))) (ap (λ (b : Bool). fetch && b) (frame_same (number src))) refl
    (λ h. then_others (adds_at shapes (n.reg (number dst)) off) _ (adds_others shapes (n.reg (number dst)) off (neither (is_unset (n.reg (number src))) (is_unset (n.reg (number dst))) h).1) (λ u. tt))
form (Ja wide_offset to) pc n shapes =
    plain_form (Ja wide_offset to) pc n shapes false false (at_target (target pc to) (λ q. (q, n) ∷ [])) tt (test_none n) refl refl (λ h. target_others (target pc to) (λ q. (q, n) ∷ []))
form (Jump cond wide dst src off) pc n shapes =
    let unset = is_unset (n.reg (number dst)) || is_unset (operand_value n src) in
    let t = test_either n (λ k. k == number dst) (is_operand src) (is_unset (n.reg (number dst))) (is_unset (operand_value n src)) (test_register n (number dst)) (test_operand n src) in
    let edges = λ (q : ℕ).
    (pc + 1, passed cond wide n (number dst) src (n.reg (number dst)) (operand_value n src))
    ∷ (q, taken cond wide n (number dst) src (n.reg (number dst)) (operand_value n src)) ∷ [] in
    plain_form (Jump cond wide dst src off) pc n shapes unset false (at_target (target pc off) edges) tt t refl refl (λ h. target_others (target pc off) edges)
form (Call helper) pc n shapes = call_form helper pc n shapes (is_lookup helper) refl
form Exit pc n shapes = plain_form Exit pc n shapes (is_unset (n.reg 0)) false (Ok []) tt (test_register n 0) refl refl (λ h. tt)
form Second pc n shapes = plain_form Second pc n shapes false false (Err cause.Target) tt (test_none n) refl refl (λ h. refl)

other_cause : (a : Answer) (c : Cause) → Others a → a ≡ Err c → other c ≡ true
other_cause a c h e = let r : Others {A = Edges} (Err c) = subst (λ (a : Answer). Others a) e h in r

unset_first : (u f : Bool) (rest : Answer) → (u ≡ false → Others rest) → unless u cause.Unset (unless f cause.FramePointer rest) ≡ Err cause.Unset → u ≡ true
unset_first true f rest h e = refl
unset_first false true rest h e = absurd (cc)
unset_first false false rest h e = other_cause rest cause.Unset (h refl) e

unset_back : (u : Bool) (go : Answer) → u ≡ true → unless u cause.Unset go ≡ Err cause.Unset
unset_back true go h = refl
unset_back false go h = absurd (cc)

frame_second : (u f : Bool) (rest : Answer) → (u ≡ false → Others rest) → unless u cause.Unset (unless f cause.FramePointer rest) ≡ Err cause.FramePointer → (f ≡ true) × (u ≡ false)
frame_second true f rest h e = absurd (cc)
frame_second false true rest h e = (refl, refl)
frame_second false false rest h e = (other_cause rest cause.FramePointer (h refl) e, refl)

frame_back : (u f : Bool) (rest : Answer) → f ≡ true → (u ≡ true → ⊥) → unless u cause.Unset (unless f cause.FramePointer rest) ≡ Err cause.FramePointer
frame_back true f rest h g = absurd (g refl)
frame_back false true rest h g = refl
frame_back false false rest h g = absurd (cc)

never_both : (u : Bool) → u ≡ false → u ≡ true → ⊥
never_both true h g = cc
never_both false h g = cc

-- Unset is the cause exactly where a register that is read is Unset
pub unset_exactly : (i : Insn) (pc : ℕ) (n : Facts) (shapes : List Shape) → (after_of i pc n shapes ≡ Err cause.Unset) ↔ ReadsUnset i n
unset_exactly i pc n shapes =
    let f = form i pc n shapes in (
      λ e. f.found (unset_first f.unset f.frame f.rest f.others (sym f.is ∙ e)),
      λ r. f.is ∙ unset_back f.unset (unless f.frame cause.FramePointer f.rest) (f.back r),
    )

-- FramePointer is the cause exactly where r10 is written and nothing that is read is Unset
pub frame_exactly : (i : Insn) (pc : ℕ) (n : Facts) (shapes : List Shape) → (after_of i pc n shapes ≡ Err cause.FramePointer) ↔ (writes i 10 ≡ true) × (ReadsUnset i n → ⊥)
frame_exactly i pc n shapes =
    let f = form i pc n shapes in (
      λ e. let r = frame_second f.unset f.frame f.rest f.others (sym f.is ∙ e) in (sym f.writes_frame ∙ r.0, λ u. never_both f.unset r.1 (f.back u)),
      λ h. f.is ∙ frame_back f.unset f.frame f.rest (f.writes_frame ∙ h.0) (λ u. h.1 (f.found u)),
    )
