-- A step that two programs with one instruction take together, where they read the same.
use Rattle.std.proofs.Common.{ℕ, ◌+◌, ◌≡◌, ◌<◌, ◌⊎◌, inl, inr, refl, sym, ap, ◌∙◌, subst, arith, ℤ, List, Option, None, Some, Bool, true, false}
use Rattle.std.specs.Prelude.{if◌then◌else◌, ◌==◌, ◌||◌, slice_get}
use Rattle.std.proofs.lemmas.Bool.{cases_Bool}
use Rattle.std.proofs.lemmas.Bool.Decides.{nat_tests}
use Rattle.bpf_insn.specs.Conditions.{is_met}
use Rattle.bpf_insn.specs.Register.{number}
use Rattle.bpf_insn.specs.declared.alu_op.AluOp.{AluOp}
use Rattle.bpf_insn.specs.declared.alu_op.AluOp.TheVariants.{Add, Sub, Mul, Div, SignedDiv, Or, And, Lsh, Rsh, Mod, SignedMod, Xor, Mov, Arsh}
use Rattle.bpf_insn.specs.declared.condition.Condition.{Condition}
use Rattle.bpf_insn.specs.declared.register.Register.{Register}
use Rattle.bpf_insn.specs.declared.register.Register.TheVariants.{R0, R1, R2}
use Rattle.bpf_insn.specs.declared.operand.Operand.{Operand}
use Rattle.bpf_insn.specs.declared.operand.Operand.TheVariants as operands
use Rattle.bpf_insn.specs.declared.insn.Insn.{Insn}
use Rattle.bpf_insn.specs.declared.insn.Insn.TheVariants.{Alu, Neg, End, MovSx, Const, MapRef, Ldx, St, Stx, AddCounter, Ja, Jump, Call, Exit, Second}
use Rattle.bpf_note.specs.Shape.{Shape}
use Rattle.bpf_note.specs.State.{State}
use Rattle.bpf_note.specs.declared.op.Op.{Op}
use Rattle.bpf_flow.specs.Step.{Outcome, Next, Exited, Fault, need, at_slot, operand, target, jumped, exec, step, LeadsTo}
use Rattle.bpf_flow.specs.Graph.{Leads, next_slot, is_operand}
use Rattle.bpf_flow.proofs.EdgeLemmas.{exec_leads}
use Rattle.bpf_flow.proofs.RegisterLemmas.{number_small}
use Rattle.bpf_flow.proofs.StepLemmas.{no_fault}
use Rattle.bpf_same.specs.LinearForms.{bit}
use Rattle.bpf_same.specs.Simulated.{is_jump}
use Rattle.bpf_same.specs.Stepped.{alters, operand_in, AreAlike, AreShared}
use Rattle.bpf_same.specs.Fused.{Plan, Alike, Shadows, live_at, IsOutside, IsShared, ReadsWithin, Leaves, AllowsWays}
use Rattle.bpf_same.proofs.PairLemmas.{parted, Behind, Pairs, need_pairs, pairs_lead, pairs_exit, operand_is, exec_pairs}

-- after a step of both, from s and t to u and v
pub record Together (i : Insn) (s t u v : State) : Type 0 where
  pub shadows : Shadows u v
  pub changed : (k : ℕ) → alters i k ≡ true → v.reg k ≡ u.reg k
  pub left : (k : ℕ) → alters i k ≡ false → (u.reg k ≡ s.reg k) × (v.reg k ≡ t.reg k)

shadow_is : (s t : State) → Shadows s t → t ≡ parted s s.pc t.reg t.stack
shadow_is s t b =
    ap (λ (pc : ℕ). record t { pc = pc }) b.pc
    ∙ ap (λ (x : List ℕ). record t { pc = s.pc; packet = x }) b.packet
    ∙ ap (λ (i : ℕ). record t { pc = s.pc; packet = s.packet; ifindex = i }) b.ifindex
    ∙ ap (λ (q : ℕ). record t { pc = s.pc; packet = s.packet; ifindex = s.ifindex; queue = q }) b.queue
    ∙ ap (λ (m : List Shape). record t { pc = s.pc; packet = s.packet; ifindex = s.ifindex; queue = s.queue; shapes = m }) b.shapes
    ∙ ap (λ (f : ℕ → List ℕ → Option ℕ). record t { pc = s.pc; packet = s.packet; ifindex = s.ifindex; queue = s.queue; shapes = s.shapes; find = f }) b.find

pub all_shared : (i : Insn) (s : State) → AreShared i 0 s
all_shared (Ldx size signed dst src off) s = λ a j e at. omega arith
all_shared (St size dst off imm) s = λ a j e at. omega arith
all_shared (Stx size dst src off) s = λ a j e at. omega arith
all_shared (Call helper) s = λ a j z e at. omega arith
all_shared (Alu op wide dst src) s = tt
all_shared (Neg wide dst) s = tt
all_shared (End kind width dst) s = tt
all_shared (MovSx wide bits dst src) s = tt
all_shared (Const dst value) s = tt
all_shared (MapRef dst m) s = tt
all_shared (AddCounter fetch dst src off) s = tt
all_shared (Ja wide to) s = tt
all_shared (Jump cond wide dst src off) s = tt
all_shared Exit s = tt
all_shared Second s = tt

pub next_is : (i : Insn) (p q : ℕ) → is_jump i ≡ false → Leads i p q → q ≡ next_slot i p
next_is (Alu op wide dst src) p q j h = h
next_is (Neg wide dst) p q j h = h
next_is (End kind width dst) p q j h = h
next_is (MovSx wide bits dst src) p q j h = h
next_is (Const dst value) p q j h = h
next_is (MapRef dst m) p q j h = h
next_is (Ldx size signed dst src off) p q j h = h
next_is (St size dst off imm) p q j h = h
next_is (Stx size dst src off) p q j h = h
next_is (AddCounter fetch dst src off) p q j h = h
next_is (Ja wide to) p q j h = cc
next_is (Jump cond wide dst src off) p q j h = cc
next_is (Call helper) p q j h = h
next_is Exit p q j h = absurd h
next_is Second p q j h = absurd h

module _ (s : State) (g h : ℕ → Option ℕ) (stack : (i : ℕ) → h i ≡ s.stack i) where
  at_together : (i : Insn) (q : ℕ) → ((k : ℕ) → alters i k ≡ false) → Together i s (parted s s.pc g h) (at_slot s q) (at_slot (parted s s.pc g h) q)
  at_together i q none = record {
    shadows = record { pc = refl; packet = refl; ifindex = refl; queue = refl; shapes = refl; find = refl; stack = stack };
    changed = λ k e. let n = none k in cc;
    left = λ k e. (refl, refl);
  }

  jump_pairs : (i : Insn) → is_jump i ≡ true → AreAlike i s.reg g → Pairs (Together i s (parted s s.pc g h)) (exec i s) (exec i (parted s s.pc g h))
  jump_pairs (Ja wide to) j a = need_pairs (Together (Ja wide to) s (parted s s.pc g h)) (target s.pc to) (target s.pc to) _ _ refl (λ q is. (at_slot (parted s s.pc g h) q, refl, at_together (Ja wide to) q (λ k. refl)))
  jump_pairs (Jump cond wide dst src off) j a =
      need_pairs R (s.reg (number dst)) (g (number dst)) _ _ a.0 (λ x is.
      need_pairs R (operand s src) (operand (parted s s.pc g h) src) _ _ (operand_is (parted s s.pc g h) src ∙ (a.1 ∙ sym (operand_is s src))) (λ y is. by (is_met cond wide x y)))
    where
      R : State → State → Type 0
      R = Together (Jump cond wide dst src off) s (parted s s.pc g h)

      by : (c : Bool) → Pairs R (if c then jumped s off else Next (at_slot s (s.pc + 1))) (if c then jumped (parted s s.pc g h) off else Next (at_slot (parted s s.pc g h) (s.pc + 1)))
      by true = need_pairs R (target s.pc off) (target s.pc off) _ _ refl (λ q is. (at_slot (parted s s.pc g h) q, refl, at_together (Jump cond wide dst src off) q (λ k. refl)))
      by false = (at_slot (parted s s.pc g h) (s.pc + 1), refl, at_together (Jump cond wide dst src off) (s.pc + 1) (λ k. refl))
  jump_pairs (Alu op wide dst src) j a = cc
  jump_pairs (Neg wide dst) j a = cc
  jump_pairs (End kind width dst) j a = cc
  jump_pairs (MovSx wide bits dst src) j a = cc
  jump_pairs (Const dst value) j a = cc
  jump_pairs (MapRef dst m) j a = cc
  jump_pairs (Ldx size signed dst src off) j a = cc
  jump_pairs (St size dst off imm) j a = cc
  jump_pairs (Stx size dst src off) j a = cc
  jump_pairs (AddCounter fetch dst src off) j a = cc
  jump_pairs (Call helper) j a = cc
  jump_pairs Exit j a = cc
  jump_pairs Second j a = cc

  behind_together : (i : Insn) (u v : State) → is_jump i ≡ false → Leads i s.pc u.pc → Behind (λ k. alters i k) (next_slot i s.pc) 0 s g u v → Together i s (parted s s.pc g h) u v
  behind_together i u v j l b = record {
    shadows = record { pc = b.pc ∙ sym (next_is i s.pc u.pc j l); packet = b.packet; ifindex = b.ifindex; queue = b.queue; shapes = b.shapes; find = b.find; stack = λ k. b.stack k (omega arith) };
    changed = b.changed;
    left = b.left;
  }

  plain_pairs : (i : Insn) → is_jump i ≡ false → AreAlike i s.reg g → Pairs (Behind (λ k. alters i k) (next_slot i s.pc) 0 s g) (exec i s) (exec i (parted s s.pc g h))
  plain_pairs i j a = exec_pairs s s.pc 0 g h (λ k l. stack k) i j a (all_shared i s)

  parts_together : (i : Insn) (l : Option Op) (u : State) → AreAlike i s.reg g → LeadsTo (exec i s) l u → (v : State) × LeadsTo (exec i (parted s s.pc g h)) l v × Together i s (parted s s.pc g h) u v
  parts_together i l u a x = elim (cases_Bool (is_jump i)) [
    | inl j ↦ pairs_lead (Together i s (parted s s.pc g h)) (exec i s) (exec i (parted s s.pc g h)) l u (jump_pairs i j a) x
    | inr j ↦
        let v = pairs_lead (Behind (λ k. alters i k) (next_slot i s.pc) 0 s g) (exec i s) (exec i (parted s s.pc g h)) l u (plain_pairs i j a) x in
        (v.0, v.1, behind_together i u v.0 j (exec_leads i s l u x) v.2)
  ]

  parts_end : (i : Insn) (x : ℕ) → AreAlike i s.reg g → exec i s ≡ Exited x → exec i (parted s s.pc g h) ≡ Exited x
  parts_end i x a e = elim (cases_Bool (is_jump i)) [
    | inl j ↦ pairs_exit (Together i s (parted s s.pc g h)) (exec i s) (exec i (parted s s.pc g h)) x (jump_pairs i j a) e
    | inr j ↦ pairs_exit (Behind (λ k. alters i k) (next_slot i s.pc) 0 s g) (exec i s) (exec i (parted s s.pc g h)) x (plain_pairs i j a) e
  ]

pub together : (i : Insn) (s t : State) (l : Option Op) (u : State) → Shadows s t → AreAlike i s.reg t.reg → LeadsTo (exec i s) l u → (v : State) × LeadsTo (exec i t) l v × Together i s t u v
together i s t l u b a x =
    subst (λ (t' : State). (v : State) × LeadsTo (exec i t') l v × Together i s t' u v) (sym (shadow_is s t b)) (parts_together s t.reg t.stack b.stack i l u a x)

pub ends_together : (i : Insn) (s t : State) (x : ℕ) → Shadows s t → AreAlike i s.reg t.reg → exec i s ≡ Exited x → exec i t ≡ Exited x
ends_together i s t x b a e = subst (λ (t' : State). exec i t' ≡ Exited x) (sym (shadow_is s t b)) (parts_end s t.reg t.stack b.stack i x a e)

-- --- what is read is the same
same_number : (k : ℕ) → (k == k) ≡ true
same_number k = grind (arith, nat_tests)

or_true : (a b : Bool) → b ≡ true → (a || b) ≡ true
or_true true b e = refl
or_true false b e = e

true_or : (a b : Bool) → a ≡ true → (a || b) ≡ true
true_or true b e = refl
true_or false b e = cc

module _ (mask : ℕ) (f g : ℕ → Option ℕ) (a : Alike mask f g) where
  at : (r : Register) → bit mask (number r) ≡ 1 → g (number r) ≡ f (number r)
  at r e = a (number r) (number_small r) e

  operand_alike : (src : Operand) → ((r : Register) → is_operand src (number r) ≡ true → bit mask (number r) ≡ 1) → operand_in g src ≡ operand_in f src
  operand_alike (operands.Register r) h = at r (h r (same_number (number r)))
  operand_alike (operands.Immediate i) h = refl

  both_alike : (dst : Register) (src : Operand) (op : AluOp) → ((r : Register) → (number r == number dst || is_operand src (number r)) ≡ true → bit mask (number r) ≡ 1) → (operand_in g src ≡ operand_in f src) × (g (number dst) ≡ f (number dst))
  both_alike dst src op h =
      (operand_alike src (λ r e. h r (or_true (number r == number dst) (is_operand src (number r)) e)), at dst (h dst (true_or (number dst == number dst) (is_operand src (number dst)) (same_number (number dst)))))

  alu_alike : (op : AluOp) (wide : Bool) (dst : Register) (src : Operand) → ReadsWithin (Alu op wide dst src) mask → AreAlike (Alu op wide dst src) f g
  alu_alike Mov wide dst src h = (operand_alike src h, refl)
  alu_alike Add wide dst src h = both_alike dst src Add h
  alu_alike Sub wide dst src h = both_alike dst src Sub h
  alu_alike Mul wide dst src h = both_alike dst src Mul h
  alu_alike Div wide dst src h = both_alike dst src Div h
  alu_alike SignedDiv wide dst src h = both_alike dst src SignedDiv h
  alu_alike Or wide dst src h = both_alike dst src Or h
  alu_alike And wide dst src h = both_alike dst src And h
  alu_alike Lsh wide dst src h = both_alike dst src Lsh h
  alu_alike Rsh wide dst src h = both_alike dst src Rsh h
  alu_alike Mod wide dst src h = both_alike dst src Mod h
  alu_alike SignedMod wide dst src h = both_alike dst src SignedMod h
  alu_alike Xor wide dst src h = both_alike dst src Xor h
  alu_alike Arsh wide dst src h = both_alike dst src Arsh h

  two_alike : (dst src : Register) → ((r : Register) → (number r == number dst || number r == number src) ≡ true → bit mask (number r) ≡ 1) → (g (number dst) ≡ f (number dst)) × (g (number src) ≡ f (number src))
  two_alike dst src h =
      (at dst (h dst (true_or (number dst == number dst) (number dst == number src) (same_number (number dst)))), at src (h src (or_true (number src == number dst) (number src == number src) (same_number (number src)))))

  pub alike_reads : (i : Insn) → ReadsWithin i mask → AreAlike i f g
  alike_reads (Alu op wide dst src) h = alu_alike op wide dst src h
  alike_reads (Neg wide dst) h = at dst (h dst (same_number (number dst)))
  alike_reads (End kind width dst) h = at dst (h dst (same_number (number dst)))
  alike_reads (MovSx wide bits dst src) h = at src (h src (same_number (number src)))
  alike_reads (Const dst value) h = tt
  alike_reads (MapRef dst m) h = tt
  alike_reads (Ldx size signed dst src off) h = at src (h src (same_number (number src)))
  alike_reads (St size dst off imm) h = at dst (h dst (same_number (number dst)))
  alike_reads (Stx size dst src off) h = two_alike dst src h
  alike_reads (AddCounter fetch dst src off) h = two_alike dst src h
  alike_reads (Ja wide to) h = tt
  alike_reads (Jump cond wide dst src off) h = let b = both_alike dst src Add h in (b.1, b.0)
  alike_reads (Call helper) h = (at R1 (h R1 refl), at R2 (h R2 refl))
  alike_reads Exit h = at R0 (h R0 refl)
  alike_reads Second h = tt

-- --- a step that both programs have
-- what is alike after a step of both
pub alike_after : (i : Insn) (s t u v : State) (before after : ℕ) → Together i s t u v → Alike before s.reg t.reg → Leaves before i after → Alike after u.reg v.reg
alike_after i s t u v before after b a l = λ k small e. elim (cases_Bool (alters i k)) [
  | inl changed ↦ b.changed k changed
  | inr left ↦ by k small (b.left k left) left (l k small e)
]
  where
    by : (k : ℕ) → k < 11 → (u.reg k ≡ s.reg k) × (v.reg k ≡ t.reg k) → alters i k ≡ false → (bit before k ≡ 1) ⊎ (alters i k ≡ true) → v.reg k ≡ u.reg k
    by k small both left (inl e) = both.1 ∙ (a k small e ∙ sym both.0)
    by k small both left (inr e) = absurd (let x = left in cc)

needed_step : {P : Type 0} (o : Option Insn) (s : State) (i : Insn) → o ≡ Some i → (exec i s ≡ need o (λ i. exec i s) → P) → P
needed_step o s i e f = f (sym (ap (λ (o : Option Insn). need o (λ i. exec i s)) e))

pub step_is : (code : List Insn) (s : State) (p : ℕ) (i : Insn) → slice_get code p ≡ Some i → s.pc ≡ p → step code s ≡ exec i s
step_is code s p i here at = ap (λ (o : Option Insn). need o (λ i. exec i s)) (ap (slice_get code) at ∙ here)

pub shared : (plan : Plan) (p : ℕ) (i : Insn) → slice_get plan.old p ≡ Some i → slice_get plan.new p ≡ Some i → ReadsWithin i (live_at plan p) → AllowsWays plan (live_at plan p) i p → IsShared plan p
shared plan p i old new r out = record {
  goes = λ s t pc b a label u h.
      let x : LeadsTo (exec i s) label u = subst (λ (o : Outcome). LeadsTo o label u) (step_is plan.new s p i new pc) h in
      let v = together i s t label u b (alike_reads (live_at plan p) s.reg t.reg a i r) x in
      let q = out u.pc (subst (λ (pc : ℕ). Leads i pc u.pc) pc (exec_leads i s label u x)) in
      record {
        next = v.0;
        leads = subst (λ (o : Outcome). LeadsTo o label v.0) (sym (step_is plan.old t p i old (b.pc ∙ pc))) v.1;
        shadows = v.2.shadows;
        outside = q.0;
        alike = alike_after i s t u v.0 (live_at plan p) (live_at plan u.pc) v.2 a q.1;
      };
  ends = λ s t pc b a x e.
      step_is plan.old t p i old (b.pc ∙ pc) ∙ ends_together i s t x b (alike_reads (live_at plan p) s.reg t.reg a i r) (sym (step_is plan.new s p i new pc) ∙ e);
}

-- where a jump leads
pub ja_out : (plan : Plan) (before p : ℕ) (i : Insn) (wide : Bool) (to : ℤ) (o : Option ℕ) → i ≡ Ja wide to → o ≡ target p to → ((q : ℕ) → o ≡ Some q → IsOutside plan q × Leaves before (Ja wide to) (live_at plan q)) → AllowsWays plan before i p
ja_out plan before p i wide to o is at h = subst (λ (i : Insn). AllowsWays plan before i p) (sym is) (λ q l. h q (at ∙ l))

pub branch_out : (plan : Plan) (before p : ℕ) (i : Insn) (cond : Condition) (wide : Bool) (dst : Register) (src : Operand) (off : ℤ) (o : Option ℕ) → i ≡ Jump cond wide dst src off → o ≡ target p off →
    (IsOutside plan (p + 1) × Leaves before (Jump cond wide dst src off) (live_at plan (p + 1))) → ((q : ℕ) → o ≡ Some q → IsOutside plan q × Leaves before (Jump cond wide dst src off) (live_at plan q)) → AllowsWays plan before i p
branch_out plan before p i cond wide dst src off o is at next h = subst (λ (i : Insn). AllowsWays plan before i p) (sym is) (λ q l. by q l)
  where
    by : (q : ℕ) → (q ≡ p + 1) ⊎ (target p off ≡ Some q) → IsOutside plan q × Leaves before (Jump cond wide dst src off) (live_at plan q)
    by q (inl e) = subst (λ (q : ℕ). IsOutside plan q × Leaves before (Jump cond wide dst src off) (live_at plan q)) (sym e) next
    by q (inr e) = h q (at ∙ e)

-- past the end of the program there is no step
pub shared_past : (plan : Plan) (p : ℕ) → slice_get plan.new p ≡ None → IsShared plan p
shared_past plan p none = record {
  goes = λ s t pc b a label u h. absurd (no_fault label u (subst (λ (o : Outcome). LeadsTo o label u) (faulty s pc) h));
  ends = λ s t pc b a x e. absurd (not_exited x (sym (faulty s pc) ∙ e));
}
  where
    faulty : (s : State) → s.pc ≡ p → step plan.new s ≡ Fault
    faulty s pc = ap (λ (o : Option Insn). need o (λ i. exec i s)) (ap (slice_get plan.new) pc ∙ none)

    not_exited : (x : ℕ) → Fault ≡ Exited x → ⊥
    not_exited x e = cc
