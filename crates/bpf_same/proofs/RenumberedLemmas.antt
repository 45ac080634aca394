-- A renumbering has the runs of the program that it was made of.
use Rattle.std.proofs.Common.{ℕ, ◌+◌, ◌≡◌, inl, inr, refl, sym, ap, ◌∙◌, subst, arith, ℤ, List, [], ◌∷◌, Option, None, Some, Bool, true, false}
use Rattle.std.specs.Prelude.{if◌then◌else◌, slice_get}
use Rattle.std.proofs.lemmas.Bool.{cases_Bool}
use Rattle.bpf_insn.specs.Register.{number}
use Rattle.bpf_insn.specs.Conditions.{is_met}
use Rattle.bpf_insn.specs.declared.condition.Condition.{Condition}
use Rattle.bpf_insn.specs.declared.register.Register.{Register}
use Rattle.bpf_insn.specs.declared.operand.Operand.{Operand}
use Rattle.bpf_insn.specs.declared.insn.Insn.{Insn}
use Rattle.bpf_insn.specs.declared.insn.Insn.TheVariants.{Alu, Neg, End, MovSx, Const, MapRef, Ldx, St, Stx, AddCounter, Ja, Jump, Call, Exit, Second}
use Rattle.bpf_note.specs.Shape.{Shape}
use Rattle.bpf_note.specs.State.{State}
use Rattle.bpf_note.specs.declared.op.Op.{Op}
use Rattle.bpf_note.specs.declared.op.Op.TheVariants as ops
use Rattle.bpf_flow.specs.Step.{Outcome, Next, Exited, Fault, need, at_slot, operand, target, jumped, exec, step, LeadsTo}
use Rattle.bpf_flow.specs.Graph.{next_slot}
use Rattle.bpf_flow.proofs.EdgeLemmas.{exec_leads}
use Rattle.bpf_flow.proofs.StepLemmas.{no_fault, needed, exited}
use Rattle.bpf_vm.specs.Run.{Walk, ends, goes}
use Rattle.bpf_same.specs.declared.witness.Witness.{Witness}
use Rattle.bpf_same.specs.Same.{operations, Runs, IsSame}
use Rattle.bpf_same.specs.Simulated.{is_jump}
use Rattle.bpf_same.specs.Renumbered.{IsWitnessed, AreWitnessed, IsRenumbered, IsRenumberedFrom, IsRenumbering}
use Rattle.bpf_same.specs.Stepped.{alters, AreAlike}
use Rattle.bpf_same.proofs.PairLemmas.{parted, Behind, Pairs, pairs_lead, pairs_exit, operand_is, exec_pairs}
use Rattle.bpf_same.proofs.StepLemmas.{needed_is, alike_of}
use Rattle.bpf_same.proofs.ExitLemmas.{jumped_exits, branch_exits}
use Rattle.bpf_same.proofs.TraceLemmas.{in_front, before}
use Rattle.bpf_same.proofs.TogetherLemmas.{all_shared, next_is}

-- the old program's state t at slot p, which is the new one's state s but for the slot
record Twins (p : ℕ) (s t : State) : Type 0 where
  pc : t.pc ≡ p
  packet : t.packet ≡ s.packet
  ifindex : t.ifindex ≡ s.ifindex
  queue : t.queue ≡ s.queue
  shapes : t.shapes ≡ s.shapes
  find : t.find ≡ s.find
  stack : (i : ℕ) → t.stack i ≡ s.stack i
  reg : (k : ℕ) → t.reg k ≡ s.reg k

-- the old program's step beside one that leads to u
record Stepped (witnesses : List Witness) (o : Outcome) (l : Option Op) (u : State) : Type 0 where
  v : State
  leads : LeadsTo o l v
  q : ℕ
  placed : IsWitnessed witnesses u.pc q
  twins : Twins q u v

some_is : {A : Type 0} {x y : A} → Some x ≡ Some y → x ≡ y
some_is e = cc

twin_is : (p : ℕ) (s t : State) → Twins p s t → t ≡ parted s p t.reg t.stack
twin_is p s t b =
    ap (λ (pc : ℕ). record t { pc = pc }) b.pc
    ∙ ap (λ (x : List ℕ). record t { pc = p; packet = x }) b.packet
    ∙ ap (λ (i : ℕ). record t { pc = p; packet = s.packet; ifindex = i }) b.ifindex
    ∙ ap (λ (q : ℕ). record t { pc = p; packet = s.packet; ifindex = s.ifindex; queue = q }) b.queue
    ∙ ap (λ (m : List Shape). record t { pc = p; packet = s.packet; ifindex = s.ifindex; queue = s.queue; shapes = m }) b.shapes
    ∙ ap (λ (f : ℕ → List ℕ → Option ℕ). record t { pc = p; packet = s.packet; ifindex = s.ifindex; queue = s.queue; shapes = s.shapes; find = f }) b.find

twins_at : (p q r : ℕ) (s t : State) → Twins p s t → Twins r (at_slot s q) (at_slot t r)
twins_at p q r s t b = record { pc = refl; packet = b.packet; ifindex = b.ifindex; queue = b.queue; shapes = b.shapes; find = b.find; stack = b.stack; reg = b.reg }

alike_self : (i : Insn) (g : ℕ → Option ℕ) → AreAlike i g g
alike_self (Alu op wide dst src) g = (refl, refl)
alike_self (Neg wide dst) g = refl
alike_self (End kind width dst) g = refl
alike_self (MovSx wide bits dst src) g = refl
alike_self (Const dst value) g = tt
alike_self (MapRef dst m) g = tt
alike_self (Ldx size signed dst src off) g = refl
alike_self (St size dst off imm) g = refl
alike_self (Stx size dst src off) g = (refl, refl)
alike_self (AddCounter fetch dst src off) g = (refl, refl)
alike_self (Ja wide to) g = tt
alike_self (Jump cond wide dst src off) g = (refl, refl)
alike_self (Call helper) g = (refl, refl)
alike_self Exit g = refl
alike_self Second g = tt

alike : (i : Insn) (p : ℕ) (s t : State) → Twins p s t → AreAlike i s.reg t.reg
alike i p s t b = alike_of i t.reg s.reg t.reg (λ k l. b.reg k) (alike_self i t.reg)

pairs : (i : Insn) (p : ℕ) (s t : State) → is_jump i ≡ false → Twins p s t → Pairs (Behind (λ k. alters i k) (next_slot i p) 0 s t.reg) (exec i s) (exec i t)
pairs i p s t j b = subst (λ (x : State). Pairs (Behind (λ k. alters i k) (next_slot i p) 0 s t.reg) (exec i s) (exec i x)) (sym (twin_is p s t b))
    (exec_pairs s p 0 t.reg t.stack (λ k l. b.stack k) i j (alike i p s t b) (all_shared i s))

twins_after : (i : Insn) (p q : ℕ) (s t u v : State) → Twins p s t → Behind (λ k. alters i k) q 0 s t.reg u v → Twins q u v
twins_after i p q s t u v b after = record {
  pc = after.pc;
  packet = after.packet;
  ifindex = after.ifindex;
  queue = after.queue;
  shapes = after.shapes;
  find = after.find;
  stack = λ k. after.stack k (omega arith);
  reg = λ k. elim (cases_Bool (alters i k)) [
    | inl e ↦ after.changed k e
    | inr e ↦ (after.left k e).1 ∙ (b.reg k ∙ sym ((after.left k e).0))
  ];
}

plain_steps : (witnesses : List Witness) (i j : Insn) (p : ℕ) (s t : State) (l : Option Op) (u : State) → is_jump i ≡ false → Twins p s t → j ≡ i → IsWitnessed witnesses (next_slot i s.pc) (next_slot i p) → LeadsTo (exec i s) l u → Stepped witnesses (exec j t) l u
plain_steps witnesses i j p s t l u plain b same at h =
    let v = pairs_lead (Behind (λ k. alters i k) (next_slot i p) 0 s t.reg) (exec i s) (exec i t) l u (pairs i p s t plain b) h in
    record {
      v = v.0;
      leads = subst (λ (j : Insn). LeadsTo (exec j t) l v.0) (sym same) v.1;
      q = next_slot i p;
      placed = subst (λ (q : ℕ). IsWitnessed witnesses q (next_slot i p)) (sym (next_is i s.pc u.pc plain (exec_leads i s l u h))) at;
      twins = twins_after i p (next_slot i p) s t u v.0 b v.2;
    }

next_does : (P : Option Op → State → Type 0) (t : State) (l : Option Op) (u : State) → P None t → LeadsTo (Next t) l u → P l u
next_does P t None u p h = subst (P None) h p
next_does P t (Some (ops.Load m k j v)) u p h = absurd h
next_does P t (Some (ops.Add m k j d v)) u p h = absurd h

record Reached (witnesses : List Witness) (q : ℕ) (o : Option ℕ) : Type 0 where
  r : ℕ
  is : o ≡ Some r
  placed : IsWitnessed witnesses q r

reached_at : (witnesses : List Witness) (q : ℕ) (o : Option ℕ) → AreWitnessed witnesses (Some q) o → Reached witnesses q o
reached_at witnesses q None h = absurd h
reached_at witnesses q (Some r) h = record { r = r; is = refl; placed = h }

jump_steps : (witnesses : List Witness) (p : ℕ) (s t : State) (off onto : ℤ) (l : Option Op) (u : State) → Twins p s t → AreWitnessed witnesses (target s.pc off) (target p onto) → LeadsTo (jumped s off) l u → Stepped witnesses (jumped t onto) l u
jump_steps witnesses p s t off onto l u b at h = needed_is (target s.pc off) _ l u (λ q e h.
    let r = reached_at witnesses q (target p onto) (subst (λ (o : Option ℕ). AreWitnessed witnesses o (target p onto)) e at) in
    let there : target t.pc onto ≡ Some r.r = ap (λ (pc : ℕ). target pc onto) b.pc ∙ r.is in
    next_does (λ (l : Option Op) (u : State). Stepped witnesses (jumped t onto) l u) (at_slot s q) l u
    (record {
      v = at_slot t r.r;
      leads = subst (λ (o : Option ℕ). LeadsTo (need o (λ p. Next (at_slot t p))) None (at_slot t r.r)) (sym there) refl;
      q = r.r;
      placed = r.placed;
      twins = twins_at p q r.r s t b;
    }) h) h

fall_steps : (witnesses : List Witness) (p : ℕ) (s t : State) (l : Option Op) (u : State) → Twins p s t → IsWitnessed witnesses (s.pc + 1) (p + 1) → LeadsTo (Next (at_slot s (s.pc + 1))) l u → Stepped witnesses (Next (at_slot t (t.pc + 1))) l u
fall_steps witnesses p s t l u b at h = next_does (λ (l : Option Op) (u : State). Stepped witnesses (Next (at_slot t (t.pc + 1))) l u) (at_slot s (s.pc + 1)) l u
    (record {
      v = at_slot t (t.pc + 1);
      leads = refl;
      q = t.pc + 1;
      placed = subst (λ (q : ℕ). IsWitnessed witnesses (s.pc + 1) (q + 1)) (sym b.pc) at;
      twins = twins_at p (s.pc + 1) (t.pc + 1) s t b;
    }) h

branch_steps : (witnesses : List Witness) (p : ℕ) (s t : State) (cond : Condition) (wide : Bool) (dst : Register) (src : Operand) (off onto : ℤ) (l : Option Op) (u : State) → Twins p s t → AreWitnessed witnesses (target s.pc off) (target p onto) →
    IsWitnessed witnesses (s.pc + 1) (p + 1) → LeadsTo (exec (Jump cond wide dst src off) s) l u → Stepped witnesses (exec (Jump cond wide dst src onto) t) l u
branch_steps witnesses p s t cond wide dst src off onto l u b at next h =
    let a = alike (Jump cond wide dst src off) p s t b in
    needed_is (s.reg (number dst)) _ l u (λ x e h.
    needed_is (operand s src) _ l u (λ y f h.
    subst (λ (o : Option ℕ). Stepped witnesses (need o (λ x. need (operand t src) (λ y. if is_met cond wide x y then jumped t onto else Next (at_slot t (t.pc + 1))))) l u) (sym (a.0 ∙ e))
    (subst (λ (o : Option ℕ). Stepped witnesses (need o (λ y. if is_met cond wide x y then jumped t onto else Next (at_slot t (t.pc + 1)))) l u) (sym (operand_is t src ∙ (a.1 ∙ (sym (operand_is s src) ∙ f))))
    (by (is_met cond wide x y) h))) h) h
  where
    by : (c : Bool) → LeadsTo (if c then jumped s off else Next (at_slot s (s.pc + 1))) l u → Stepped witnesses (if c then jumped t onto else Next (at_slot t (t.pc + 1))) l u
    by true h = jump_steps witnesses p s t off onto l u b at h
    by false h = fall_steps witnesses p s t l u b next h

stepped : (witnesses : List Witness) (i j : Insn) (p : ℕ) (s t : State) (l : Option Op) (u : State) → Twins p s t → IsRenumbered witnesses i s.pc j p → LeadsTo (exec i s) l u → Stepped witnesses (exec j t) l u
stepped witnesses (Ja wide to) j p s t l u b r h = subst (λ (j : Insn). Stepped witnesses (exec j t) l u) (sym r.2) (jump_steps witnesses p s t to r.1 l u b r.3 h)
stepped witnesses (Jump cond wide dst src off) j p s t l u b r h = subst (λ (j : Insn). Stepped witnesses (exec j t) l u) (sym r.1) (branch_steps witnesses p s t cond wide dst src off r.0 l u b r.2 r.3 h)
stepped witnesses Exit j p s t l u b r h = absurd (needed (s.reg 0) Exited l u (λ x h. exited x l u h) h)
stepped witnesses Second j p s t l u b r h = absurd (no_fault l u h)
stepped witnesses (Alu op wide dst src) j p s t l u b r h = plain_steps witnesses (Alu op wide dst src) j p s t l u refl b r.0 r.1 h
stepped witnesses (Neg wide dst) j p s t l u b r h = plain_steps witnesses (Neg wide dst) j p s t l u refl b r.0 r.1 h
stepped witnesses (End kind width dst) j p s t l u b r h = plain_steps witnesses (End kind width dst) j p s t l u refl b r.0 r.1 h
stepped witnesses (MovSx wide bits dst src) j p s t l u b r h = plain_steps witnesses (MovSx wide bits dst src) j p s t l u refl b r.0 r.1 h
stepped witnesses (Const dst value) j p s t l u b r h = plain_steps witnesses (Const dst value) j p s t l u refl b r.0 r.1 h
stepped witnesses (MapRef dst m) j p s t l u b r h = plain_steps witnesses (MapRef dst m) j p s t l u refl b r.0 r.1 h
stepped witnesses (Ldx size signed dst src off) j p s t l u b r h = plain_steps witnesses (Ldx size signed dst src off) j p s t l u refl b r.0 r.1 h
stepped witnesses (St size dst off imm) j p s t l u b r h = plain_steps witnesses (St size dst off imm) j p s t l u refl b r.0 r.1 h
stepped witnesses (Stx size dst src off) j p s t l u b r h = plain_steps witnesses (Stx size dst src off) j p s t l u refl b r.0 r.1 h
stepped witnesses (AddCounter fetch dst src off) j p s t l u b r h = plain_steps witnesses (AddCounter fetch dst src off) j p s t l u refl b r.0 r.1 h
stepped witnesses (Call helper) j p s t l u b r h = plain_steps witnesses (Call helper) j p s t l u refl b r.0 r.1 h

plain_ends : (i j : Insn) (p : ℕ) (s t : State) (x : ℕ) → is_jump i ≡ false → Twins p s t → j ≡ i → exec i s ≡ Exited x → exec j t ≡ Exited x
plain_ends i j p s t x plain b same e =
    subst (λ (j : Insn). exec j t ≡ Exited x) (sym same) (pairs_exit (Behind (λ k. alters i k) (next_slot i p) 0 s t.reg) (exec i s) (exec i t) x (pairs i p s t plain b) e)

fault_ends : (x : ℕ) → Fault ≡ Exited x → ⊥
fault_ends x e = cc

ended : (witnesses : List Witness) (i j : Insn) (p : ℕ) (s t : State) (x : ℕ) → Twins p s t → IsRenumbered witnesses i s.pc j p → exec i s ≡ Exited x → exec j t ≡ Exited x
ended witnesses (Ja wide to) j p s t x b r e = absurd (jumped_exits s to x e)
ended witnesses (Jump cond wide dst src off) j p s t x b r e = absurd (branch_exits s cond wide dst src off x e)
ended witnesses Exit j p s t x b r e = plain_ends Exit j p s t x refl b r e
ended witnesses Second j p s t x b r e = absurd (fault_ends x e)
ended witnesses (Alu op wide dst src) j p s t x b r e = plain_ends (Alu op wide dst src) j p s t x refl b r.0 e
ended witnesses (Neg wide dst) j p s t x b r e = plain_ends (Neg wide dst) j p s t x refl b r.0 e
ended witnesses (End kind width dst) j p s t x b r e = plain_ends (End kind width dst) j p s t x refl b r.0 e
ended witnesses (MovSx wide bits dst src) j p s t x b r e = plain_ends (MovSx wide bits dst src) j p s t x refl b r.0 e
ended witnesses (Const dst value) j p s t x b r e = plain_ends (Const dst value) j p s t x refl b r.0 e
ended witnesses (MapRef dst m) j p s t x b r e = plain_ends (MapRef dst m) j p s t x refl b r.0 e
ended witnesses (Ldx size signed dst src off) j p s t x b r e = plain_ends (Ldx size signed dst src off) j p s t x refl b r.0 e
ended witnesses (St size dst off imm) j p s t x b r e = plain_ends (St size dst off imm) j p s t x refl b r.0 e
ended witnesses (Stx size dst src off) j p s t x b r e = plain_ends (Stx size dst src off) j p s t x refl b r.0 e
ended witnesses (AddCounter fetch dst src off) j p s t x b r e = plain_ends (AddCounter fetch dst src off) j p s t x refl b r.0 e
ended witnesses (Call helper) j p s t x b r e = plain_ends (Call helper) j p s t x refl b r.0 e

-- the old program's instruction at a slot
record Stands (witnesses : List Witness) (old : List Insn) (i : Insn) (q p : ℕ) : Type 0 where
  j : Insn
  here : slice_get old p ≡ Some j
  is : IsRenumbered witnesses i q j p

stands : (witnesses : List Witness) (old : List Insn) (i : Insn) (q p : ℕ) (o : Option Insn) → slice_get old p ≡ o → IsRenumberedFrom witnesses o i q p → Stands witnesses old i q p
stands witnesses old i q p None e h = absurd h
stands witnesses old i q p (Some j) e h = record { j = j; here = e; is = h }

operations_front : (label : Option Op) (labels : List (Option Op)) → operations (label ∷ labels) ≡ in_front label (operations labels)
operations_front None labels = refl
operations_front (Some op) labels = refl

needed_exit : (o : Option Insn) (s : State) (r0 : ℕ) (P : Type 0) → ((i : Insn) → o ≡ Some i → exec i s ≡ Exited r0 → P) → need o (λ i. exec i s) ≡ Exited r0 → P
needed_exit None s r0 P f e = cc
needed_exit (Some i) s r0 P f e = f i refl e

walks : (witnesses : List Witness) (old new : List Insn) (r0 : ℕ) (bytes : List ℕ) (s : State) (labels : List (Option Op)) → IsRenumbering witnesses old new → Walk new r0 bytes s labels → (p : ℕ) (t : State) → IsWitnessed witnesses s.pc p → Twins p s t →
    Runs old r0 bytes t (operations labels)
walks witnesses old new r0 bytes _ _ k (ends s e same) = λ p t at b.
    let there : step old t ≡ Exited r0 = needed_exit (slice_get new s.pc) s r0 (step old t ≡ Exited r0)
    (λ i f e.
    let c = stands witnesses old i s.pc p (slice_get old p) refl (k.each s.pc p i f at) in
    ap (λ (o : Option Insn). need o (λ i. exec i t)) (ap (slice_get old) b.pc ∙ c.here) ∙ ended witnesses i c.j p s t r0 b c.is e) e in
    record { labels = None ∷ []; walk = ends t there (b.packet ∙ same); did = refl }
walks witnesses old new r0 bytes _ _ k (goes s u label labels h w) = λ p t at b.
    subst (λ (done : List Op). Runs old r0 bytes t done) (sym (operations_front label labels))
    (needed_is (slice_get new s.pc) _ label u (λ i f h.
    let c = stands witnesses old i s.pc p (slice_get old p) refl (k.each s.pc p i f at) in
    let v = stepped witnesses i c.j p s t label u b c.is h in
    let leads : LeadsTo (step old t) label v.v = subst (λ (o : Option Insn). LeadsTo (need o (λ i. exec i t)) label v.v) (sym (ap (slice_get old) b.pc ∙ c.here)) v.leads in
    before old r0 bytes t v.v label (operations labels) leads (walks witnesses old new r0 bytes u labels k w v.q v.v v.placed v.twins)) h)

pub renumbered_same : (shapes : List Shape) (witnesses : List Witness) (old new : List Insn) → IsRenumbering witnesses old new → IsSame shapes old new
renumbered_same shapes witnesses old new k = λ s is e r0 bytes done run.
    subst (λ (done : List Op). Runs old r0 bytes s done) run.did
    (walks witnesses old new r0 bytes s run.labels k run.walk 0 s (subst (λ (q : ℕ). IsWitnessed witnesses q 0) (sym is.pc) k.start)
    (record { pc = is.pc; packet = refl; ifindex = refl; queue = refl; shapes = refl; find = refl; stack = λ i. refl; reg = λ k. refl }))
