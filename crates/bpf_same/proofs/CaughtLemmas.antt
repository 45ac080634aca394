-- What the old program does alone leads to a run, and keeps what is known.
use Rattle.std.proofs.Common.{ℕ, ℤ, pos, ◌+◌, ◌%◌, ◌^◌, ◌≡◌, ◌<◌, arith, inl, inr, refl, sym, ap, ◌∙◌, subst, List, Option, None, Some, Bool, true, false}
use Rattle.std.proofs.lemmas.Bool.Decides.{nat_tests}
use Rattle.std.specs.Prelude.{slice_get, IfSome, if◌then◌else◌, ◌==◌}
use Rattle.bpf_insn.specs.Register.{number}
use Rattle.bpf_insn.specs.Arithmetic.{computed}
use Rattle.bpf_insn.specs.declared.alu_op.AluOp.TheVariants.{Add}
use Rattle.bpf_insn.specs.declared.condition.Condition.{Condition}
use Rattle.bpf_insn.specs.declared.operand.Operand.{Operand}
use Rattle.bpf_insn.specs.declared.register.Register.{Register}
use Rattle.bpf_insn.specs.declared.insn.Insn.{Insn}
use Rattle.bpf_insn.specs.declared.insn.Insn.TheVariants.{Alu, Ja, Jump}
use Rattle.bpf_note.specs.declared.val.Val.{Val}
use Rattle.bpf_note.specs.declared.val.Val.TheVariants.{Unset}
use Rattle.bpf_note.specs.State.{State, put}
use Rattle.bpf_note.specs.Facts.{Facts}
use Rattle.bpf_note.specs.Describes.{Describes, Meaning, meaning, Reads}
use Rattle.bpf_flow.specs.Step.{Fault, Next, at_slot, with_number, need, operand, first_operand, written, exec, LeadsTo}
use Rattle.bpf_flow.proofs.RegisterLemmas.{number_small}
use Rattle.bpf_same.specs.declared.caught.Place.{Place}
use Rattle.bpf_same.specs.declared.linear_form.LinearForm.{LinearForm}
use Rattle.bpf_same.specs.declared.relation.Relation.{Relation}
use Rattle.bpf_same.specs.declared.witness.Witness.{Witness}
use Rattle.bpf_same.specs.Traces.{numbers}
use Rattle.bpf_same.specs.LinearForms.{gathered, held, old_of, plus, total, Hold}
use Rattle.bpf_same.specs.Stepped.{operand_in}
use Rattle.bpf_same.specs.Simulated.{Candidate, IsKnown, IsRelated, IsSilent, Meets}
use Rattle.bpf_same.specs.Caught.{IsThere, IsWith, TakesAlone, CatchesUp, ComesTo, LeadsOn, Entails}
use Rattle.bpf_same.proofs.PairLemmas.{operand_is}
use Rattle.bpf_same.proofs.StepLemmas.{held_register}
use Rattle.bpf_same.proofs.ComputeLemmas.{added}
use Rattle.bpf_same.proofs.TraceLemmas.{silently}
use Rattle.bpf_same.proofs.ChangeLemmas.{jump_changes}
use Rattle.bpf_same.proofs.FoundLemmas.{jump_finds}
use Rattle.bpf_same.proofs.SilentLemmas.{step_at}
use Rattle.bpf_same.proofs.EstablishedLemmas.{jump_stepped}

pub stays : (alone : Bool) (old : List Insn) (low : ℕ) (n : Facts) (e : Relation) (p : ℕ) → CatchesUp alone old low n e p e p
stays alone old low n e p = λ s t known b r contain go. go t b contain

pub further : (alone : Bool) (old : List Insn) (low : ℕ) (n : Facts) (e : Relation) (p : ℕ) (d : Relation) (q : ℕ) (c : Relation) (l : ℕ) → CatchesUp alone old low n e p d q → CatchesUp alone old low n d q c l → CatchesUp alone old low n e p c l
further alone old low n e p d q c l first second = λ s t known b r contain go. first s t known b r contain (λ u beside there. second s u known beside r there go)

silent : (alone : Bool) (old : List Insn) (low : ℕ) (n : Facts) (e : Relation) (p q : ℕ) (i : Insn) → slice_get old p ≡ Some i → IsSilent i e low n p q → CatchesUp alone old low n e p e q
silent alone old low n e p q i there h = λ s t known b r contain go.
    let moved : IsRelated e low q s (at_slot t q) = record { pc = refl; packet = b.packet; ifindex = b.ifindex; queue = b.queue; shapes = b.shapes; find = b.find; stack = b.stack; relation = b.relation } in
    silently alone old r t (at_slot t q) (step_at old t i None (at_slot t q) (ap (slice_get old) b.pc ∙ there) (h s t known b)) (go (at_slot t q) moved contain)

taken : (alone : Bool) (old : List Insn) (low : ℕ) (n : Facts) (e : Relation) (p : ℕ) (d : Relation) (i : Insn) → slice_get old p ≡ Some i → TakesAlone i e n d → CatchesUp alone old low n e p d (p + 1)
taken alone old low n e p d i there h = λ s t known b r contain go.
    let k = h.taken low p s t known b in
    silently alone old r t k.next (step_at old t i None k.next (ap (slice_get old) b.pc ∙ there) k.leads) (go k.next k.related (λ c content small is. contain c content small (sym (h.contents c) ∙ is)))

led : (old : List Insn) (n : Facts) (here there : Place) (i : Insn) → slice_get old here.at ≡ Some i → LeadsOn i n here there → ComesTo old n here there
led old n here there i at (inl h) = λ alone low. subst (λ (e : Relation). CatchesUp alone old low n here.relation here.at e there.at) (sym h.0) (silent alone old low n here.relation here.at there.at i at (h.1 low))
led old n here there i at (inr h) = λ alone low. subst (λ (q : ℕ). CatchesUp alone old low n here.relation here.at there.relation q) (sym h.0) (taken alone old low n here.relation here.at there.relation i at h.1)

pub led_if : (old : List Insn) (n : Facts) (here : Place) (i : Insn) (o : Option Place) → slice_get old here.at ≡ Some i → IfSome o (LeadsOn i n here) → IfSome o (ComesTo old n here)
led_if old n here i None at h = tt
led_if old n here i (Some there) at h = led old n here there i at h

-- the sum of a form's terms is known where that of another form with the same terms is
there_of : (c d : ℕ) (o : Option ℕ) (x : ℕ) → plus (Some c) o ≡ Some x → (y : ℕ) × (plus (Some d) o ≡ Some y)
there_of c d None x e = cc
there_of c d (Some z) x e = ((d + z) % 2 ^ 64, refl)

total_there : (f : ℕ → Option ℕ) (a b : LinearForm) (x : ℕ) → a.terms ≡ b.terms → total f a ≡ Some x → (y : ℕ) × (total f b ≡ Some y)
total_there f a b x same e = there_of a.constant b.constant (gathered f b.terms 64) x (subst (λ (m : ℕ). plus (Some a.constant) (gathered f m 64) ≡ Some x) same e)

read_there : (w : Meaning) (v : Val) (o : Option ℕ) → Reads w v o → (v ≡ Unset → ⊥) → (x : ℕ) × (o ≡ Some x)
read_there w v None r h = absurd (h r)
read_there w v (Some x) r h = (x, refl)

pub is_there : (n : Facts) (e : Relation) (new form : LinearForm) (k : ℕ) → k < 11 → (n.reg k ≡ Unset → ⊥) → new.terms ≡ form.terms → ((f g : ℕ → Option ℕ) → Hold e f g → f k ≡ total f new) → IsThere n e form
is_there n e new form k small set same is = λ s g d hold.
    let r = read_there (meaning s d.base d.address) (n.reg k) (s.reg k) (d.regs k) set in
    total_there (held s) new form r.0 same (sym (is (held s) g hold) ∙ (held_register s k small ∙ r.1))

-- the relation after an addition of the old program alone
some_is : {A : Type 0} {x y : A} → Some x ≡ Some y → x ≡ y
some_is e = cc

with_olds : (e d : Relation) (k : ℕ) (form : LinearForm) (f g : ℕ → Option ℕ) (o : Option ℕ) → IsWith e k form d → Hold e f g → o ≡ total f form → (j : ℕ) (s : LinearForm) → j < 11 → old_of d j ≡ Some s → put g k o j ≡ total f s
with_olds e d k form f g o w hold is j s small claimed = by (j == k) refl
  where
    by : (b : Bool) → b ≡ (j == k) → (if b then o else g j) ≡ total f s
    by true t =
        let same : j ≡ k = grind (arith, nat_tests) in
        is ∙ ap (total f) (some_is (sym w.given ∙ (sym (ap (old_of d) same) ∙ claimed)))
    by false t = hold.olds j s small (sym (w.olds j small (λ e. grind (arith, nat_tests))) ∙ claimed)

with_hold : (e d : Relation) (k : ℕ) (form : LinearForm) (f g : ℕ → Option ℕ) (o : Option ℕ) → IsWith e k form d → Hold e f g → o ≡ total f form → Hold d f (put g k o)
with_hold e d k form f g o w hold is = record {
  olds = with_olds e d k form f g o w hold is;
  news = λ n s small claimed. hold.news n s small (sym (w.news n) ∙ claimed);
  rooms = λ r room small claimed. hold.rooms r room small (sym (w.rooms r) ∙ claimed);
  bounds = λ j r small claimed. hold.bounds j r small (sym (w.bounds j) ∙ claimed);
  shifted = λ j s small claimed. hold.shifted j s small (sym (w.shifted j) ∙ claimed);
  words = hold.words;
}

-- what an addition leads to, its numbers being known
add_leads : (dst : Register) (src : Operand) (t : State) (x y : ℕ) → (number dst == 10) ≡ false → t.reg (number dst) ≡ Some x → operand t src ≡ Some y → LeadsTo (exec (Alu Add true dst src) t) None (with_number t (t.pc + 1) (number dst) (computed Add true x y))
add_leads dst src t x y other one two =
    let u = with_number t (t.pc + 1) (number dst) (computed Add true x y) in
    subst (λ (o : Option ℕ). LeadsTo (need o (λ b. need (first_operand Add (t.reg (number dst))) (λ a. written t (t.pc + 1) (number dst) (computed Add true a b)))) None u) (sym two)
    (subst (λ (o : Option ℕ). LeadsTo (need (first_operand Add o) (λ a. written t (t.pc + 1) (number dst) (computed Add true a y))) None u) (sym one)
    (subst (λ (b : Bool). LeadsTo (if b then Fault else Next u) None u) (sym other) refl))

add_computes : (a b : Option ℕ) (x y : ℕ) → a ≡ Some x → b ≡ Some y → Some (computed Add true x y) ≡ plus a b
add_computes a b x y one two = added a b (Some (computed Add true x y)) (record { x = x; y = y; first = one; second = two; is = refl })

sum_taken : (dst : Register) (src : Operand) (e d : Relation) (n : Facts) (form moved : LinearForm) (y : ℕ) → (number dst == 10) ≡ false → old_of e (number dst) ≡ Some form → ((f g : ℕ → Option ℕ) → Hold e f g → operand_in g src ≡ Some y) → IsThere n e form →
    ((f : ℕ → Option ℕ) → total f moved ≡ plus (total f form) (Some y)) → IsWith e (number dst) moved d → TakesAlone (Alu Add true dst src) e n d
sum_taken dst src e d n form moved y other is read there sum w = record {
  taken = λ low p s t known b.
      let h = b.relation in
      let x = there s t.reg known h in
      let one : t.reg (number dst) ≡ Some x.0 = h.olds (number dst) form (number_small dst) is ∙ x.1 in
      let two : operand_in t.reg src ≡ Some y = read (held s) t.reg h in
      let made : Some (computed Add true x.0 y) ≡ total (held s) moved = add_computes (total (held s) form) (Some y) x.0 y x.1 refl ∙ sym (sum (held s)) in
      record {
        next = with_number t (t.pc + 1) (number dst) (computed Add true x.0 y);
        leads = add_leads dst src t x.0 y other one (operand_is t src ∙ two);
        related = record {
          pc = ap (λ (q : ℕ). q + 1) b.pc;
          packet = b.packet;
          ifindex = b.ifindex;
          queue = b.queue;
          shapes = b.shapes;
          find = b.find;
          stack = b.stack;
          relation = with_hold e d (number dst) moved (held s) t.reg (Some (computed Add true x.0 y)) w h made;
        };
      };
  contents = w.contents;
}

pub sum_if : (dst : Register) (src : Operand) (k : ℕ) (e d : Relation) (n : Facts) (form moved : LinearForm) (y : ℕ) → k ≡ number dst → (k ≡ 10 → ⊥) → old_of e k ≡ Some form → ((f g : ℕ → Option ℕ) → Hold e f g → operand_in g src ≡ Some y) → IsThere n e form →
    ((f : ℕ → Option ℕ) → total f moved ≡ plus (total f form) (Some y)) → IsWith e k moved d → TakesAlone (Alu Add true dst src) e n d
sum_if dst src k e d n form moved y at other is read there sum w =
    sum_taken dst src e d n form moved y (not_frame (number dst) (λ ten. other (at ∙ ten))) (ap (old_of e) (sym at) ∙ is) read there sum (subst (λ (k : ℕ). IsWith e k moved d) at w)
  where
    not_frame : (k : ℕ) → (k ≡ 10 → ⊥) → (k == 10) ≡ false
    not_frame k h = by (k == 10) refl
      where
        by : (b : Bool) → b ≡ (k == 10) → b ≡ false
        by true t = absurd (h (grind (arith, nat_tests)))
        by false t = refl

-- another relation holds where one does that it follows from
no_jump : (s : State) → (cond : Condition) (wide : Bool) (dst : Register) (src : Operand) (off : ℤ) → Ja false (pos 0) ≡ Jump cond wide dst src off → ⊥
no_jump s cond wide dst src off e = cc

-- where the old program catches up with the witness, and the slot's relation follows there, it simulates the slot
pub caught : (b : Candidate) (n : Facts) (e : Relation) (p q : ℕ) (witness : Witness) (d next : Relation) → slice_get b.witnesses q ≡ Some witness → slice_get b.relations q ≡ Some next → CatchesUp b.alone b.old b.low n e p d witness.at → Entails b.alone b.low n d next →
    ((s : State) → Describes n s → IsKnown b.notes q s) → Meets b n e p q
caught b n e p q witness d next here claimed up follows known = λ s t pc describes beside r contain go.
    up s t describes beside r contain (λ u there stands.
    let stepped = jump_stepped (Ja false (pos 0)) b.low s.pc n s u.reg refl (λ cond wide dst src off e. absurd (no_jump s cond wide dst src off e)) describes in
    let related : IsRelated next b.low witness.at s u = record {
      pc = there.pc;
      packet = there.packet;
      ifindex = there.ifindex;
      queue = there.queue;
      shapes = there.shapes;
      find = there.find;
      stack = there.stack;
      relation = follows.preserves (held s) u.reg (held (at_slot s s.pc)) u.reg (numbers b.alone r s) stepped there.relation stands (jump_finds b.alone (Ja false (pos 0)) n (held s) (held (at_slot s s.pc)) (numbers b.alone r s) refl);
    } in
    go witness next u (ap (slice_get b.witnesses) pc ∙ here) (ap (slice_get b.relations) pc ∙ claimed) (subst (λ (q : ℕ). IsKnown b.notes q s) (sym pc) (known s describes)) related
    (λ k content small is. follows.contents k content small is (held s) u.reg (held (at_slot s s.pc)) u.reg (numbers b.alone r s) (numbers b.alone r (at_slot s s.pc)) stepped there.relation stands (jump_changes b.alone (Ja false (pos 0)) s s.pc r r refl refl)))
