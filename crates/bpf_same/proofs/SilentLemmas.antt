-- Silent steps of the old program.
use Rattle.std.proofs.Common.{ℕ, ◌+◌, ◌≡◌, refl, sym, ap, ◌∙◌, subst, ℤ, List, Option, None, Some, Bool, true, false}
use Rattle.std.specs.Prelude.{if◌then◌else◌, slice_get, IfSome}
use Rattle.bpf_insn.specs.Register.{number}
use Rattle.bpf_insn.specs.Conditions.{is_met}
use Rattle.bpf_insn.specs.declared.condition.Condition.{Condition}
use Rattle.bpf_insn.specs.declared.register.Register.{Register}
use Rattle.bpf_insn.specs.declared.operand.Operand.{Operand}
use Rattle.bpf_insn.specs.declared.insn.Insn.{Insn}
use Rattle.bpf_insn.specs.declared.insn.Insn.TheVariants.{Ja, Jump}
use Rattle.bpf_note.specs.Shape.{Shape}
use Rattle.bpf_note.specs.State.{State}
use Rattle.bpf_note.specs.Facts.{Facts}
use Rattle.bpf_note.specs.Describes.{Describes}
use Rattle.bpf_note.specs.declared.op.Op.{Op}
use Rattle.bpf_flow.specs.Step.{Next, need, at_slot, operand, target, jumped, exec, step, LeadsTo}
use Rattle.bpf_same.specs.declared.witness.Witness.{Witness}
use Rattle.bpf_same.specs.Traces.{Has, numbers}
use Rattle.bpf_same.specs.Contents.{Contain}
use Rattle.bpf_same.specs.Decided.{Compared, IsDecided}
use Rattle.bpf_same.specs.declared.relation.Relation.{Relation}
use Rattle.bpf_same.specs.LinearForms.{held}
use Rattle.bpf_same.specs.Stepped.{AreAlike, ReadsAlike}
use Rattle.bpf_same.specs.Simulated.{Candidate, IsKnown, IsRelated, ReachesSilently, SimulatesFrom, IsSilent}
use Rattle.bpf_same.proofs.PairLemmas.{parted, operand_is}
use Rattle.bpf_same.proofs.StepLemmas.{held_register, alike_of}
use Rattle.bpf_same.proofs.TraceLemmas.{silently}

pub step_at : (code : List Insn) (s : State) (i : Insn) (label : Option Op) (u : State) → slice_get code s.pc ≡ Some i → LeadsTo (exec i s) label u → LeadsTo (step code s) label u
step_at code s i label u e h = subst (λ (o : Option Insn). LeadsTo (need o (λ i. exec i s)) label u) (sym e) h

pub some_is : {A : Type 0} {x y : A} → Some x ≡ Some y → x ≡ y
some_is e = cc

pub true_false : true ≡ false → ⊥
true_false e = cc

pub false_true : {P : Type 0} → false ≡ true → P
false_true e = cc

-- the old program's state, at its slot
pub at_same : (e : Relation) (low p : ℕ) (s t : State) → IsRelated e low p s t → at_slot t p ≡ t
at_same e low p s t b = ap (at_slot t) (sym b.pc)

pub parted_is : (e : Relation) (low p : ℕ) (s t : State) → IsRelated e low p s t → t ≡ parted s p t.reg t.stack
parted_is e low p s t b =
    ap (λ (pc : ℕ). record t { pc = pc }) b.pc
    ∙ ap (λ (x : List ℕ). record t { pc = p; packet = x }) b.packet
    ∙ ap (λ (i : ℕ). record t { pc = p; packet = s.packet; ifindex = i }) b.ifindex
    ∙ ap (λ (q : ℕ). record t { pc = p; packet = s.packet; ifindex = s.ifindex; queue = q }) b.queue
    ∙ ap (λ (m : List Shape). record t { pc = p; packet = s.packet; ifindex = s.ifindex; queue = s.queue; shapes = m }) b.shapes
    ∙ ap (λ (f : ℕ → List ℕ → Option ℕ). record t { pc = p; packet = s.packet; ifindex = s.ifindex; queue = s.queue; shapes = s.shapes; find = f }) b.find

pub alike_there : (e : Relation) (low p : ℕ) (i : Insn) (s t : State) → IsRelated e low p s t → ReadsAlike e i → AreAlike i s.reg t.reg
alike_there e low p i s t b alike = alike_of i (held s) s.reg t.reg (λ k l. held_register s k l) (alike (held s) t.reg b.relation)

-- what is compared is the same in the old program
pub compared_old : (e : Relation) (low p : ℕ) (cond : Condition) (wide : Bool) (dst : Register) (src : Operand) (off : ℤ) (s t : State) (c : Bool) → IsRelated e low p s t → ReadsAlike e (Jump cond wide dst src off) →
    Compared cond wide (s.reg (number dst)) (operand s src) c → Compared cond wide (t.reg (number dst)) (operand t src) c
compared_old e low p cond wide dst src off s t c b alike k =
    let a = alike_there e low p (Jump cond wide dst src off) s t b alike in
    record { x = k.x; y = k.y; first = a.0 ∙ k.first; second = operand_is t src ∙ (a.1 ∙ (sym (operand_is s src) ∙ k.second)); met = k.met }

-- one silent step more
pub silent_further : (alone : Bool) (old : List Insn) (e : Relation) (low : ℕ) (n : Facts) (p q r : ℕ) (i : Insn) → ReachesSilently alone old e low n p q → slice_get old q ≡ Some i → IsSilent i e low n q r → ReachesSilently alone old e low n p r
silent_further alone old e low n p q r i before_that there h = λ s t d b to run.
    let moved : IsRelated e low q s (at_slot t q) = record { pc = refl; packet = b.packet; ifindex = b.ifindex; queue = b.queue; shapes = b.shapes; find = b.find; stack = b.stack; relation = b.relation } in
    before_that s t d b to (silently alone old to (at_slot t q) (at_slot t r) (step_at old (at_slot t q) i None (at_slot t r) there (h s (at_slot t q) d moved)) run)

pub stay : (alone : Bool) (old : List Insn) (e : Relation) (low : ℕ) (n : Facts) (p : ℕ) → ReachesSilently alone old e low n p p
stay alone old e low n p = λ s t d b r run. subst (λ (t : State). Has alone old r t) (at_same e low p s t b) run

pub target_leads : (t : State) (o : Option ℕ) (r : ℕ) → o ≡ Some r → LeadsTo (need o (λ p. Next (at_slot t p))) None (at_slot t r)
target_leads t o r e = subst (λ (o : Option ℕ). LeadsTo (need o (λ p. Next (at_slot t p))) None (at_slot t r)) (sym e) refl

pub ja_silent : (wide : Bool) (to : ℤ) (e : Relation) (low : ℕ) (n : Facts) (p q : ℕ) → target p to ≡ Some q → IsSilent (Ja wide to) e low n p q
ja_silent wide to e low n p q h = λ s t d b. target_leads t (target t.pc to) q (ap (λ (pc : ℕ). target pc to) b.pc ∙ h)

-- what a conditional jump comes to, its numbers and its way being known
pub jump_leads : (cond : Condition) (wide : Bool) (dst : Register) (src : Operand) (off : ℤ) (t : State) (c : Bool) (u : State) → Compared cond wide (t.reg (number dst)) (operand t src) c →
    LeadsTo (if c then jumped t off else Next (at_slot t (t.pc + 1))) None u → LeadsTo (exec (Jump cond wide dst src off) t) None u
jump_leads cond wide dst src off t c u k h =
    subst (λ (o : Option ℕ). LeadsTo (need o (λ a. need (operand t src) (λ b. if is_met cond wide a b then jumped t off else Next (at_slot t (t.pc + 1))))) None u) (sym k.first)
    (subst (λ (o : Option ℕ). LeadsTo (need o (λ b. if is_met cond wide k.x b then jumped t off else Next (at_slot t (t.pc + 1)))) None u) (sym k.second)
    (subst (λ (c : Bool). LeadsTo (if c then jumped t off else Next (at_slot t (t.pc + 1))) None u) (sym k.met) h))

pub taken_silent : (cond : Condition) (wide : Bool) (dst : Register) (src : Operand) (off : ℤ) (e : Relation) (low : ℕ) (n : Facts) (p q : ℕ) → ReadsAlike e (Jump cond wide dst src off) → IsDecided (Jump cond wide dst src off) e n true → target p off ≡ Some q →
    IsSilent (Jump cond wide dst src off) e low n p q
taken_silent cond wide dst src off e low n p q alike k h = λ s t d b.
    jump_leads cond wide dst src off t true (at_slot t q) (compared_old e low p cond wide dst src off s t true b alike (k s t.reg d b.relation)) (target_leads t (target t.pc off) q (ap (λ (pc : ℕ). target pc off) b.pc ∙ h))

pub left_silent : (cond : Condition) (wide : Bool) (dst : Register) (src : Operand) (off : ℤ) (e : Relation) (low : ℕ) (n : Facts) (p : ℕ) → ReadsAlike e (Jump cond wide dst src off) → IsDecided (Jump cond wide dst src off) e n false →
    IsSilent (Jump cond wide dst src off) e low n p (p + 1)
left_silent cond wide dst src off e low n p alike k = λ s t d b.
    jump_leads cond wide dst src off t false (at_slot t (p + 1)) (compared_old e low p cond wide dst src off s t false b alike (k s t.reg d b.relation)) (ap (λ (pc : ℕ). at_slot t (pc + 1)) b.pc)

-- where silent steps lead to the witness, and one of the notes there describes what this describes, the old program simulates the slot
pub meet : (b : Candidate) (n : Facts) (p q : ℕ) (witness : Witness) (e : Relation) → slice_get b.witnesses q ≡ Some witness → slice_get b.relations q ≡ Some e → ReachesSilently b.alone b.old e b.low n p witness.at → ((s : State) → Describes n s → IsKnown b.notes q s) → SimulatesFrom b n p q
meet b n p q witness e here claimed way known = λ e' claimed' s t pc d beside r contain go.
    let same : e' ≡ e = some_is (sym claimed' ∙ claimed) in
    let there : IsRelated e b.low p s t = subst (λ (e : Relation). IsRelated e b.low p s t) same beside in
    way s t d there r (go witness e (at_slot t witness.at) (ap (slice_get b.witnesses) pc ∙ here) (ap (slice_get b.relations) pc ∙ claimed) (subst (λ (q : ℕ). IsKnown b.notes q s) (sym pc) (known s d))
    (record { pc = refl; packet = there.packet; ifindex = there.ifindex; queue = there.queue; shapes = there.shapes; find = there.find; stack = there.stack; relation = there.relation }) (subst (λ (e : Relation). Contain e (held s) (numbers b.alone r s)) same contain))

pub taken_if : (i : Insn) (cond : Condition) (wide : Bool) (dst : Register) (src : Operand) (off : ℤ) (e : Relation) (low : ℕ) (n : Facts) (p : ℕ) (o : Option ℕ) → i ≡ Jump cond wide dst src off → ReadsAlike e (Jump cond wide dst src off) →
    IsDecided (Jump cond wide dst src off) e n true → o ≡ target p off → IfSome o (IsSilent i e low n p)
taken_if i cond wide dst src off e low n p None is alike d at = tt
taken_if i cond wide dst src off e low n p (Some q) is alike d at = subst (λ (i : Insn). IsSilent i e low n p q) (sym is) (taken_silent cond wide dst src off e low n p q alike d (sym at))

pub left_if : (i : Insn) (cond : Condition) (wide : Bool) (dst : Register) (src : Operand) (off : ℤ) (e : Relation) (low : ℕ) (n : Facts) (p : ℕ) → i ≡ Jump cond wide dst src off → ReadsAlike e (Jump cond wide dst src off) →
    IsDecided (Jump cond wide dst src off) e n false → IsSilent i e low n p (p + 1)
left_if i cond wide dst src off e low n p is alike d = subst (λ (i : Insn). IsSilent i e low n p (p + 1)) (sym is) (left_silent cond wide dst src off e low n p alike d)

pub silent_if : (old : List Insn) (e : Relation) (low : ℕ) (n : Facts) (p : ℕ) (i : Insn) (o : Option ℕ) → slice_get old p ≡ Some i → IfSome o (IsSilent i e low n p) → IfSome o (λ q. (i : Insn) × (slice_get old p ≡ Some i) × IsSilent i e low n p q)
silent_if old e low n p i None at h = tt
silent_if old e low n p i (Some q) at h = (i, at, h)
