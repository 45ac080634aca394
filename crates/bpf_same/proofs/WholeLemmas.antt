-- Where each run of an accepted program is one of an old program by counts, each run of the old program is one of the accepted one.
use Rattle.std.proofs.Common.{ℕ, ◌≡◌, refl, sym, ap, ◌∙◌, subst, ℤ, List, [], ◌∷◌, Option, None, Some}
use Rattle.bpf_insn.specs.Register.{number}
use Rattle.bpf_insn.specs.declared.register.Register.{Register}
use Rattle.bpf_insn.specs.declared.size.Size.TheVariants.{Double}
use Rattle.bpf_insn.specs.declared.insn.Insn.{Insn}
use Rattle.bpf_insn.specs.declared.insn.Insn.TheVariants.{Stx}
use Rattle.bpf_note.specs.State.{State, IsStart}
use Rattle.bpf_note.specs.Regions.{Place, InCounter}
use Rattle.bpf_note.specs.declared.op.Op.{Op}
use Rattle.bpf_flow.specs.Step.{Outcome, Exited, Fault, need, reached, store_to, exec, step, LeadsTo}
use Rattle.bpf_flow.proofs.StepLemmas.{no_fault}
use Rattle.bpf_verify.specs.Consistent.{Accepted, instructions}
use Rattle.bpf_vm.specs.Course.{IsWhole, course}
use Rattle.bpf_same.specs.Same.{Runs}
use Rattle.bpf_same.specs.Counts as counts
use Rattle.bpf_same.specs.Counts.{Effect, Does, Stores, IsCounterStore, StoringWalk, Counts, RunsByCounts, IsSameByCounts, IsWholeByCounts}
use Rattle.bpf_same.proofs.BackLemmas.{found, Finds, AreWords, answered, words_of, same_op, no_more, same_label, none_some}

-- what a walk's operations found, in order
abbrev numbers : List Effect → List ℕ
numbers [] = []
numbers (Does op ∷ effects) = found op ∷ numbers effects
numbers (Stores m k j v ∷ effects) = numbers effects

are_words : (code : List Insn) (r0 : ℕ) (bytes : List ℕ) (s : State) (effects : List Effect) → StoringWalk code r0 bytes s effects → AreWords (numbers effects)
are_words code r0 bytes _ _ (counts.ends s e b) = tt
are_words code r0 bytes _ _ (counts.goes s t effects h w) = are_words code r0 bytes t effects w
are_words code r0 bytes _ _ (counts.does s t op effects h w) = (words_of (step code s) op t h, are_words code r0 bytes t effects w)
are_words code r0 bytes _ _ (counts.stores s t m k j v effects h w) = are_words code r0 bytes t effects w

-- its operations found these numbers, and 0 once there are no more
abbrev EffectsFind : List ℕ → List Effect → Type 0
EffectsFind xs [] = Unit {0}
EffectsFind xs (Stores m k j v ∷ effects) = EffectsFind xs effects
EffectsFind [] (Does op ∷ effects) = (found op ≡ 0) × EffectsFind [] effects
EffectsFind (x ∷ xs) (Does op ∷ effects) = (found op ≡ x) × EffectsFind xs effects

-- what is found is the same, by counts
finds_too : (xs : List ℕ) (effects : List Effect) (done : List Op) → Counts effects done → Finds xs done → EffectsFind xs effects
finds_too xs _ _ counts.none f = tt
finds_too [] _ _ (counts.same op effects done c) f = (f.0, finds_too [] effects done c f.1)
finds_too (x ∷ xs) _ _ (counts.same op effects done c) f = (f.0, finds_too xs effects done c f.1)
finds_too [] _ _ (counts.count m k j n v effects done c) f = (f.0, finds_too [] effects done c f.1)
finds_too (x ∷ xs) _ _ (counts.count m k j n v effects done c) f = (f.0, finds_too xs effects done c f.1)

some_is : {A : Type 0} {x y : A} → Some x ≡ Some y → x ≡ y
some_is e = cc

-- the step of a store to a counter faults in a program that may not
store_faults : (code : List Insn) (s t : State) (m k j v : ℕ) → IsCounterStore code s m k j v t → step code s ≡ Fault
store_faults code s t m k j v c =
    ap (λ (o : Option Insn). need o (λ i. exec i s)) c.here ∙ (ap (λ (o : Option ℕ). need o (λ x. need (s.reg (number c.dst)) (λ a. store_to (reached s a c.off 8) s 8 x))) c.value
    ∙ (ap (λ (o : Option ℕ). need o (λ a. store_to (reached s a c.off 8) s 8 v)) c.address ∙ ap (λ (p : Place). store_to p s 8 v) c.place))

pub no_step : (code : List Insn) (s t u : State) (m k j v : ℕ) (l : Option Op) → IsCounterStore code s m k j v t → LeadsTo (step code s) l u → ⊥
no_step code s t u m k j v l c h = no_fault l u (subst (λ (o : Outcome). LeadsTo o l u) (store_faults code s t m k j v c) h)

pub no_end : (code : List Insn) (s t : State) (m k j v r0 : ℕ) → IsCounterStore code s m k j v t → step code s ≡ Exited r0 → ⊥
no_end code s t m k j v r0 c e = by (sym (store_faults code s t m k j v c) ∙ e)
  where
    by : Fault ≡ Exited r0 → ⊥
    by e = cc

-- two stores of one step
pub record AreOneStore (m k j v m' k' j' v' : ℕ) (t t' : State) : Type 0 where
  pub same : Stores m k j v ≡ Stores m' k' j' v'
  pub next : t' ≡ t

pub one_store : (code : List Insn) (s t t' : State) (m k j v m' k' j' v' : ℕ) → IsCounterStore code s m k j v t → IsCounterStore code s m' k' j' v' t' → AreOneStore m k j v m' k' j' v' t t'
one_store code s t t' m k j v m' k' j' v' c d =
    let insn : Stx Double c.dst c.src c.off ≡ Stx Double d.dst d.src d.off = some_is (sym c.here ∙ d.here) in
    let dst : c.dst ≡ d.dst = cc in
    let src : c.src ≡ d.src = cc in
    let off : c.off ≡ d.off = cc in
    let value : v ≡ v' = some_is (sym c.value ∙ (ap (λ (r : Register). s.reg (number r)) src ∙ d.value)) in
    let base : c.base ≡ d.base = some_is (sym c.address ∙ (ap (λ (r : Register). s.reg (number r)) dst ∙ d.address)) in
    let place : InCounter m k j ≡ InCounter m' k' j' = sym c.place ∙ (ap (λ (a : ℕ). reached s a c.off 8) base ∙ (ap (λ (o : ℤ). reached s d.base o 8) off ∙ d.place)) in
    record { same = cc (value, place); next = d.next ∙ sym c.next }

pub record AreOne (r0 r0' : ℕ) (bytes bytes' : List ℕ) (effects effects' : List Effect) : Type 0 where
  pub number : r0 ≡ r0'
  pub packet : bytes ≡ bytes'
  pub did : effects ≡ effects'

pub in_front : (e e' : Effect) (r0 r0' : ℕ) (bytes bytes' : List ℕ) (effects effects' : List Effect) → e ≡ e' → AreOne r0 r0' bytes bytes' effects effects' → AreOne r0 r0' bytes bytes' (e ∷ effects) (e' ∷ effects')
in_front e e' r0 r0' bytes bytes' effects effects' same a = record { number = a.number; packet = a.packet; did = ap (λ (e : Effect). e ∷ effects) same ∙ ap (λ (l : List Effect). e' ∷ l) a.did }

-- two walks of one program from one state, of which the second finds what the first found
one_walk : (code : List Insn) (r0 r0' : ℕ) (bytes bytes' : List ℕ) (s : State) (effects effects' : List Effect) → StoringWalk code r0 bytes s effects → StoringWalk code r0' bytes' s effects' →
    EffectsFind (numbers effects) effects' → AreOne r0 r0' bytes bytes' effects effects'
one_walk code r0 r0' bytes bytes' _ _ _ (counts.ends s e b) (counts.ends _ e' b') f =
    let both : Exited r0 ≡ Exited r0' = sym e ∙ e' in
    record { number = cc; packet = sym b ∙ b'; did = refl }
one_walk code r0 r0' bytes bytes' _ _ _ (counts.ends s e b) (counts.goes _ t effects h w) f = absurd (no_more code s t r0 None e h)
one_walk code r0 r0' bytes bytes' _ _ _ (counts.ends s e b) (counts.does _ t op effects h w) f = absurd (no_more code s t r0 (Some op) e h)
one_walk code r0 r0' bytes bytes' _ _ _ (counts.ends s e b) (counts.stores _ t m k j v effects h w) f = absurd (no_end code s t m k j v r0 h e)
one_walk code r0 r0' bytes bytes' _ _ _ (counts.goes s t effects h w) (counts.ends _ e b) f = absurd (no_more code s t r0' None e h)
one_walk code r0 r0' bytes bytes' _ _ _ (counts.goes s t effects h w) (counts.goes _ t' effects' h' w') f =
    let same : t' ≡ t = same_label (step code s) None t' t h' h in
    one_walk code r0 r0' bytes bytes' t effects effects' w (subst (λ (t : State). StoringWalk code r0' bytes' t effects') same w') f
one_walk code r0 r0' bytes bytes' _ _ _ (counts.goes s t effects h w) (counts.does _ t' op effects' h' w') f = absurd (none_some (step code s) op t t' h h')
one_walk code r0 r0' bytes bytes' _ _ _ (counts.goes s t effects h w) (counts.stores _ t' m k j v effects' h' w') f = absurd (no_step code s t' t m k j v None h' h)
one_walk code r0 r0' bytes bytes' _ _ _ (counts.does s t op effects h w) (counts.ends _ e b) f = absurd (no_more code s t r0' (Some op) e h)
one_walk code r0 r0' bytes bytes' _ _ _ (counts.does s t op effects h w) (counts.goes _ t' effects' h' w') f = absurd (none_some (step code s) op t' t h' h)
one_walk code r0 r0' bytes bytes' _ _ _ (counts.does s t op effects h w) (counts.does _ t' op' effects' h' w') f =
    let one : op ≡ op' = same_op (step code s) op op' t t' h h' f.0 in
    let same : t' ≡ t = same_label (step code s) (Some op) t' t (subst (λ (op : Op). LeadsTo (step code s) (Some op) t') (sym one) h') h in
    in_front (Does op) (Does op') r0 r0' bytes bytes' effects effects' (ap Does one)
    (one_walk code r0 r0' bytes bytes' t effects effects' w (subst (λ (t : State). StoringWalk code r0' bytes' t effects') same w') f.1)
one_walk code r0 r0' bytes bytes' _ _ _ (counts.does s t op effects h w) (counts.stores _ t' m k j v effects' h' w') f = absurd (no_step code s t' t m k j v (Some op) h' h)
one_walk code r0 r0' bytes bytes' _ _ _ (counts.stores s t m k j v effects h w) (counts.ends _ e b) f = absurd (no_end code s t m k j v r0' h e)
one_walk code r0 r0' bytes bytes' _ _ _ (counts.stores s t m k j v effects h w) (counts.goes _ t' effects' h' w') f = absurd (no_step code s t t' m k j v None h h')
one_walk code r0 r0' bytes bytes' _ _ _ (counts.stores s t m k j v effects h w) (counts.does _ t' op effects' h' w') f = absurd (no_step code s t t' m k j v (Some op) h h')
one_walk code r0 r0' bytes bytes' _ _ _ (counts.stores s t m k j v effects h w) (counts.stores _ t' m' k' j' v' effects' h' w') f =
    let one = one_store code s t t' m k j v m' k' j' v' h h' in
    in_front (Stores m k j v) (Stores m' k' j' v') r0 r0' bytes bytes' effects effects' one.same
    (one_walk code r0 r0' bytes bytes' t effects effects' w (subst (λ (t : State). StoringWalk code r0' bytes' t effects') one.next w') f)

pub whole : (p : Accepted) (old : List Insn) → ((s : State) → IsStart s → s.shapes ≡ p.shapes → IsWhole (course (instructions p.code) p.code s)) → IsSameByCounts p.shapes old p.code → IsWholeByCounts p.shapes p.code old
whole p old runs same = λ s is e r0 bytes effects walk.
    let a = answered (instructions p.code) p.code s (numbers effects) (are_words old r0 bytes s effects walk) (runs s is e) in
    let there : RunsByCounts old a.r0 a.bytes s a.done = same s is e a.r0 a.bytes a.done a.run in
    let one = one_walk old r0 a.r0 bytes a.bytes s effects there.effects walk there.walk (finds_too (numbers effects) there.effects a.done there.counts a.finds) in (
      a.done,
      subst (λ (l : List Effect). Counts l a.done) (sym one.did) there.counts,
      subst (λ (r0 : ℕ). Runs p.code r0 bytes s a.done) (sym one.number) (subst (λ (bytes : List ℕ). Runs p.code a.r0 bytes s a.done) (sym one.packet) a.run),
    )
