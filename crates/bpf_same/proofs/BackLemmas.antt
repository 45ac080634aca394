-- Where each run of an accepted program is one of the old program, each run of the old program is one of the accepted one.
use Rattle.std.proofs.Common.{ℕ, zero, suc, ◌%◌, ◌≡◌, ◌<◌, ◌^◌, refl, sym, ap, ◌∙◌, subst, arith, List, [], ◌∷◌, Option, None, Some}
use Rattle.bpf_insn.specs.declared.insn.Insn.{Insn}
use Rattle.bpf_note.specs.State.{State, IsStart}
use Rattle.bpf_note.specs.declared.op.Op.{Op}
use Rattle.bpf_note.specs.declared.op.Op.TheVariants as ops
use Rattle.bpf_flow.specs.Step.{Outcome, Next, Loads, Adds, Exited, Fault, step, LeadsTo}
use Rattle.bpf_flow.proofs.StepLemmas.{no_fault, exited}
use Rattle.bpf_verify.specs.Consistent.{Accepted, instructions}
use Rattle.bpf_vm.specs.Course.{IsWhole, course, course_by}
use Rattle.bpf_vm.specs.Run.{Walk, ends, goes}
use Rattle.bpf_same.specs.Same.{operations, Runs, IsSame}
use Rattle.bpf_same.proofs.TraceLemmas.{before}

-- what an operation found
abbrev pub found : Op → ℕ
found (ops.Load m k j v) = v
found (ops.Add m k j delta old) = old

-- the operations found these numbers, in order, and 0 once there are no more
abbrev pub Finds : List ℕ → List Op → Type 0
Finds xs [] = Unit {0}
Finds [] (op ∷ done) = (found op ≡ 0) × Finds [] done
Finds (x ∷ xs) (op ∷ done) = (found op ≡ x) × Finds xs done

abbrev pub AreWords : List ℕ → Type 0
AreWords [] = Unit {0}
AreWords (x ∷ xs) = (x < 2 ^ 64) × AreWords xs

-- a run that finds these numbers
pub record Answered (code : List Insn) (s : State) (xs : List ℕ) : Type 0 where
  pub r0 : ℕ
  pub bytes : List ℕ
  pub done : List Op
  pub run : Runs code r0 bytes s done
  pub finds : Finds xs done

step_in_front : (code : List Insn) (s t : State) (xs : List ℕ) → LeadsTo (step code s) None t → Answered code t xs → Answered code s xs
step_in_front code s t xs h a = record { r0 = a.r0; bytes = a.bytes; done = a.done; run = before code a.r0 a.bytes s t None a.done h a.run; finds = a.finds }

op_in_front : (code : List Insn) (s t : State) (xs : List ℕ) (x : ℕ) (op : Op) → found op ≡ x → LeadsTo (step code s) (Some op) t → Answered code t xs → Answered code s (x ∷ xs)
op_in_front code s t xs x op e h a = record { r0 = a.r0; bytes = a.bytes; done = op ∷ a.done; run = before code a.r0 a.bytes s t (Some op) a.done h a.run; finds = (e, a.finds) }

last_in_front : (code : List Insn) (s t : State) (op : Op) → found op ≡ 0 → LeadsTo (step code s) (Some op) t → Answered code t [] → Answered code s []
last_in_front code s t op e h a = record { r0 = a.r0; bytes = a.bytes; done = op ∷ a.done; run = before code a.r0 a.bytes s t (Some op) a.done h a.run; finds = (e, a.finds) }

leads : (code : List Insn) (s t : State) (label : Option Op) (o : Outcome) → step code s ≡ o → LeadsTo o label t → LeadsTo (step code s) label t
leads code s t label o e h = subst (λ (o : Outcome). LeadsTo o label t) (sym e) h

as_found : (n : ℕ) (code : List Insn) (to : ℕ → State) (x : ℕ) → x < 2 ^ 64 → IsWhole (course n code (to (x % 2 ^ 64))) → IsWhole (course n code (to x))
as_found n code to x l h = let small : x % 2 ^ 64 ≡ x = omega (arith, l) in subst (λ (y : ℕ). IsWhole (course n code (to y))) small h

ended : (xs : List ℕ) → Finds xs []
ended [] = tt
ended (x ∷ xs) = tt

by_outcome : (n : ℕ) (code : List Insn) (s : State) (xs : List ℕ) → AreWords xs → ((t : State) (ys : List ℕ) → AreWords ys → IsWhole (course n code t) → Answered code t ys) →
    (o : Outcome) → step code s ≡ o → IsWhole (course_by (course n code) s o) → Answered code s xs
by_outcome n code s xs w go (Next t) e h = step_in_front code s t xs (leads code s t None (Next t) e refl) (go t xs w h)
by_outcome n code s [] w go (Loads m i j to) e h =
    let small : 0 < 2 ^ 64 = omega arith in
    last_in_front code s (to 0) (ops.Load m i j 0) refl (leads code s (to 0) (Some (ops.Load m i j 0)) (Loads m i j to) e (refl, refl, refl, small, refl)) (go (to 0) [] tt (as_found n code to 0 small (h 0)))
by_outcome n code s (x ∷ xs) w go (Loads m i j to) e h =
    op_in_front code s (to x) xs x (ops.Load m i j x) refl (leads code s (to x) (Some (ops.Load m i j x)) (Loads m i j to) e (refl, refl, refl, w.0, refl)) (go (to x) xs w.1 (as_found n code to x w.0 (h x)))
by_outcome n code s [] w go (Adds m i j delta to) e h =
    let small : 0 < 2 ^ 64 = omega arith in
    last_in_front code s (to 0) (ops.Add m i j delta 0) refl (leads code s (to 0) (Some (ops.Add m i j delta 0)) (Adds m i j delta to) e (refl, refl, refl, refl, small, refl)) (go (to 0) [] tt (as_found n code to 0 small (h 0)))
by_outcome n code s (x ∷ xs) w go (Adds m i j delta to) e h =
    op_in_front code s (to x) xs x (ops.Add m i j delta x) refl (leads code s (to x) (Some (ops.Add m i j delta x)) (Adds m i j delta to) e (refl, refl, refl, refl, w.0, refl)) (go (to x) xs w.1 (as_found n code to x w.0 (h x)))
by_outcome n code s xs w go (Exited r0) e h = record { r0 = r0; bytes = s.packet; done = []; run = record { labels = None ∷ []; walk = ends s e refl; did = refl }; finds = ended xs }
by_outcome n code s xs w go Fault e h = absurd h

-- a course without a fault has a run, whatever is found
pub answered : (n : ℕ) (code : List Insn) (s : State) (xs : List ℕ) → AreWords xs → IsWhole (course n code s) → Answered code s xs
answered zero code s xs w h = absurd h
answered (suc n) code s xs w h = by_outcome n code s xs w (λ t ys v k. answered n code t ys v k) (step code s) refl h

-- what the labels of a walk found
abbrev numbers : List (Option Op) → List ℕ
numbers [] = []
numbers (None ∷ labels) = numbers labels
numbers (Some op ∷ labels) = found op ∷ numbers labels

pub words_of : (o : Outcome) (op : Op) (t : State) → LeadsTo o (Some op) t → found op < 2 ^ 64
words_of (Next u) (ops.Load m k j v) t h = absurd h
words_of (Next u) (ops.Add m k j d v) t h = absurd h
words_of (Loads m k j go) (ops.Load m' k' j' v) t h = h.3
words_of (Loads m k j go) (ops.Add m' k' j' d v) t h = absurd h
words_of (Adds m k j d go) (ops.Load m' k' j' v) t h = absurd h
words_of (Adds m k j d go) (ops.Add m' k' j' d' v) t h = h.4
words_of (Exited x) (ops.Load m k j v) t h = absurd h
words_of (Exited x) (ops.Add m k j d v) t h = absurd h
words_of Fault (ops.Load m k j v) t h = absurd h
words_of Fault (ops.Add m k j d v) t h = absurd h

are_words : (code : List Insn) (r0 : ℕ) (bytes : List ℕ) (s : State) (labels : List (Option Op)) → Walk code r0 bytes s labels → AreWords (numbers labels)
are_words code r0 bytes _ _ (ends s e b) = tt
are_words code r0 bytes _ _ (goes s t None labels h w) = are_words code r0 bytes t labels w
are_words code r0 bytes _ _ (goes s t (Some op) labels h w) = (words_of (step code s) op t h, are_words code r0 bytes t labels w)

-- two walks of one program from one state
record AreOne (r0 r0' : ℕ) (bytes bytes' : List ℕ) (done done' : List Op) : Type 0 where
  number : r0 ≡ r0'
  packet : bytes ≡ bytes'
  did : done ≡ done'

pub same_op : (o : Outcome) (op op' : Op) (t t' : State) → LeadsTo o (Some op) t → LeadsTo o (Some op') t' → found op' ≡ found op → op ≡ op'
same_op (Next u) (ops.Load m k j v) op' t t' h g e = absurd h
same_op (Next u) (ops.Add m k j d v) op' t t' h g e = absurd h
same_op (Loads m k j go) (ops.Add m1 k1 j1 d1 v1) op' t t' h g e = absurd h
same_op (Loads m k j go) (ops.Load m1 k1 j1 v1) (ops.Add m2 k2 j2 d2 v2) t t' h g e = absurd g
same_op (Loads m k j go) (ops.Load m1 k1 j1 v1) (ops.Load m2 k2 j2 v2) t t' h g e = cc (h.0, h.1, h.2, g.0, g.1, g.2, e)
same_op (Adds m k j d go) (ops.Load m1 k1 j1 v1) op' t t' h g e = absurd h
same_op (Adds m k j d go) (ops.Add m1 k1 j1 d1 v1) (ops.Load m2 k2 j2 v2) t t' h g e = absurd g
same_op (Adds m k j d go) (ops.Add m1 k1 j1 d1 v1) (ops.Add m2 k2 j2 d2 v2) t t' h g e = cc (h.0, h.1, h.2, h.3, g.0, g.1, g.2, g.3, e)
same_op (Exited x) (ops.Load m k j v) op' t t' h g e = absurd h
same_op (Exited x) (ops.Add m k j d v) op' t t' h g e = absurd h
same_op Fault (ops.Load m k j v) op' t t' h g e = absurd h
same_op Fault (ops.Add m k j d v) op' t t' h g e = absurd h

pub no_more : (code : List Insn) (s t : State) (r0 : ℕ) (label : Option Op) → step code s ≡ Exited r0 → LeadsTo (step code s) label t → ⊥
no_more code s t r0 label e h = exited r0 label t (subst (λ (o : Outcome). LeadsTo o label t) e h)

-- a step's label and what it found fix the next state
pub same_label : (o : Outcome) (l : Option Op) (u u' : State) → LeadsTo o l u → LeadsTo o l u' → u ≡ u'
same_label (Next t) None u u' h g = sym h ∙ g
same_label (Next t) (Some (ops.Load m k j v)) u u' h g = absurd h
same_label (Next t) (Some (ops.Add m k j d v)) u u' h g = absurd h
same_label (Loads m k j go) None u u' h g = absurd h
same_label (Loads m k j go) (Some (ops.Load m' k' j' v)) u u' h g = sym h.4 ∙ g.4
same_label (Loads m k j go) (Some (ops.Add m' k' j' d v)) u u' h g = absurd h
same_label (Adds m k j d go) None u u' h g = absurd h
same_label (Adds m k j d go) (Some (ops.Load m' k' j' v)) u u' h g = absurd h
same_label (Adds m k j d go) (Some (ops.Add m' k' j' d' v)) u u' h g = sym h.5 ∙ g.5
same_label (Exited x) l u u' h g = absurd (exited x l u h)
same_label Fault l u u' h g = absurd (no_fault l u h)

-- a step has an operation or none
pub none_some : (o : Outcome) (op : Op) (t t' : State) → LeadsTo o None t → LeadsTo o (Some op) t' → ⊥
none_some (Next u) (ops.Load m k j v) t t' h g = g
none_some (Next u) (ops.Add m k j d v) t t' h g = g
none_some (Loads m k j go) op t t' h g = h
none_some (Adds m k j d go) op t t' h g = h
none_some (Exited x) op t t' h g = h
none_some Fault op t t' h g = h

-- of which the second finds what the first found
one_walk : (code : List Insn) (r0 r0' : ℕ) (bytes bytes' : List ℕ) (s : State) (labels labels' : List (Option Op)) → Walk code r0 bytes s labels → Walk code r0' bytes' s labels' →
    Finds (numbers labels) (operations labels') → AreOne r0 r0' bytes bytes' (operations labels) (operations labels')
one_walk code r0 r0' bytes bytes' _ _ _ (ends s e b) (ends _ e' b') f =
    let both : Exited r0 ≡ Exited r0' = sym e ∙ e' in
    record { number = cc; packet = sym b ∙ b'; did = refl }
one_walk code r0 r0' bytes bytes' _ _ _ (ends s e b) (goes _ t label labels h w) f = absurd (no_more code s t r0 label e h)
one_walk code r0 r0' bytes bytes' _ _ _ (goes s t label labels h w) (ends _ e b) f = absurd (no_more code s t r0' label e h)
one_walk code r0 r0' bytes bytes' _ _ _ (goes s t None labels h w) (goes _ t' None labels' h' w') f =
    let same : t' ≡ t = same_label (step code s) None t' t h' h in
    one_walk code r0 r0' bytes bytes' t labels labels' w (subst (λ (t : State). Walk code r0' bytes' t labels') same w') f
one_walk code r0 r0' bytes bytes' _ _ _ (goes s t None labels h w) (goes _ t' (Some op) labels' h' w') f = absurd (none_some (step code s) op t t' h h')
one_walk code r0 r0' bytes bytes' _ _ _ (goes s t (Some op) labels h w) (goes _ t' None labels' h' w') f = absurd (none_some (step code s) op t' t h' h)
one_walk code r0 r0' bytes bytes' _ _ _ (goes s t (Some op) labels h w) (goes _ t' (Some op') labels' h' w') f =
    let one : op ≡ op' = same_op (step code s) op op' t t' h h' f.0 in
    let same : t' ≡ t = same_label (step code s) (Some op) t' t (subst (λ (op : Op). LeadsTo (step code s) (Some op) t') (sym one) h') h in
    let rest = one_walk code r0 r0' bytes bytes' t labels labels' w (subst (λ (t : State). Walk code r0' bytes' t labels') same w') f.1 in
    record { number = rest.number; packet = rest.packet; did = ap (λ (op : Op). op ∷ operations labels) one ∙ ap (λ (done : List Op). op' ∷ done) rest.did }

-- where a program's course has no fault, and each of its runs is one of the old program, each run of the old program is one of its own
pub back : (p : Accepted) (old : List Insn) → ((s : State) → IsStart s → s.shapes ≡ p.shapes → IsWhole (course (instructions p.code) p.code s)) → IsSame p.shapes old p.code → IsSame p.shapes p.code old
back p old whole same = λ s is e r0 bytes done run.
    let a = answered (instructions p.code) p.code s (numbers run.labels) (are_words old r0 bytes s run.labels run.walk) (whole s is e) in
    let there : Runs old a.r0 a.bytes s a.done = same s is e a.r0 a.bytes a.done a.run in
    let finds : Finds (numbers run.labels) (operations there.labels) = subst (λ (done : List Op). Finds (numbers run.labels) done) (sym there.did) a.finds in
    let one = one_walk old r0 a.r0 bytes a.bytes s run.labels there.labels run.walk there.walk finds in
    let done_is : a.done ≡ done = sym there.did ∙ (sym one.did ∙ run.did) in
    subst (λ (r0 : ℕ). Runs p.code r0 bytes s done) (sym one.number)
    (subst (λ (bytes : List ℕ). Runs p.code a.r0 bytes s done) (sym one.packet)
    (subst (λ (done : List Op). Runs p.code a.r0 a.bytes s done) done_is a.run))
