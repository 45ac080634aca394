-- Runs of programs that alone have the counters: programs with the same runs, or with the same runs by counts, do the same alone.
use Rattle.std.proofs.Common.{ℕ, zero, suc, ◌+◌, ◌%◌, ◌^◌, ◌≡◌, ◌<◌, refl, sym, ap, ◌∙◌, subst, arith, List, [], ◌∷◌, Option, None, Some, Bool, true, false}
use Rattle.std.specs.Prelude.{◌&&◌, if◌then◌else◌, ◌==◌}
use Rattle.bpf_insn.specs.declared.insn.Insn.{Insn}
use Rattle.bpf_note.specs.State.{State, IsStart}
use Rattle.bpf_note.specs.declared.op.Op.{Op}
use Rattle.bpf_note.specs.declared.op.Op.TheVariants as ops
use Rattle.bpf_flow.specs.Step.{Outcome, Next, Loads, Adds, Exited, Fault, step, LeadsTo}
use Rattle.bpf_verify.specs.Consistent.{Accepted, instructions}
use Rattle.bpf_vm.specs.Course.{IsWhole, course, course_by}
use Rattle.bpf_vm.specs.Run.{Walk, ends, goes}
use Rattle.bpf_same.specs.Same.{operations, Runs, IsSame}
use Rattle.bpf_same.specs.Counts as counts
use Rattle.bpf_same.specs.Counts.{Effect, Does, Stores, StoringWalk, Counts, RunsByCounts, IsSameByCounts}
use Rattle.bpf_same.specs.Alone.{Counters, AreCounters, with_counter, IsFound, counters_after, FindsAndLeaves, RunsAlone, IsSameAlone}
use Rattle.bpf_same.specs.Traces.{does}
use Rattle.bpf_same.proofs.TraceLemmas.{before}
use Rattle.bpf_same.proofs.BackLemmas.{found, same_op, no_more, same_label, none_some}
use Rattle.bpf_same.proofs.WholeLemmas.{no_step, no_end, one_store, AreOne, in_front}

-- a walk stores nothing
storing : (code : List Insn) (r0 : ℕ) (bytes : List ℕ) (s : State) (labels : List (Option Op)) → Walk code r0 bytes s labels → StoringWalk code r0 bytes s (does (operations labels))
storing code r0 bytes _ _ (ends s e b) = counts.ends s e b
storing code r0 bytes _ _ (goes s t None labels h w) = counts.goes s t (does (operations labels)) h (storing code r0 bytes t labels w)
storing code r0 bytes _ _ (goes s t (Some op) labels h w) = counts.does s t op (does (operations labels)) h (storing code r0 bytes t labels w)

run_storing : (code : List Insn) (r0 : ℕ) (bytes : List ℕ) (s : State) (done : List Op) → Runs code r0 bytes s done → StoringWalk code r0 bytes s (does done)
run_storing code r0 bytes s done run = subst (λ (done : List Op). StoringWalk code r0 bytes s (does done)) run.did (storing code r0 bytes s run.labels run.walk)

-- --- what is found
same_found : (o : Outcome) (op op' : Op) (t t' : State) (c : Counters) → LeadsTo o (Some op) t → LeadsTo o (Some op') t' → IsFound c (Does op) → IsFound c (Does op') → found op' ≡ found op
same_found (Next u) (ops.Load m k j v) op' t t' c h g e f = absurd h
same_found (Next u) (ops.Add m k j d v) op' t t' c h g e f = absurd h
same_found (Loads m k j go) (ops.Add m1 k1 j1 d1 v1) op' t t' c h g e f = absurd h
same_found (Loads m k j go) (ops.Load m1 k1 j1 v1) (ops.Add m2 k2 j2 d2 v2) t t' c h g e f = absurd g
same_found (Loads m k j go) (ops.Load m1 k1 j1 v1) (ops.Load m2 k2 j2 v2) t t' c h g e f =
    let first : v1 ≡ c m1 k1 j1 = e in
    let second : v2 ≡ c m2 k2 j2 = f in
    cc (h.0, h.1, h.2, g.0, g.1, g.2, first, second)
same_found (Adds m k j d go) (ops.Load m1 k1 j1 v1) op' t t' c h g e f = absurd h
same_found (Adds m k j d go) (ops.Add m1 k1 j1 d1 v1) (ops.Load m2 k2 j2 v2) t t' c h g e f = absurd g
same_found (Adds m k j d go) (ops.Add m1 k1 j1 d1 v1) (ops.Add m2 k2 j2 d2 v2) t t' c h g e f =
    let first : v1 ≡ c m1 k1 j1 = e in
    let second : v2 ≡ c m2 k2 j2 = f in
    cc (h.0, h.1, h.2, g.0, g.1, g.2, first, second)
same_found (Exited x) (ops.Load m k j v) op' t t' c h g e f = absurd h
same_found (Exited x) (ops.Add m k j d v) op' t t' c h g e f = absurd h
same_found Fault (ops.Load m k j v) op' t t' c h g e f = absurd h
same_found Fault (ops.Add m k j d v) op' t t' c h g e f = absurd h

after_one : (c d : Counters) (e e' : Effect) (effects : List Effect) → e ≡ e' → FindsAndLeaves (counters_after c e') effects d → FindsAndLeaves (counters_after c e) effects d
after_one c d e e' effects same f = subst (λ (e : Effect). FindsAndLeaves (counters_after c e) effects d) (sym same) f

-- two walks of one program from one state and the same counters
one_alone : (code : List Insn) (r0 r0' : ℕ) (bytes bytes' : List ℕ) (s : State) (effects effects' : List Effect) (c d d' : Counters) → StoringWalk code r0 bytes s effects → StoringWalk code r0' bytes' s effects' →
    FindsAndLeaves c effects d → FindsAndLeaves c effects' d' → AreOne r0 r0' bytes bytes' effects effects'
one_alone code r0 r0' bytes bytes' _ _ _ c d d' (counts.ends s e b) (counts.ends _ e' b') f g =
    let both : Exited r0 ≡ Exited r0' = sym e ∙ e' in
    record { number = cc; packet = sym b ∙ b'; did = refl }
one_alone code r0 r0' bytes bytes' _ _ _ c d d' (counts.ends s e b) (counts.goes _ t effects h w) f g = absurd (no_more code s t r0 None e h)
one_alone code r0 r0' bytes bytes' _ _ _ c d d' (counts.ends s e b) (counts.does _ t op effects h w) f g = absurd (no_more code s t r0 (Some op) e h)
one_alone code r0 r0' bytes bytes' _ _ _ c d d' (counts.ends s e b) (counts.stores _ t m k j v effects h w) f g = absurd (no_end code s t m k j v r0 h e)
one_alone code r0 r0' bytes bytes' _ _ _ c d d' (counts.goes s t effects h w) (counts.ends _ e b) f g = absurd (no_more code s t r0' None e h)
one_alone code r0 r0' bytes bytes' _ _ _ c d d' (counts.goes s t effects h w) (counts.goes _ t' effects' h' w') f g =
    let same : t' ≡ t = same_label (step code s) None t' t h' h in
    one_alone code r0 r0' bytes bytes' t effects effects' c d d' w (subst (λ (t : State). StoringWalk code r0' bytes' t effects') same w') f g
one_alone code r0 r0' bytes bytes' _ _ _ c d d' (counts.goes s t effects h w) (counts.does _ t' op effects' h' w') f g = absurd (none_some (step code s) op t t' h h')
one_alone code r0 r0' bytes bytes' _ _ _ c d d' (counts.goes s t effects h w) (counts.stores _ t' m k j v effects' h' w') f g = absurd (no_step code s t' t m k j v None h' h)
one_alone code r0 r0' bytes bytes' _ _ _ c d d' (counts.does s t op effects h w) (counts.ends _ e b) f g = absurd (no_more code s t r0' (Some op) e h)
one_alone code r0 r0' bytes bytes' _ _ _ c d d' (counts.does s t op effects h w) (counts.goes _ t' effects' h' w') f g = absurd (none_some (step code s) op t' t h' h)
one_alone code r0 r0' bytes bytes' _ _ _ c d d' (counts.does s t op effects h w) (counts.does _ t' op' effects' h' w') f g =
    let one : op ≡ op' = same_op (step code s) op op' t t' h h' (same_found (step code s) op op' t t' c h h' f.0 g.0) in
    let same : t' ≡ t = same_label (step code s) (Some op) t' t (subst (λ (op : Op). LeadsTo (step code s) (Some op) t') (sym one) h') h in
    in_front (Does op) (Does op') r0 r0' bytes bytes' effects effects' (ap Does one)
    (one_alone code r0 r0' bytes bytes' t effects effects' (counters_after c (Does op)) d d' w (subst (λ (t : State). StoringWalk code r0' bytes' t effects') same w') f.1
    (after_one c d' (Does op) (Does op') effects' (ap Does one) g.1))
one_alone code r0 r0' bytes bytes' _ _ _ c d d' (counts.does s t op effects h w) (counts.stores _ t' m k j v effects' h' w') f g = absurd (no_step code s t' t m k j v (Some op) h' h)
one_alone code r0 r0' bytes bytes' _ _ _ c d d' (counts.stores s t m k j v effects h w) (counts.ends _ e b) f g = absurd (no_end code s t m k j v r0' h e)
one_alone code r0 r0' bytes bytes' _ _ _ c d d' (counts.stores s t m k j v effects h w) (counts.goes _ t' effects' h' w') f g = absurd (no_step code s t t' m k j v None h h')
one_alone code r0 r0' bytes bytes' _ _ _ c d d' (counts.stores s t m k j v effects h w) (counts.does _ t' op effects' h' w') f g = absurd (no_step code s t t' m k j v (Some op) h h')
one_alone code r0 r0' bytes bytes' _ _ _ c d d' (counts.stores s t m k j v effects h w) (counts.stores _ t' m' k' j' v' effects' h' w') f g =
    let one = one_store code s t t' m k j v m' k' j' v' h h' in
    in_front (Stores m k j v) (Stores m' k' j' v') r0 r0' bytes bytes' effects effects' one.same
    (one_alone code r0 r0' bytes bytes' t effects effects' (counters_after c (Stores m k j v)) d d' w (subst (λ (t : State). StoringWalk code r0' bytes' t effects') one.next w') f.1
    (after_one c d' (Stores m k j v) (Stores m' k' j' v') effects' one.same g.1))

-- what the same effects leave
one_left : (c d d' : Counters) (effects : List Effect) → FindsAndLeaves c effects d → FindsAndLeaves c effects d' → (m k j : ℕ) → d' m k j ≡ d m k j
one_left c d d' [] f g = λ m k j. g m k j ∙ sym (f m k j)
one_left c d d' (effect ∷ effects) f g = one_left (counters_after c effect) d d' effects f.1 g.1

left_too : (c d d' : Counters) (effects : List Effect) → FindsAndLeaves c effects d → ((m k j : ℕ) → d' m k j ≡ d m k j) → FindsAndLeaves c effects d'
left_too c d d' [] f e = λ m k j. e m k j ∙ f m k j
left_too c d d' (effect ∷ effects) f e = (f.0, left_too (counters_after c effect) d d' effects f.1 e)

-- --- a program without a fault has a run from all counters
record Found (code : List Insn) (s : State) (c : Counters) : Type 0 where
  r0 : ℕ
  bytes : List ℕ
  done : List Op
  run : Runs code r0 bytes s done
  left : Counters
  leaves : FindsAndLeaves c (does done) left

with_small : (c : Counters) (m k j x : ℕ) → AreCounters c → x < 2 ^ 64 → AreCounters (with_counter c m k j x)
with_small c m k j x w l = λ n i q. by (n == m && i == k && q == j) (c n i q) (w n i q)
  where
    by : (b : Bool) (y : ℕ) → y < 2 ^ 64 → (if b then x else y) < 2 ^ 64
    by true y h = l
    by false y h = h

step_in_front : (code : List Insn) (s t : State) (c : Counters) → LeadsTo (step code s) None t → Found code t c → Found code s c
step_in_front code s t c h a = record { r0 = a.r0; bytes = a.bytes; done = a.done; run = before code a.r0 a.bytes s t None a.done h a.run; left = a.left; leaves = a.leaves }

op_in_front : (code : List Insn) (s t : State) (c : Counters) (op : Op) → IsFound c (Does op) → LeadsTo (step code s) (Some op) t → Found code t (counters_after c (Does op)) → Found code s c
op_in_front code s t c op e h a = record { r0 = a.r0; bytes = a.bytes; done = op ∷ a.done; run = before code a.r0 a.bytes s t (Some op) a.done h a.run; left = a.left; leaves = (e, a.leaves) }

leads : (code : List Insn) (s t : State) (label : Option Op) (o : Outcome) → step code s ≡ o → LeadsTo o label t → LeadsTo (step code s) label t
leads code s t label o e h = subst (λ (o : Outcome). LeadsTo o label t) (sym e) h

as_found : (n : ℕ) (code : List Insn) (to : ℕ → State) (x : ℕ) → x < 2 ^ 64 → IsWhole (course n code (to (x % 2 ^ 64))) → IsWhole (course n code (to x))
as_found n code to x l h = let small : x % 2 ^ 64 ≡ x = omega (arith, l) in subst (λ (y : ℕ). IsWhole (course n code (to y))) small h

by_outcome : (n : ℕ) (code : List Insn) (s : State) (c : Counters) → AreCounters c → ((t : State) (d : Counters) → AreCounters d → IsWhole (course n code t) → Found code t d) →
    (o : Outcome) → step code s ≡ o → IsWhole (course_by (course n code) s o) → Found code s c
by_outcome n code s c w go (Next t) e h = step_in_front code s t c (leads code s t None (Next t) e refl) (go t c w h)
by_outcome n code s c w go (Loads m i j to) e h =
    let x : ℕ = c m i j in
    op_in_front code s (to x) c (ops.Load m i j x) refl (leads code s (to x) (Some (ops.Load m i j x)) (Loads m i j to) e (refl, refl, refl, w m i j, refl))
    (go (to x) c w (as_found n code to x (w m i j) (h x)))
by_outcome n code s c w go (Adds m i j delta to) e h =
    let x : ℕ = c m i j in
    let small : (x + delta) % 2 ^ 64 < 2 ^ 64 = omega arith in
    op_in_front code s (to x) c (ops.Add m i j delta x) refl (leads code s (to x) (Some (ops.Add m i j delta x)) (Adds m i j delta to) e (refl, refl, refl, refl, w m i j, refl))
    (go (to x) (with_counter c m i j ((x + delta) % 2 ^ 64)) (with_small c m i j ((x + delta) % 2 ^ 64) w small) (as_found n code to x (w m i j) (h x)))
by_outcome n code s c w go (Exited r0) e h = record { r0 = r0; bytes = s.packet; done = []; run = record { labels = None ∷ []; walk = ends s e refl; did = refl }; left = c; leaves = λ m k j. refl }
by_outcome n code s c w go Fault e h = absurd h

found_alone : (n : ℕ) (code : List Insn) (s : State) (c : Counters) → AreCounters c → IsWhole (course n code s) → Found code s c
found_alone zero code s c w h = absurd h
found_alone (suc n) code s c w h = by_outcome n code s c w (λ t d v k. found_alone n code t d v k) (step code s) refl h

-- --- what a program without a fault does alone, it does by operations
pub record Operates (code : List Insn) (r0 : ℕ) (bytes : List ℕ) (s : State) (c d : Counters) : Type 0 where
  pub done : List Op
  pub run : Runs code r0 bytes s done
  pub leaves : FindsAndLeaves c (does done) d

pub operates : (n : ℕ) (code : List Insn) (r0 : ℕ) (bytes : List ℕ) (s : State) (c d : Counters) → AreCounters c → IsWhole (course n code s) → RunsAlone code r0 bytes s c d → Operates code r0 bytes s c d
operates n code r0 bytes s c d w h run =
    let a = found_alone n code s c w h in
    let one = one_alone code r0 a.r0 bytes a.bytes s run.effects (does a.done) c d a.left run.walk (run_storing code a.r0 a.bytes s a.done a.run) run.leaves a.leaves in
    record {
      done = a.done;
      run = subst (λ (r0 : ℕ). Runs code r0 bytes s a.done) (sym one.number) (subst (λ (bytes : List ℕ). Runs code a.r0 bytes s a.done) (sym one.packet) a.run);
      leaves = subst (λ (effects : List Effect). FindsAndLeaves c effects d) one.did run.leaves;
    }

-- --- the laws
pub same_alone : (p : Accepted) (old : List Insn) → ((s : State) → IsStart s → s.shapes ≡ p.shapes → IsWhole (course (instructions p.code) p.code s)) → IsSame p.shapes old p.code → IsSameAlone p.shapes old p.code
same_alone p old whole same = λ s is e c d w r0 bytes run.
    let a = operates (instructions p.code) p.code r0 bytes s c d w (whole s is e) run in
    record { effects = does a.done; walk = run_storing old r0 bytes s a.done (same s is e r0 bytes a.done a.run); leaves = a.leaves }

-- a load and a store of the sum leave what an addition does
counts_leave : (c d : Counters) (effects : List Effect) (done : List Op) → Counts effects done → FindsAndLeaves c (does done) d → FindsAndLeaves c effects d
counts_leave c d _ _ counts.none f = f
counts_leave c d _ _ (counts.same op effects done h) f = (f.0, counts_leave (counters_after c (Does op)) d effects done h f.1)
counts_leave c d _ _ (counts.count m k j n v effects done h) f = (f.0, (tt, counts_leave (with_counter c m k j ((v + n) % 2 ^ 64)) d effects done h f.1))

pub counts_alone : (p : Accepted) (old : List Insn) → ((s : State) → IsStart s → s.shapes ≡ p.shapes → IsWhole (course (instructions p.code) p.code s)) → IsSameByCounts p.shapes old p.code → IsSameAlone p.shapes old p.code
counts_alone p old whole same = λ s is e c d w r0 bytes run.
    let a = operates (instructions p.code) p.code r0 bytes s c d w (whole s is e) run in
    let there : RunsByCounts old r0 bytes s a.done = same s is e r0 bytes a.done a.run in
    record { effects = there.effects; walk = there.walk; leaves = counts_leave c d there.effects a.done there.counts a.leaves }

pub alone_back : (p : Accepted) (old : List Insn) → ((s : State) → IsStart s → s.shapes ≡ p.shapes → IsWhole (course (instructions p.code) p.code s)) → IsSameAlone p.shapes old p.code → IsSameAlone p.shapes p.code old
alone_back p old whole same = λ s is e c d w r0 bytes run.
    let a = found_alone (instructions p.code) p.code s c w (whole s is e) in
    let walk : StoringWalk p.code a.r0 a.bytes s (does a.done) = run_storing p.code a.r0 a.bytes s a.done a.run in
    let there : RunsAlone old a.r0 a.bytes s c a.left = same s is e c a.left w a.r0 a.bytes (record { effects = does a.done; walk = walk; leaves = a.leaves }) in
    let one = one_alone old r0 a.r0 bytes a.bytes s run.effects there.effects c d a.left run.walk there.walk run.leaves there.leaves in
    let left : (m k j : ℕ) → d m k j ≡ a.left m k j = one_left c a.left d there.effects there.leaves (subst (λ (effects : List Effect). FindsAndLeaves c effects d) one.did run.leaves) in
    record {
      effects = does a.done;
      walk = subst (λ (r0 : ℕ). StoringWalk p.code r0 bytes s (does a.done)) (sym one.number) (subst (λ (bytes : List ℕ). StoringWalk p.code a.r0 bytes s (does a.done)) (sym one.packet) walk);
      leaves = left_too c a.left d (does a.done) a.leaves left;
    }
