use Rattle.std.proofs.Common.{◌≡◌, ◌+◌, ◌-◌, ◌<◌, ◌%◌, ◌++◌, ◌∷◌, [], List, ℕ, Bool, true, false, zero, suc, take, get_or, refl, sym, ◌∙◌, ap, arith, append_assoc, length-append, if◌then◌else◌}
use Rattle.xen_front.specs.Fronts.{free_in, all_free}
use Rattle.xen_front.proofs.by_event.ids.choose.Goals.{then-not-ring-i, else-not-ring-i}
use Rattle.xen_front.proofs.by_event.ids.choose.Goals as goal

opened : (out : List Bool) (i : ℕ) → i < 256 → free_in out (256 - i) i ≡ (if get_or out i false then free_in out (256 - (i + 1)) (i + 1) else (i ∷ free_in out (256 - (i + 1)) (i + 1)))
opened out i h = let e : 256 - i ≡ suc (256 - (i + 1)) = omega arith in ap (λ n. free_in out n i) e

busy : (out : List Bool) (i : ℕ) → i < 256 → get_or out i false ≡ true → free_in out (256 - i) i ≡ free_in out (256 - (i + 1)) (i + 1)
busy out i h b = opened out i h ∙ ap (λ t. if t then free_in out (256 - (i + 1)) (i + 1) else (i ∷ free_in out (256 - (i + 1)) (i + 1))) b

free : (out : List Bool) (i : ℕ) → i < 256 → get_or out i false ≡ false → free_in out (256 - i) i ≡ i ∷ free_in out (256 - (i + 1)) (i + 1)
free out i h b = opened out i h ∙ ap (λ t. if t then free_in out (256 - (i + 1)) (i + 1) else (i ∷ free_in out (256 - (i + 1)) (i + 1))) b

taken : (l r : List ℕ) (x n m : ℕ) → 0 < n → m ≡ n - 1 → (l ++ x ∷ []) ++ take m r ≡ l ++ take n (x ∷ r)
taken l r x zero m h e = absurd (omega arith)
taken l r x (suc n) m h e = let k : m ≡ n = omega arith in append_assoc l (x ∷ []) (take m r) ∙ ap (λ y. l ++ x ∷ take y r) k

same : (i : ℕ) → i < 256 → i % 256 ≡ i
same i h = omega arith

pub loop-i-preserved : goal.loop-i-preserved
loop-i-preserved c =
    let out = c.args.ring.now.out in
    let i = c.loop-i.i in
    let ids = c.loop-i.ids.items in
    let h = c.loop-i-test.true in
    let now = c.loop-i.invariant.0 in
    let room = c.loop-i.invariant.1 in
    elim c.if-not-ring-i.branch [
      | then-not-ring-i w ↦
          (let pushed : c.if-not-ring-i.ids.items ≡ ids ++ i ∷ [] = ap (λ v. v.items) w.ids-is ∙ w.push.ensures.items ∙ ap (λ n. ids ++ n ∷ []) (same i h) in
          let some : 0 < c.loop-i.left = omega (arith, c.if-left-eq0.false) in
          let less = w.left-is in
          let len = length-append ids (i ∷ []) in
          rw pushed (taken ids (free_in out (256 - (i + 1)) (i + 1)) i c.loop-i.left c.if-not-ring-i.left some less ∙ ap (λ l. ids ++ take c.loop-i.left l) (sym (free out i h w.if-not-ring-i.true)) ∙ now, omega arith))
      | else-not-ring-i w ↦ rw w.ids-is (rw w.left-is (ap (λ l. ids ++ take c.loop-i.left l) (sym (busy out i h w.if-not-ring-i.false)) ∙ now, room))
    ]

take_nothing : (n : ℕ) → take {A = ℕ} n [] ≡ []
take_nothing zero = refl
take_nothing (suc n) = refl

append_nothing : (l : List ℕ) → l ++ [] ≡ l
append_nothing [] = refl
append_nothing (x ∷ l) = ap (λ t. x ∷ t) (append_nothing l)

pub returns-after-loop-i : goal.returns-after-loop-i
returns-after-loop-i c =
    let out = c.args.ring.now.out in
    let i = c.loop-i.i in
    let past : 256 - i ≡ 0 = let t = c.loop-i-test.false in omega arith in
    sym (append_nothing c.loop-i.ids.items)
    ∙ ap (λ l. c.loop-i.ids.items ++ l) (sym (take_nothing c.loop-i.left) ∙ ap (λ n. take c.loop-i.left (free_in out n i)) (sym past))
    ∙ c.loop-i.invariant.0

pub returns-then-left-eq0 : goal.returns-then-left-eq0
returns-then-left-eq0 c =
    sym (append_nothing c.loop-i.ids.items)
    ∙ ap (λ n. c.loop-i.ids.items ++ take n (free_in c.args.ring.now.out (256 - c.loop-i.i) c.loop-i.i)) (sym c.if-left-eq0.true)
    ∙ c.loop-i.invariant.0

begins : (out : List Bool) (n : ℕ) → take n (free_in out 256 0) ≡ take n (all_free out)
unfolding all_free
begins out n = refl

pub loop-i-init : goal.loop-i-init
loop-i-init c = (rw c.new-ids.ensures (begins c.args.ring.now.out c.args.n), rw c.new-ids.ensures (let k = c.requires in omega arith))
