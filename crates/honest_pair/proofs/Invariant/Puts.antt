-- What a write leaves as it was, and arithmetic of ring indices.
use Rattle.std.proofs.Common.{◌≡◌, ℕ, ◌+◌, ◌-◌, ◌*◌, ◌%◌, ◌^◌, ◌<◌, ◌≤◌, Bool, true, false, Some, None, refl, ◌∙◌, ap, arith}
use Rattle.std.specs.Prelude.{◌==◌, ◌&&◌, nat_le, if◌then◌else◌}
use Rattle.std.proofs.lemmas.Bool.Decides.{nat_tests}
use Rattle.xen_page.specs.declared.place.Place.{Place}
use Rattle.xen_ring.specs.Index.{distance}
use Rattle.xen_steps.specs.Places.{add32, available}
use Rattle.honest_pair.specs.Machine.Memory.{put, same}

same_self : (at : Place) → same at at ≡ true
same_self at = by (at.frame == at.frame) (at.word == at.word) refl refl
  where
    by : (a b : Bool) → (at.frame == at.frame) ≡ a → (at.word == at.word) ≡ b → (a && b) ≡ true
    by true true p q = refl
    by true false p q = absurd (grind (arith, nat_tests))
    by false b p q = absurd (grind (arith, nat_tests))

same_apart : (p at : Place) → (p.frame ≡ at.frame → p.word ≡ at.word → ⊥) → same p at ≡ false
same_apart p at h = by (p.frame == at.frame) (p.word == at.word) refl refl
  where
    by : (a b : Bool) → (p.frame == at.frame) ≡ a → (p.word == at.word) ≡ b → (a && b) ≡ false
    by true true e q =
        let c : p.frame ≡ at.frame = grind (arith, nat_tests) in
        let d : p.word ≡ at.word = grind (arith, nat_tests) in
        absurd (h c d)
    by true false e q = refl
    by false b e q = refl

pub put_same : (x : Place → ℕ) (at : Place) (v : ℕ) → put x at v at ≡ v
put_same x at v = ap (λ b. if b then v else x at) (same_self at)

pub put_apart : (x : Place → ℕ) (at : Place) (v : ℕ) (p : Place) → (p.frame ≡ at.frame → p.word ≡ at.word → ⊥) → put x at v p ≡ x p
put_apart x at v p h = ap (λ b. if b then v else x p) (same_apart p at h)

pub add_add : (s a b : ℕ) → add32 (add32 s a) b ≡ add32 s (a + b)
add_add s a b = omega arith

pub distance_of : (s a b : ℕ) → s < 2 ^ 32 → a ≤ b → b < a + 2 ^ 32 → distance (add32 s a) (add32 s b) ≡ b - a
distance_of s a b h p q = omega arith

pub available_of : (s a b : ℕ) → s < 2 ^ 32 → a ≤ b → b ≤ a + 256 → available (add32 s a) (add32 s b) ≡ Some (b - a)
available_of s a b h p q =
    ap (λ d. if nat_le d 256 then Some d else None) (distance_of s a b h p (omega arith)) ∙ ap (λ t. if t then Some (b - a) else None) in_room
  where
    in_room : nat_le (b - a) 256 ≡ true
    in_room = let le : b - a ≤ 256 = omega arith in grind (arith, nat_tests)

-- words of slots less than a round apart, wrap included
pub tx_apart : (s a b j k : ℕ) → a < b → b < a + 256 → j < 3 → k < 3 → 16 + 3 * (add32 s b % 256) + j ≡ 16 + 3 * (add32 s a % 256) + k → ⊥
tx_apart s a b j k p q r t e = omega arith

pub rx_apart : (s a b j k : ℕ) → a < b → b < a + 256 → j < 2 → k < 2 → 16 + 2 * (add32 s b % 256) + j ≡ 16 + 2 * (add32 s a % 256) + k → ⊥
rx_apart s a b j k p q r t e = omega arith
