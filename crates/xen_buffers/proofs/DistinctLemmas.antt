-- Lists in which no number stands twice.
use Rattle.std.proofs.Common.{◌≡◌, ℕ, ◌+◌, ◌-◌, ◌<◌, ◌≤◌, Bool, true, false, List, length, take, drop, get_or, length-take, length-drop, refl, sym, ◌∙◌, arith}
use Rattle.std.specs.Prelude.{nat_lt}
use Rattle.std.proofs.lemmas.Bool.Decides.{nat_tests}
use Rattle.std.proofs.lemmas.List.{get_or-take, get_or-drop, get_or_default}

-- no number before i stands again, and that at i doesn't stand behind it
pub distinct_more : (xs : List ℕ) (i n : ℕ) → i < length xs → n ≡ length xs - (i + 1) → ((a b d : ℕ) → a < i → a < b → b < length xs → get_or xs a d ≡ get_or xs b d → ⊥) →
    ((k : ℕ) → k < length (take n (drop (i + 1) xs)) → get_or (take n (drop (i + 1) xs)) k 0 ≡ get_or xs i 0 → ⊥) →
    (a b d : ℕ) → a < i + 1 → a < b → b < length xs → get_or xs a d ≡ get_or xs b d → ⊥
distinct_more xs i n lt all before absent a b d la ab lb e = by (nat_lt a i) refl
  where
    by : (t : Bool) → nat_lt a i ≡ t → ⊥
    by true t = let below : a < i = grind (arith, nat_tests) in before a b d below ab lb e
    by false t =
        let here : a ≡ i = grind (arith, nat_tests) in
        let k : ℕ = b - (i + 1) in
        let inside : k < n = omega (arith, here) in
        let len : k < length (take n (drop (i + 1) xs)) = omega (arith, length-take n (drop (i + 1) xs), length-drop (i + 1) xs, inside) in
        let at : i + 1 + k ≡ b = omega (arith, here) in
        absent k len
        (get_or-take n (drop (i + 1) xs) k 0 inside ∙ get_or-drop (i + 1) xs k 0 ∙ rw at (get_or_default xs b 0 d lb ∙ sym e ∙ rw here (get_or_default xs i d 0 lt)))
