-- The packets of turns that were over together, as C gets them.
use Rattle.std.proofs.Common.{◌≡◌, ◌++◌, ◌∷◌, ℕ, List, Option, None, Some, [], drop, length, take, ap, ◌∙◌, refl, subst}
use Rattle.std.specs.Prelude.{IfNone, IfSome, MatchOption}

-- What is copied of a packet that is there, and of none.
abbrev pub CopiesSome : Option (List ℕ) → (out out_after : List ℕ) → ℕ → Type 0
CopiesSome o out out_after n = IfSome o (λ p. (n ≡ length p) × (out_after ≡ take (length out) p ++ drop (length p) out)) × IfNone o ((n ≡ 0) × (out_after ≡ out))

none_copied : (out : List ℕ) → take (length out) [] ++ drop 0 out ≡ out
none_copied [] = refl
none_copied (a ∷ out) = refl

pub copies : (o : Option (List ℕ)) (bytes out out_after : List ℕ) (n : ℕ) → MatchOption o (bytes ≡ []) (λ p. bytes ≡ p) → n ≡ length bytes → out_after ≡ take (length out) bytes ++ drop (length bytes) out → CopiesSome o out out_after n
copies None bytes out out_after n is count copied =
    (tt, (count ∙ ap (λ (l : List ℕ). length l) is, subst (λ (l : List ℕ). out_after ≡ take (length out) l ++ drop (length l) out) is copied ∙ none_copied out))
copies (Some p) bytes out out_after n is count copied =
    ((count ∙ ap (λ (l : List ℕ). length l) is, subst (λ (l : List ℕ). out_after ≡ take (length out) l ++ drop (length l) out) is copied), tt)
