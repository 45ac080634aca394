-- Why the rows that cover a key are found from the last row that is not above it.
use Rattle.std.proofs.Common.{◌≡◌, ℕ, ◌+◌, ◌-◌, ◌*◌, ◌/◌, ◌%◌, ◌^◌, ◌<◌, ◌≤◌, ◌⊎◌, inl, inr, arith, sym, ◌∙◌, ap}
use Rattle.std.proofs.Math.Pow.{shr_mono}
use Rattle.std.proofs.lemmas.Nat.{mod-pow-add, div-add-mod'}

-- data that are plain are the bits that they are about, and zeros
pub plain_is : (s v : ℕ) → v % 2 ^ s ≡ 0 → v ≡ v / 2 ^ s * 2 ^ s
plain_is s v plain =
    let e = div-add-mod' v (2 ^ s) in
    omega arith

-- what covers a key is not above it
pub covering_below : (s v d : ℕ) → v % 2 ^ s ≡ 0 → v / 2 ^ s ≡ d / 2 ^ s → v ≤ d
covering_below s v d plain same =
    let is = plain_is s v plain in
    let rows : v / 2 ^ s * 2 ^ s ≡ d / 2 ^ s * 2 ^ s = ap (λ n. n * 2 ^ s) same in
    let e = div-add-mod' d (2 ^ s) in
    omega arith

-- what is plain beyond fewer bits is plain beyond more
plainer : (s more v : ℕ) → v % 2 ^ (more + s) ≡ 0 → v % 2 ^ s ≡ 0
plainer s more v plain =
    let e = mod-pow-add v more s in
    omega arith

pub le_or_lt : (a b : ℕ) → (a ≤ b) ⊎ (b < a)
le_or_lt a b = grind arith

between : (s vj vp d : ℕ) → vj ≤ vp → vp ≤ d → vj / 2 ^ s ≡ d / 2 ^ s → vj / 2 ^ s ≡ vp / 2 ^ s
between s vj vp d low high same =
    let a = shr_mono s low in
    let b = shr_mono s high in
    omega arith

-- Of two plain rows in order, where the first covers data that are not below the second's, the first covers the second.
pub covers_between : (n bj bp vj vp d : ℕ) → bj ≤ n → bp ≤ n → n < 1024 → vj % 2 ^ (n - bj) ≡ 0 → vp % 2 ^ (n - bp) ≡ 0 →
    vj * 1024 + bj ≤ vp * 1024 + bp → vp ≤ d → vj / 2 ^ (n - bj) ≡ d / 2 ^ (n - bj) →
    (bj ≤ bp) × (vj / 2 ^ (n - bj) ≡ vp / 2 ^ (n - bj))
covers_between n bj bp vj vp d j_in p_in small j_plain p_plain order high same =
    let low : vj ≤ vp = omega arith in
    let alike = between (n - bj) vj vp d low high same in (
      elim (le_or_lt bj bp) as (λ c. bj ≤ bp) [
        | inl le ↦ le
        | inr lt ↦
            let exp : n - bp ≡ (bj - bp) + (n - bj) = omega arith in
            let plain : vp % 2 ^ (n - bj) ≡ 0 = plainer (n - bj) (bj - bp) vp (ap (λ m. vp % 2 ^ m) (sym exp) ∙ p_plain) in
            let j_is = plain_is (n - bj) vj j_plain in
            let p_is = plain_is (n - bj) vp plain in
            let both : vj / 2 ^ (n - bj) * 2 ^ (n - bj) ≡ vp / 2 ^ (n - bj) * 2 ^ (n - bj) = ap (λ m. m * 2 ^ (n - bj)) alike in
            omega arith
      ],
      alike,
    )
