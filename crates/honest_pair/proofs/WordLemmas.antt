-- The words of a memory that was opened.
use Rattle.std.proofs.Common.{◌≡◌, ℕ, zero, suc, ◌+◌, ◌*◌, refl, ◌∙◌, ap, arith, Bool, true, false, List, get_or}
use Rattle.std.specs.Prelude.{◌==◌, ◌&&◌, if◌then◌else◌, replicate, nat_lt}
use Rattle.std.proofs.lemmas.Bool.Decides.{nat_tests}
use mathlib.Core.Path.{fun_ext}
use Rattle.xen_page.specs.declared.place.Place.{Place}
use Rattle.xen_steps.specs.Places.{add32}
use Rattle.honest_pair.specs.Machine.Memory.{header_word, opening_word}
use Rattle.honest_pair.specs.Words.{opened, words_at}

abbrev zeros : ℕ → List ℕ
zeros n = replicate n 0

zero_at : (n k : ℕ) → get_or (zeros n) k 0 ≡ 0
zero_at zero k = refl
zero_at (suc n) zero = refl
zero_at (suc n) (suc k) = zero_at n k

zero_word : (b : Bool) (x : ℕ) → x ≡ 0 → (if b then x else 0) ≡ 0
zero_word true x h = h
zero_word false x h = refl

pub empty_words : (n : ℕ) (l : List ℕ) → l ≡ zeros n → words_at l ≡ (λ at. 0)
empty_words n l e = fun_ext (λ (at : Place). zero_word (nat_lt at.word 1024) (get_or l (1024 * at.frame + at.word) 0) (ap (λ x. get_or x (1024 * at.frame + at.word) 0) e ∙ zero_at n (1024 * at.frame + at.word)))

-- a word of a frame where a ring was opened, if it is this frame
abbrev header_or : (start : ℕ) → Bool → ℕ → ℕ → ℕ
header_or start b k x = if b && k == 3 then add32 start 1 else if b && k == 2 then start else if b && k == 1 then add32 start 1 else if b && k == 0 then start else x

header_late : (start k x : ℕ) → header_or start true (suc (suc (suc (suc k)))) x ≡ x
header_late start k x =
    let d : (suc (suc (suc (suc k))) == 3) ≡ false = grind (arith, nat_tests) in
    let c : (suc (suc (suc (suc k))) == 2) ≡ false = grind (arith, nat_tests) in
    let b : (suc (suc (suc (suc k))) == 1) ≡ false = grind (arith, nat_tests) in
    let a : (suc (suc (suc (suc k))) == 0) ≡ false = grind (arith, nat_tests) in
    rw (d, c, b, a) refl

header_true : (start k : ℕ) → header_or start true k 0 ≡ header_word start k
header_true start zero = refl
header_true start (suc zero) = refl
header_true start (suc (suc zero)) = refl
header_true start (suc (suc (suc zero))) = refl
header_true start (suc (suc (suc (suc k)))) = header_late start k 0

header_twice : (start k : ℕ) → header_or start true k (header_or start true k 0) ≡ header_word start k
header_twice start zero = refl
header_twice start (suc zero) = refl
header_twice start (suc (suc zero)) = refl
header_twice start (suc (suc (suc zero))) = refl
header_twice start (suc (suc (suc (suc k)))) = header_late start k (header_or start true (suc (suc (suc (suc k)))) 0) ∙ header_late start k 0

both : (start k : ℕ) (a b : Bool) → header_or start b k (header_or start a k 0) ≡ (if a then header_word start k else if b then header_word start k else 0)
both start k true true = header_twice start k
both start k true false = header_true start k
both start k false true = header_true start k
both start k false false = refl

pub opened_words : (start : ℕ) → opened 18 start (opened 17 start (λ at. 0)) ≡ opening_word start
opened_words start = fun_ext (λ (at : Place). both start at.word (at.frame == 17) (at.frame == 18))
