-- Linear forms modulo 2 ^ 64.
use Rattle.std.proofs.Common.{ℕ, zero, suc, ◌+◌, ◌-◌, ◌%◌, ◌^◌, ◌≡◌, ◌<◌, ◌≤◌, ◌⊎◌, min, max, inl, inr, refl, sym, ap, ◌∙◌, subst, arith, Option, None, Some}
use Rattle.std.specs.Prelude.{bit_and, bit_or}
use Rattle.std.proofs.lemmas.Bool.{cases_lt}
use Rattle.std.proofs.lemmas.Nat.Bits.{bit_at_or, bit_at_and, bit_at-zero, bit_at-pow_same, bit_at-pow_other}
use Rattle.bpf_same.specs.declared.linear_form.LinearForm.{LinearForm}
use Rattle.bpf_same.specs.LinearForms.{plus, bit, with_bit, gathered, total, IsWord}

pub plus_comm : (a b : Option ℕ) → plus a b ≡ plus b a
plus_comm None None = refl
plus_comm None (Some b) = refl
plus_comm (Some a) None = refl
plus_comm (Some a) (Some b) = ap (λ (x : ℕ). Some (x % 2 ^ 64)) (omega arith)

pub plus_assoc : (a b c : Option ℕ) → plus (plus a b) c ≡ plus a (plus b c)
plus_assoc None b c = refl
plus_assoc (Some a) None c = refl
plus_assoc (Some a) (Some b) None = refl
plus_assoc (Some a) (Some b) (Some c) = ap Some (omega arith)

pub plus_swap : (a b c : Option ℕ) → plus (plus a b) c ≡ plus (plus a c) b
plus_swap a b c = plus_assoc a b c ∙ (ap (plus a) (plus_comm b c) ∙ sym (plus_assoc a c b))

-- two sums side by side
pub plus_across : (a b c d : Option ℕ) → plus (plus a b) (plus c d) ≡ plus (plus a c) (plus b d)
plus_across a b c d = plus_assoc a b (plus c d) ∙ (ap (plus a) (sym (plus_assoc b c d) ∙ (ap (λ (o : Option ℕ). plus o d) (plus_comm b c) ∙ plus_assoc c b d)) ∙ sym (plus_assoc a c (plus b d)))

pub plus_none : (a : Option ℕ) → plus a None ≡ None
plus_none None = refl
plus_none (Some a) = refl

pub zero_plus : (a : Option ℕ) → IsWord a → plus (Some 0) a ≡ a
zero_plus None w = refl
zero_plus (Some a) w = ap Some (omega (arith, w a refl))

bit_small : (mask n : ℕ) → bit mask n < 2
bit_small mask n = omega arith

by_bits : (x y z : ℕ) (a b v : Option ℕ) → z ≡ max x y → min x y ≡ 0 → x < 2 → y < 2 → with_bit z (plus a b) v ≡ plus (with_bit x a v) (with_bit y b v)
by_bits zero zero zero a b v e m p q = refl
by_bits zero zero (suc z) a b v e m p q = absurd (omega (arith, e))
by_bits (suc x) zero zero a b v e m p q = absurd (omega (arith, e))
by_bits (suc x) zero (suc z) a b v e m p q = plus_swap a b v
by_bits zero (suc y) zero a b v e m p q = absurd (omega (arith, e))
by_bits zero (suc y) (suc z) a b v e m p q = plus_assoc a b v
by_bits (suc x) (suc y) z a b v e m p q = absurd (omega (arith, m))

-- masks without a common term
pub gathered_or : (f : ℕ → Option ℕ) (a b n : ℕ) → bit_and a b ≡ 0 → gathered f (bit_or a b) n ≡ plus (gathered f a n) (gathered f b n)
gathered_or f a b zero e = refl
gathered_or f a b (suc n) e =
    let apart : min (bit a n) (bit b n) ≡ 0 = sym (bit_at_and a b n) ∙ (ap (λ (m : ℕ). bit m n) e ∙ bit_at-zero n) in
    ap (λ (o : Option ℕ). with_bit (bit (bit_or a b) n) o (f n)) (gathered_or f a b n e)
    ∙ by_bits (bit a n) (bit b n) (bit (bit_or a b) n) (gathered f a n) (gathered f b n) (f n) (bit_at_or a b n) apart (bit_small a n) (bit_small b n)

pub gathered_none : (f : ℕ → Option ℕ) (n : ℕ) → gathered f 0 n ≡ Some 0
gathered_none f zero = refl
gathered_none f (suc n) = ap (λ (b : ℕ). with_bit b (gathered f 0 n) (f n)) (bit_at-zero n) ∙ gathered_none f n

gathered_below : (f : ℕ → Option ℕ) (k n : ℕ) → n ≤ k → gathered f (2 ^ k) n ≡ Some 0
gathered_below f k zero l = refl
gathered_below f k (suc n) l = ap (λ (b : ℕ). with_bit b (gathered f (2 ^ k) n) (f n)) (bit_at-pow_other k n (λ e. omega (arith, e, l))) ∙ gathered_below f k n (omega (arith, l))

gathered_here : (f : ℕ → Option ℕ) (k : ℕ) → gathered f (2 ^ k) (suc k) ≡ plus (Some 0) (f k)
gathered_here f k = ap (λ (b : ℕ). with_bit b (gathered f (2 ^ k) k) (f k)) (bit_at-pow_same k) ∙ ap (λ (o : Option ℕ). plus o (f k)) (gathered_below f k k (omega arith))

gathered_more : (f : ℕ → Option ℕ) (k n : ℕ) → k < suc n → (k < n) ⊎ (n ≤ k) → (k < n → gathered f (2 ^ k) n ≡ plus (Some 0) (f k)) → gathered f (2 ^ k) (suc n) ≡ plus (Some 0) (f k)
gathered_more f k n l (inl lt) h = ap (λ (b : ℕ). with_bit b (gathered f (2 ^ k) n) (f n)) (bit_at-pow_other k n (λ e. omega (arith, e, lt))) ∙ h lt
gathered_more f k n l (inr ge) h = let e : k ≡ n = omega (arith, l, ge) in subst (λ (n : ℕ). gathered f (2 ^ k) (suc n) ≡ plus (Some 0) (f k)) e (gathered_here f k)

pub gathered_one : (f : ℕ → Option ℕ) (k n : ℕ) → k < n → gathered f (2 ^ k) n ≡ plus (Some 0) (f k)
gathered_one f k zero l = absurd (omega (arith, l))
gathered_one f k (suc n) l = gathered_more f k n l (cases_lt k n) (λ lt. gathered_one f k n lt)

pub total_constant : (f : ℕ → Option ℕ) (c : ℕ) → c < 2 ^ 64 → total f (record { constant = c; terms = 0 }) ≡ Some c
total_constant f c l = ap (plus (Some c)) (gathered_none f 64) ∙ ap Some (omega (arith, l))

pub total_held : (f : ℕ → Option ℕ) (k : ℕ) → k < 64 → IsWord (f k) → total f (record { constant = 0; terms = 2 ^ k }) ≡ f k
total_held f k l w = ap (plus (Some 0)) (gathered_one f k 64 l ∙ zero_plus (f k) w) ∙ zero_plus (f k) w

pub total_plus : (f : ℕ → Option ℕ) (s t : LinearForm) → bit_and s.terms t.terms ≡ 0 →
    total f (record { constant = (s.constant + t.constant) % 2 ^ 64; terms = bit_or s.terms t.terms }) ≡ plus (total f s) (total f t)
total_plus f s t e = ap (plus (Some ((s.constant + t.constant) % 2 ^ 64))) (gathered_or f s.terms t.terms 64 e)
    ∙ plus_across (Some s.constant) (Some t.constant) (gathered f s.terms 64) (gathered f t.terms 64)

-- linear forms of the same terms differ by a constant
pub apart : (f : ℕ → Option ℕ) (s t : LinearForm) (by : ℕ) → s.terms ≡ t.terms → s.constant < 2 ^ 64 → t.constant < 2 ^ 64 → by ≡ (s.constant + (2 ^ 64 - t.constant)) % 2 ^ 64 → total f s ≡ plus (total f t) (Some by)
apart f s t by same small fits e = ap (λ (m : ℕ). plus (Some s.constant) (gathered f m 64)) same ∙ of (gathered f t.terms 64)
  where
    of : (o : Option ℕ) → plus (Some s.constant) o ≡ plus (plus (Some t.constant) o) (Some by)
    of None = refl
    of (Some y) = ap Some (omega (arith, small, fits, e))

-- a constant more
pub moved_total : (f : ℕ → Option ℕ) (s : LinearForm) (by : ℕ) → total f (record { constant = (s.constant + by) % 2 ^ 64; terms = s.terms }) ≡ plus (total f s) (Some by)
moved_total f s by = of (gathered f s.terms 64)
  where
    of : (o : Option ℕ) → plus (Some ((s.constant + by) % 2 ^ 64)) o ≡ plus (plus (Some s.constant) o) (Some by)
    of None = refl
    of (Some y) = ap Some (omega arith)

-- the total of a linear form is a word
pub total_small : (f : ℕ → Option ℕ) (s : LinearForm) (x : ℕ) → total f s ≡ Some x → x < 2 ^ 64
total_small f s x = by (gathered f s.terms 64)
  where
    by : (o : Option ℕ) → plus (Some s.constant) o ≡ Some x → x < 2 ^ 64
    by None e = cc
    by (Some y) e = let same : (s.constant + y) % 2 ^ 64 ≡ x = cc in omega (arith, same)
