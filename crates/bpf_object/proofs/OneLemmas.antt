-- What is found first, and not again, is the only one.
use Rattle.std.proofs.Common.{ℕ, ◌≡◌, ◌+◌, ◌<◌, ◌≤◌, arith}

pub only : (P : ℕ → Type 0) (n : ℕ) → ((m : ℕ) → 0 ≤ m → m < n → P m → ⊥) → ((m : ℕ) → n + 1 ≤ m → P m → ⊥) →
    (m : ℕ) → P m → m ≡ n
only P n below above m h =
    let a : m < n → ⊥ = λ lt. below m (omega arith) lt h in
    let b : n + 1 ≤ m → ⊥ = λ le. above m le h in
    omega arith

pub only_below : (P : ℕ → Type 0) (n m : ℕ) → ((k : ℕ) → 0 ≤ k → k < n → P k → ⊥) → ((k : ℕ) → n + 1 ≤ k → k < m → P k → ⊥) →
    (k : ℕ) → k < m → P k → k ≡ n
only_below P n m below above k lt h =
    let a : k < n → ⊥ = λ l. below k (omega arith) l h in
    let b : n + 1 ≤ k → ⊥ = λ le. above k le lt h in
    omega arith
