-- Rows that are noted one after another, from the last.
use Rattle.std.proofs.Common.{◌≡◌, ◌≢◌, ◌<◌, ◌≤◌, ℕ, zero, suc, List, [], ◌∷◌, length, get_or, set, slice_get, Some, ap, refl, subst, ◌∙◌, All, arith}
use Rattle.std.specs.Prelude.{option_map}
use Rattle.bpf_maps.specs.Seats.{SeatView}
use Rattle.thread_pair.specs.Leaving.{HasWorked, back_of}
use Rattle.thread_pair.specs.Working.{IsWork, Task}
use Rattle.thread_pair.specs.declared.report.BackRow.{BackRow}
use Rattle.thread_pair.specs.declared.report.PairRow.{PairRow}

-- the seat's row is noted, and is not below this number
abbrev pub IsNoted : Task → ℕ → ℕ → List PairRow → SeatView → Type 0
IsNoted task turns k rows s = (k ≤ s.number) × HasWorked task turns rows s

pub noted_later : (task : Task) (turns k : ℕ) (old new : List PairRow) (s : SeatView) → ((n : ℕ) → n ≢ k → slice_get new n ≡ slice_get old n) → IsNoted task turns (suc k) old s → IsNoted task turns k new s
noted_later task turns k old new s others h =
    let past = h.0 in
    let other : s.number ≢ k = omega (arith, past) in
    let worked = h.1 in
    (omega (arith, past), record { row = worked.row; at = ap (option_map back_of) (others s.number other) ∙ worked.at; work = worked.work })

pub all_later : (task : Task) (turns k j : ℕ) (old new : List PairRow) (ss : List SeatView) → ((n : ℕ) → n ≢ k → slice_get new n ≡ slice_get old n) → j ≡ suc k → All (IsNoted task turns j old) ss → All (IsNoted task turns k new) ss
all_later task turns k j old new ss others is all i d h = noted_later task turns k old new (get_or ss i d) others (subst (λ (m : ℕ). IsNoted task turns m old (get_or ss i d)) is (all i d h))

pub noted_now : (task : Task) (turns k : ℕ) (rows : List PairRow) (s : SeatView) (row : BackRow) → s.number ≡ k → option_map back_of (slice_get rows k) ≡ Some row → IsWork task turns row s → IsNoted task turns k rows s
noted_now task turns k rows s row is at work =
    (omega (arith, is), record { row = row; at = ap (λ (n : ℕ). option_map back_of (slice_get rows n)) is ∙ at; work = work })

pub worked_of : (task : Task) (turns k : ℕ) (rows : List PairRow) (ss : List SeatView) → All (IsNoted task turns k rows) ss → All (HasWorked task turns rows) ss
worked_of task turns k rows ss all i d h = (all i d h).1

module _ {X : Type 0} where
  pub slice_get-set_same : (xs : List X) (i : ℕ) (w : X) → i < length xs → slice_get (set xs i w) i ≡ Some w
  slice_get-set_same [] i w h = absurd (omega (arith, h))
  slice_get-set_same (x ∷ xs) zero w h = refl
  slice_get-set_same (x ∷ xs) (suc i) w h = slice_get-set_same xs i w (omega (arith, h))

  pub slice_get-set_other : (xs : List X) (i j : ℕ) (w : X) → j ≢ i → slice_get (set xs i w) j ≡ slice_get xs j
  slice_get-set_other [] i j w h = refl
  slice_get-set_other (x ∷ xs) zero zero w h = absurd (h refl)
  slice_get-set_other (x ∷ xs) zero (suc j) w h = refl
  slice_get-set_other (x ∷ xs) (suc i) zero w h = refl
  slice_get-set_other (x ∷ xs) (suc i) (suc j) w h = slice_get-set_other xs i j w (λ e. h (ap suc e))
