use Rattle.std.proofs.Common.{◌≡◌, ◌<◌, ℕ, Option, Some, None}
use Rattle.bpf_same.specs.declared.linear_form.LinearForm.{LinearForm}
use Rattle.bpf_same.specs.LinearForms.{old_of, new_of, room_of, bound_of, shifted_of, total, IsWord}
use Rattle.bpf_same.proofs.start.holds_at_entry.Given as goal

abbrev pub invariant-loop-register : goal.invariant-loop-register
invariant-loop-register l = (k : ℕ) → k < l.register → (s : LinearForm) → old_of l.relation k ≡ Some s → (f : ℕ → Option ℕ) → IsWord (f k) → total f s ≡ f k

abbrev pub invariant-loop-term : goal.invariant-loop-term
invariant-loop-term l = ((k : ℕ) → k < 11 → (s : LinearForm) → old_of l.relation k ≡ Some s → (f : ℕ → Option ℕ) → IsWord (f k) → total f s ≡ f k) × ((n : ℕ) → n < l.term → new_of l.relation n ≡ None)

abbrev pub invariant-loop-number : goal.invariant-loop-number
invariant-loop-number l = ((k : ℕ) → k < 11 → (s : LinearForm) → old_of l.relation k ≡ Some s → (f : ℕ → Option ℕ) → IsWord (f k) → total f s ≡ f k) × ((n : ℕ) → n < 64 → new_of l.relation n ≡ None)
    × ((r : ℕ) → r < l.number → room_of l.relation r ≡ None)

abbrev pub invariant-loop-index : goal.invariant-loop-index
invariant-loop-index l = ((k : ℕ) → k < 11 → (s : LinearForm) → old_of l.relation k ≡ Some s → (f : ℕ → Option ℕ) → IsWord (f k) → total f s ≡ f k) × ((n : ℕ) → n < 64 → new_of l.relation n ≡ None)
    × ((r : ℕ) → r < 8 → room_of l.relation r ≡ None)
    × ((k : ℕ) → k < l.index → bound_of l.relation k ≡ None)

abbrev pub invariant-loop-shifted : goal.invariant-loop-shifted
invariant-loop-shifted l = ((k : ℕ) → k < 11 → (s : LinearForm) → old_of l.relation k ≡ Some s → (f : ℕ → Option ℕ) → IsWord (f k) → total f s ≡ f k) × ((n : ℕ) → n < 64 → new_of l.relation n ≡ None)
    × ((r : ℕ) → r < 8 → room_of l.relation r ≡ None)
    × ((k : ℕ) → k < 11 → bound_of l.relation k ≡ None)
    × ((k : ℕ) → k < l.shifted → shifted_of l.relation k ≡ None)
