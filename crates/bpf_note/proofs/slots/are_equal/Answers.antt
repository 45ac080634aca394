use Rattle.std.proofs.Common.{◌≡◌, ◌<◌, ◌≤◌, ◌⊎◌, ℕ, List, arith, sym, ◌∙◌, inl, inr, refl, length, get_or}
use Rattle.bpf_note.specs.declared.slot.Slot.{Slot}
use Rattle.bpf_note.specs.Parts.{no_bytes}
use Rattle.bpf_note.proofs.PlaceLemmas.{le_cases, past_end, same_places}
use Rattle.bpf_note.proofs.slots.are_equal.Goals as goal

-- lists of 64 that are the same at each place of theirs
all_same : (i : ℕ) (xs ys : List Slot) → length xs ≡ 64 → length ys ≡ 64 → 64 ≤ i → ((k : ℕ) → k < i → get_or xs k no_bytes ≡ get_or ys k no_bytes) → xs ≡ ys
all_same i xs ys l m h same = same_places xs ys no_bytes (l ∙ sym m) (λ k. by k (le_cases 64 k))
  where
    by : (k : ℕ) → (64 ≤ k) ⊎ (k < 64) → get_or xs k no_bytes ≡ get_or ys k no_bytes
    by k (inl past) = past_end xs k no_bytes (omega arith) ∙ sym (past_end ys k no_bytes (omega arith))
    by k (inr inside) = same k (omega arith)

pub returns : goal.returns
returns c = (λ t. all_same c.loop-i.i c.args.a.now c.args.b.now c.told-a c.told-b (let test = c.loop-i-test.false in omega arith) c.loop-i.invariant, λ e. refl)
