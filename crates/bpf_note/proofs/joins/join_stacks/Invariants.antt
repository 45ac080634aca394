use Rattle.std.proofs.Common.{◌≡◌, ◌<◌, ◌≤◌, ℕ, length}
use Rattle.std.specs.Prelude.{slice_index_or}
use Rattle.bpf_note.specs.Parts.{no_bytes}
use Rattle.bpf_note.specs.Slots.{joined_slot}
use Rattle.bpf_note.proofs.joins.join_stacks.Given as goal

abbrev pub invariant-loop-i : goal.invariant-loop-i
invariant-loop-i l =
    (length l.a ≡ 64)
    × ((k : ℕ) → k < l.i → slice_index_or l.a k no_bytes ≡ joined_slot (slice_index_or l.fn.a k no_bytes) (slice_index_or l.b k no_bytes))
    × ((k : ℕ) → l.i ≤ k → slice_index_or l.a k no_bytes ≡ slice_index_or l.fn.a k no_bytes)
