use Rattle.std.proofs.Common.{◌≡◌, ◌<◌, ◌≤◌, ℕ, length}
use Rattle.std.specs.Prelude.{slice_index_or}
use Rattle.bpf_note.specs.Parts.{no_bytes}
use Rattle.bpf_note.proofs.slots.copy_slots.Given as goal

abbrev pub invariant-loop-i : goal.invariant-loop-i
invariant-loop-i l =
    (length l.to ≡ 64)
    × ((k : ℕ) → k < l.i → slice_index_or l.to k no_bytes ≡ slice_index_or l.from k no_bytes)
    × ((k : ℕ) → l.i ≤ k → slice_index_or l.to k no_bytes ≡ slice_index_or l.fn.to k no_bytes)
