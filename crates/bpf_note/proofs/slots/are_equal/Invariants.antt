use Rattle.std.proofs.Common.{◌≡◌, ◌<◌, ℕ}
use Rattle.std.specs.Prelude.{slice_index_or}
use Rattle.bpf_note.specs.Parts.{no_bytes}
use Rattle.bpf_note.proofs.slots.are_equal.Given as goal

abbrev pub invariant-loop-i : goal.invariant-loop-i
invariant-loop-i l = (k : ℕ) → k < l.i → slice_index_or l.a k no_bytes ≡ slice_index_or l.b k no_bytes
