use Rattle.std.proofs.Common.{◌≡◌, ◌<◌, ℕ, length}
use Rattle.std.specs.Prelude.{slice_index_or}
use Rattle.bpf_note.specs.Parts.{no_bytes}
use Rattle.bpf_note.specs.Slots.{set_bytes}
use Rattle.bpf_note.proofs.slots.have_eight_bytes.Given as goal

abbrev pub invariant-loop-i : goal.invariant-loop-i
invariant-loop-i l = (j : ℕ) → j < l.i → length (set_bytes (slice_index_or l.slots j no_bytes)) ≡ 8
