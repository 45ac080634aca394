use Rattle.std.proofs.Common.{◌≡◌, ◌<◌, ℕ, length}
use Rattle.std.specs.Prelude.{slice_index_or}
use Rattle.bpf_note.specs.Parts.{no_bytes}
use Rattle.bpf_note.specs.Slots.{replaced, slot_with}
use Rattle.bpf_note.proofs.slots.replaced_slots.Given as goal

abbrev pub invariant-loop-i : goal.invariant-loop-i
invariant-loop-i l = (length l.changed ≡ 64) × ((k : ℕ) → k < l.i → slice_index_or l.changed k no_bytes ≡ slot_with (replaced l.change) (slice_index_or l.slots k no_bytes))
