use Rattle.std.proofs.Common.{◌≡◌, ◌<◌, ℕ, length}
use Rattle.std.specs.Prelude.{slice_index_or}
use Rattle.bpf_note.specs.declared.val.Val.TheVariants.{Unset}
use Rattle.bpf_note.specs.Slots.{replaced}
use Rattle.bpf_note.proofs.slots.replaced_registers.Given as goal

abbrev pub invariant-loop-i : goal.invariant-loop-i
invariant-loop-i l = (length l.changed ≡ 11) × ((k : ℕ) → k < l.i → slice_index_or l.changed k Unset ≡ replaced l.change (slice_index_or l.registers k Unset))
