use Rattle.std.proofs.Common.{◌≡◌, ◌<◌, ℕ}
use Rattle.std.specs.Prelude.{slice_index_or}
use Rattle.bpf_note.specs.declared.val.Val.TheVariants.{Unset}
use Rattle.bpf_note.proofs.note.are_same_registers.Given as goal

abbrev pub invariant-loop-i : goal.invariant-loop-i
invariant-loop-i l = (k : ℕ) → k < l.i → slice_index_or l.a k Unset ≡ slice_index_or l.b k Unset
