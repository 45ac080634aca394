use Rattle.std.proofs.Common.{◌≡◌, ◌<◌, ◌≤◌, ℕ, length}
use Rattle.std.specs.Prelude.{slice_index_or}
use Rattle.bpf_note.specs.declared.val.Val.TheVariants.{Unset}
use Rattle.bpf_note.specs.Join.{joined_value}
use Rattle.bpf_note.proofs.joins.join_registers.Given as goal

abbrev pub invariant-loop-i : goal.invariant-loop-i
invariant-loop-i l =
    (length l.a ≡ 11)
    × ((k : ℕ) → k < l.i → slice_index_or l.a k Unset ≡ joined_value (slice_index_or l.fn.a k Unset) (slice_index_or l.b k Unset))
    × ((k : ℕ) → l.i ≤ k → slice_index_or l.a k Unset ≡ slice_index_or l.fn.a k Unset)
