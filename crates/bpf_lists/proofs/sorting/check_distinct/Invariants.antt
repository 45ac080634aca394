use Rattle.std.proofs.Common.{ℕ, ◌+◌, ◌<◌, slice_index}
use Rattle.bpf_lists.specs.Keys.{row}
use Rattle.bpf_lists.specs.Refusals.{IsSame}
use Rattle.bpf_lists.proofs.sorting.check_distinct.Given as goal

abbrev pub invariant-loop-place : goal.invariant-loop-place
invariant-loop-place l = (p : ℕ) → p + 1 < l.place →
    IsSame l.kind (row l.kind l.keys (slice_index l.rows p)) (row l.kind l.keys (slice_index l.rows (p + 1))) → ⊥
