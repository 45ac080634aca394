use Rattle.std.proofs.Common.{ℕ, ◌≡◌, ◌<◌, ◌≤◌, length, slice_index}
use Rattle.bpf_object.proofs.bytes.is_same.Given as goal

abbrev pub invariant-loop-rest : goal.invariant-loop-rest
invariant-loop-rest l = record {
  within : l.rest ≤ length l.left;
  same : (i : ℕ) → l.rest ≤ i → i < length l.left → slice_index l.left i ≡ slice_index l.right i;
}

abbrev pub decreases-loop-rest : goal.decreases-loop-rest
decreases-loop-rest l = l.rest
