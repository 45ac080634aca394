use Rattle.std.proofs.Common.{ℕ, ◌≢◌, ◌<◌, ◌≤◌, slice_index}
use Rattle.bpf_object.proofs.bytes.text.Given as goal

abbrev pub invariant-loop-end : goal.invariant-loop-end
invariant-loop-end l = (i : ℕ) → l.at ≤ i → i < l.end → slice_index l.table i ≢ 0
