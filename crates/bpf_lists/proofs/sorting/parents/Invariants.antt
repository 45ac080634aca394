use Rattle.std.proofs.Common.{◌≡◌, length}
use Rattle.bpf_lists.specs.Order.{AreParents}
use Rattle.bpf_lists.proofs.sorting.parents.Given as goal

abbrev pub invariant-loop-place : goal.invariant-loop-place
invariant-loop-place l = record {
  long : length l.parents.items ≡ l.place;
  nested : AreParents l.order l.parents.items;
}
