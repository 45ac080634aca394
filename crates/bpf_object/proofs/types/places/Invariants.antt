use Rattle.std.proofs.Common.{◌≡◌, ◌≤◌, ◌-◌, length}
use Rattle.bpf_object.specs.Types.{place, AreFirst}
use Rattle.bpf_object.proofs.types.places.Given as goal

abbrev pub invariant-loop-at : goal.invariant-loop-at
invariant-loop-at l = record {
  here : l.at ≡ place l.bytes (length l.places.items);
  within : l.at ≤ length l.bytes;
  first : AreFirst l.bytes l.places.items;
}

abbrev pub decreases-loop-at : goal.decreases-loop-at
decreases-loop-at l = length l.bytes - l.at
