use Rattle.std.proofs.Common.{◌≡◌, ◌+◌, length, take}
use Rattle.xdp_object.specs.Constants.{AreBehind}
use Rattle.xdp_object.specs.MapsSeen.{maps_seen, unlisted}
use Rattle.xdp_object.proofs.constants.with_constants.Given as goal

abbrev pub invariant-loop-number : goal.invariant-loop-number
invariant-loop-number l = record {
  behind : AreBehind l.object (unlisted l.fn.maps) (take l.number l.sections) (maps_seen l.all);
  counted : length l.all.shapes.items ≡ length l.fn.maps.shapes.items + l.number;
}
