use Rattle.std.proofs.Common.{◌≡◌, length, take}
use Rattle.xdp_object.specs.Original.{ArePlaced}
use Rattle.xdp_object.specs.OriginalSeen.{given_seen}
use Rattle.xdp_object.proofs.original.place_constants.Given as goal

abbrev pub invariant-loop-reference : goal.invariant-loop-reference
invariant-loop-reference l = record {
  before : ArePlaced l.object (given_seen l.given) l.fn.program (take l.reference-index l.references) l.program;
  whole : length l.program ≡ length l.fn.program;
}
