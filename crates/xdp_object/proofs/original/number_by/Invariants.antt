use Rattle.std.proofs.Common.{◌≡◌, length, take}
use Rattle.xdp_object.specs.Original.{AreNumbered}
use Rattle.xdp_object.specs.OriginalSeen.{given_seen}
use Rattle.xdp_object.proofs.original.number_by.Given as goal

abbrev pub invariant-loop-reference : goal.invariant-loop-reference
invariant-loop-reference l = record {
  before : AreNumbered l.object (given_seen l.given) l.fn.program (take l.reference-index l.references) l.program;
  whole : length l.program ≡ length l.fn.program;
}
