use Rattle.std.proofs.Common.{◌≡◌, ◌+◌, ◌≤◌, length, drop}
use Rattle.xdp_object.specs.Link.{placed}
use Rattle.xdp_object.proofs.link.place_constants.Given as goal

abbrev pub invariant-loop-reference : goal.invariant-loop-reference
invariant-loop-reference l = record {
  rest :
      placed l.first l.sections.items l.program (drop l.reference-index l.references)
      ≡ placed l.first l.fn.sections.items l.fn.program l.fn.references;
  few : l.first + length l.sections.items ≤ 16;
  whole : length l.program ≡ length l.fn.program;
}
