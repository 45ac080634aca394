use Rattle.std.proofs.Common.{◌≡◌, ◌≤◌, length, drop}
use Rattle.xdp_object.specs.Link.{linked}
use Rattle.xdp_object.proofs.link.number_maps.Given as goal

abbrev pub invariant-loop-reference : goal.invariant-loop-reference
invariant-loop-reference l = record {
  rest : linked l.maps.items l.program (drop l.reference-index l.references) ≡ linked l.fn.maps.items l.fn.program l.references;
  few : length l.maps.items ≤ 16;
  whole : length l.program ≡ length l.fn.program;
}
