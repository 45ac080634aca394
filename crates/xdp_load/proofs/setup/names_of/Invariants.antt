use Rattle.std.proofs.Common.{◌≡◌, map, string_bytes, take}
use Rattle.xdp_load.proofs.setup.names_of.Given as goal

abbrev pub invariant-loop-row : goal.invariant-loop-row
invariant-loop-row l = map string_bytes l.names.items ≡ map (λ m. m.name.now) (take l.row-index l.maps)
