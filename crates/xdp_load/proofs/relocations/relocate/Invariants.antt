use Rattle.std.proofs.Common.{◌≡◌, map, drop}
use Rattle.xdp_load.specs.Seen.{reloc_seen}
use Rattle.xdp_load.specs.Setup.{relocated}
use Rattle.xdp_load.proofs.relocations.relocate.Given as goal

abbrev pub invariant-loop-i : goal.invariant-loop-i
invariant-loop-i l = relocated (map (λ m. m.name.now) l.maps) l.i l.program (map reloc_seen (drop l.i l.rows)) ≡ relocated (map (λ m. m.name.now) l.maps) 0 l.fn.program (map reloc_seen l.rows)
