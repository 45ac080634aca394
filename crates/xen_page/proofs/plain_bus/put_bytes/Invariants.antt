use Rattle.std.proofs.Common.{◌≡◌, ◌*◌, ◌++◌, drop, replicate, take}
use Rattle.std.specs.Int.{w32, to_le_bytes}
use Rattle.std.specs.List.{flat_map}
use Rattle.xen_page.proofs.plain_bus.put_bytes.Given as goal

abbrev pub invariant-loop-number : goal.invariant-loop-number
invariant-loop-number l = l.page ≡ flat_map (to_le_bytes w32) (take l.number l.words) ++ drop (4 * l.number) (replicate 4096 0)
