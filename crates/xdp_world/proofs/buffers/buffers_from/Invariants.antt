use Rattle.std.proofs.Common.{◌≡◌, map}
use Rattle.std.specs.List.{range_with_len}
use Rattle.xdp_world.specs.Buffers.{granted}
use Rattle.xdp_world.proofs.buffers.buffers_from.Given as goal

abbrev pub invariant-loop-id : goal.invariant-loop-id
invariant-loop-id l = l.buffers.items ≡ map granted (range_with_len l.first l.id)
