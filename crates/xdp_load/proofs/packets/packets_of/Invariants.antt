use Rattle.std.proofs.Common.{◌≡◌, map, drop}
use Rattle.xdp_load.specs.Gives.{each}
use Rattle.xdp_load.proofs.RowLemmas.{each_done}
use Rattle.xdp_load.specs.declared.fault.Fault.TheVariants.{Hex}
use Rattle.xdp_load.specs.Setup.{packet_of}
use Rattle.xdp_load.specs.LimitsSeen.{hex_packet_seen}
use Rattle.xdp_load.specs.SetupSeen.{packet_view}
use Rattle.xdp_load.proofs.packets.packets_of.Given as goal

abbrev pub invariant-loop-i : goal.invariant-loop-i
invariant-loop-i l = each_done Hex packet_of l.i (map packet_view l.packets.items) (map hex_packet_seen (drop l.i l.rows)) ≡ each Hex packet_of 0 (map hex_packet_seen l.rows)
