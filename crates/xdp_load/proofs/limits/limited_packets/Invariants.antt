use Rattle.std.proofs.Common.{◌≡◌, map, drop}
use Rattle.xdp_load.specs.Gives.{each}
use Rattle.xdp_load.proofs.RowLemmas.{each_done}
use Rattle.xdp_load.specs.declared.fault.Fault.TheVariants.{Limit}
use Rattle.xdp_load.specs.Limits.{limited_packet}
use Rattle.xdp_load.specs.Seen.{packet_seen}
use Rattle.xdp_load.specs.LimitsSeen.{hex_packet_seen}
use Rattle.xdp_load.proofs.limits.limited_packets.Given as goal

abbrev pub invariant-loop-i : goal.invariant-loop-i
invariant-loop-i l = each_done Limit (limited_packet l.queues) l.i (map hex_packet_seen l.packets.items) (map packet_seen (drop l.i l.rows)) ≡ each Limit (limited_packet l.queues) 0 (map packet_seen l.rows)
