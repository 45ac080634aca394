use Rattle.std.proofs.Common.{◌∙◌, sym}
use Rattle.xdp_load.specs.Limits.{limited_packet}
use Rattle.xdp_load.specs.LimitsSeen.{hex_packet_seen}
use Rattle.xdp_load.specs.Seen.{packet_seen}
use Rattle.xdp_load.specs.declared.fault.Fault.TheVariants.{Limit}
use Rattle.xdp_load.proofs.RowLemmas.{each_seen}
use Rattle.xdp_load.proofs.limits.limited_packets.Goals as goal

pub loop-i-preserved : goal.loop-i-preserved
loop-i-preserved c = rw c.in_ok-push.ensures.items (sym (each_seen Limit (limited_packet c.args.queues) packet_seen hex_packet_seen c.args.rows.now c.loop-i.i _ _ _ _ c.loop-i-test.true c.limited_packet.ensures c.in_ok-packet.ensures) ∙ c.loop-i.invariant)
