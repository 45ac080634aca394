use Rattle.std.proofs.Common.{◌∙◌, sym}
use Rattle.xdp_load.specs.LimitsSeen.{hex_packet_seen}
use Rattle.xdp_load.specs.Setup.{packet_of}
use Rattle.xdp_load.specs.SetupSeen.{packet_view}
use Rattle.xdp_load.specs.declared.fault.Fault.TheVariants.{Hex}
use Rattle.xdp_load.proofs.RowLemmas.{each_kept}
use Rattle.xdp_load.proofs.packets.packets_of.Goals as goal

pub loop-i-preserved : goal.loop-i-preserved
loop-i-preserved c =
    rw c.in_ok-push.ensures.items (sym (each_kept Hex packet_of hex_packet_seen packet_view c.args.rows.now c.loop-i.i _ _ _ c.loop-i-test.true c.in_ok-packet.ensures) ∙ c.loop-i.invariant)
