use Rattle.std.proofs.Common.{◌∙◌, sym}
use Rattle.xdp_load.specs.Seen.{hex_seen}
use Rattle.xdp_load.proofs.RowLemmas.{joined_more}
use Rattle.xdp_load.proofs.packets.joined.Goals as goal

pub loop-i-preserved : goal.loop-i-preserved
loop-i-preserved c =
    rw (c.in_ok-extend_from_slice.ensures.items, c.as_slice.ensures.value) (sym (joined_more hex_seen c.args.texts.now c.loop-i.i _ _ _ c.loop-i-test.true c.in_ok-bytes.ensures) ∙ c.loop-i.invariant)
