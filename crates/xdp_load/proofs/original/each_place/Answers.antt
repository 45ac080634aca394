use Rattle.std.proofs.Common.{◌∙◌, sym}
use Rattle.xdp_load.specs.Original.{limited_place}
use Rattle.xdp_load.specs.OriginalSeen.{place_view}
use Rattle.xdp_load.specs.Seen.{place_seen}
use Rattle.xdp_load.specs.declared.fault.Fault.TheVariants.{Limit}
use Rattle.xdp_load.proofs.RowLemmas.{each_seen}
use Rattle.xdp_load.proofs.original.each_place.Goals as goal

pub loop-i-preserved : goal.loop-i-preserved
loop-i-preserved c = rw c.in_ok-push.ensures.items (sym (each_seen Limit limited_place place_seen place_view c.args.rows.now c.loop-i.i _ _ _ _ c.loop-i-test.true c.limited_place.ensures c.in_ok-place.ensures) ∙ c.loop-i.invariant)
