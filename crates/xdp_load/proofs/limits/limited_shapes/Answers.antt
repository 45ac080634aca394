use Rattle.std.proofs.Common.{◌∙◌, ap, sym}
use Rattle.xdp_load.specs.Gives.{in_row}
use Rattle.xdp_load.specs.Limits.{limited_shape}
use Rattle.xdp_load.specs.Seen.{map_seen}
use Rattle.xdp_load.specs.declared.fault.Fault.TheVariants.{Limit}
use Rattle.xdp_load.specs.declared.kinds.MapRow.{MapRow}
use Rattle.xdp_load.proofs.RowLemmas.{each_more}
use Rattle.xdp_load.proofs.limits.limited_shapes.Goals as goal

pub loop-i-preserved : goal.loop-i-preserved
loop-i-preserved c = rw c.in_ok-push.ensures.items (sym (each_more Limit limited_shape map_seen c.args.rows.now c.loop-i.i _ _ _ c.loop-i-test.true (ap (in_row Limit c.loop-i.i) (sym (c.limited_shape.ensures ∙ ap (λ (r : MapRow). limited_shape (map_seen r)) c.index-rows-i.is)) ∙ c.in_ok-shape.ensures)) ∙ c.loop-i.invariant)
