use Rattle.std.proofs.Common.{◌∙◌, ap, arith, sym}
use Rattle.std.proofs.lemmas.List.{length-append}
use Rattle.xdp_load.specs.Gives.{in_row}
use Rattle.xdp_load.specs.Listed.{listed_shape}
use Rattle.xdp_load.specs.ListedSeen.{listed_seen}
use Rattle.xdp_load.specs.declared.fault.Fault.TheVariants.{Limit}
use Rattle.xdp_load.specs.declared.keyed.ListedRow.{ListedRow}
use Rattle.xdp_load.proofs.RowLemmas.{each_more}
use Rattle.xdp_load.proofs.keyed_limits.listed_shapes.Goals as goal

pub loop-i-preserved : goal.loop-i-preserved
loop-i-preserved c =
    let (read, counted) = c.loop-i.invariant in (
      rw c.in_ok-push.ensures.items (sym (each_more Limit (listed_shape c.args.wide) listed_seen c.args.rows.now c.loop-i.i _ _ _ c.loop-i-test.true (ap (in_row Limit c.loop-i.i) (sym (c.listed_shape.ensures ∙ ap (λ (r : ListedRow). listed_shape c.args.wide (listed_seen r)) c.index-rows-i.is)) ∙ c.in_ok-shape.ensures)) ∙ read),
      rw (c.in_ok-push.ensures.items, length-append) (omega (arith, counted)),
    )
