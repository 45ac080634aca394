use Rattle.std.proofs.Common.{◌∙◌, ap, sym}
use Rattle.toml.specs.View.{view}
use Rattle.xdp_load.specs.declared.fault.Fault.TheVariants as fault
use Rattle.xdp_load.proofs.RowLemmas.{each_seen}
use Rattle.xdp_load.proofs.rows.each_row.Goals as goal

pub loop-i-preserved : goal.loop-i-preserved
loop-i-preserved g c = rw c.in_ok-push.ensures.items (sym (each_seen fault.Key g.T.Row.meaning view g.T.Row.seen c.args.values.now c.loop-i.i c.index-values-i.result _ _ _ c.loop-i-test.true (c.of.ensures ∙ ap (λ v. g.T.Row.meaning (view v)) c.index-values-i.is) c.in_ok-row.ensures) ∙ c.loop-i.invariant)
