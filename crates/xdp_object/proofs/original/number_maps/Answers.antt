use Rattle.std.proofs.Common.{sym, ◌∙◌}
use Rattle.std.proofs.lemmas.Bool.{eqb-true}
use Rattle.xdp_object.specs.OriginalSeen.{given_seen}
use Rattle.xdp_object.proofs.OriginalLemmas.{none_numbered}
use Rattle.xdp_object.proofs.original.number_maps.Goals as goal

pub returns-then-is_empty-clause-ok : goal.returns-then-is_empty-clause-ok
returns-then-is_empty-clause-ok c =
    none_numbered c.args.object.now (given_seen c.args.given.now) c.args.program.now c.args.references.now
    (eqb-true _ _ (sym c.is_empty.ensures ∙ c.if-is_empty.true))
