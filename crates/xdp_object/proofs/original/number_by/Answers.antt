use Rattle.std.proofs.Common.{◌∙◌, refl}
use Rattle.xdp_object.specs.Original.AreNumbered.{none}
use Rattle.xdp_object.specs.OriginalSeen.{given_seen}
use Rattle.xdp_object.proofs.OriginalLemmas.{first_unnumbered, numbered_more}
use Rattle.xdp_object.proofs.original.number_by.Goals as goal

pub loop-reference-preserved : goal.loop-reference-preserved
loop-reference-preserved c =
    let i = c.loop-reference.invariant in
    record {
      before =
          numbered_more c.args.object.now (given_seen c.args.given.now) c.args.program.now c.loop-reference.program _ c.args.references.now
          c.loop-reference.reference-index _ _ c.loop-reference-test.true i.before c.in-Ok.ensures.ok c.set_map.ensures;
      whole = c.set_map.auto.program ∙ i.whole;
    }

pub loop-reference-init : goal.loop-reference-init
loop-reference-init c = record { before = none; whole = refl }

pub returns-in-Err-clause-err : goal.returns-in-Err-clause-err
returns-in-Err-clause-err c =
    first_unnumbered c.args.object.now (given_seen c.args.given.now) c.args.program.now c.loop-reference.program c.args.references.now
    c.loop-reference.reference-index _ _ c.loop-reference-test.true c.loop-reference.invariant.before c.in-Err.ensures.err
