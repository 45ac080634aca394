use Rattle.std.proofs.Common.{arith, subst, ℕ}
use Rattle.bpf_note.specs.Parts.{facts}
use Rattle.bpf_same.specs.Caught.{CatchesUp}
use Rattle.bpf_same.proofs.CaughtLemmas.{stays, further}
use Rattle.bpf_same.proofs.caught.caught_up.Goals as goal

pub loop-step-init : goal.loop-step-init
loop-step-init c = λ alone low. stays alone c.args.old.now low (facts c.args.note.now) c.args.from.now.relation c.args.from.now.at

pub loop-step-preserved : goal.loop-step-preserved
loop-step-preserved c = λ alone low.
    further alone c.args.old.now low (facts c.args.note.now) c.args.from.now.relation c.args.from.now.at c.loop-step.here.relation c.loop-step.here.at c.in-Some.next.relation c.in-Some.next.at (c.loop-step.invariant alone low) (c.in-Some.ensures alone low)

pub returns-then-here-to : goal.returns-then-here-to
returns-then-here-to c = λ alone low.
    subst (λ (q : ℕ). CatchesUp alone c.args.old.now low (facts c.args.note.now) c.args.from.now.relation c.args.from.now.at c.loop-step.here.relation q) (omega (arith, c.if-here-to.true)) (c.loop-step.invariant alone low)
