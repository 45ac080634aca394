use Rattle.std.proofs.Common.{subst, arith, ℕ}
use Rattle.bpf_note.specs.Parts.{facts}
use Rattle.bpf_same.specs.Simulated.{ReachesSilently}
use Rattle.bpf_same.proofs.SilentLemmas.{silent_further, stay}
use Rattle.bpf_same.proofs.simulation.Simulation.reaches_silently.Goals as goal

pub loop-jump-init : goal.loop-jump-init
loop-jump-init c = stay c.args.self.now.alone c.args.self.now.old.now c.args.relation.now c.args.self.now.low (facts c.args.note.now) c.args.from

pub loop-jump-preserved : goal.loop-jump-preserved
loop-jump-preserved c =
    silent_further c.args.self.now.alone c.args.self.now.old.now c.args.relation.now c.args.self.now.low (facts c.args.note.now) c.args.from c.loop-jump.at c.in-Some.next c.in-Some.ensures.0 c.loop-jump.invariant c.in-Some.ensures.1 c.in-Some.ensures.2

pub returns-then-at-to : goal.returns-then-at-to
returns-then-at-to c = λ t. subst (λ (q : ℕ). ReachesSilently c.args.self.now.alone c.args.self.now.old.now c.args.relation.now c.args.self.now.low (facts c.args.note.now) c.args.from q) (omega (arith, c.if-at-to.true)) c.loop-jump.invariant
