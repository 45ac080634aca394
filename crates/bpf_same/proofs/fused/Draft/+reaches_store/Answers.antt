use Rattle.std.proofs.Common.{ℕ, subst}
use Rattle.bpf_same.specs.Fused.{IsInside}
use Rattle.bpf_same.specs.Plans.{plan_of}
use Rattle.bpf_same.proofs.InsideLemmas.{step_inside}
use Rattle.bpf_same.proofs.fused.Draft.+reaches_store.Goals as goal

pub returns : goal.returns
returns t c = λ yes.
    let there = c.in-Some.ensures in
    let next = c.in-Some.next in
    let plan = plan_of c.args.self.now in
    step_inside plan c.args.count next c.args.at there.0 there.1 there.2 there.3 (subst (λ (q : ℕ). IsInside plan next.base next.off q next.alike next.ahead) there.4 (c.reaches_store.ensures yes))
