use Rattle.bpf_same.proofs.BoundLemmas.{narrowed_held}
use Rattle.bpf_same.proofs.relation.Relation.bounded.Goals as goal

pub loop-register-preserved : goal.loop-register-preserved
loop-register-preserved c = narrowed_held c.args.self.now c.args.form c.loop-register.found c.range_by_bound.result c.narrowed-found.result c.narrowed-found.ensures c.loop-register.invariant c.range_by_bound.ensures
