use Rattle.std.proofs.Common.{length}
use Rattle.bpf_lists.proofs.ChainLemmas.{IsNear}
use Rattle.bpf_lists.proofs.chains.Chains.find.Given as goal

abbrev pub invariant-loop-step : goal.invariant-loop-step
invariant-loop-step l = IsNear l.kind l.keys l.key (length l.self.heads.items) l.above
