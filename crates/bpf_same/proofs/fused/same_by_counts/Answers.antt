use Rattle.bpf_same.proofs.FusedLemmas.{fused_runs}
use Rattle.bpf_same.proofs.fused.same_by_counts.Goals as goal

pub returns : goal.returns
returns c = fused_runs
