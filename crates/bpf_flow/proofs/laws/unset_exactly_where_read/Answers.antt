use Rattle.bpf_flow.proofs.ReadingLemmas.{unset_exactly}
use Rattle.bpf_flow.proofs.laws.unset_exactly_where_read.Goals as goal

pub returns : goal.returns
returns c = unset_exactly
