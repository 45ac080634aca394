use Rattle.bpf_flow.proofs.ReadingLemmas.{frame_exactly}
use Rattle.bpf_flow.proofs.laws.frame_pointer_exactly_where_written.Goals as goal

pub returns : goal.returns
returns c = frame_exactly
