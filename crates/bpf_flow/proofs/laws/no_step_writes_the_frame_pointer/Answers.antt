use Rattle.bpf_flow.proofs.StepLemmas.{step_keeps}
use Rattle.bpf_flow.proofs.laws.no_step_writes_the_frame_pointer.Goals as goal

pub returns : goal.returns
returns c = step_keeps
