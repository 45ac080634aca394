use Rattle.bpf_flow.proofs.EdgeLemmas.{exec_leads}
use Rattle.bpf_flow.proofs.laws.steps_follow_edges.Goals as goal

pub returns : goal.returns
returns c = exec_leads
