use Rattle.bpf_flow.proofs.LabelLemmas.{same_label}
use Rattle.bpf_flow.proofs.laws.one_label_one_state.Goals as goal

pub returns : goal.returns
returns c = same_label
