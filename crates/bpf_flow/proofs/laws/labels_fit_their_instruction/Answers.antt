use Rattle.bpf_flow.proofs.LabelLemmas.{exec_fits, labels_alike, whole_load}
use Rattle.bpf_flow.proofs.laws.labels_fit_their_instruction.Goals as goal

pub returns : goal.returns
returns c = record { kind = exec_fits; whole = whole_load; alike = labels_alike }
