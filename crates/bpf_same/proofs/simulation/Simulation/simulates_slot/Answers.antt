use Rattle.bpf_same.proofs.SilentLemmas.{false_true}
use Rattle.bpf_same.proofs.simulation.Simulation.simulates_slot.Goals as goal

pub returns-in_default : goal.returns-in_default
returns-in_default c = λ t. false_true t

pub returns-in_default-insn_at : goal.returns-in_default-insn_at
returns-in_default-insn_at c = λ t. false_true t

pub returns-in_default-relation_at : goal.returns-in_default-relation_at
returns-in_default-relation_at c = λ t. false_true t
