use Rattle.bpf_same.proofs.SilentLemmas.{false_true}
use Rattle.bpf_same.proofs.fused.Draft.is_store_at.Goals as goal

pub returns-else-eq : goal.returns-else-eq
returns-else-eq c = λ t. false_true t

pub returns-in_default : goal.returns-in_default
returns-in_default c = λ t. false_true t

pub returns-in_default-2 : goal.returns-in_default-2
returns-in_default-2 c = λ t. false_true t

pub returns-in_default-3 : goal.returns-in_default-3
returns-in_default-3 c = λ t. false_true t
