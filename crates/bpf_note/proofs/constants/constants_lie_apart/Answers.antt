use Rattle.bpf_note.proofs.ConstantLemmas.{none_elsewhere, none_at_all}
use Rattle.bpf_note.proofs.constants.constants_lie_apart.Goals as goal

pub returns-clause-regions : goal.returns-clause-regions
returns-clause-regions c = none_elsewhere

pub returns-clause-none : goal.returns-clause-none
returns-clause-none c = none_at_all
