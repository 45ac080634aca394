use Rattle.bpf_flow.proofs.ConstantLemmas.{plain_step, plain_rule}
use Rattle.bpf_flow.proofs.laws.loads_without_constants_are_of_regions.Goals as goal

pub returns-clause-step : goal.returns-clause-step
returns-clause-step c = plain_step

pub returns-clause-rule : goal.returns-clause-rule
returns-clause-rule c = plain_rule
