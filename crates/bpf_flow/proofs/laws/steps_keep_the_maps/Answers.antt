use Rattle.bpf_flow.proofs.KeptLemmas.{kept, asked}
use Rattle.bpf_flow.proofs.laws.steps_keep_the_maps.Goals as goal

pub returns-clause-kept : goal.returns-clause-kept
returns-clause-kept c = kept

pub returns-clause-counters : goal.returns-clause-counters
returns-clause-counters c = asked
