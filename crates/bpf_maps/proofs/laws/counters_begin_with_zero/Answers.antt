use Rattle.bpf_maps.proofs.HistoryLemmas.{as_ever}
use Rattle.bpf_maps.proofs.laws.counters_begin_with_zero.Goals as goal

pub returns : goal.returns
returns _ = as_ever
