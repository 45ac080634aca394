use Rattle.bpf_note.proofs.RegionLemmas.{counter_found}
use Rattle.bpf_note.proofs.layout.found_counters_lie_there.Goals as goal

pub returns : goal.returns
returns c = counter_found
