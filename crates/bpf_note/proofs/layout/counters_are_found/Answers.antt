use Rattle.bpf_note.proofs.RegionLemmas.{counter_at_address}
use Rattle.bpf_note.proofs.layout.counters_are_found.Goals as goal

pub returns : goal.returns
returns c = counter_at_address
