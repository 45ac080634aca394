use Rattle.bpf_note.proofs.RegionLemmas.{narrow_address, narrow_counter}
use Rattle.bpf_note.proofs.layout.narrow_addresses_stay.Goals as goal

pub returns-clause-address : goal.returns-clause-address
returns-clause-address c = narrow_address

pub returns-clause-counter : goal.returns-clause-counter
returns-clause-counter c = narrow_counter
