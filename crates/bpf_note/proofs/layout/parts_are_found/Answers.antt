use Rattle.bpf_note.proofs.LoadPlaceLemmas.{part_found, in_region, without_parts}
use Rattle.bpf_note.proofs.layout.parts_are_found.Goals as goal

pub returns-clause-found : goal.returns-clause-found
returns-clause-found c = part_found

pub returns-clause-regions : goal.returns-clause-regions
returns-clause-regions c = in_region

pub returns-clause-none : goal.returns-clause-none
returns-clause-none c = without_parts
