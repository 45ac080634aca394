use Rattle.bpf_note.specs.Parts.{no_bytes}
use Rattle.bpf_note.proofs.PlaceLemmas.{get_replicate}
use Rattle.bpf_note.proofs.note.no_slots.Goals as goal

pub returns : goal.returns
returns c = λ j. get_replicate 64 j no_bytes
