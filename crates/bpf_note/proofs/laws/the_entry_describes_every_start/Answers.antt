use Rattle.bpf_note.proofs.JoinDescribes.{start_begun, begun_entry}
use Rattle.bpf_note.proofs.laws.the_entry_describes_every_start.Goals as goal

pub returns : goal.returns
returns c = λ s h. begun_entry s (start_begun s h)
