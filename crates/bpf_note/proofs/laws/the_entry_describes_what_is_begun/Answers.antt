use Rattle.bpf_note.proofs.JoinDescribes.{entry_begun, begun_entry}
use Rattle.bpf_note.proofs.laws.the_entry_describes_what_is_begun.Goals as goal

pub returns : goal.returns
returns c = λ s. (entry_begun s, begun_entry s)
