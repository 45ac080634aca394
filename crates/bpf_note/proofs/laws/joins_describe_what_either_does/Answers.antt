use Rattle.bpf_note.proofs.JoinDescribes.{joined_describes}
use Rattle.bpf_note.proofs.laws.joins_describe_what_either_does.Goals as goal

pub returns : goal.returns
returns c = joined_describes
