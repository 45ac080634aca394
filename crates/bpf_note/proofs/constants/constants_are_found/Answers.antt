use Rattle.bpf_note.proofs.ConstantLemmas.{left_at}
use Rattle.bpf_note.proofs.constants.constants_are_found.Goals as goal

pub returns : goal.returns
returns c = left_at
