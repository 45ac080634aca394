use Rattle.honest_pair.proofs.Machine.CopyLemmas.{has_copy}
use Rattle.honest_pair.proofs.laws.runs_have_copies.Goals as goal

pub returns : goal.returns
returns c = λ w s t slots packet left h. has_copy w s slots packet left t h
