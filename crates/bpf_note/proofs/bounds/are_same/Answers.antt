use Rattle.std.proofs.lemmas.Slice.Eq.{slice_eq-Decides}
use Rattle.bpf_note.proofs.EqualLemmas.{bounds_equal}
use Rattle.bpf_note.proofs.bounds.are_same.Goals as goal

pub returns : goal.returns
returns c = slice_eq-Decides bounds_equal _ _ _ c.eq.ensures
