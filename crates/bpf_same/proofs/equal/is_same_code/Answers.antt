use Rattle.std.proofs.lemmas.Slice.Eq.{slice_eq-Decides}
use Rattle.bpf_same.proofs.EqualLemmas.{insns_equal}
use Rattle.bpf_same.proofs.equal.is_same_code.Goals as goal

pub returns : goal.returns
returns c = slice_eq-Decides insns_equal _ _ _ c.eq.ensures
