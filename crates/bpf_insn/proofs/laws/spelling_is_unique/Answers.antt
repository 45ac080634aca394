use Rattle.bpf_insn.proofs.UniqueLemmas.{one_code}
use Rattle.bpf_insn.proofs.laws.spelling_is_unique.Goals as goal

pub returns : goal.returns
returns c = one_code
