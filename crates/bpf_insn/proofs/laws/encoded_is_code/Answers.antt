use Rattle.bpf_insn.proofs.UniqueLemmas.{encoded}
use Rattle.bpf_insn.proofs.laws.encoded_is_code.Goals as goal

pub returns : goal.returns
returns c = encoded
