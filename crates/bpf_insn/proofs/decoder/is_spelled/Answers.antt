use Rattle.bpf_insn.proofs.OpcodeLemmas.{spelled_if_some}
use Rattle.bpf_insn.proofs.decoder.is_spelled.Goals as goal

pub returns : goal.returns
returns c = rw c.is_some.ensures (spelled_if_some c.narrow.result c.args.f c.narrow.ensures.some c.narrow.ensures.none)
