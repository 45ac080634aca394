use Rattle.std.proofs.Common.{length}
use Rattle.bpf_insn.proofs.ProgressLemmas.{Counted}
use Rattle.bpf_insn.proofs.decoder.refusal_of.Given as goal

abbrev pub invariant-slots : goal.invariant-slots
invariant-slots l = Counted l.fn.bytes l.rest l.pc

abbrev pub decreases-slots : goal.decreases-slots
decreases-slots l = length l.rest
