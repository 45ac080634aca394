use Rattle.std.proofs.Common.{length}
use Rattle.bpf_insn.proofs.ProgressLemmas.{Progress}
use Rattle.bpf_insn.proofs.decoder.slots_of.Given as goal

abbrev pub invariant-slots : goal.invariant-slots
invariant-slots l = Progress l.fn.bytes l.insns.items l.rest

abbrev pub decreases-slots : goal.decreases-slots
decreases-slots l = length l.rest
