use Rattle.std.proofs.Common.{arith}
use Rattle.std.proofs.lemmas.Bool.Decides.{nat_tests}
use Rattle.std.proofs.Common.{rules}
use Rattle.bpf_insn.proofs.ProgressLemmas.{more_count, all_counted}
use Rattle.bpf_insn.proofs.decoder.refusal_of.Goals as goal

pub slots-preserved : goal.slots-preserved
slots-preserved c =
    rw (c.split_at.ensures.back, c.slot_count-count.ensures) (more_count c.args.bytes.now c.slots.rest.now c.slots.pc c.in-Ok.insn c.slots.invariant c.in-Ok.ensures.spelled c.in-Ok.ensures.front)

pub returns-clause-none : goal.returns-clause-none
returns-clause-none c = all_counted c.args.bytes.now c.slots.rest.now c.slots.pc (c.if-not-has_length.ensures.0 (search rules)) c.slots.invariant (grind (arith, nat_tests))
