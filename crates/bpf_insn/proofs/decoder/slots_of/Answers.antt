use Rattle.std.proofs.Common.{inr, refl, arith}
use Rattle.std.proofs.lemmas.Bool.Decides.{nat_tests}
use Rattle.bpf_insn.proofs.ProgressLemmas.{runs_out_first, more_progress, all_read}
use Rattle.bpf_insn.proofs.decoder.slots_of.Goals as goal

pub returns-in-Err-clause-err : goal.returns-in-Err-clause-err
returns-in-Err-clause-err c = rw c.memory_refusal.ensures (inr (refl, runs_out_first c.args.bytes.now c.requires))

pub slots-preserved : goal.slots-preserved
slots-preserved c =
    let more = more_progress c.args.bytes.now c.slots.insns.items c.slots.rest.now c.in_ok-insn.insn c.slots.invariant c.in_ok-insn.ensures.spelled c.in_ok-insn.ensures.front in
    rw (c.in_ok-push.ensures.ok, c.split_at.ensures.back, c.slot_count.ensures) more

pub returns-clause-ok : goal.returns-clause-ok
returns-clause-ok c = all_read c.args.bytes.now c.slots.insns.items c.slots.rest.now c.requires c.slots.invariant (grind (arith, nat_tests))
