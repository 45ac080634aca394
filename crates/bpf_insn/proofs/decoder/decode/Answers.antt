use Rattle.bpf_insn.proofs.UniqueLemmas.{code_has_length, code_or_none, memory_alone, one_code, one_refusal}
use Rattle.bpf_insn.proofs.decoder.decode.Goals as goal

pub returns-in-Some-clause-spelled : goal.returns-in-Some-clause-spelled
returns-in-Some-clause-spelled c = λ code s. absurd (code_or_none code c.args.bytes.now c.in-Some.refusal.cause c.in-Some.refusal.pc s c.in-Some.ensures.some)

pub returns-in-Some-clause-refused : goal.returns-in-Some-clause-refused
returns-in-Some-clause-refused c = λ cause pc r. one_refusal c.args.bytes.now c.in-Some.refusal.cause cause c.in-Some.refusal.pc pc c.in-Some.ensures.some r

pub returns-then-not-has_length-clause-spelled : goal.returns-then-not-has_length-clause-spelled
returns-then-not-has_length-clause-spelled c = λ code s. let t = c.has_length.ensures.1 (code_has_length code c.args.bytes.now s) in absurd (cc (t, c.if-not-has_length.true))

pub returns-in-Ok-clause-spelled : goal.returns-in-Ok-clause-spelled
returns-in-Ok-clause-spelled c = λ code s. one_code c.of_slots.result code c.args.bytes.now (rw c.of_slots.ensures c.in-Ok.ensures.ok) s

pub returns-in-Ok-clause-refused : goal.returns-in-Ok-clause-refused
returns-in-Ok-clause-refused c = λ cause pc r. code_or_none c.in-Ok.insns.items c.args.bytes.now cause pc c.in-Ok.ensures.ok r

pub returns-in-None-clause-spelled : goal.returns-in-None-clause-spelled
returns-in-None-clause-spelled c = λ code s. memory_alone c.args.bytes.now c.in-Err.stopped code c.in-Err.ensures.err s

pub returns-in-None-clause-refused : goal.returns-in-None-clause-refused
returns-in-None-clause-refused c = λ cause pc r. let s = c.in-None.ensures.none in absurd (code_or_none s.0 c.args.bytes.now cause pc s.1 r)
