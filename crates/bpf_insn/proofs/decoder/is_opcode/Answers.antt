use Rattle.std.proofs.Common.{rules, IsTrue, false}
use Rattle.bpf_insn.proofs.OpcodeLemmas.{swap_left, spelled_opcode, wide_opcode}
use Rattle.bpf_insn.proofs.decoder.is_opcode.Goals as goal

pub returns-then-op-eq-WIDE_LOAD : goal.returns-then-op-eq-WIDE_LOAD
returns-then-op-eq-WIDE_LOAD c = (λ _. wide_opcode c.args.op c.if-op-eq-WIDE_LOAD.true, λ _. search rules)

pub returns-then-is_spelled : goal.returns-then-is_spelled
returns-then-is_spelled c = (λ _. spelled_opcode _ (c.if-is_spelled.ensures.0 (search rules)), λ _. search rules)

pub returns : goal.returns
returns c = (λ t. spelled_opcode _ (c.is_spelled-2.ensures.0 t), λ known. c.is_spelled-2.ensures.1 (swap_left c.args.op known c.if-op-eq-WIDE_LOAD.false (λ s. absurd (not_so (c.if-is_spelled.ensures.1 s)))))
  where
    not_so : IsTrue false → ⊥
    not_so h = search rules
