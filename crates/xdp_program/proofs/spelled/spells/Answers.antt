use Rattle.std.proofs.Common.{flat_map, drop, ◌+◌}
use Rattle.bpf_insn.specs.Spelling.{spelling}
use Rattle.xdp_program.proofs.SpelledLemmas.{false_true, slot_at, spelled_rest}
use Rattle.xdp_program.proofs.spelled.spells.Goals as goal

pub after-requires : goal.after-requires
after-requires c = slot_at c.args.insns.now c.requires c.loop-insn.insn-index _ c.loop-insn-test.true

pub returns-in-None : goal.returns-in-None
returns-in-None c = (
  λ t. absurd (false_true t),
  λ s. absurd (c.in-None.ensures.none (flat_map spelling (drop (c.loop-insn.insn-index + 1) c.args.insns.now))
      (spelled_rest c.args.insns.now c.args.bytes.now c.loop-insn.rest.now c.loop-insn.insn-index _ c.loop-insn-test.true c.loop-insn.invariant s.written)),
)
