use Rattle.std.proofs.Common.{◌≡◌, ◌++◌, take, flat_map}
use Rattle.bpf_insn.specs.Spelling.{spelling}
use Rattle.xdp_program.proofs.spelled.spells.Given as goal

abbrev pub invariant-loop-insn : goal.invariant-loop-insn
invariant-loop-insn l = l.bytes ≡ flat_map spelling (take l.insn-index l.insns) ++ l.rest
