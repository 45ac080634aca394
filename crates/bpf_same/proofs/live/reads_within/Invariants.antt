use Rattle.std.proofs.Common.{◌≡◌, ◌<◌, true}
use Rattle.bpf_insn.specs.Register.{number}
use Rattle.bpf_insn.specs.declared.register.Register.{Register}
use Rattle.bpf_flow.specs.Graph.{reads}
use Rattle.bpf_same.specs.LinearForms.{bit}
use Rattle.bpf_same.proofs.live.reads_within.Given as goal

abbrev pub invariant-loop-at : goal.invariant-loop-at
invariant-loop-at l = (r : Register) → number r < l.at → reads l.insn (number r) ≡ true → bit l.mask (number r) ≡ 1
