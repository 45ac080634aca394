use Rattle.std.proofs.Common.{refl, subst, sym}
use Rattle.bpf_insn.specs.declared.insn.Insn.{Insn}
use Rattle.bpf_flow.specs.Step.{exec}
use Rattle.bpf_vm.specs.Running.{machine_state}
use Rattle.bpf_vm.specs.Wants.{Answers}
use Rattle.bpf_vm.proofs.machine.Machine.turn.Goals as goal

pub returns-in-Exit-clause-turn : goal.returns-in-Exit-clause-turn
returns-in-Exit-clause-turn d = (subst (λ (i : Insn). Answers d.want_of_exit.result (exec i (machine_state d.args.pc d.args.self.now))) (sym d.in-Exit.is) (d.want_of_exit.ensures.want d.args.pc), d.want_of_exit.ensures.waits, refl)
