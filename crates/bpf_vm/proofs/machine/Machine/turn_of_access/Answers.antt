use Rattle.std.proofs.Common.{refl, rules, subst, sym}
use Rattle.std.specs.Prelude.{FitsSigned}
use Rattle.std.specs.Int.{w16}
use Rattle.std.proofs.lemmas.Int.{to_z-of_z}
use Rattle.bpf_insn.specs.declared.insn.Insn.{Insn}
use Rattle.bpf_flow.specs.Step.{exec}
use Rattle.bpf_vm.specs.Running.{machine_state, IsNoFault}
use Rattle.bpf_vm.specs.Wants.{Answers}
use Rattle.bpf_vm.proofs.machine.Machine.turn_of_access.Goals as goal

pub want_of_add-requires-clause-fine : goal.want_of_add-requires-clause-fine
want_of_add-requires-clause-fine c =
    let fits : FitsSigned w16 c.in-AddCounter.off = search rules in
    simp to_z-of_z (c.args.pc, c.in-AddCounter.fetch, subst (λ (i : Insn). IsNoFault (exec i (machine_state c.args.pc c.args.self.now))) c.in-AddCounter.is c.requires.fine)

pub returns-in-AddCounter-clause-turn : goal.returns-in-AddCounter-clause-turn
returns-in-AddCounter-clause-turn c =
    let fits : FitsSigned w16 c.in-AddCounter.off = search rules in
    let wanted = simp to_z-of_z at (c.want_of_add.ensures.want c.args.pc c.in-AddCounter.fetch) in
    let answers = subst (λ (i : Insn). Answers c.want_of_add.result (exec i (machine_state c.args.pc c.args.self.now))) (sym c.in-AddCounter.is) (wanted (subst (λ (i : Insn). IsNoFault (exec i (machine_state c.args.pc c.args.self.now))) c.in-AddCounter.is c.requires.fine)) in
    (answers, c.want_of_add.ensures.waits, refl)
