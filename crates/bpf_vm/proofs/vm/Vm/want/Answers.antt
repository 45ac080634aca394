use Rattle.std.proofs.Common.{subst}
use Rattle.bpf_flow.specs.Step.{Outcome}
use Rattle.bpf_vm.specs.Wants.{Answers}
use Rattle.bpf_vm.proofs.RunLemmas.{inside_of}
use Rattle.bpf_vm.proofs.MachineLemmas.{own_of, here, fine_here}
use Rattle.bpf_vm.specs.Stands.{running_of}
use Rattle.bpf_vm.proofs.AdvanceLemmas.{wanted_of}
use Rattle.bpf_vm.proofs.vm.Vm.want.Goals as goal

pub insn-insn-requires : goal.insn-insn-requires
insn-insn-requires c = inside_of c.self.inside.program.now (own_of c.self.inside.program.now c.self.inside.pc c.self.inside.machine) c.self.invariant.1.consistent c.self.invariant.1.described

pub want-requires-clause-fine : goal.want-requires-clause-fine
want-requires-clause-fine c =
    (c.self.inside.pc, fine_here c.self.inside.program.now c.self.inside.pc c.self.inside.machine c.insn-insn.result.now c.self.invariant.1.consistent c.self.invariant.0 c.insn-insn.ensures.at c.self.invariant.1.described)

pub returns : goal.returns
returns c =
    let p = c.self.inside.program.now in
    let m = c.self.inside.machine in
    let r = c.self.invariant.1 in
    let k = r.consistent in
    let v = running_of p c.self.inside.pc m c.self.inside.count in
    let fine = fine_here p c.self.inside.pc m c.insn-insn.result.now k c.self.invariant.0 c.insn-insn.ensures.at r.described in
    let mine = subst (λ (o : Outcome). Answers c.want.result o) (here p c.self.inside.pc m c.insn-insn.result.now k c.self.invariant.0 c.insn-insn.ensures.at) (c.want.ensures c.self.inside.pc fine) in
    rw (← c.self.view_is) (wanted_of v c.want.result r mine)
