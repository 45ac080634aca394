use Rattle.std.proofs.Common.{arith}
use Rattle.bpf_vm.proofs.RunLemmas.{few_instructions, counted_below}
use Rattle.bpf_vm.proofs.AfterLemmas.{after_step}
use Rattle.bpf_vm.proofs.vm.Vm.step.Goals as goal

pub are_numbers-requires-clause-few : goal.are_numbers-requires-clause-few
are_numbers-requires-clause-few c =
    let v = c.self.inside in
    let r = c.self.invariant.1 in
    (after_step v.program.now v.pc v.machine c.in-Goes.to c.turn.new.self r.consistent c.self.invariant.0 c.insn-insn.ensures.at r c.in-Goes.ensures.turn c.in-Goes.ensures.room).few

pub are_numbers-requires-clause-shapes : goal.are_numbers-requires-clause-shapes
are_numbers-requires-clause-shapes c =
    let v = c.self.inside in
    let r = c.self.invariant.1 in
    (after_step v.program.now v.pc v.machine c.in-Goes.to c.turn.new.self r.consistent c.self.invariant.0 c.insn-insn.ensures.at r c.in-Goes.ensures.turn c.in-Goes.ensures.room).maps

pub overflow_add-self : goal.overflow_add-self
overflow_add-self c =
    let k = c.self.invariant.1.consistent in
    let count = counted_below _ k c.self.invariant.1 in
    omega (arith, count, few_instructions c.self.inside.program.now.code, k.laid_out.short)

pub invariant_of-self : goal.invariant_of-self
invariant_of-self c =
    let v = c.self.inside in
    let r = c.self.invariant.1 in
    let after = after_step v.program.now v.pc v.machine c.in-Goes.to c.turn.new.self r.consistent c.self.invariant.0 c.insn-insn.ensures.at r c.in-Goes.ensures.turn c.in-Goes.ensures.room in
    (after.shapes, after.running (c.are_numbers.ensures c.in-Goes.to))

pub returns : goal.returns
returns c =
    let v = c.self.inside in
    let r = c.self.invariant.1 in
    let after = after_step v.program.now v.pc v.machine c.in-Goes.to c.turn.new.self r.consistent c.self.invariant.0 c.insn-insn.ensures.at r c.in-Goes.ensures.turn c.in-Goes.ensures.room in
    rw (← c.self.view_is) (after.is_step (c.are_numbers.ensures c.in-Goes.to))
