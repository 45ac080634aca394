use Rattle.std.proofs.Common.{arith}
use Rattle.bpf_vm.proofs.RunLemmas.{few_instructions, counted_below}
use Rattle.bpf_vm.proofs.AfterLemmas.{after_answer}
use Rattle.bpf_vm.proofs.vm.Vm.resume.Goals as goal

pub are_numbers-requires-clause-few : goal.are_numbers-requires-clause-few
are_numbers-requires-clause-few c = (after_answer c.self.inside.program.now c.self.inside.pc c.self.inside.machine c.answer-to.result c.answer-to.new.self c.self.invariant.1.consistent c.self.invariant.0 c.insn-insn.ensures.at c.self.invariant.1 c.args.number c.ranges.number.fits c.answer-to.ensures.state c.answer-to.ensures.room).few

pub are_numbers-requires-clause-shapes : goal.are_numbers-requires-clause-shapes
are_numbers-requires-clause-shapes c = (after_answer c.self.inside.program.now c.self.inside.pc c.self.inside.machine c.answer-to.result c.answer-to.new.self c.self.invariant.1.consistent c.self.invariant.0 c.insn-insn.ensures.at c.self.invariant.1 c.args.number c.ranges.number.fits c.answer-to.ensures.state c.answer-to.ensures.room).maps

pub overflow_add-self : goal.overflow_add-self
overflow_add-self c =
    let k = c.self.invariant.1.consistent in
    let count = counted_below _ k c.self.invariant.1 in
    omega (arith, count, few_instructions c.self.inside.program.now.code, k.laid_out.short)

pub invariant_of-self : goal.invariant_of-self
invariant_of-self c =
    let after = after_answer c.self.inside.program.now c.self.inside.pc c.self.inside.machine c.answer-to.result c.answer-to.new.self c.self.invariant.1.consistent c.self.invariant.0 c.insn-insn.ensures.at c.self.invariant.1 c.args.number c.ranges.number.fits c.answer-to.ensures.state c.answer-to.ensures.room in
    (after.shapes, after.running (c.are_numbers.ensures c.answer-to.result))

pub returns : goal.returns
returns c = rw (← c.self.view_is) ((after_answer c.self.inside.program.now c.self.inside.pc c.self.inside.machine c.answer-to.result c.answer-to.new.self c.self.invariant.1.consistent c.self.invariant.0 c.insn-insn.ensures.at c.self.invariant.1 c.args.number c.ranges.number.fits c.answer-to.ensures.state c.answer-to.ensures.room).is_step (c.are_numbers.ensures c.answer-to.result))
