use Rattle.std.proofs.Common.{rules, ◌≡◌, true}
use Rattle.bpf_insn.specs.declared.alu_op.AluOp.TheVariants.{Add, Mov}
use Rattle.bpf_insn.specs.declared.insn.Insn.TheVariants.{Alu}
use Rattle.bpf_insn.specs.declared.operand.Operand.TheVariants as operands
use Rattle.bpf_same.proofs.CountLemmas.{moves, adds_constant, either_adds, if_added}
use Rattle.bpf_same.proofs.count.Count.added_to.Goals as goal

pub returns-in-Alu-Mov-true-default-Register : goal.returns-in-Alu-Mov-true-default-Register
returns-in-Alu-Mov-true-default-Register c =
    let j = c.in-Alu-Mov-true-default-Register in
    let is : c.args.insn ≡ Alu Mov true j.dst (operands.Register j.src) = search rules in
    if_added c.args.self c.args.insn (Alu Mov true j.dst (operands.Register j.src)) c.is_ahead.result j.dst c.then_some.result is c.then_some.ensures (λ t. moves c.args.self j.dst j.src (c.is_ahead.ensures t))

pub returns-in-Alu-Add-true-default-Immediate : goal.returns-in-Alu-Add-true-default-Immediate
returns-in-Alu-Add-true-default-Immediate c =
    let j = c.in-Alu-Add-true-default-Immediate in
    let is : c.args.insn ≡ Alu Add true j.dst (operands.Immediate j.src-0) = search rules in
    if_added c.args.self c.args.insn (Alu Add true j.dst (operands.Immediate j.src-0)) c.is_ahead-in-Alu-Add-true-default-Immediate.result j.dst c.then_some-in-Alu-Add-true-default-Immediate.result is
    c.then_some-in-Alu-Add-true-default-Immediate.ensures (λ t. adds_constant c.args.self j.dst j.src-0 (c.is_ahead-in-Alu-Add-true-default-Immediate.ensures t))

pub returns-in-Alu-Add-true-default-Register : goal.returns-in-Alu-Add-true-default-Register
returns-in-Alu-Add-true-default-Register c =
    let j = c.in-Alu-Add-true-default-Register in
    let is : c.args.insn ≡ Alu Add true j.dst (operands.Register j.src) = search rules in
    if_added c.args.self c.args.insn (Alu Add true j.dst (operands.Register j.src)) c.is_sum.result j.dst c.then_some-in-Alu-Add-true-default-Register.result is
    c.then_some-in-Alu-Add-true-default-Register.ensures (λ t. either_adds c.args.self j.dst j.src (c.is_sum.ensures t))
