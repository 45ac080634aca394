use Rattle.std.proofs.Common.{◌∙◌}
use Rattle.bpf_vm.proofs.OperandLemmas.{first_computed}
use Rattle.bpf_vm.proofs.machine.Machine.computed.Goals as goal

pub returns : goal.returns
returns c =
    let p = first_computed c.args.op c.args.wide c.register.result c.args.src _ c.register.ensures in
    (p.0, p.1, c.alu.ensures ∙ p.2)
