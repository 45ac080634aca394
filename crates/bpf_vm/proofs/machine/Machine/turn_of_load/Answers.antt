use Rattle.std.proofs.Common.{rules}
use Rattle.std.specs.Prelude.{FitsSigned}
use Rattle.std.specs.Int.{w16}
use Rattle.std.proofs.lemmas.Int.{to_z-of_z}
use Rattle.bpf_vm.proofs.machine.Machine.turn_of_load.Goals as goal

pub want_of_load-requires-clause-fine : goal.want_of_load-requires-clause-fine
want_of_load-requires-clause-fine c =
    let fits : FitsSigned w16 c.args.off = search rules in
    simp to_z-of_z (c.args.pc, c.args.size, c.args.signed, c.args.dst, c.requires.fine)

pub returns-in_default : goal.returns-in_default
returns-in_default c =
    let fits : FitsSigned w16 c.args.off = search rules in
    let waits = simp to_z-of_z at (c.want_of_load.ensures c.args.pc c.args.size c.args.signed c.args.dst) in
    let answers = waits c.requires.fine in
    search (rules, answers)
