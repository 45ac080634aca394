use Rattle.std.proofs.Common.{Option, subst}
use Rattle.std.specs.Prelude.{IfSome}
use Rattle.xen_host.specs.Frames.{list_limits}
use Rattle.xdp_host.specs.Made.{MakesOr, given}
use Rattle.xdp_host.specs.declared.loaded_program.LoadedProgram.{LoadedProgram}
use Rattle.xdp_host.proofs.MadeLemmas.{makes_or}
use Rattle.xdp_host.proofs.laxonje_queue_make.Goals as goal

pub returns-in-Some-clause-made : goal.returns-in-Some-clause-made
returns-in-Some-clause-made c =
    let g = given c.args.owners.now list_limits c.args.table.now c.args.desc.now in
    let m = c.boxed-made in
    let old = c.args.out.now.slot.held in
    let new = c.set.new.self.slot.held in
    let held = c.in-Some.held.now in
    let all = makes_or held.program held.lists g old new c.set.result m.result m.ensures.made m.ensures.fault c.set.ensures.ok c.set.ensures.err in
    subst (λ (o : Option LoadedProgram). IfSome o (λ h. MakesOr h.program h.lists g old new c.set.result)) c.in-Some.ensures.value all
