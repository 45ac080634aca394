use Rattle.std.proofs.Common.{Option, subst}
use Rattle.std.specs.Prelude.{IfSome}
use Rattle.xdp_host.specs.Shared.{MakesShared}
use Rattle.xdp_host.specs.declared.loaded_program.LoadedProgram.{LoadedProgram}
use Rattle.xdp_host.proofs.SharedLemmas.{makes_shared}
use Rattle.xdp_host.proofs.shared_calls.laxonje_counters_make.Goals as goal

pub returns-in-Some-clause-made : goal.returns-in-Some-clause-made
returns-in-Some-clause-made c =
    let m = c.boxed-made in
    let queues = c.args.queues in
    let old = c.args.out.now.slot.held in
    let new = c.set.new.self.slot.held in
    let all = makes_shared c.in-Some.held.now.program queues old new c.set.result m.result m.ensures.made m.ensures.fault c.set.ensures.ok c.set.ensures.err in
    subst (λ (o : Option LoadedProgram). IfSome o (λ h. MakesShared h.program queues old new c.set.result)) c.in-Some.ensures.value all
