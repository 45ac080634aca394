use Rattle.std.proofs.Common.{◌+◌, refl, subst, arith}
use Rattle.bpf_verify.specs.Consistent.{Accepted, IsConsistent, instructions}
use Rattle.xen_steps.specs.Drive.{Any}
use Rattle.xen_steps.proofs.FinishLemmas.{finishes}
use Rattle.xen_turns.specs.Tree.{whole_turn}
use Rattle.xen_turns.specs.Within.{may_want}
use Rattle.xen_turns.proofs.Bounds.{bounded_turn}
use Rattle.xen_turns.proofs.EndLemmas.{ends_turn, run_whole}
use Rattle.xen_host.specs.Wired.{wiring_of}
use Rattle.xen_host.proofs.wires.OwnedWiring.turns_end.Goals as goal

pub returns : goal.returns
returns c s =
    let d = c.args.self.now in
    let w = wiring_of d in
    let consistent : IsConsistent d.program = subst (λ (p : Accepted). IsConsistent p) c.verified.ensures c.instructions.ensures.consistent in
    finishes (may_want w) Any Any (whole_turn w s) (287383 + instructions d.program.code)
    (bounded_turn w d.program.shapes c.requires consistent.maps refl s) (ends_turn w (run_whole w consistent (omega arith) (omega arith)) s)
