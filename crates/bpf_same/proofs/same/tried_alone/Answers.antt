use Rattle.std.proofs.Common.{◌≡◌, List, refl, subst}
use Rattle.bpf_insn.specs.declared.insn.Insn.{Insn}
use Rattle.bpf_note.specs.Shape.{Shape}
use Rattle.bpf_same.specs.Simulated.{Candidate, IsSimulation}
use Rattle.bpf_same.proofs.SimulationLemmas.{alone_runs}
use Rattle.bpf_same.proofs.same.tried_alone.Goals as goal

of_these : (b : Candidate) (new new' : List Insn) (shapes shapes' : List Shape) → new ≡ new' → shapes ≡ shapes' → IsSimulation b new shapes → IsSimulation b new' shapes'
of_these b new new' shapes shapes' n s h = subst (λ (x : List Shape). IsSimulation b new' x) s (subst (λ (x : List Insn). IsSimulation b x shapes) n h)

pub returns-then-branch-clause-shown : goal.returns-then-branch-clause-shown
returns-then-branch-clause-shown c = λ is.
    let new = c.args.new.now in
    alone_runs _ new c.the_entry_describes_every_start.ensures (c.accepted_programs_end.ensures.end new c.insns-insns.ensures.consistent) refl (of_these _ _ _ _ _ c.insns-insns.ensures.same c.shapes-shapes.ensures.same (c.in_ok-is_simulation.ensures c.if-branch.true))
