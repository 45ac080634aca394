use Rattle.std.proofs.Common.{◌≡◌, ◌<◌, ℕ, Some}
use Rattle.std.specs.Prelude.{slice_get}
use Rattle.std.specs.Global.{Box}
use Rattle.bpf_note.specs.Parts.{Noted, facts}
use Rattle.bpf_same.specs.Candidates.{candidate_of}
use Rattle.bpf_same.specs.Simulated.{Simulates}
use Rattle.bpf_same.proofs.simulation.Simulation.simulates_each.Given as goal

abbrev pub invariant-loop-k : goal.invariant-loop-k
invariant-loop-k l = (j : ℕ) → j < l.k → (n : Box Noted) → slice_get l.notes j ≡ Some n → Simulates (candidate_of l.self) l.shapes l.witness.at l.insn l.relation (facts n.value) l.pc
