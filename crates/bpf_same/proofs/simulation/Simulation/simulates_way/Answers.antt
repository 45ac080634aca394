use Rattle.std.proofs.Common.{inl, inr, true, subst}
use Rattle.bpf_note.specs.Parts.{facts}
use Rattle.bpf_insn.specs.declared.insn.Insn.{Insn}
use Rattle.bpf_same.specs.Candidates.{candidate_of}
use Rattle.bpf_same.specs.Simulated.{EstablishesAt}
use Rattle.bpf_same.proofs.simulation.Simulation.simulates_way.Goals as goal

pub returns-then-is_ruled_out : goal.returns-then-is_ruled_out
returns-then-is_ruled_out c = λ t. inl (c.is_ruled_out.ensures c.if-is_ruled_out.true)

pub returns-else-is_ruled_out : goal.returns-else-is_ruled_out
returns-else-is_ruled_out c = λ t. inr (subst (λ (i : Insn). EstablishesAt (candidate_of c.args.self.now) i true c.args.before.now.relation.now (facts c.args.there.now.note.value) c.args.from c.args.there.now.pc) c.on_way.ensures (c.establishes_at.ensures t))
