-- For proofs: no claim rests on this file.
-- A candidate for a simulation, as the definitions have it.
use Rattle.bpf_same.specs.declared.simulation.Simulation.{Simulation}
use Rattle.bpf_same.specs.Simulated.{Candidate}

abbrev pub candidate_of : Simulation → Candidate
candidate_of c = record { old = c.old.now; witnesses = c.witnesses.now; notes = c.notes.now; relations = c.relations.now; low = c.low; alone = c.alone }
