use Rattle.bpf_note.specs.Parts.{facts}
use Rattle.bpf_same.specs.Caught.{ComesTo}
use Rattle.bpf_same.proofs.caught.caught_up.Given as goal

abbrev pub invariant-loop-step : goal.invariant-loop-step
invariant-loop-step l = ComesTo l.old (facts l.note) l.from l.here
