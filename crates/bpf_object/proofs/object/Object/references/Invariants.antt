use Rattle.bpf_object.specs.Program.{AreReferences}
use Rattle.bpf_object.proofs.object.Object.references.Given as goal

abbrev pub invariant-loop-row : goal.invariant-loop-row
invariant-loop-row l = AreReferences l.self l.function l.rows l.row l.references.maps.items l.references.constants.items
