use Rattle.std.proofs.Common.{◌≡◌}
use Rattle.bpf_note.specs.Parts.{facts}
use Rattle.bpf_flow.proofs.StackLemmas.{with_lost}
use Rattle.bpf_flow.proofs.call.call.Given as goal

abbrev pub invariant-loop-lost : goal.invariant-loop-lost
invariant-loop-lost l = facts l.note ≡ with_lost (facts l.fn.note) l.m l.id l.lost
