use Rattle.std.proofs.Common.{◌≡◌, length, vec_len}
use Rattle.bpf_verify.specs.Edges.{Edge}
use Rattle.bpf_verify.specs.Marks.{open_work, IsExplored}
use Rattle.bpf_verify.proofs.graph.reach.reached.Given as goal

abbrev pub invariant-loop-pc : goal.invariant-loop-pc
invariant-loop-pc l = record { len : vec_len l.marks ≡ length l.code; explored : IsExplored (Edge l.code) l.from l.marks.items l.pile.items }

abbrev pub decreases-loop-pc : goal.decreases-loop-pc
decreases-loop-pc l = open_work l.marks.items l.pile.items
