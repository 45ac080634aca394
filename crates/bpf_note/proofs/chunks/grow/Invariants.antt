use Rattle.std.proofs.Common.{◌-◌, ◌≤◌, max, length}
use Rattle.bpf_note.specs.Chunks.{SameChunks}
use Rattle.bpf_note.proofs.chunks.grow.Given as goal

abbrev pub invariant-loop-chunks : goal.invariant-loop-chunks
invariant-loop-chunks l = SameChunks l.fn.chunks.items l.chunks.items × (length l.chunks.items ≤ max (length l.fn.chunks.items) l.size)

abbrev pub decreases-loop-chunks : goal.decreases-loop-chunks
decreases-loop-chunks l = l.size - length l.chunks.items
