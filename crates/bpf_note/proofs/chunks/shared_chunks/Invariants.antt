use Rattle.std.proofs.Common.{◌≡◌, take}
use Rattle.bpf_note.proofs.chunks.shared_chunks.Given as goal

abbrev pub invariant-loop-chunk : goal.invariant-loop-chunk
invariant-loop-chunk l = l.copy.items ≡ take l.chunk-index l.chunks
