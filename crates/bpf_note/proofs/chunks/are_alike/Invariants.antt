use Rattle.std.proofs.Common.{◌≡◌, ◌<◌, ℕ, [], get_or}
use Rattle.bpf_note.specs.Fingerprint.{fingerprint_of}
use Rattle.bpf_note.proofs.chunks.are_alike.Given as goal

abbrev pub invariant-loop-k : goal.invariant-loop-k
invariant-loop-k l = (j : ℕ) → j < l.k → fingerprint_of (get_or l.a j []) ≡ fingerprint_of (get_or l.b j [])
