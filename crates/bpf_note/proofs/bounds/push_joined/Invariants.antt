use Rattle.std.proofs.Common.{◌≡◌, ◌≤◌, ◌+◌, ◌-◌, ◌++◌, drop, length}
use Rattle.bpf_note.proofs.MergeLemmas.{merged}
use Rattle.bpf_note.proofs.bounds.push_joined.Given as goal

abbrev pub invariant-loop-i : goal.invariant-loop-i
invariant-loop-i l = (l.joined.items ++ merged (drop l.i l.a) (drop l.j l.b) ≡ l.fn.joined.items ++ merged l.a l.b) × (l.i ≤ length l.a) × (l.j ≤ length l.b)

abbrev pub decreases-loop-i : goal.decreases-loop-i
decreases-loop-i l = (length l.a - l.i) + (length l.b - l.j)
