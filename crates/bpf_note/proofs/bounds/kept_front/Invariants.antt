use Rattle.std.proofs.Common.{◌≤◌, ◌+◌, ◌-◌, length}
use Rattle.bpf_note.proofs.KeptLemmas.{IsMergedTo}
use Rattle.bpf_note.proofs.bounds.kept_front.Given as goal

abbrev pub invariant-loop-i : goal.invariant-loop-i
invariant-loop-i l = IsMergedTo l.a l.b l.i l.j × (l.i ≤ length l.a) × (l.j ≤ length l.b)

abbrev pub decreases-loop-i : goal.decreases-loop-i
decreases-loop-i l = (length l.a - l.i) + (length l.b - l.j)
