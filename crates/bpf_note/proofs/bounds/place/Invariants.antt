use Rattle.std.proofs.Common.{◌≤◌, ◌-◌, length}
use Rattle.bpf_note.specs.Bounds.{place_of}
use Rattle.bpf_note.proofs.bounds.place.Given as goal

abbrev pub invariant-loop-low : goal.invariant-loop-low
invariant-loop-low l = (l.low ≤ place_of l.bounds l.id) × (place_of l.bounds l.id ≤ l.high) × (l.high ≤ length l.bounds)

abbrev pub decreases-loop-low : goal.decreases-loop-low
decreases-loop-low l = l.high - l.low
