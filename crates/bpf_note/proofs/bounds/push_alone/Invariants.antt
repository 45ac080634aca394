use Rattle.std.proofs.Common.{◌≡◌, ◌++◌, drop}
use Rattle.bpf_note.specs.Bounds.{all_alone}
use Rattle.bpf_note.proofs.bounds.push_alone.Given as goal

abbrev pub invariant-loop-other : goal.invariant-loop-other
invariant-loop-other l = l.bounds.items ++ all_alone (drop l.other-index l.others) ≡ l.fn.bounds.items ++ all_alone l.others
