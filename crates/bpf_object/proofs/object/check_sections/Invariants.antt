use Rattle.std.proofs.Common.{ℕ, ◌<◌}
use Rattle.bpf_object.specs.Section.{section, IsInside}
use Rattle.bpf_object.proofs.object.check_sections.Given as goal

abbrev pub invariant-loop-number : goal.invariant-loop-number
invariant-loop-number l = (j : ℕ) → j < l.number → IsInside l.bytes (section l.bytes j)
