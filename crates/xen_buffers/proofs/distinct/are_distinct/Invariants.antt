use Rattle.std.proofs.Common.{◌≡◌, ℕ, ◌<◌, length, get_or}
use Rattle.xen_buffers.proofs.distinct.are_distinct.Given as goal

abbrev pub invariant-loop-i : goal.invariant-loop-i
invariant-loop-i l = (a b d : ℕ) → a < l.i → a < b → b < length l.numbers → get_or l.numbers a d ≡ get_or l.numbers b d → ⊥
