use Rattle.std.proofs.Common.{◌<◌, ◌⊎◌, ℕ}
use Rattle.bpf_same.specs.Fused.{IsCount, IsOutside, IsShared}
use Rattle.bpf_same.specs.Plans.{plan_of}
use Rattle.bpf_same.proofs.fused.Draft.holds.Given as goal

abbrev pub invariant-loop-at : goal.invariant-loop-at
invariant-loop-at l = (q : ℕ) → q < l.at → IsOutside (plan_of l.self) q → IsShared (plan_of l.self) q ⊎ IsCount (plan_of l.self) q
