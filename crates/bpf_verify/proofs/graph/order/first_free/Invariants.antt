use Rattle.std.proofs.Common.{◌≤◌, ◌<◌, ℕ}
use Rattle.bpf_verify.specs.Waits.{IsFree}
use Rattle.bpf_verify.proofs.graph.order.first_free.Given as goal

abbrev pub invariant-loop-pc : goal.invariant-loop-pc
invariant-loop-pc l = (q : ℕ) → l.from ≤ q → q < l.pc → IsFree l.live l.waits q → ⊥
