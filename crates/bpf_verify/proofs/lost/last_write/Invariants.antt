use Rattle.std.proofs.Common.{◌≡◌, ◌<◌, ◌≤◌, ℕ, false}
use Rattle.std.specs.Prelude.{slice_get}
use Rattle.bpf_insn.specs.Register.{number}
use Rattle.bpf_verify.specs.Lost.{writes_by}
use Rattle.bpf_verify.proofs.lost.last_write.Given as goal

abbrev pub invariant-loop-at : goal.invariant-loop-at
invariant-loop-at l = (q : ℕ) → l.at ≤ q → q < l.pc → writes_by (slice_get l.code q) (number l.register) ≡ false
