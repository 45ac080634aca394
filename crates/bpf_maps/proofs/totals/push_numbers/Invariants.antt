use Rattle.std.proofs.Common.{◌≡◌, ℕ, ◌<◌, ◌^◌, ◌++◌, All}
use Rattle.bpf_maps.specs.Numbers.{filled}
use Rattle.bpf_maps.proofs.totals.push_numbers.Given as goal

abbrev pub invariant-loop-place : goal.invariant-loop-place
invariant-loop-place l = (l.values.items ≡ l.initial.values.items ++ filled l.place l.numbers) × All (λ (n : ℕ). n < 2 ^ 64) (filled l.place l.numbers)
