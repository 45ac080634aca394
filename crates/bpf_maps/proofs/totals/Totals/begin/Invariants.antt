use Rattle.std.proofs.Common.{◌≡◌, ℕ, ◌<◌, ◌^◌, All, map, take}
use Rattle.bpf_maps.specs.Numbers.{laid}
use Rattle.bpf_maps.proofs.totals.Totals.begin.Given as goal

abbrev pub invariant-loop-m : goal.invariant-loop-m
invariant-loop-m l = (l.values.items ≡ laid 0 (take l.m l.shapes) (map (λ v. v.items) l.lists)) × All (λ (n : ℕ). n < 2 ^ 64) l.values.items
