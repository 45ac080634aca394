use Rattle.std.proofs.Common.{◌≡◌}
use Rattle.bpf_lists.specs.Chains.{mixed}
use Rattle.bpf_lists.proofs.chains.mixed.Given as goal

abbrev pub invariant-loop-group : goal.invariant-loop-group
invariant-loop-group l = l.number ≡ mixed l.group l.bytes
