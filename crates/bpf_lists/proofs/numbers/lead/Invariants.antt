use Rattle.std.proofs.Common.{◌≡◌, take}
use Rattle.bpf_lists.specs.Keys.{value}
use Rattle.bpf_lists.proofs.numbers.lead.Given as goal

abbrev pub invariant-loop-at : goal.invariant-loop-at
invariant-loop-at l = l.number ≡ value (take l.at l.bytes)
