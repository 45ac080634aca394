use Rattle.std.proofs.Common.{◌+◌, ◌*◌}
use Rattle.bpf_lists.specs.Chains.{AreChains}
use Rattle.bpf_lists.proofs.chains.Chains.make.Given as goal

abbrev pub invariant-loop-row : goal.invariant-loop-row
invariant-loop-row l = AreChains l.kind l.keys (2 * l.count + 1) l.row l.chains.heads.items l.chains.links.items
