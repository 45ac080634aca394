use Rattle.std.proofs.Common.{rules}
use Rattle.xdp_commands.proofs.InputLemmas.{takes_more}
use Rattle.xdp_commands.proofs.input.read_up_to.Goals as goal

pub returns-in_err-n-clause-bound : goal.returns-in_err-n-clause-bound
returns-in_err-n-clause-bound g c = takes_more _ _ _ _ _ _ c.loop-buffer.invariant.took c.read_more.ensures.few (search rules)
