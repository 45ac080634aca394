use Rattle.std.proofs.Common.{rules}
use Rattle.xdp_commands.proofs.comparing.compare.Goals as goal

pub returns-in-Ok : goal.returns-in-Ok
returns-in-Ok c = (c.in-Ok.program, search rules, search rules)
