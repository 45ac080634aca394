use Rattle.std.proofs.Common.{refl}
use Rattle.xen_host.proofs.over_bus.OverBusHost.word.Goals as goal

pub returns-clause-given : goal.returns-clause-given
returns-clause-given g c = record { read = c.word_at.ensures; over = refl; loan = refl }
