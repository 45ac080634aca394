use Rattle.std.proofs.Common.{refl}
use Rattle.xen_page.proofs.AccessLemmas.{performs_none}
use Rattle.xen_host.proofs.over_bus.OverBusHost.read_entry.Goals as goal

pub returns : goal.returns
returns g c = record { performed = λ h. performs_none g.B.Bus.log g.B.Bus.access_gives c.args.self.now.bus.now; sized = refl; held = tt; over = refl; loan = refl }
