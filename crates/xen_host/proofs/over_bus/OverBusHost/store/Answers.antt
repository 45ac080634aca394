use Rattle.xen_host.proofs.over_bus.OverBusHost.store.Goals as goal

pub returns-clause-asked : goal.returns-clause-asked
returns-clause-asked g c = let p = c.put.ensures in record { performed = p.performed; sized = p.sized; held = tt; over = p.over; loan = p.loan }
