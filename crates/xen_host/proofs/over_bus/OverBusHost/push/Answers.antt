use Rattle.xen_host.proofs.over_bus.OverBusHost.push.Goals as goal

pub returns : goal.returns
returns g c = let p = c.put.ensures in record { performed = λ h. p.performed (h.0, h.1); sized = p.sized; held = tt; over = p.over; loan = p.loan }
