use Rattle.xen_host.specs.Queues.{wired_to}
use Rattle.xen_host.specs.Driving.{delivery}
use Rattle.xen_drive.proofs.BoundLemmas.{delivery_begins, delivery_ends}
use Rattle.xen_drive.proofs.StepLemmas.{carried_by}
use Rattle.xen_drive.proofs.laws.deliveries_are_made.Goals as goal

pub returns : goal.returns
returns g c old o packet bus bus' before h h' n b d e p =
    let log = g.B.Bus.log in
    let gives = g.B.Bus.access_gives in
    delivery_ends log gives old o packet bus bus' before n h' (carried_by log gives (delivery o packet) old.engine.state (wired_to old) bus before n h h' (delivery_begins log gives old o packet bus before h b) d) e p
