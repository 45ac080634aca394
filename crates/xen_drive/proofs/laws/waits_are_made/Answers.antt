use Rattle.xen_host.specs.Queues.{packet_of, wired_to}
use Rattle.xen_host.specs.Driving.{wait}
use Rattle.xen_drive.proofs.BoundLemmas.{wait_begins, wait_ends}
use Rattle.xen_drive.proofs.StepLemmas.{carried_by}
use Rattle.xen_drive.proofs.laws.waits_are_made.Goals as goal

pub returns : goal.returns
returns g c old pages bus bus' before h h' n b d o p =
    let log = g.B.Bus.log in
    let gives = g.B.Bus.access_gives in
    wait_ends log gives old pages bus bus' before n h' (carried_by log gives (wait pages (packet_of old)) old.engine.state (wired_to old) bus before n h h' (wait_begins log gives old pages bus before h b) d) o p
