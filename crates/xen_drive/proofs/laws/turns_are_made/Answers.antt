use Rattle.xen_host.specs.Queues.{wired_to}
use Rattle.xen_host.specs.Driving.{turn}
use Rattle.xen_drive.proofs.BoundLemmas.{turn_begins, turn_ends}
use Rattle.xen_drive.proofs.StepLemmas.{carried_by}
use Rattle.xen_drive.proofs.laws.turns_are_made.Goals as goal

pub returns : goal.returns
returns g c old bus bus' before h h' n b d o p =
    let log = g.B.Bus.log in
    let gives = g.B.Bus.access_gives in
    turn_ends log gives old bus bus' before n h' (carried_by log gives turn old.engine.state (wired_to old) bus before n h h' (turn_begins log gives old bus before h b) d) o p
