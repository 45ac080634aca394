use Rattle.std.proofs.Common.{◌≡◌, ◌-◌, List}
use Rattle.xen_steps.specs.Drive.{Bounded, Driven, IsPageWant}
use Rattle.xen_steps.specs.Event.{Event}
use Rattle.xen_front.specs.Fronts.{rest, wiring_of}
use Rattle.xen_front.proofs.in_one_go.drive.drive_events.Given as goal

abbrev pub invariant-loop-event : goal.invariant-loop-event
invariant-loop-event g l =
    record {
      bounded : Bounded (IsPageWant (g.B.Bus.size l.fn.bus)) (λ x. Unit {0}) (rest l.front) (17000 - l._event);
      size : g.B.Bus.size l.bus ≡ g.B.Bus.size l.fn.bus;
      same : wiring_of l.front ≡ wiring_of l.fn.front;
      driven : (t : List Event) × Driven g.B.Bus.log g.B.Bus.access_gives (rest l.fn.front) (rest l.front) l.fn.bus l.bus t;
    }
