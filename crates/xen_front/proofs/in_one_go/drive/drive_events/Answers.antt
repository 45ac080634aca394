use Rattle.std.proofs.Common.{◌≡◌, ◌+◌, ◌-◌, [], ◌∷◌, ◌++◌, refl, ◌∙◌, arith, subst}
use Rattle.xen_steps.specs.Drive.{Any, Bounded, IsPageWant}
use Rattle.xen_steps.proofs.DriveLemmas.{bounded_done, bounded_next, driven_more, driven_none}
use Rattle.xen_front.specs.Fronts.{rest}
use Rattle.xen_front.proofs.in_one_go.drive.drive_events.Goals as goal

pub loop-event-init : goal.loop-event-init
loop-event-init g c =
    let f = c.args.front.now in
    record {
      bounded = c.requires;
      size = refl;
      same = refl;
      driven = ([], driven_none g.B.Bus.log g.B.Bus.access_gives (rest f) c.args.bus.now);
    }

pub loop-event-preserved : goal.loop-event-preserved
loop-event-preserved g c =
    let f = c.args.front.now in
    let d = c.drive_event.ensures in
    let e = d.event.0 in
    let goes = d.event.1 in
    let i = c.loop-event.invariant in
    let t = i.driven.0 in
    let within = IsPageWant (g.B.Bus.size c.args.bus.now) in
    let count : 17000 - c.loop-event._event - 1 ≡ 17000 - (c.loop-event._event + 1) = omega arith in
    record {
      bounded = subst (λ m. Bounded within Any (rest c.drive_event.new.front) m) count
          (bounded_next within Any (rest c.loop-event.front) (rest c.drive_event.new.front) e (17000 - c.loop-event._event) i.bounded goes);
      size = d.size ∙ i.size;
      same = d.same ∙ i.same;
      driven = (
        t ++ e ∷ [],
        driven_more g.B.Bus.log g.B.Bus.access_gives (rest f) (rest c.loop-event.front) (rest c.drive_event.new.front)
            c.args.bus.now c.loop-event.bus c.drive_event.new.bus t e i.driven.1 goes d.event.2,
      );
    }

pub returns-clause-over : goal.returns-clause-over
returns-clause-over g c =
    let none : 17000 - c.loop-event._event ≡ 0 = omega (arith, c.loop-event-test.false) in
    let within = IsPageWant (g.B.Bus.size c.args.bus.now) in
    bounded_done within Any (rest c.loop-event.front) (subst (λ m. Bounded within Any (rest c.loop-event.front) m) none c.loop-event.invariant.bounded)
