use Rattle.std.proofs.Common.{◌≡◌, take, get_or, subst, sym}
use Rattle.std.proofs.lemmas.List.{get_or_read, take_more, take_all}
use Rattle.honest_pair.specs.Events.{event_in, events_in}
use Rattle.honest_pair.specs.Shows.{HasDone}
use Rattle.honest_pair.proofs.RunLemmas.{done_more, done_none, events_in_more}
use Rattle.honest_pair.proofs.pair.Pair.steps.Goals as goal

pub loop-event-init : goal.loop-event-init
loop-event-init c = done_none c.args.self.now

pub loop-event-preserved : goal.loop-event-preserved
loop-event-preserved c =
    let es = c.args.events.now in
    let i = c.loop-event.event-index in
    let e = c.event-item.result in
    let at : get_or es i e ≡ e = sym (get_or_read es i e c.loop-event-test.true c.event-item.is e) in
    let d = done_more c.args.self.now c.loop-event.self c.step.new.self (events_in (take i es)) (event_in e) c.loop-event.invariant c.in_ok-step.ensures in
    rw (take_more es i e c.loop-event-test.true) (rw at (rw (events_in_more (take i es) e) d))

pub returns : goal.returns
returns c =
    let es = c.args.events.now in
    let e : take c.loop-event.event-index es ≡ es = take_all c.loop-event.event-index es c.loop-event-test.false in
    subst (λ l. HasDone c.args.self.now c.loop-event.self (events_in l)) e c.loop-event.invariant
