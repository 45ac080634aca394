use Rattle.std.proofs.Common.{◌≡◌, ◌+◌, ◌<◌, List, [], ◌∷◌, ◌++◌, take, vec_len, subst, sym, ◌∙◌, ap, refl, arith}
use Rattle.std.proofs.lemmas.List.{take_more, take_all}
use Rattle.xdp_world.specs.Asked.{GoesBy, queue_of}
use Rattle.xdp_world.specs.declared.happening.WorldEvent.{WorldEvent}
use Rattle.xdp_world.proofs.Events.{by_none, by_then}
use Rattle.xdp_world.proofs.world.World.happen_all.Goals as goal

pub loop-event-init : goal.loop-event-init
loop-event-init c = record { size = refl; shapes = refl; goes = by_none c.args.self.now }

pub happen-requires : goal.happen-requires
happen-requires c =
    let e = c.event-item.result in
    let below : queue_of e < vec_len c.args.self.now.queues =
    subst (λ (x : WorldEvent). queue_of x < vec_len c.args.self.now.queues) (sym c.event-item.is) (c.requires c.loop-event.event-index e c.loop-event-test.true) in
    omega (arith, below, c.loop-event.invariant.size)

pub loop-event-preserved : goal.loop-event-preserved
loop-event-preserved c =
    let events = c.args.events.now in
    let i = c.loop-event.event-index in
    let e = c.event-item.result in
    let more : take i events ++ e ∷ [] ≡ take (i + 1) events = ap (λ (x : WorldEvent). take i events ++ x ∷ []) c.event-item.is ∙ sym (take_more events i e c.loop-event-test.true) in
    record {
      size = c.happen.ensures.size ∙ c.loop-event.invariant.size;
      shapes = c.happen.ensures.shapes ∙ c.loop-event.invariant.shapes;
      goes = subst (λ (l : List WorldEvent). GoesBy c.args.self.now c.happen.new.self l) more
          (by_then c.args.self.now c.loop-event.self c.happen.new.self (take i events) (e ∷ []) c.loop-event.invariant.goes c.in_ok-happen.ensures.goes);
    }

pub returns-clause-goes : goal.returns-clause-goes
returns-clause-goes c =
    let events = c.args.events.now in
    let e = take_all c.loop-event.event-index events c.loop-event-test.false in
    subst (λ (l : List WorldEvent). GoesBy c.args.self.now c.loop-event.self l) e c.loop-event.invariant.goes
