use Rattle.std.proofs.Common.{◌<◌, ℕ, List, [], ◌∷◌, length, sym, subst, arith}
use Rattle.xdp_world.specs.Asked.{GoesBy, queue_of}
use Rattle.xdp_world.specs.Stands.{IsDeliver}
use Rattle.xdp_world.specs.declared.happening.WorldEvent.{WorldEvent}
use Rattle.xdp_world.proofs.Events.{by_await, by_deliver, by_step}
use Rattle.xdp_world.proofs.world.World.happen.Goals as goal

pub returns-in_ok-step-in-Step-clause-goes : goal.returns-in_ok-step-in-Step-clause-goes
returns-in_ok-step-in-Step-clause-goes c =
    subst (λ (e : WorldEvent). GoesBy c.args.self.now c.step.new.self (e ∷ [])) (sym c.in-Step.is)
    (by_step c.args.self.now c.step.new.self c.in-Step.queue c.in-Step.answer c.in_ok-step-in-Step.ensures.ok)

pub returns-in_ok-deliver-in-Deliver-clause-goes : goal.returns-in_ok-deliver-in-Deliver-clause-goes
returns-in_ok-deliver-in-Deliver-clause-goes c =
    let w = c.args.self.now in
    let q = c.in-Deliver.queue in
    let below : q < w.queues.len = subst (λ (e : WorldEvent). queue_of e < w.queues.len) c.in-Deliver.is c.requires in
    let l : q < length w.queues.items = omega (arith, below, w.queues.ok.0) in
    subst (λ (e : WorldEvent). GoesBy w c.deliver.new.self (e ∷ [])) (sym c.in-Deliver.is)
    (by_deliver w c.deliver.new.self q c.in-Deliver.packet c.in_ok-deliver-in-Deliver.field-0 l
    (subst (λ (p : List ℕ). IsDeliver w c.deliver.new.self q p c.in_ok-deliver-in-Deliver.field-0) c.as_slice.ensures.value c.in_ok-deliver-in-Deliver.ensures.ok))

pub returns-in_ok-await_slots-in-Await-clause-goes : goal.returns-in_ok-await_slots-in-Await-clause-goes
returns-in_ok-await_slots-in-Await-clause-goes c =
    let w = c.args.self.now in
    let q = c.in-Await.queue in
    let below : q < w.queues.len = subst (λ (e : WorldEvent). queue_of e < w.queues.len) c.in-Await.is c.requires in
    let l : q < length w.queues.items = omega (arith, below, w.queues.ok.0) in
    subst (λ (e : WorldEvent). GoesBy w c.await_slots.new.self (e ∷ [])) (sym c.in-Await.is)
    (by_await w c.await_slots.new.self q c.in-Await.pages c.in_ok-await_slots-in-Await.field-0 l c.in_ok-await_slots-in-Await.ensures.ok)
