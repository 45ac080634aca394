use Rattle.std.proofs.Common.{refl, subst}
use Rattle.xdp_world.specs.Stands.{IsAwait}
use Rattle.xdp_world.specs.declared.awaiting.WaitBegun.TheVariants as wait_begun
use Rattle.honest_pair.proofs.WaitLemmas.{await_does}
use Rattle.honest_pair.proofs.pair.Pair.await_slots.Goals as goal

pub returns-in-Underway : goal.returns-in-Underway
returns-in-Underway c =
    await_does c.args.self.now _ c.args.pages refl refl refl refl c.await_slots.ensures.shapes wait_begun.Underway
    (subst (IsAwait c.args.self.now.world c.await_slots.new.self 0 c.args.pages) c.in-Underway.is c.in_ok-await_slots.ensures.ok) (λ e. refl) (λ n. absurd (n refl))

pub returns-in-Over : goal.returns-in-Over
returns-in-Over c =
    await_does c.args.self.now _ c.args.pages refl refl refl refl c.await_slots.ensures.shapes (wait_begun.Over c.in-Over.field-0)
    (subst (IsAwait c.args.self.now.world c.await_slots.new.self 0 c.args.pages) c.in-Over.is c.in_ok-await_slots.ensures.ok) (λ e. absurd (cc)) (λ n. refl)

pub returns-in-Busy : goal.returns-in-Busy
returns-in-Busy c =
    await_does c.args.self.now _ c.args.pages refl refl refl refl c.await_slots.ensures.shapes wait_begun.Busy
    (subst (IsAwait c.args.self.now.world c.await_slots.new.self 0 c.args.pages) c.in-Busy.is c.in_ok-await_slots.ensures.ok) (λ e. absurd (cc)) (λ n. refl)
