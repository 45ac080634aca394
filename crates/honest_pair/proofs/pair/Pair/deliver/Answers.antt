use Rattle.std.proofs.Common.{refl, subst}
use Rattle.xdp_world.specs.Stands.{IsDeliver}
use Rattle.xdp_world.specs.declared.delivering.Begun.TheVariants as begun
use Rattle.honest_pair.proofs.DeliveryLemmas.{deliver_does}
use Rattle.honest_pair.proofs.pair.Pair.deliver.Goals as goal

pub returns-in-Underway : goal.returns-in-Underway
returns-in-Underway c =
    deliver_does c.args.self.now _ c.args.packet.now c.requires refl refl refl refl c.deliver.ensures.shapes begun.Underway
    (subst (IsDeliver c.args.self.now.world c.deliver.new.self 0 c.args.packet.now) c.in-Underway.is c.in_ok-deliver.ensures.ok) (λ e. refl) (λ n. absurd (n refl))

pub returns-in-Over : goal.returns-in-Over
returns-in-Over c =
    deliver_does c.args.self.now _ c.args.packet.now c.requires refl refl refl refl c.deliver.ensures.shapes (begun.Over c.in-Over.field-0)
    (subst (IsDeliver c.args.self.now.world c.deliver.new.self 0 c.args.packet.now) c.in-Over.is c.in_ok-deliver.ensures.ok) (λ e. absurd (cc)) (λ n. refl)

pub returns-in-Busy : goal.returns-in-Busy
returns-in-Busy c =
    deliver_does c.args.self.now _ c.args.packet.now c.requires refl refl refl refl c.deliver.ensures.shapes begun.Busy
    (subst (IsDeliver c.args.self.now.world c.deliver.new.self 0 c.args.packet.now) c.in-Busy.is c.in_ok-deliver.ensures.ok) (λ e. absurd (cc)) (λ n. refl)
