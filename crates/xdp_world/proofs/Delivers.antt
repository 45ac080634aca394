-- What a host is told of a delivery or a wait that it had begun.
use Rattle.std.proofs.Common.{◌≡◌, ℕ, List, Option, Some, None, refl, sym, subst}
use Rattle.xen_turns.specs.declared.delivery.wait.Awaited.{Awaited}
use Rattle.xen_turns.specs.declared.delivery.delivering.Delivery.{Delivery}
use Rattle.xdp_world.specs.Stands.{HasBegun, HasBegunWait, IsAwait, IsDeliver}
use Rattle.xdp_world.specs.declared.awaiting.WaitBegun.{WaitBegun}
use Rattle.xdp_world.specs.declared.awaiting.WaitBegun.TheVariants as wait_begun
use Rattle.xdp_world.specs.declared.delivering.Begun.{Begun}
use Rattle.xdp_world.specs.declared.delivering.Begun.TheVariants as begun
use Rattle.xdp_world.specs.declared.world.World.{World}

pub deliver_of : (a b : World) (q : ℕ) (p : List ℕ) (o : Option Delivery) (r : Begun) → (o ≡ None → r ≡ begun.Underway) → ((what : Delivery) → o ≡ Some what → r ≡ begun.Over what) →
    HasBegun a b q p o → IsDeliver a b q p r
deliver_of a b q p None r n s h = subst (λ (x : Begun). IsDeliver a b q p x) (sym (n refl)) h
deliver_of a b q p (Some what) r n s h = subst (λ (x : Begun). IsDeliver a b q p x) (sym (s what refl)) h

pub await_of : (a b : World) (q n : ℕ) (o : Option Awaited) (r : WaitBegun) → (o ≡ None → r ≡ wait_begun.Underway) → ((answer : Awaited) → o ≡ Some answer → r ≡ wait_begun.Over answer) →
    HasBegunWait a b q n o → IsAwait a b q n r
await_of a b q n None r u s h = subst (λ (x : WaitBegun). IsAwait a b q n x) (sym (u refl)) h
await_of a b q n (Some answer) r u s h = subst (λ (x : WaitBegun). IsAwait a b q n x) (sym (s answer refl)) h
