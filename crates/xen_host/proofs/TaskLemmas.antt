-- What an engine is about: it goes on, and it is busy until it is over.
use Rattle.std.proofs.Common.{◌≡◌, ℕ, true, false, List, Option, Some, refl, ◌∙◌}
use Rattle.std.specs.Prelude.{IsSome}
use Rattle.xen_netif.specs.declared.offload.RxOffload.{RxOffload}
use Rattle.xen_steps.specs.Event.{Event}
use Rattle.xen_turns.specs.declared.state.State.{State}
use Rattle.xen_host.specs.Asks.{Ask, Read, Entry, Write, Store, StoreTwo, Push, Notify, TurnOver, DeliveryOver, WaitOver}
use Rattle.xen_host.specs.Rest.{is_delivering, is_stepping, is_turning, is_waiting}
use Rattle.xen_host.specs.declared.stage.Stage.{Stage}
use Rattle.xen_host.specs.declared.stage.Stage.TheVariants as stage
use Rattle.xen_host.specs.EngineAt.{EngineAt}
use Rattle.xen_host.specs.UnderWay.{DeliveryGoesAt, IsDeliveringAt, IsTurningAt, IsWaitingAt, TurnGoesAt, WaitGoesAt, between, resting_at}
use Rattle.xen_host.specs.Driving.{GoesOn, Task, delivery, turn, wait}
use Rattle.xen_host.specs.Going.{KeepsAll}
use Rattle.xen_host.specs.Asks.{is_over}

-- ---- what isn't over goes on

pub turns_on : (q : EngineAt) (a : Ask) (s : State) (t : List Event) → is_over a ≡ false → TurnGoesAt q a s t → IsTurningAt q s t a
turns_on q (Read at count) s t n h = h
turns_on q (Entry at reference rights) s t n h = h
turns_on q (Write at count) s t n h = h
turns_on q (Store at word) s t n h = h
turns_on q (StoreTwo at first second) s t n h = h
turns_on q (Push at word read) s t n h = h
turns_on q (Notify port) s t n h = h
turns_on q (TurnOver x) s t n h = absurd (cc n)
turns_on q (DeliveryOver x) s t n h = h
turns_on q (WaitOver x) s t n h = h

pub delivers_on : (q : EngineAt) (a : Ask) (s : State) (o : RxOffload) (packet : List ℕ) (t : List Event) → is_over a ≡ false → DeliveryGoesAt q a s o packet t → IsDeliveringAt q s o packet t (Some a)
delivers_on q (Read at count) s o packet t n h = h
delivers_on q (Entry at reference rights) s o packet t n h = h
delivers_on q (Write at count) s o packet t n h = h
delivers_on q (Store at word) s o packet t n h = h
delivers_on q (StoreTwo at first second) s o packet t n h = h
delivers_on q (Push at word read) s o packet t n h = h
delivers_on q (Notify port) s o packet t n h = h
delivers_on q (TurnOver x) s o packet t n h = h
delivers_on q (DeliveryOver x) s o packet t n h = absurd (cc n)
delivers_on q (WaitOver x) s o packet t n h = h

pub waits_on : (q : EngineAt) (a : Ask) (s : State) (pages : ℕ) (packet : List ℕ) (t : List Event) → is_over a ≡ false → WaitGoesAt q a s pages packet t → IsWaitingAt q s pages packet t (Some a)
waits_on q (Read at count) s pages packet t n h = h
waits_on q (Entry at reference rights) s pages packet t n h = h
waits_on q (Write at count) s pages packet t n h = h
waits_on q (Store at word) s pages packet t n h = h
waits_on q (StoreTwo at first second) s pages packet t n h = h
waits_on q (Push at word read) s pages packet t n h = h
waits_on q (Notify port) s pages packet t n h = h
waits_on q (TurnOver x) s pages packet t n h = h
waits_on q (DeliveryOver x) s pages packet t n h = h
waits_on q (WaitOver x) s pages packet t n h = absurd (cc n)

-- ---- at which stages

turning_busy : (g : Stage) → is_turning g ≡ true → is_stepping g ≡ true
turning_busy stage.Ready t = cc t
turning_busy stage.Announce t = refl
turning_busy (stage.Slot left) t = refl
turning_busy (stage.Entry i at) t = refl
turning_busy (stage.Page i f frame) t = refl
turning_busy (stage.Fill f p) t = refl
turning_busy (stage.Respond i) t = refl
turning_busy stage.Push t = refl
turning_busy stage.Notice t = refl
turning_busy (stage.Deliver producer) t = refl
turning_busy (stage.Wait pages) t = refl
turning_busy (stage.WaitLook pages) t = refl
turning_busy stage.Several t = cc t

delivering_busy : (g : Stage) → is_delivering g ≡ true → is_stepping g ≡ true
delivering_busy stage.Ready t = cc t
delivering_busy stage.Announce t = refl
delivering_busy (stage.Slot left) t = refl
delivering_busy (stage.Entry i at) t = refl
delivering_busy (stage.Page i f frame) t = refl
delivering_busy (stage.Fill f p) t = refl
delivering_busy (stage.Respond i) t = refl
delivering_busy stage.Push t = refl
delivering_busy stage.Notice t = refl
delivering_busy (stage.Deliver producer) t = refl
delivering_busy (stage.Wait pages) t = refl
delivering_busy (stage.WaitLook pages) t = refl
delivering_busy stage.Several t = cc t

waiting_busy : (g : Stage) → is_waiting g ≡ true → is_stepping g ≡ true
waiting_busy stage.Ready t = cc t
waiting_busy stage.Announce t = refl
waiting_busy (stage.Slot left) t = refl
waiting_busy (stage.Entry i at) t = refl
waiting_busy (stage.Page i f frame) t = refl
waiting_busy (stage.Fill f p) t = refl
waiting_busy (stage.Respond i) t = refl
waiting_busy stage.Push t = refl
waiting_busy stage.Notice t = refl
waiting_busy (stage.Deliver producer) t = refl
waiting_busy (stage.Wait pages) t = refl
waiting_busy (stage.WaitLook pages) t = refl
waiting_busy stage.Several t = cc t

pub begun_delivery_busy : (q : EngineAt) (s : State) (o : RxOffload) (packet : List ℕ) (t : List Event) (a : Option Ask) → IsDeliveringAt q s o packet t a → is_stepping q.stage ≡ true
begun_delivery_busy q s o packet t a h = delivering_busy q.stage h.0.is_here

pub begun_wait_busy : (q : EngineAt) (s : State) (pages : ℕ) (packet : List ℕ) (t : List Event) (a : Option Ask) → IsWaitingAt q s pages packet t a → is_stepping q.stage ≡ true
begun_wait_busy q s pages packet t a h = waiting_busy q.stage h.0.is_here

pub is_busy : (k : Task) (q : EngineAt) (a : Ask) (s : State) (t : List Event) → is_over a ≡ false → GoesOn k q a s t → is_stepping q.stage ≡ true
is_busy turn q a s t n h = turning_busy q.stage (turns_on q a s t n h).is_here
is_busy (delivery o packet) q a s t n h = begun_delivery_busy q s o packet t (Some a) (delivers_on q a s o packet t n h)
is_busy (wait pages packet) q a s t n h = begun_wait_busy q s pages packet t (Some a) (waits_on q a s pages packet t n h)

pub at_rest : (q : EngineAt) → IsSome (resting_at q) → resting_at q ≡ Some q.state
at_rest q h = rests q.state q.stage h
  where
    rests : (s : State) (g : Stage) → IsSome (between s g) → between s g ≡ Some s
    rests s stage.Ready h = refl
    rests s stage.Announce h = absurd (cc h)
    rests s (stage.Slot left) h = absurd (cc h)
    rests s (stage.Entry i at) h = absurd (cc h)
    rests s (stage.Page i f frame) h = absurd (cc h)
    rests s (stage.Fill f p) h = absurd (cc h)
    rests s (stage.Respond i) h = absurd (cc h)
    rests s stage.Push h = absurd (cc h)
    rests s stage.Notice h = absurd (cc h)
    rests s (stage.Deliver producer) h = absurd (cc h)
    rests s (stage.Wait pages) h = absurd (cc h)
    rests s (stage.WaitLook pages) h = absurd (cc h)
    rests s stage.Several h = absurd (cc h)

-- ---- a step

pub keeps_then : {C : Type 0} (k : Task) (a b c : C) → KeepsAll k a b → KeepsAll k b c → KeepsAll k a c
keeps_then turn a b c g h = tt
keeps_then (delivery o packet) a b c g h = h ∙ g
keeps_then (wait pages packet) a b c g h = h ∙ g
