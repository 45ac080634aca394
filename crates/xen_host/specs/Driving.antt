-- For proofs: no claim rests on this file.
-- What a host has an engine do.
use Rattle.std.specs.Prelude.{ℕ, List}
use Rattle.xen_netif.specs.declared.offload.RxOffload.{RxOffload}
use Rattle.xen_steps.specs.Event.{Event}
use Rattle.xen_turns.specs.declared.state.State.{State}
use Rattle.xen_host.specs.Asks.{Ask}
use Rattle.xen_host.specs.EngineAt.{EngineAt}
use Rattle.xen_host.specs.UnderWay.{DeliveryGoesAt, TurnGoesAt, WaitGoesAt}

pub data Task : Type 0 where
  turn : Task
  delivery : (o : RxOffload) → (packet : List ℕ) → Task
  wait : (pages : ℕ) → (packet : List ℕ) → Task

-- It goes on, or it is over.
abbrev pub GoesOn : Task → EngineAt → Ask → State → List Event → Type 0
GoesOn turn q a s t = TurnGoesAt q a s t
GoesOn (delivery o packet) q a s t = DeliveryGoesAt q a s o packet t
GoesOn (wait pages packet) q a s t = WaitGoesAt q a s pages packet t
