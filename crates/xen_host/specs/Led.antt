-- For proofs: no claim rests on this file.
-- Where what is asked leads to: what is under way goes on at an engine's stage, or is over.
use Rattle.std.specs.Prelude.{ℕ, ◌≡◌, Bool, true, false, List, []}
use Rattle.xen_netif.specs.Chain.{Slot}
use Rattle.xen_host.specs.Offload.{Offload}
use Rattle.xen_steps.specs.Steps.{Steps, done}
use Rattle.xen_turns.specs.Deliveries.{Arrival}
use Rattle.xen_turns.specs.Turned.{Ending, turned}
use Rattle.xen_turns.specs.Waits.{Wait}
use Rattle.xen_turns.specs.declared.state.State.{State}
use Rattle.xen_turns.specs.declared.turn.Kind.{Kind}
use Rattle.xen_turns.specs.declared.turn.Kind.TheVariants as kind
use Rattle.xen_host.specs.Asks.{Ask, DeliveryOver, TurnOver, WaitOver}
use Rattle.xen_host.specs.Fed.{WaitsFor}
use Rattle.xen_host.specs.Rest.{is_delivering, is_turning, is_waiting, reads_in, rest_in, rest_of_delivery, rest_of_wait}
use Rattle.xen_host.specs.Said.{has_run}
use Rattle.xen_host.specs.Told.{IsToldAt}
use Rattle.xen_host.specs.EngineAt.{EngineAt}
use Rattle.xen_host.specs.declared.stage.Stage.TheVariants as stage
use Rattle.xen_turns.specs.declared.wiring.Wiring.{Wiring}

-- What is left is an engine's rest, which waits for what was asked last, as the op shows.
pub record IsOn {A : Type 0} (rest : Steps A) (reads : ℕ) (here : Bool) (tells : Ask → Type 0) (last : Ask) (left : Steps A) : Type 0 where
  pub is_rest : left ≡ rest
  pub waits : WaitsFor last reads left
  pub is_here : here ≡ true
  pub told : tells last

-- ---- turns

-- The packet that a turn of this kind leaves.
abbrev pub packet_after : Kind → List ℕ → List ℕ
packet_after (kind.Ran ops number slots) packet = packet
packet_after k packet = []

-- A turn is over, and leaves a packet only if the program ran.
pub record IsTurnOver (e : EngineAt) (k : Kind) (left : Steps Ending) : Type 0 where
  pub over : left ≡ done (e.state, turned k e.work.packet)
  pub ready : e.stage ≡ stage.Ready
  pub packet : has_run k ≡ false → e.work.packet ≡ []

abbrev pub TurnEnds : EngineAt → Ask → Steps Ending → Type 0
TurnEnds e (TurnOver k) left = IsTurnOver e k left
TurnEnds e last left =
    IsOn (rest_in e.wires e.state e.stage e.work) (reads_in e.stage) (is_turning e.stage) (IsToldAt e.wires.vif.table.now e.stage) last
    left

-- ---- deliveries and waits, beside which the packet stays

abbrev pub DeliveryEnds : List ℕ → EngineAt → Ask → Steps Arrival → Type 0
DeliveryEnds packet e (DeliveryOver what) left = (left ≡ done (e.state, what)) × (e.stage ≡ stage.Ready) × (e.work.packet ≡ packet)
DeliveryEnds packet e last left =
    IsOn (rest_of_delivery e.wires.vif e.state e.stage e.work) (reads_in e.stage) (is_delivering e.stage)
    (IsToldAt e.wires.vif.table.now e.stage) last left × (e.work.packet ≡ packet)

abbrev pub WaitEnds : List ℕ → EngineAt → Ask → Steps Wait → Type 0
WaitEnds packet e (WaitOver what) left = (left ≡ done (e.state, what)) × (e.stage ≡ stage.Ready) × (e.work.packet ≡ packet)
WaitEnds packet e last left =
    IsOn (rest_of_wait e.wires.vif.rx e.state e.stage) (reads_in e.stage) (is_waiting e.stage) (IsToldAt e.wires.vif.table.now e.stage) last left ×
    (e.work.packet ≡ packet)

-- ---- a transmit

-- What a transmit leaves as it is.
pub record Beside : Type 0 where
  pub wires : Wiring
  pub offload : Offload
  pub state : State
  pub chain : List Slot
  pub packet : List ℕ

abbrev pub beside : EngineAt → Beside
beside e = record { wires = e.wires; offload = e.offload; state = e.state; chain = e.work.chain; packet = e.work.packet }
