-- Stated: claims rest on this file.
-- What is under way in an engine, in the asks that its host was asked and the events that they are.
use Rattle.std.specs.Prelude.{ℕ, ◌≡◌, Bool, true, false, List, [], ◌∷◌, Option, None, Some}
use Rattle.xen_netif.specs.declared.offload.RxOffload.{RxOffload}
use Rattle.xen_steps.specs.Drive.{LedBy}
use Rattle.xen_steps.specs.Event.{Event, Read}
use Rattle.xen_steps.specs.Steps.{Steps}
use Rattle.xen_rx_fill.specs.Places.{rx_word}
use Rattle.xen_turns.specs.Awaited.{IsAwaiting}
use Rattle.xen_turns.specs.Delivered.{IsDelivery}
use Rattle.xen_turns.specs.Deliveries.{whole_delivery}
use Rattle.xen_turns.specs.Tree.{whole_turn}
use Rattle.xen_turns.specs.Turned.{turned}
use Rattle.xen_turns.specs.Turns.{IsTurn}
use Rattle.xen_turns.specs.Waits.{whole_wait}
use Rattle.xen_turns.specs.declared.state.State.{State}
use Rattle.xen_turns.specs.declared.turn.Halt.{Halt}
use Rattle.xen_host.specs.Asks.{Ask, DeliveryOver, TurnOver, WaitOver, read_by}
use Rattle.xen_host.specs.EngineAt.{EngineAt}
use Rattle.xen_host.specs.Fed.{WaitsFor}
use Rattle.xen_host.specs.Rest.{is_delivering, is_turning, is_waiting, reads_in, rest_in, rest_of_delivery, rest_of_wait}
use Rattle.xen_host.specs.Said.{has_run}
use Rattle.xen_host.specs.declared.stage.Stage.{Stage}
use Rattle.xen_host.specs.declared.stage.Stage.TheVariants as stage

-- The state, if nothing is under way.
abbrev pub between : State → Stage → Option State
between s stage.Ready = Some s
between s g = None

abbrev pub resting_at : EngineAt → Option State
resting_at e = between e.state e.stage

-- The packet of what is over.
abbrev pub packet_in : Stage → List ℕ → List ℕ
packet_in stage.Ready packet = packet
packet_in g packet = []

abbrev pub packet_at : EngineAt → List ℕ
packet_at e = packet_in e.stage e.work.packet

-- ---- what is under way

-- What is waited for: nothing, or what was asked last.
abbrev pub WaitsForSome : {A : Type 0} → Option Ask → ℕ → Steps A → Type 0
WaitsForSome None n s = n ≡ 0
WaitsForSome (Some a) n s = WaitsFor a n s

abbrev pub read_by_some : Option Ask → List ℕ → List Event
read_by_some None lent = []
read_by_some (Some a) lent = read_by a lent

-- These events took a computation to where it is, and it waits for the answers to what was asked last.
pub record IsUnderWay {A : Type 0} (whole rest : Steps A) (reads : ℕ) (here : Bool) (trace : List Event) (asked : Option Ask) : Type 0 where
  pub gone : LedBy whole trace rest
  pub waits : WaitsForSome asked reads rest
  pub is_here : here ≡ true

-- A turn that began in this state has come so far: these events, and what was asked last.
abbrev pub IsTurningAt : EngineAt → State → List Event → Ask → Type 0
IsTurningAt e s trace asked =
    IsUnderWay (whole_turn e.wires s) (rest_in e.wires e.state e.stage e.work) (reads_in e.stage) (is_turning e.stage) trace (Some asked)

-- A delivery of this packet has. Before its first step nothing was asked.
abbrev pub IsDeliveringAt : EngineAt → State → RxOffload → List ℕ → List Event → Option Ask → Type 0
IsDeliveringAt e s o packet trace asked =
    IsUnderWay (whole_delivery e.wires.vif e.wires.accepts s o packet) (rest_of_delivery e.wires.vif e.state e.stage e.work) (reads_in e.stage)
    (is_delivering e.stage) trace asked × (e.work.packet ≡ packet)

-- A wait for `pages` slots has come so far: these events, and what was asked last. This packet stays beside it.
abbrev pub IsWaitingAt : EngineAt → State → ℕ → List ℕ → List Event → Option Ask → Type 0
IsWaitingAt e s pages packet trace asked =
    IsUnderWay (whole_wait e.wires.vif.rx s pages) (rest_of_wait e.wires.vif.rx e.state e.stage) (reads_in e.stage) (is_waiting e.stage) trace
    asked × (e.work.packet ≡ packet)

-- ---- where it has come to, by what was asked last

-- A turn goes on; or it is over, and its events are a row of the table of turns. It leaves a packet only if the program ran.
abbrev pub TurnGoesAt : EngineAt → Ask → State → List Event → Type 0
TurnGoesAt e (TurnOver kind) s trace =
    IsTurn e.wires s trace e.state (turned kind (packet_at e)) × (resting_at e ≡ Some e.state) × (has_run kind ≡ false → packet_at e ≡ [])
TurnGoesAt e asked s trace = IsTurningAt e s trace asked

-- A delivery goes on; or its events are a row of the table of deliveries, and its packet is there.
abbrev pub DeliveryGoesAt : EngineAt → Ask → State → RxOffload → List ℕ → List Event → Type 0
DeliveryGoesAt e (DeliveryOver what) s o packet trace =
    IsDelivery e.wires s o packet trace e.state what × (resting_at e ≡ Some e.state) × (packet_at e ≡ packet)
DeliveryGoesAt e asked s o packet trace = IsDeliveringAt e s o packet trace (Some asked)

-- A wait goes on; or its events are a row of the table of waits, and the packet before it is there.
abbrev pub WaitGoesAt : EngineAt → Ask → State → ℕ → List ℕ → List Event → Type 0
WaitGoesAt e (WaitOver what) s pages packet trace =
    IsAwaiting e.wires s pages trace e.state what × (resting_at e ≡ Some e.state) × (packet_at e ≡ packet)
WaitGoesAt e asked s pages packet trace = IsWaitingAt e s pages packet trace (Some asked)

-- The read that begins a turn or a delivery: a queue that has halted has no use of it.
abbrev pub first_read : Option Halt → Event → List Event
first_read None e = e ∷ []
first_read (Some cause) e = []

-- ---- what begins

-- A delivery is to begin, with what was read of the rx producer: all of it is left.
pub record IsBegunAt (old new : EngineAt) (producer : ℕ) (o : RxOffload) (packet : List ℕ) : Type 0 where
  pub rested : resting_at old ≡ Some old.state
  pub delivering : IsDeliveringAt new old.state o packet (first_read old.state.halt (Read (rx_word old.wires.vif 0) producer)) None
  pub wires : new.wires ≡ old.wires
  pub offload : new.offload ≡ old.offload

-- A wait for `pages` slots is to begin: all of it is left.
pub record IsWaitBegunAt (old new : EngineAt) (pages : ℕ) : Type 0 where
  pub rested : resting_at old ≡ Some old.state
  pub waiting : IsWaitingAt new old.state pages (packet_at old) [] None
  pub wires : new.wires ≡ old.wires
  pub offload : new.offload ≡ old.offload
