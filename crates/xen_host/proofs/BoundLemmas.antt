-- How a turn, a delivery and a wait begin and end, and how many steps they take.
use Rattle.std.proofs.Common.{◌≡◌, ℕ, ◌≤◌, true, List, [], ◌∷◌, ◌++◌, Option, None, Some, refl, length, arith}
use Rattle.xen_netif.specs.declared.offload.RxOffload.{RxOffload}
use Rattle.xen_steps.specs.Drive.{IsPageWant}
use Rattle.xen_steps.specs.Event.{Event}
use Rattle.xen_steps.specs.Steps.{Runs}
use Rattle.xen_steps.proofs.FinishLemmas.{runs_gone, some_run}
use Rattle.xen_turns.specs.Awaited.{IsAwaiting, overflown, posted, still_halted, waiting}
use Rattle.xen_turns.specs.Delivered.{IsDelivery}
use Rattle.xen_turns.specs.Deliveries.{Arrival, whole_delivery}
use Rattle.xen_turns.specs.Drive.{labels}
use Rattle.xen_turns.specs.Tree.{whole_turn}
use Rattle.xen_turns.specs.Turned.{Ending, Turned, turned}
use Rattle.xen_turns.specs.Turns.{IsTurn}
use Rattle.xen_turns.specs.Waits.{Wait, whole_wait}
use Rattle.xen_turns.specs.Within.{Completes, may_want}
use Rattle.xen_turns.specs.declared.delivery.delivering.Delivery.{Delivery}
use Rattle.xen_turns.specs.declared.delivery.wait.Awaited.{Awaited}
use Rattle.xen_turns.specs.declared.state.State.{State}
use Rattle.xen_turns.specs.declared.turn.Halt.{Halt}
use Rattle.xen_turns.specs.declared.wiring.Wiring.{Wiring}
use Rattle.xen_host.specs.Asks.{Ask, Read, Entry, Write, Store, StoreTwo, Push, Notify, TurnOver, DeliveryOver, WaitOver}
use Rattle.xen_host.specs.Completing.{Arriving, TaskCompletes, Waiting}
use Rattle.xen_host.specs.EngineAt.{EngineAt, WorkAt}
use Rattle.xen_host.specs.Stands.{Stands}
use Rattle.xen_host.specs.UnderWay.{DeliveryGoesAt, IsDeliveringAt, IsTurningAt, IsWaitingAt, TurnGoesAt, WaitGoesAt, first_read, packet_at}
use Rattle.xen_host.specs.Rest.{is_delivering, is_turning, is_waiting, rest_in, rest_of_delivery, rest_of_wait}
use Rattle.xen_host.specs.declared.stage.Purpose.TheVariants as purpose
use Rattle.xen_host.specs.declared.stage.Stage.{Stage}
use Rattle.xen_host.specs.declared.stage.Stage.TheVariants as stage
use Rattle.xen_host.proofs.TraceLemmas.{effects, effects_append}

-- ---- what is under way has a way to its end

turning_left : (w : Wiring) (s : State) (g : Stage) (b : WorkAt) → is_turning g ≡ true → TaskCompletes w s g b → Completes w (rest_in w s g b)
turning_left w s stage.Ready b t c = absurd (cc t)
turning_left w s stage.Announce b t c = c
turning_left w s (stage.Slot left) b t c = c
turning_left w s (stage.Entry i at) b t c = c
turning_left w s (stage.Page i f frame) b t c = c
turning_left w s (stage.Fill f (purpose.Back n)) b t c = c
turning_left w s (stage.Fill f purpose.Delivery) b t c = absurd (cc t)
turning_left w s (stage.Respond i) b t c = c
turning_left w s stage.Push b t c = c
turning_left w s stage.Notice b t c = c
turning_left w s (stage.Deliver producer) b t c = absurd (cc t)
turning_left w s (stage.Wait pages) b t c = absurd (cc t)
turning_left w s (stage.WaitLook pages) b t c = absurd (cc t)
turning_left w s stage.Several b t c = absurd (cc t)

delivering_left : (w : Wiring) (s : State) (g : Stage) (b : WorkAt) → is_delivering g ≡ true → TaskCompletes w s g b → Arriving w s g b
delivering_left w s stage.Ready b t c = absurd (cc t)
delivering_left w s stage.Announce b t c = absurd (cc t)
delivering_left w s (stage.Slot left) b t c = absurd (cc t)
delivering_left w s (stage.Entry i at) b t c = absurd (cc t)
delivering_left w s (stage.Page i f frame) b t c = absurd (cc t)
delivering_left w s (stage.Fill f (purpose.Back n)) b t c = absurd (cc t)
delivering_left w s (stage.Fill f purpose.Delivery) b t c = c
delivering_left w s (stage.Respond i) b t c = absurd (cc t)
delivering_left w s stage.Push b t c = absurd (cc t)
delivering_left w s stage.Notice b t c = absurd (cc t)
delivering_left w s (stage.Deliver producer) b t c = c
delivering_left w s (stage.Wait pages) b t c = absurd (cc t)
delivering_left w s (stage.WaitLook pages) b t c = absurd (cc t)
delivering_left w s stage.Several b t c = absurd (cc t)

waiting_left : (w : Wiring) (s : State) (g : Stage) (b : WorkAt) → is_waiting g ≡ true → TaskCompletes w s g b → Waiting w s g
waiting_left w s stage.Ready b t c = absurd (cc t)
waiting_left w s stage.Announce b t c = absurd (cc t)
waiting_left w s (stage.Slot left) b t c = absurd (cc t)
waiting_left w s (stage.Entry i at) b t c = absurd (cc t)
waiting_left w s (stage.Page i f frame) b t c = absurd (cc t)
waiting_left w s (stage.Fill f p) b t c = absurd (cc t)
waiting_left w s (stage.Respond i) b t c = absurd (cc t)
waiting_left w s stage.Push b t c = absurd (cc t)
waiting_left w s stage.Notice b t c = absurd (cc t)
waiting_left w s (stage.Deliver producer) b t c = absurd (cc t)
waiting_left w s (stage.Wait pages) b t c = c
waiting_left w s (stage.WaitLook pages) b t c = c
waiting_left w s stage.Several b t c = absurd (cc t)

some_turn : (q : EngineAt) → Stands q → (s : State) (t : List Event) (a : Ask) → IsTurningAt q s t a → (p : List Event) × (e : Ending) × Runs (whole_turn q.wires s) (t ++ p) e
some_turn q st s t a h =
    let e = q in
    let rest = rest_in q.wires e.state e.stage e.work in
    let r = some_run (may_want q.wires) rest (turning_left e.wires e.state e.stage e.work h.is_here st.left) in
    (r.0, r.1, runs_gone (whole_turn q.wires s) rest t r.0 r.1 h.gone r.2)

some_delivery : (q : EngineAt) → Stands q → (s : State) (o : RxOffload) (packet : List ℕ) (t : List Event) (a : Option Ask) → IsDeliveringAt q s o packet t a →
    (p : List Event) × (e : Arrival) × Runs (whole_delivery q.wires.vif q.wires.accepts s o packet) (t ++ p) e
some_delivery q st s o packet t a h =
    let e = q in
    let rest = rest_of_delivery q.wires.vif e.state e.stage e.work in
    let r = some_run (IsPageWant (length e.wires.vif.owners.now)) rest (delivering_left e.wires e.state e.stage e.work h.0.is_here st.left) in
    (r.0, r.1, runs_gone (whole_delivery q.wires.vif q.wires.accepts s o packet) rest t r.0 r.1 h.0.gone r.2)

some_wait : (q : EngineAt) → Stands q → (s : State) (pages : ℕ) (packet : List ℕ) (t : List Event) (a : Option Ask) → IsWaitingAt q s pages packet t a → (p : List Event) × (e : Wait) × Runs (whole_wait q.wires.vif.rx s pages) (t ++ p) e
some_wait q st s pages packet t a h =
    let e = q in
    let rest = rest_of_wait e.wires.vif.rx e.state e.stage in
    let r = some_run (IsPageWant (length e.wires.vif.owners.now)) rest (waiting_left e.wires e.state e.stage e.work h.0.is_here st.left) in
    (r.0, r.1, runs_gone (whole_wait e.wires.vif.rx s pages) rest t r.0 r.1 h.0.gone r.2)

-- ---- so it has few accesses and notices

pub front_few : (t p : List Event) (most : ℕ) → effects (t ++ p) ≤ most → effects t ≤ most
front_few t p most h = let e = effects_append t p in omega (arith, e, h)

-- The laws of whole turns, deliveries and waits.
abbrev pub TurnsAreRests : Type 0
TurnsAreRests = (w : Wiring) (s : State) (p : List Event) (new : State) (u : Turned) → Runs (whole_turn w s) p (new, u) → IsTurn w s p new u

abbrev pub TurnsAreShort : Type 0
TurnsAreShort = (w : Wiring) (s : State) (p : List Event) (new : State) (u : Turned) → IsTurn w s p new u → effects p ≤ 33032

abbrev pub DeliveriesAreRests : Type 0
DeliveriesAreRests = (w : Wiring) (s : State) (o : RxOffload) (packet : List ℕ) (p : List Event) (after : State) (what : Delivery) → Runs (whole_delivery w.vif w.accepts s o packet) p (after, what) → IsDelivery w s o packet p after what

abbrev pub DeliveriesAreShort : Type 0
DeliveriesAreShort = (w : Wiring) (s : State) (o : RxOffload) (packet : List ℕ) (p : List Event) (after : State) (what : Delivery) → IsDelivery w s o packet p after what → effects p ≤ 16488

abbrev pub WaitsAreRests : Type 0
WaitsAreRests = (w : Wiring) (s : State) (pages : ℕ) (p : List Event) (after : State) (what : Awaited) → Runs (whole_wait w.vif.rx s pages) p (after, what) → IsAwaiting w s pages p after what

waits_are_short : (w : Wiring) (s : State) (pages : ℕ) (p : List Event) (after : State) (what : Awaited) → IsAwaiting w s pages p after what → effects p ≤ 2
waits_are_short w s pages _ _ _ (still_halted cause h) = omega arith
waits_are_short w s pages _ _ _ (overflown p h l a) = omega arith
waits_are_short w s pages _ _ _ (posted p m h l a k) = omega arith
waits_are_short w s pages _ _ _ (waiting p m h l a k) = omega arith

turning_few : TurnsAreRests → TurnsAreShort → (q : EngineAt) → Stands q → (s : State) (t : List Event) (a : Ask) → IsTurningAt q s t a → effects t ≤ 33032
turning_few rests short q st s t a h =
    let r = some_turn q st s t a h in
    front_few t r.0 33032 (short q.wires s (t ++ r.0) r.1.0 r.1.1 (rests q.wires s (t ++ r.0) r.1.0 r.1.1 r.2))

pub turn_few : TurnsAreRests → TurnsAreShort → (q : EngineAt) → Stands q → (s : State) (t : List Event) (a : Ask) → TurnGoesAt q a s t → effects t ≤ 33032
turn_few rests short q st s t (TurnOver x) h = short q.wires s t q.state (turned x (packet_at q)) h.0
turn_few rests short q st s t (Read at count) h = turning_few rests short q st s t (Read at count) h
turn_few rests short q st s t (Entry at reference rights) h = turning_few rests short q st s t (Entry at reference rights) h
turn_few rests short q st s t (Write at count) h = turning_few rests short q st s t (Write at count) h
turn_few rests short q st s t (Store at word) h = turning_few rests short q st s t (Store at word) h
turn_few rests short q st s t (StoreTwo at first second) h = turning_few rests short q st s t (StoreTwo at first second) h
turn_few rests short q st s t (Push at word read) h = turning_few rests short q st s t (Push at word read) h
turn_few rests short q st s t (Notify port) h = turning_few rests short q st s t (Notify port) h
turn_few rests short q st s t (DeliveryOver x) h = turning_few rests short q st s t (DeliveryOver x) h
turn_few rests short q st s t (WaitOver x) h = turning_few rests short q st s t (WaitOver x) h

delivering_few : DeliveriesAreRests → DeliveriesAreShort → (q : EngineAt) → Stands q → (s : State) (o : RxOffload) (packet : List ℕ) (t : List Event) (a : Option Ask) → IsDeliveringAt q s o packet t a → effects t ≤ 16488
delivering_few rests short q st s o packet t a h =
    let r = some_delivery q st s o packet t a h in
    front_few t r.0 16488 (short q.wires s o packet (t ++ r.0) r.1.0 r.1.1 (rests q.wires s o packet (t ++ r.0) r.1.0 r.1.1 r.2))

pub delivery_few : DeliveriesAreRests → DeliveriesAreShort → (q : EngineAt) → Stands q → (s : State) (o : RxOffload) (packet : List ℕ) (t : List Event) (a : Ask) → DeliveryGoesAt q a s o packet t → effects t ≤ 16488
delivery_few rests short q st s o packet t (DeliveryOver x) h = short q.wires s o packet t q.state x h.0
delivery_few rests short q st s o packet t (Read at count) h = delivering_few rests short q st s o packet t (Some (Read at count)) h
delivery_few rests short q st s o packet t (Entry at reference rights) h = delivering_few rests short q st s o packet t (Some (Entry at reference rights)) h
delivery_few rests short q st s o packet t (Write at count) h = delivering_few rests short q st s o packet t (Some (Write at count)) h
delivery_few rests short q st s o packet t (Store at word) h = delivering_few rests short q st s o packet t (Some (Store at word)) h
delivery_few rests short q st s o packet t (StoreTwo at first second) h = delivering_few rests short q st s o packet t (Some (StoreTwo at first second)) h
delivery_few rests short q st s o packet t (Push at word read) h = delivering_few rests short q st s o packet t (Some (Push at word read)) h
delivery_few rests short q st s o packet t (Notify port) h = delivering_few rests short q st s o packet t (Some (Notify port)) h
delivery_few rests short q st s o packet t (TurnOver x) h = delivering_few rests short q st s o packet t (Some (TurnOver x)) h
delivery_few rests short q st s o packet t (WaitOver x) h = delivering_few rests short q st s o packet t (Some (WaitOver x)) h

waiting_few : WaitsAreRests → (q : EngineAt) → Stands q → (s : State) (pages : ℕ) (packet : List ℕ) (t : List Event) (a : Option Ask) → IsWaitingAt q s pages packet t a → effects t ≤ 2
waiting_few rests q st s pages packet t a h =
    let r = some_wait q st s pages packet t a h in
    front_few t r.0 2 (waits_are_short q.wires s pages (t ++ r.0) r.1.0 r.1.1 (rests q.wires s pages (t ++ r.0) r.1.0 r.1.1 r.2))

pub wait_few : WaitsAreRests → (q : EngineAt) → Stands q → (s : State) (pages : ℕ) (packet : List ℕ) (t : List Event) (a : Ask) → WaitGoesAt q a s pages packet t → effects t ≤ 2
wait_few rests q st s pages packet t (WaitOver x) h = waits_are_short q.wires s pages t q.state x h.0
wait_few rests q st s pages packet t (Read at count) h = waiting_few rests q st s pages packet t (Some (Read at count)) h
wait_few rests q st s pages packet t (Entry at reference rights) h = waiting_few rests q st s pages packet t (Some (Entry at reference rights)) h
wait_few rests q st s pages packet t (Write at count) h = waiting_few rests q st s pages packet t (Some (Write at count)) h
wait_few rests q st s pages packet t (Store at word) h = waiting_few rests q st s pages packet t (Some (Store at word)) h
wait_few rests q st s pages packet t (StoreTwo at first second) h = waiting_few rests q st s pages packet t (Some (StoreTwo at first second)) h
wait_few rests q st s pages packet t (Push at word read) h = waiting_few rests q st s pages packet t (Some (Push at word read)) h
wait_few rests q st s pages packet t (Notify port) h = waiting_few rests q st s pages packet t (Some (Notify port)) h
wait_few rests q st s pages packet t (TurnOver x) h = waiting_few rests q st s pages packet t (Some (TurnOver x)) h
wait_few rests q st s pages packet t (DeliveryOver x) h = waiting_few rests q st s pages packet t (Some (DeliveryOver x)) h

pub first_none : (o : Option Halt) (at : Event) → labels (at ∷ []) ≡ [] → labels (first_read o at) ≡ []
first_none None at h = h
first_none (Some cause) at h = refl
