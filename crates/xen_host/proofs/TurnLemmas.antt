-- What is under way goes on, or is a row of its table.
use Rattle.std.proofs.Common.{◌≡◌, ℕ, List, [], ◌∷◌, ◌++◌, length, map, sym, ap, ◌∙◌, subst, Bool}
use Rattle.std.specs.Prelude.{Option, Some, None}
use Rattle.bpf_note.specs.declared.op.Op.{Op as Operation}
use Rattle.xen_host.specs.Offload.{Offload}
use Rattle.xen_netif.specs.declared.offload.RxOffload.{RxOffload}
use Rattle.xen_steps.specs.Drive.{LedBy}
use Rattle.xen_steps.specs.Event.{Event}
use Rattle.xen_steps.specs.Pages.{AreWords}
use Rattle.xen_steps.specs.Steps.{Steps}
use Rattle.xen_steps.proofs.DriveLemmas.{gone_append, runs_of_gone}
use Rattle.xen_turns.specs.Deliveries.{Arrival, whole_delivery}
use Rattle.xen_turns.specs.Program.{event_of}
use Rattle.xen_turns.specs.Tree.{whole_turn}
use Rattle.xen_turns.specs.Turned.{Ending, turned}
use Rattle.xen_turns.specs.Turns.{IsTurn}
use Rattle.xen_turns.specs.Waits.{Wait, whole_wait}
use Rattle.xen_turns.specs.declared.state.State.{State}
use Rattle.xen_turns.proofs.ArriveLemmas.{delivery_rows}
use Rattle.xen_turns.proofs.TurnParts.{turn_parts}
use Rattle.xen_turns.proofs.WaitLemmas.{wait_rows}
use Rattle.xen_host.specs.Asks.{Ask, read_by}
use Rattle.xen_host.specs.Asks as ask
use Rattle.xen_host.specs.Fed.{WaitsFor, fed}
use Rattle.xen_host.specs.HostLed.{DeliveryLeads, TurnRanLeads, WaitLeads}
use Rattle.xen_host.specs.Hosts.{events_of}
use Rattle.xen_host.specs.Led.{DeliveryEnds, IsOn, TurnEnds, WaitEnds}
use Rattle.xen_host.specs.EngineAt.{EngineAt}
use Rattle.xen_host.specs.UnderWay.{DeliveryGoesAt, IsDeliveringAt, IsTurningAt, IsUnderWay, IsWaitingAt, TurnGoesAt, WaitGoesAt, WaitsForSome, between, packet_at, packet_in, read_by_some, resting_at}
use Rattle.xen_host.specs.Rest.{reads_in, rest_in, rest_of_delivery, rest_of_wait}
use Rattle.xen_host.specs.declared.stage.Stage.{Stage}
use Rattle.xen_host.specs.declared.stage.Stage.TheVariants as stage
use Rattle.xen_turns.specs.declared.wiring.Wiring.{Wiring}
use Rattle.xen_host.proofs.StepLemmas.{waits_led}

-- It goes on.
under_way : {A : Type 0} {tells : Ask → Type 0} (whole rest left : Steps A) (reads : ℕ) (here : Bool) (t : List Event) (last : Ask) → LedBy whole t left → IsOn rest reads here tells last left → IsUnderWay whole rest reads here t (Some last)
under_way {A} whole rest left reads here t last g on = record {
  gone = subst (λ (x : Steps A). LedBy whole t x) on.is_rest g;
  waits = subst (λ (x : Steps A). WaitsFor last reads x) on.is_rest on.waits;
  is_here = on.is_here;
}

pub packet_there : (q : EngineAt) → q.stage ≡ stage.Ready → packet_at q ≡ q.work.packet
packet_there q e = ap (λ (x : Stage). packet_in x q.work.packet) e

pub rests : (q : EngineAt) → q.stage ≡ stage.Ready → resting_at q ≡ Some q.state
rests q e = ap (λ (x : Stage). between q.state x) e

pub turn_goes : (q : EngineAt) (s : State) (t : List Event) (last : Ask) (left : Steps Ending) → LedBy (whole_turn q.wires s) t left → TurnEnds q last left → TurnGoesAt q last s t
turn_goes q s t (ask.TurnOver k) left g e =
    let after : Ending = (q.state, turned k q.work.packet) in
    let row : IsTurn q.wires s t q.state (turned k q.work.packet) =
    turn_parts q.wires s t q.state (turned k q.work.packet) (runs_of_gone (whole_turn q.wires s) left t after g e.over) in
    let packet = packet_there q e.ready in
    (subst (λ p. IsTurn q.wires s t q.state (turned k p)) (sym packet) row, rests q e.ready, λ n. packet ∙ e.packet n)
turn_goes q s t (ask.Read at count) left g e = under_way _ _ left _ _ t (ask.Read at count) g e
turn_goes q s t (ask.Entry at reference rights) left g e = under_way _ _ left _ _ t (ask.Entry at reference rights) g e
turn_goes q s t (ask.Write at count) left g e = under_way _ _ left _ _ t (ask.Write at count) g e
turn_goes q s t (ask.Store at word) left g e = under_way _ _ left _ _ t (ask.Store at word) g e
turn_goes q s t (ask.StoreTwo at x y) left g e = under_way _ _ left _ _ t (ask.StoreTwo at x y) g e
turn_goes q s t (ask.Push at word read) left g e = under_way _ _ left _ _ t (ask.Push at word read) g e
turn_goes q s t (ask.Notify port) left g e = under_way _ _ left _ _ t (ask.Notify port) g e
turn_goes q s t (ask.DeliveryOver what) left g e = under_way _ _ left _ _ t (ask.DeliveryOver what) g e
turn_goes q s t (ask.WaitOver what) left g e = under_way _ _ left _ _ t (ask.WaitOver what) g e

pub delivery_goes : (q : EngineAt) (s : State) (o : RxOffload) (packet : List ℕ) (t : List Event) (last : Ask) (left : Steps Arrival) → LedBy (whole_delivery q.wires.vif q.wires.accepts s o packet) t left → DeliveryEnds packet q last left →
    DeliveryGoesAt q last s o packet t
delivery_goes q s o packet t (ask.DeliveryOver what) left g e =
    let row = delivery_rows q.wires s o packet t q.state what (runs_of_gone (whole_delivery q.wires.vif q.wires.accepts s o packet) left t (q.state, what) g e.0) in
    (row, rests q e.1, packet_there q e.1 ∙ e.2)
delivery_goes q s o packet t (ask.Read at count) left g e = (under_way _ _ left _ _ t (ask.Read at count) g e.0, e.1)
delivery_goes q s o packet t (ask.Entry at reference rights) left g e = (under_way _ _ left _ _ t (ask.Entry at reference rights) g e.0, e.1)
delivery_goes q s o packet t (ask.Write at count) left g e = (under_way _ _ left _ _ t (ask.Write at count) g e.0, e.1)
delivery_goes q s o packet t (ask.Store at word) left g e = (under_way _ _ left _ _ t (ask.Store at word) g e.0, e.1)
delivery_goes q s o packet t (ask.StoreTwo at x y) left g e = (under_way _ _ left _ _ t (ask.StoreTwo at x y) g e.0, e.1)
delivery_goes q s o packet t (ask.Push at word read) left g e = (under_way _ _ left _ _ t (ask.Push at word read) g e.0, e.1)
delivery_goes q s o packet t (ask.Notify port) left g e = (under_way _ _ left _ _ t (ask.Notify port) g e.0, e.1)
delivery_goes q s o packet t (ask.TurnOver k) left g e = (under_way _ _ left _ _ t (ask.TurnOver k) g e.0, e.1)
delivery_goes q s o packet t (ask.WaitOver what) left g e = (under_way _ _ left _ _ t (ask.WaitOver what) g e.0, e.1)

pub wait_goes : (q : EngineAt) (s : State) (pages : ℕ) (packet : List ℕ) (t : List Event) (last : Ask) (left : Steps Wait) → LedBy (whole_wait q.wires.vif.rx s pages) t left → WaitEnds packet q last left → WaitGoesAt q last s pages packet t
wait_goes q s pages packet t (ask.WaitOver what) left g e =
    let row = wait_rows q.wires s pages t q.state what (runs_of_gone (whole_wait q.wires.vif.rx s pages) left t (q.state, what) g e.0) in
    (row, rests q e.1, packet_there q e.1 ∙ e.2)
wait_goes q s pages packet t (ask.Read at count) left g e = (under_way _ _ left _ _ t (ask.Read at count) g e.0, e.1)
wait_goes q s pages packet t (ask.Entry at reference rights) left g e = (under_way _ _ left _ _ t (ask.Entry at reference rights) g e.0, e.1)
wait_goes q s pages packet t (ask.Write at count) left g e = (under_way _ _ left _ _ t (ask.Write at count) g e.0, e.1)
wait_goes q s pages packet t (ask.Store at word) left g e = (under_way _ _ left _ _ t (ask.Store at word) g e.0, e.1)
wait_goes q s pages packet t (ask.StoreTwo at x y) left g e = (under_way _ _ left _ _ t (ask.StoreTwo at x y) g e.0, e.1)
wait_goes q s pages packet t (ask.Push at word read) left g e = (under_way _ _ left _ _ t (ask.Push at word read) g e.0, e.1)
wait_goes q s pages packet t (ask.Notify port) left g e = (under_way _ _ left _ _ t (ask.Notify port) g e.0, e.1)
wait_goes q s pages packet t (ask.TurnOver k) left g e = (under_way _ _ left _ _ t (ask.TurnOver k) g e.0, e.1)
wait_goes q s pages packet t (ask.DeliveryOver what) left g e = (under_way _ _ left _ _ t (ask.DeliveryOver what) g e.0, e.1)

-- What was asked last is answered, if anything was.
some_led : {A : Type 0} (asked : Option Ask) (n : ℕ) (s : Steps A) (words : List ℕ) → AreWords words → length words ≡ n → WaitsForSome asked n s → LedBy s (read_by_some asked words) (fed s words)
some_led None n s words b e w = waits_led (ask.Notify 0) n s words b e w
some_led (Some a) n s words b e w = waits_led a n s words b e w

-- A step of a turn.
pub turn_steps : {H : Type 0} {was : H → Ask → List ℕ → H → Type 0} {full : H → Type 0} {host host_after : H} (old new : EngineAt) (offload : Offload) (words : List ℕ) (went : List (Option Operation) → Type 0) → AreWords words → length words ≡ reads_in old.stage →
    new.wires ≡ old.wires → (h : TurnRanLeads was full offload (fed (rest_in old.wires old.state old.stage old.work) words) new went host host_after) →
    (s : State) (trace : List Event) (asked : Ask) → IsTurningAt old s trace asked →
    TurnGoesAt new h.led.last.ask s (trace ++ (read_by asked words ++ (map event_of h.ran.labels ++ events_of (h.led.first ++ h.led.last ∷ []))))
turn_steps old new offload words went below n same h s trace asked token =
    let e = old in
    let rest = rest_in old.wires e.state e.stage e.work in
    let did = events_of (h.led.first ++ h.led.last ∷ []) in
    let ran = map event_of h.ran.labels in
    let t = trace ++ (read_by asked words ++ (ran ++ did)) in
    let g = gone_append (whole_turn old.wires s) rest h.led.left trace (read_by asked words ++ (ran ++ did)) token.gone
    (gone_append rest (fed rest words) h.led.left (read_by asked words) (ran ++ did) (waits_led asked (reads_in e.stage) rest words below n token.waits)
    (gone_append (fed rest words) h.between h.led.left ran did h.ran.gone h.led.gone)) in
    turn_goes new s t h.led.last.ask h.led.left (subst (λ (x : Wiring). LedBy (whole_turn x s) t h.led.left) (sym same) g) h.led.is_end

-- A step of a delivery.
pub delivery_steps : {H : Type 0} {was : H → Ask → List ℕ → H → Type 0} {full : H → Type 0} {host host_after : H} (old new : EngineAt) (offload : Offload) (words : List ℕ) → AreWords words → length words ≡ reads_in old.stage →
    new.wires ≡ old.wires → (h : DeliveryLeads was full offload old.work.packet (fed (rest_of_delivery old.wires.vif old.state old.stage old.work) words) new host host_after) →
    (s : State) (o : RxOffload) (packet : List ℕ) (trace : List Event) (asked : Option Ask) → IsDeliveringAt old s o packet trace asked →
    DeliveryGoesAt new h.last.ask s o packet (trace ++ (read_by_some asked words ++ events_of (h.first ++ h.last ∷ [])))
delivery_steps old new offload words below n same h s o packet trace asked token =
    let e = old in
    let rest = rest_of_delivery old.wires.vif e.state e.stage e.work in
    let did = events_of (h.first ++ h.last ∷ []) in
    let t = trace ++ (read_by_some asked words ++ did) in
    let g = gone_append (whole_delivery old.wires.vif old.wires.accepts s o packet) rest h.left trace (read_by_some asked words ++ did) token.0.gone
    (gone_append rest (fed rest words) h.left (read_by_some asked words) did (some_led asked (reads_in e.stage) rest words below n token.0.waits) h.gone) in
    delivery_goes new s o packet t h.last.ask h.left (subst (λ (x : Wiring). LedBy (whole_delivery x.vif x.accepts s o packet) t h.left) (sym same) g)
    (subst (λ p. DeliveryEnds p new h.last.ask h.left) token.1 h.is_end)

-- A step of a wait.
pub wait_steps : {H : Type 0} {was : H → Ask → List ℕ → H → Type 0} {full : H → Type 0} {host host_after : H} (old new : EngineAt) (offload : Offload) (words : List ℕ) → AreWords words → length words ≡ reads_in old.stage →
    new.wires ≡ old.wires → (h : WaitLeads was full offload old.work.packet (fed (rest_of_wait old.wires.vif.rx old.state old.stage) words) new host host_after) →
    (s : State) (pages : ℕ) (packet : List ℕ) (trace : List Event) (asked : Option Ask) → IsWaitingAt old s pages packet trace asked →
    WaitGoesAt new h.last.ask s pages packet (trace ++ (read_by_some asked words ++ events_of (h.first ++ h.last ∷ [])))
wait_steps old new offload words below n same h s pages packet trace asked token =
    let e = old in
    let rest = rest_of_wait e.wires.vif.rx e.state e.stage in
    let did = events_of (h.first ++ h.last ∷ []) in
    let t = trace ++ (read_by_some asked words ++ did) in
    let g = gone_append (whole_wait e.wires.vif.rx s pages) rest h.left trace (read_by_some asked words ++ did) token.0.gone
    (gone_append rest (fed rest words) h.left (read_by_some asked words) did (some_led asked (reads_in e.stage) rest words below n token.0.waits) h.gone) in
    wait_goes new s pages packet t h.last.ask h.left (subst (λ (x : Wiring). LedBy (whole_wait x.vif.rx s pages) t h.left) (sym same) g)
    (subst (λ p. WaitEnds p new h.last.ask h.left) token.1 h.is_end)
