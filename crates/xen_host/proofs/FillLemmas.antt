-- A transmit that goes on, whatever it is for.
use Rattle.std.proofs.Common.{◌≡◌, ℕ, true, List, [], ◌∷◌, ◌++◌, refl, ap, subst}
use Rattle.xen_netif.specs.declared.offload.RxOffload.{RxOffload}
use Rattle.xen_steps.specs.Drive.{LedBy}
use Rattle.xen_steps.specs.Steps.{Steps, bind}
use Rattle.xen_rx_fill.specs.declared.by_event.phase.TransmitOutcome.{TransmitOutcome}
use Rattle.xen_rx_fill.specs.declared.target.Target.{Target}
use Rattle.xen_rx_fill.proofs.StraightLemmas.{gone_bind}
use Rattle.xen_turns.specs.Deliveries.{Arrival, arrived}
use Rattle.xen_turns.specs.Tree.{after_transmit}
use Rattle.xen_turns.specs.Turned.{Ending}
use Rattle.xen_host.specs.Asks.{Ask, IsSized, did_all, did_by, takes_none}
use Rattle.xen_host.specs.Asks as ask
use Rattle.xen_host.specs.Fed.{WaitsFor}
use Rattle.xen_host.specs.HostLed.{FillLeads, HostLed}
use Rattle.xen_host.specs.Hosts.{WasAskedAll, events_of, plain_all}
use Rattle.xen_host.specs.Led.{Beside, DeliveryEnds, IsOn, TurnEnds, beside}
use Rattle.xen_host.specs.Rest.{is_delivering, is_turning, reads_filling, reads_in, rest_filling, rest_in, rest_of_delivery, rx_offload}
use Rattle.xen_host.specs.Told.{IsToldAt, IsToldFilling}
use Rattle.xen_host.specs.EngineAt.{EngineAt, WorkAt}
use Rattle.xen_host.specs.declared.stage.Fill.{Fill}
use Rattle.xen_host.specs.declared.stage.Purpose.{Purpose}
use Rattle.xen_host.specs.declared.stage.Purpose.TheVariants as purpose
use Rattle.xen_host.specs.declared.stage.Stage.TheVariants as stage
use Rattle.xen_host.proofs.AskLemmas.{reads_bind}
use Rattle.xen_host.proofs.HostLedLemmas.{asks_all, asks_before}
use Rattle.xen_host.proofs.LedLemmas.{AreChained}

-- what is waited for, before another computation
waits_bind : {A B : Type 0} (a : Ask) (n : ℕ) (s : Steps A) (f : A → Steps B) → WaitsFor a n s → WaitsFor a n (bind s f)
waits_bind (ask.Read at count) n s f w = (w.0, reads_bind at count s f w.1)
waits_bind (ask.Entry at reference rights) n s f w = (w.0, reads_bind at 2 s f w.1)
waits_bind (ask.Push at word read) n s f w = (w.0, reads_bind _ 1 s f w.1)
waits_bind (ask.Write at count) n s f w = w
waits_bind (ask.Store at word) n s f w = w
waits_bind (ask.StoreTwo at x y) n s f w = w
waits_bind (ask.Notify port) n s f w = w
waits_bind (ask.TurnOver kind) n s f w = absurd w
waits_bind (ask.DeliveryOver what) n s f w = absurd w
waits_bind (ask.WaitOver what) n s f w = absurd w

pub waits_none : {A : Type 0} (a : Ask) (s : Steps A) → takes_none a ≡ true → WaitsFor a 0 s
waits_none (ask.Read at count) s h = cc h
waits_none (ask.Entry at reference rights) s h = cc h
waits_none (ask.Push at word read) s h = cc h
waits_none (ask.Write at count) s h = refl
waits_none (ask.Store at word) s h = refl
waits_none (ask.StoreTwo at x y) s h = refl
waits_none (ask.Notify port) s h = refl
waits_none (ask.TurnOver kind) s h = cc h
waits_none (ask.DeliveryOver what) s h = cc h
waits_none (ask.WaitOver what) s h = cc h

-- what goes on isn't over
pub turn_of_on : (e : EngineAt) (last : Ask) (left : Steps Ending) → IsOn (rest_in e.wires e.state e.stage e.work) (reads_in e.stage) (is_turning e.stage) (IsToldAt e.wires.vif.table.now e.stage) last left → TurnEnds e last left
turn_of_on e (ask.TurnOver kind) left on = absurd on.waits
turn_of_on e (ask.Read at count) left on = on
turn_of_on e (ask.Entry at reference rights) left on = on
turn_of_on e (ask.Push at word read) left on = on
turn_of_on e (ask.Write at count) left on = on
turn_of_on e (ask.Store at word) left on = on
turn_of_on e (ask.StoreTwo at x y) left on = on
turn_of_on e (ask.Notify port) left on = on
turn_of_on e (ask.DeliveryOver what) left on = on
turn_of_on e (ask.WaitOver what) left on = on

delivery_of_on : (packet : List ℕ) (e : EngineAt) (last : Ask) (left : Steps Arrival) → IsOn (rest_of_delivery e.wires.vif e.state e.stage e.work) (reads_in e.stage) (is_delivering e.stage) (IsToldAt e.wires.vif.table.now e.stage) last left → e.work.packet ≡ packet → DeliveryEnds packet e last left
delivery_of_on packet e (ask.DeliveryOver what) left on p = absurd on.waits
delivery_of_on packet e (ask.Read at count) left on p = (on, p)
delivery_of_on packet e (ask.Entry at reference rights) left on p = (on, p)
delivery_of_on packet e (ask.Push at word read) left on p = (on, p)
delivery_of_on packet e (ask.Write at count) left on p = (on, p)
delivery_of_on packet e (ask.Store at word) left on p = (on, p)
delivery_of_on packet e (ask.StoreTwo at x y) left on p = (on, p)
delivery_of_on packet e (ask.Notify port) left on p = (on, p)
delivery_of_on packet e (ask.TurnOver kind) left on p = (on, p)
delivery_of_on packet e (ask.WaitOver what) left on p = (on, p)

-- ---- a transmit

abbrev pub with_targets : WorkAt → List Target → WorkAt
with_targets b ts = record b { targets = ts }

-- an engine whose transmit is here, with these targets
abbrev pub filling_at : EngineAt → List Target → Fill → Purpose → EngineAt
filling_at q ts f p = record q { stage = stage.Fill f p; work = with_targets q.work ts }

abbrev pub IsFillOn : EngineAt → List Target → RxOffload → Fill → Ask → Steps TransmitOutcome → Type 0
IsFillOn q ts o f a left =
    (left ≡ rest_filling q.wires.vif q.state.rx_index o f (with_targets q.work ts)) × IsToldFilling q.wires.vif.table.now f a × WaitsFor a (reads_filling f) left

pub lift_fill : {H : Type 0} (was : H → Ask → List ℕ → H → Type 0) (full : H → Type 0) (p : Purpose) (q : EngineAt) (ts : List Target) (f : Fill) (x : Steps TransmitOutcome) (host host_after : H) →
    HostLed was full (IsFillOn q ts (rx_offload p q.work.offload) f) q.offload x (filling_at q ts f p) host host_after → FillLeads was full p (beside q) x (filling_at q ts f p) host host_after
lift_fill was full (purpose.Back n) q ts f x host host_after h =
    let then = after_transmit q.wires q.state q.work.chain q.work.packet n in
    record {
      first = h.first;
      last = h.last;
      asked = h.asked;
      take_none = h.take_none;
      stops = h.stops;
      sized = h.sized;
      left = bind h.left then;
      gone = gone_bind x h.left (events_of (h.first ++ h.last ∷ [])) then h.gone;
      is_end = turn_of_on (filling_at q ts f (purpose.Back n)) h.last.ask (bind h.left then)
          (record { is_rest = ap (λ (s : Steps TransmitOutcome). bind s then) h.is_end.0; waits = waits_bind h.last.ask (reads_filling f) h.left then h.is_end.2; is_here = refl; told = h.is_end.1 });
      offload_is = refl;
      fits = h.fits;
    }
lift_fill was full purpose.Delivery q ts f x host host_after h =
    let then = arrived q.state in
    record {
      first = h.first;
      last = h.last;
      asked = h.asked;
      take_none = h.take_none;
      stops = h.stops;
      sized = h.sized;
      left = bind h.left then;
      gone = gone_bind x h.left (events_of (h.first ++ h.last ∷ [])) then h.gone;
      is_end = delivery_of_on q.work.packet (filling_at q ts f purpose.Delivery) h.last.ask (bind h.left then)
          (record { is_rest = ap (λ (s : Steps TransmitOutcome). bind s then) h.is_end.0; waits = waits_bind h.last.ask (reads_filling f) h.left then h.is_end.2; is_here = refl; told = h.is_end.1 }) refl;
      offload_is = refl;
      fits = h.fits;
    }

-- From another computation that is the same.
pub fill_same : {H : Type 0} (was : H → Ask → List ℕ → H → Type 0) (full : H → Type 0) (p : Purpose) (e : Beside) (x same : Steps TransmitOutcome) (new : EngineAt) (host host_after : H) →
    same ≡ x → FillLeads was full p e same new host host_after → FillLeads was full p e x new host host_after
fill_same was full p e x same new host host_after s h = subst (λ (z : Steps TransmitOutcome). FillLeads was full p e z new host host_after) s h

-- An ask that takes no answer, before others.
pub fill_before : {H : Type 0} (was : H → Ask → List ℕ → H → Type 0) (full : H → Type 0) (p : Purpose) (e : Beside) (from between : Steps TransmitOutcome) (new : EngineAt) (host mid host_after : H) (a : Ask) (words : List ℕ) →
    was host a words mid → takes_none a ≡ true → IsSized a → LedBy from (did_by a words) between → FillLeads was full p e between new mid host_after → FillLeads was full p e from new host host_after
fill_before was full (purpose.Back n) e from between new host mid host_after a words asked none sized g h =
    let then = after_transmit e.wires e.state e.chain e.packet n in
    asks_before was full _ e.offload (bind from then) (bind between then) new host mid host_after a words asked none sized (gone_bind from between (did_by a words) then g) h
fill_before was full purpose.Delivery e from between new host mid host_after a words asked none sized g h =
    let then = arrived e.state in
    asks_before was full _ e.offload (bind from then) (bind between then) new host mid host_after a words asked none sized (gone_bind from between (did_by a words) then g) h

-- Several that take no answer and no words.
pub fill_all : {H : Type 0} (was : H → Ask → List ℕ → H → Type 0) (full : H → Type 0) (p : Purpose) (e : Beside) (from between : Steps TransmitOutcome) (new : EngineAt) (all : List Ask) (host mid host_after : H) →
    WasAskedAll was host (plain_all all) mid → AreChained all → LedBy from (did_all all []) between → FillLeads was full p e between new mid host_after → FillLeads was full p e from new host host_after
fill_all was full (purpose.Back n) e from between new all host mid host_after asked chained g h =
    let then = after_transmit e.wires e.state e.chain e.packet n in
    asks_all was full _ e.offload (bind from then) (bind between then) new all host mid host_after asked chained (gone_bind from between (did_all all []) then g) h
fill_all was full purpose.Delivery e from between new all host mid host_after asked chained g h =
    let then = arrived e.state in
    asks_all was full _ e.offload (bind from then) (bind between then) new all host mid host_after asked chained (gone_bind from between (did_all all []) then g) h
