-- A step from a stage, by what is under way there.
use Rattle.std.proofs.Common.{◌≡◌, ℕ, zero, suc, List, [], ◌∷◌, length, refl, sym, ap, subst, true, false}
use Rattle.std.specs.Prelude.{Option}
use Rattle.bpf_note.specs.declared.op.Op.{Op as Operation}
use Rattle.xen_netif.specs.declared.offload.RxOffload.{RxOffload}
use Rattle.xen_netif.specs.declared.offload.RxOffload.TheVariants.{Whole}
use Rattle.xen_page.specs.Mapping.{frame_place}
use Rattle.xen_page.specs.declared.place.Place.{Place}
use Rattle.xen_steps.specs.Pages.{AreWords}
use Rattle.xen_steps.specs.Steps.{Steps, ask, bind, done, never}
use Rattle.xen_rx_fill.specs.declared.by_event.phase.TransmitOutcome.{TransmitOutcome}
use Rattle.xen_turns.specs.Deliveries.{arrived}
use Rattle.xen_turns.specs.Tree.{after_transmit}
use Rattle.xen_host.specs.Fed.{AsksReads, fed}
use Rattle.xen_host.specs.Asks.{Ask}
use Rattle.xen_host.specs.HostLed.{AfterAnswer, DeliveryLeads, FillGoesOn, GoesOnAt, TurnRanLeads, WaitLeads}
use Rattle.xen_host.specs.Hosts.{WasGiven}
use Rattle.xen_host.specs.Rest.{due_filling, due_in, offload_after, is_delivering, is_stepping, is_turning, is_waiting, reads_filling, reads_in, rest_filling, rest_in, rest_of_delivery, rest_of_wait}
use Rattle.xen_host.specs.EngineAt.{EngineAt}
use Rattle.xen_host.specs.declared.stage.Fill.{Fill}
use Rattle.xen_host.specs.declared.stage.Purpose.{Purpose}
use Rattle.xen_host.specs.declared.stage.Purpose.TheVariants as purpose
use Rattle.xen_host.specs.declared.stage.Stage.{Stage}
use Rattle.xen_host.specs.declared.stage.Stage.TheVariants as stage
use Rattle.xen_host.proofs.EndLemmas.{reads_of_fill}
use Rattle.xen_host.proofs.HostLedLemmas.{asked_from}
use Rattle.xen_host.proofs.RanLedLemmas.{ran_led}

-- words that are read before another computation
fed_bind : {A B : Type 0} (at : Place) (s : Steps A) (f : A → Steps B) (vs : List ℕ) → AsksReads at (length vs) s → fed (bind s f) vs ≡ bind (fed s vs) f
fed_bind at s f [] h = refl
fed_bind at (done x) f (v ∷ vs) h = cc h.0
fed_bind at (ask w k) f (v ∷ vs) h = fed_bind (frame_place at) (k v) f vs (h.1 v)
fed_bind at never f (v ∷ vs) h = cc h.0

fed_fill : {B : Type 0} (q : EngineAt) (o : RxOffload) (f : Fill) (then : TransmitOutcome → Steps B) (words : List ℕ) → length words ≡ reads_filling f →
    bind (fed (rest_filling q.wires.vif q.state.rx_index o f q.work) words) then ≡ fed {A = B} (bind (rest_filling q.wires.vif q.state.rx_index o f q.work) then) words
fed_fill q o f then words e =
    let s = rest_filling q.wires.vif q.state.rx_index o f q.work in
    let at = due_filling q.wires.vif q.state.rx_index f q.work in
    sym (fed_bind at s then words (subst (λ k. AsksReads at k s) (sym e) (reads_of_fill q.wires.vif q.state.rx_index o f q.work)))

pub given_length : {H : Type 0} (gave : H → Place → List ℕ → H → Type 0) (at : Place) (n : ℕ) (host mid : H) (words : List ℕ) → WasGiven gave at n host words mid → length words ≡ n
given_length gave at zero host mid words g = ap (λ (l : List ℕ). length l) g.0
given_length gave at (suc n) host mid words g = g.0

pub fill_goes : {H : Type 0} (was : H → Ask → List ℕ → H → Type 0) (full : H → Type 0) (gave : H → Place → List ℕ → H → Type 0) (f : Fill) (p : Purpose) (old new : EngineAt) (went : List (Option Operation) → Type 0) (host host_after : H) → went [] →
    FillGoesOn was full gave f p old new host host_after → GoesOnAt was full gave (stage.Fill f p) old new went host host_after
fill_goes was full gave f (purpose.Back n) old new went host host_after none h = record {
  words = h.words;
  mid = h.mid;
  given = h.given;
  led = ran_led _ _ _ _ _ _ _ _ _ none (fed_fill old Whole f (after_transmit old.wires old.state old.work.chain old.work.packet n) h.words (given_length gave _ _ host h.mid h.words h.given)) h.led;
}
fill_goes was full gave f purpose.Delivery old new went host host_after none h = (
  record {
    words = h.words;
    mid = h.mid;
    given = h.given;
    led = asked_from _ _ _ _ _ _ _ _ _ (fed_fill old old.work.offload f (arrived old.state) h.words (given_length gave _ _ host h.mid h.words h.given)) h.led;
  },
  none,
)

pub given_words : {H : Type 0} (gave : H → Place → List ℕ → H → Type 0) (at : Place) (n : ℕ) (host mid : H) (words : List ℕ) → WasGiven gave at n host words mid → AreWords words
given_words gave at zero host mid words g = subst (λ (l : List ℕ). AreWords l) (sym g.0) tt
given_words gave at (suc n) host mid words g = g.2

-- ---- what is under way at a stage

-- What is under way at a stage, and what is asked after the words that it waits for.
module _ {H : Type 0} (was : H → Ask → List ℕ → H → Type 0) (full : H → Type 0) (gave : H → Place → List ℕ → H → Type 0) (g : Stage) (old new : EngineAt) (went : List (Option Operation) → Type 0) (host host_after : H) where
  pub record AtTurn : Type 0 where
    pub turning : is_turning g ≡ true
    pub not_delivering : is_delivering g ≡ false
    pub not_waiting : is_waiting g ≡ false
    pub led : AfterAnswer gave (due_in old.wires old.state g old.work) (reads_in g) (λ words mid. TurnRanLeads was full (offload_after old.wires.offers g old.work words old.offload) (fed (rest_in old.wires old.state g old.work) words) new went mid host_after) host

  pub record AtDelivery : Type 0 where
    pub not_turning : is_turning g ≡ false
    pub delivering : is_delivering g ≡ true
    pub not_waiting : is_waiting g ≡ false
    pub offload : (words : List ℕ) → offload_after old.wires.offers g old.work words old.offload ≡ old.offload
    pub led : AfterAnswer gave (due_in old.wires old.state g old.work) (reads_in g) (λ words mid. DeliveryLeads was full old.offload old.work.packet (fed (rest_of_delivery old.wires.vif old.state g old.work) words) new mid host_after) host
    pub counters : went []

  pub record AtWait : Type 0 where
    pub not_turning : is_turning g ≡ false
    pub not_delivering : is_delivering g ≡ false
    pub waiting : is_waiting g ≡ true
    pub offload : (words : List ℕ) → offload_after old.wires.offers g old.work words old.offload ≡ old.offload
    pub led : AfterAnswer gave (due_in old.wires old.state g old.work) (reads_in g) (λ words mid. WaitLeads was full old.offload old.work.packet (fed (rest_of_wait old.wires.vif.rx old.state g) words) new mid host_after) host
    pub counters : went []

  pub data Under : Type 0 where
    nothing : is_stepping g ≡ false → (new ≡ old) × (host_after ≡ host) × went [] → Under
    turn : AtTurn → Under
    delivery : AtDelivery → Under
    wait : AtWait → Under

-- Nothing was waited for.
unanswered : {H : Type 0} {gave : H → Place → List ℕ → H → Type 0} {at : Place} (then : List ℕ → H → Type 0) (host : H) → then [] host → AfterAnswer gave at 0 then host
unanswered then host h = record { words = []; mid = host; given = (refl, refl); led = h }

pub under : {H : Type 0} {was : H → Ask → List ℕ → H → Type 0} {full : H → Type 0} {gave : H → Place → List ℕ → H → Type 0} {host host_after : H} (g : Stage) (old new : EngineAt) (went : List (Option Operation) → Type 0) →
    GoesOnAt was full gave g old new went host host_after → Under was full gave g old new went host host_after
under stage.Ready old new went h = nothing refl h
under stage.Announce old new went h = turn (record { turning = refl; not_delivering = refl; not_waiting = refl; led = h })
under (stage.Slot left) old new went h = turn (record { turning = refl; not_delivering = refl; not_waiting = refl; led = h })
under (stage.Entry i at) old new went h = turn (record { turning = refl; not_delivering = refl; not_waiting = refl; led = h })
under (stage.Page i f frame) old new went h = turn (record { turning = refl; not_delivering = refl; not_waiting = refl; led = h })
under (stage.Fill f (purpose.Back n)) old new went h = turn (record { turning = refl; not_delivering = refl; not_waiting = refl; led = h })
under (stage.Fill f purpose.Delivery) old new went h = delivery (record { not_turning = refl; delivering = refl; not_waiting = refl; offload = λ words. refl; led = h.0; counters = h.1 })
under (stage.Respond i) old new went h = turn (record { turning = refl; not_delivering = refl; not_waiting = refl; led = h })
under stage.Push old new went h = turn (record { turning = refl; not_delivering = refl; not_waiting = refl; led = h })
under stage.Notice old new went h = turn (record { turning = refl; not_delivering = refl; not_waiting = refl; led = h })
under {host = host} (stage.Deliver producer) old new went h = delivery (record { not_turning = refl; delivering = refl; not_waiting = refl; offload = λ words. refl; led = unanswered _ host h.0; counters = h.1 })
under {host = host} (stage.Wait pages) old new went h = wait (record { not_turning = refl; not_delivering = refl; waiting = refl; offload = λ words. refl; led = unanswered _ host h.0; counters = h.1 })
under (stage.WaitLook pages) old new went h = wait (record { not_turning = refl; not_delivering = refl; waiting = refl; offload = λ words. refl; led = h.0; counters = h.1 })
under stage.Several old new went h = nothing refl h
