-- What is left comes to its end, and what is asked lies in the frames.
use Rattle.std.proofs.Common.{◌≡◌, ℕ, ◌⊎◌, inl, inr, List, [], ◌∷◌, ◌++◌, length, drop, refl, sym, subst, true}
use Rattle.std.specs.Prelude.{◌/◌}
use Rattle.xen_host.specs.Offload.{Offload}
use Rattle.xen_netif.specs.declared.offload.RxOffload.{RxOffload}
use Rattle.xen_netif.specs.declared.offload.RxOffload.TheVariants.{Whole}
use Rattle.xen_steps.specs.Drive.{LedBy, IsPageWant}
use Rattle.xen_steps.specs.Finish.{Finishes}
use Rattle.xen_steps.specs.Pages.{AreWords, covered}
use Rattle.xen_steps.specs.Places.{add32}
use Rattle.xen_steps.specs.Steps.{Steps}
use Rattle.xen_steps.specs.declared.want.Want.{Want}
use Rattle.xen_steps.proofs.FinishLemmas.{finishes_gone}
use Rattle.xen_rx_fill.specs.Packets.{takes_extra}
use Rattle.xen_rx_fill.specs.Transmit.{after_targets, read_targets, requested}
use Rattle.xen_rx_fill.specs.declared.vif.Vif.{Vif}
use Rattle.xen_turns.specs.Deliveries.{Arrival, arrived}
use Rattle.xen_netif.specs.Chain.{Slot}
use Rattle.xen_netif.specs.Standing.{standing}
use Rattle.xen_turns.specs.Tree.{after_copy, after_scan, after_transmit, copy, judged, read_slots}
use Rattle.xen_turns.specs.Turned.{Ending}
use Rattle.xen_turns.specs.Waits.{Wait}
use Rattle.xen_turns.specs.Within.{Completes, may_want}
use Rattle.xen_turns.specs.declared.state.State.{State}
use Rattle.xen_turns.specs.declared.wiring.Wiring.{Wiring}
use Rattle.xen_turns.specs.declared.delivery.wait.Awaited.{Awaited}
use Rattle.xen_turns.specs.declared.delivery.delivering.Delivery.{Delivery}
use Rattle.xen_turns.specs.declared.turn.Kind.{Kind}
use Rattle.xen_host.specs.Asks.{AllInPages, AllSized, Ask, IsInPages, IsSized, did_by, reads_at}
use Rattle.xen_host.specs.Asks as ask
use Rattle.xen_host.specs.Buses.{AllHeld, IsHeld}
use Rattle.xen_host.specs.Completing.{Arriving, TaskCompletes, Waiting}
use Rattle.xen_host.specs.Fed.{AsksReads, WaitsFor, fed}
use Rattle.xen_host.specs.HostLed.{HostLed}
use Rattle.xen_host.specs.Hosts.{Asked, asks_of, events_of}
use Rattle.xen_host.specs.Led.{DeliveryEnds, IsOn, IsTurnOver, TurnEnds, WaitEnds}
use Rattle.xen_host.specs.Told.{IsToldAt}
use Rattle.xen_host.specs.Rest.{due_filling, due_in, is_delivering, is_turning, is_waiting, reads_filling, reads_in, rest_filling, rest_in, rest_of_delivery, rest_of_wait}
use Rattle.xen_host.specs.EngineAt.{EngineAt, WorkAt}
use Rattle.xen_host.specs.declared.stage.Fill.{Fill}
use Rattle.xen_host.specs.declared.stage.Fill.TheVariants as fill
use Rattle.xen_host.specs.declared.stage.Purpose.TheVariants as purpose
use Rattle.xen_host.specs.declared.stage.Stage.{Stage}
use Rattle.xen_host.specs.declared.stage.Stage.TheVariants as stage
use Rattle.xen_host.proofs.AskLemmas.{asks_post, asks_slot, asks_words, reads_bind}
use Rattle.xen_host.proofs.StepLemmas.{AreInPages, all_within, last_within, page_pages, read_led, turn_pages}

-- ---- what is waited for

pub reads_of_fill : (w : Vif) (x : ℕ) (o : RxOffload) (f : Fill) (b : WorkAt) → AsksReads (due_filling w x f b) (reads_filling f) (rest_filling w x o f b)
reads_of_fill w x o fill.Producer b = (refl, λ a. tt)
reads_of_fill w x o (fill.Slot left) b = asks_post w (add32 x (length b.targets)) (requested w (takes_extra o (length b.targets)) b.targets (read_targets w x o left)) (after_targets w x o b.packet)
reads_of_fill w x o (fill.Grant left id at) b = (refl, λ a. (refl, λ c. tt))
reads_of_fill w x o (fill.Words i) b = tt
reads_of_fill w x o (fill.Respond grants i) b = tt
reads_of_fill w x o (fill.Push grants) b = (refl, λ a. tt)
reads_of_fill w x o (fill.Notice grants) b = tt

pub reads_of_turn : (w : Wiring) (s : State) (g : Stage) (b : WorkAt) → is_turning g ≡ true → AsksReads (due_in w s g b) (reads_in g) (rest_in w s g b)
reads_of_turn w s stage.Ready b t = cc t
reads_of_turn w s stage.Announce b t = (refl, λ a. tt)
reads_of_turn w s (stage.Slot left) b t = asks_slot w (add32 s.tx_index (length b.chain)) (λ (slot : Slot). judged (b.chain ++ slot ∷ []) (standing (b.chain ++ slot ∷ [])) (read_slots w s.tx_index left (b.chain ++ slot ∷ []))) (after_scan w s)
reads_of_turn w s (stage.Entry i at) b t = (refl, λ a. (refl, λ c. tt))
reads_of_turn w s (stage.Page i f frame) b t = asks_words f frame (f.offset / 4) (covered f) b.packet (copy w (drop i b.fragments)) (after_copy w s b.chain)
reads_of_turn w s (stage.Fill f (purpose.Back n)) b t = reads_bind _ (reads_filling f) (rest_filling w.vif s.rx_index Whole f b) (after_transmit w s b.chain b.packet n) (reads_of_fill w.vif s.rx_index Whole f b)
reads_of_turn w s (stage.Fill f purpose.Delivery) b t = cc t
reads_of_turn w s (stage.Respond i) b t = tt
reads_of_turn w s stage.Push b t = (refl, λ a. tt)
reads_of_turn w s stage.Notice b t = tt
reads_of_turn w s (stage.Deliver producer) b t = cc t
reads_of_turn w s (stage.Wait pages) b t = cc t
reads_of_turn w s (stage.WaitLook pages) b t = cc t
reads_of_turn w s stage.Several b t = cc t

pub reads_of_delivery : (w : Wiring) (s : State) (g : Stage) (b : WorkAt) → is_delivering g ≡ true → AsksReads (due_in w s g b) (reads_in g) (rest_of_delivery w.vif s g b)
reads_of_delivery w s stage.Ready b t = cc t
reads_of_delivery w s stage.Announce b t = cc t
reads_of_delivery w s (stage.Slot left) b t = cc t
reads_of_delivery w s (stage.Entry i at) b t = cc t
reads_of_delivery w s (stage.Page i f frame) b t = cc t
reads_of_delivery w s (stage.Fill f (purpose.Back n)) b t = cc t
reads_of_delivery w s (stage.Fill f purpose.Delivery) b t = reads_bind _ (reads_filling f) (rest_filling w.vif s.rx_index b.offload f b) (arrived s) (reads_of_fill w.vif s.rx_index b.offload f b)
reads_of_delivery w s (stage.Respond i) b t = cc t
reads_of_delivery w s stage.Push b t = cc t
reads_of_delivery w s stage.Notice b t = cc t
reads_of_delivery w s (stage.Deliver producer) b t = tt
reads_of_delivery w s (stage.Wait pages) b t = cc t
reads_of_delivery w s (stage.WaitLook pages) b t = cc t
reads_of_delivery w s stage.Several b t = cc t

pub reads_of_wait : (w : Wiring) (s : State) (g : Stage) (b : WorkAt) → is_waiting g ≡ true → AsksReads (due_in w s g b) (reads_in g) (rest_of_wait w.vif.rx s g)
reads_of_wait w s stage.Ready b t = cc t
reads_of_wait w s stage.Announce b t = cc t
reads_of_wait w s (stage.Slot left) b t = cc t
reads_of_wait w s (stage.Entry i at) b t = cc t
reads_of_wait w s (stage.Page i f frame) b t = cc t
reads_of_wait w s (stage.Fill f p) b t = cc t
reads_of_wait w s (stage.Respond i) b t = cc t
reads_of_wait w s stage.Push b t = cc t
reads_of_wait w s stage.Notice b t = cc t
reads_of_wait w s (stage.Deliver producer) b t = cc t
reads_of_wait w s (stage.Wait pages) b t = tt
reads_of_wait w s (stage.WaitLook pages) b t = (refl, λ a. tt)
reads_of_wait w s stage.Several b t = cc t

-- ---- what ends

-- a queue at a stage of a turn whose rest completes, and so on
pub turn_task : (w : Wiring) (s : State) (g : Stage) (b : WorkAt) → is_turning g ≡ true → Completes w (rest_in w s g b) → TaskCompletes w s g b
turn_task w s stage.Ready b t h = cc t
turn_task w s stage.Announce b t h = h
turn_task w s (stage.Slot left) b t h = h
turn_task w s (stage.Entry i at) b t h = h
turn_task w s (stage.Page i f frame) b t h = h
turn_task w s (stage.Fill f (purpose.Back n)) b t h = h
turn_task w s (stage.Fill f purpose.Delivery) b t h = cc t
turn_task w s (stage.Respond i) b t h = h
turn_task w s stage.Push b t h = h
turn_task w s stage.Notice b t h = h
turn_task w s (stage.Deliver producer) b t h = cc t
turn_task w s (stage.Wait pages) b t h = cc t
turn_task w s (stage.WaitLook pages) b t h = cc t
turn_task w s stage.Several b t h = cc t

pub task_turn : (w : Wiring) (s : State) (g : Stage) (b : WorkAt) → is_turning g ≡ true → TaskCompletes w s g b → Completes w (rest_in w s g b)
task_turn w s stage.Ready b t h = cc t
task_turn w s stage.Announce b t h = h
task_turn w s (stage.Slot left) b t h = h
task_turn w s (stage.Entry i at) b t h = h
task_turn w s (stage.Page i f frame) b t h = h
task_turn w s (stage.Fill f (purpose.Back n)) b t h = h
task_turn w s (stage.Fill f purpose.Delivery) b t h = cc t
task_turn w s (stage.Respond i) b t h = h
task_turn w s stage.Push b t h = h
task_turn w s stage.Notice b t h = h
task_turn w s (stage.Deliver producer) b t h = cc t
task_turn w s (stage.Wait pages) b t h = cc t
task_turn w s (stage.WaitLook pages) b t h = cc t
task_turn w s stage.Several b t h = cc t

delivery_task : (w : Wiring) (s : State) (g : Stage) (b : WorkAt) → is_delivering g ≡ true → Arriving w s g b → TaskCompletes w s g b
delivery_task w s stage.Ready b t h = cc t
delivery_task w s stage.Announce b t h = cc t
delivery_task w s (stage.Slot left) b t h = cc t
delivery_task w s (stage.Entry i at) b t h = cc t
delivery_task w s (stage.Page i f frame) b t h = cc t
delivery_task w s (stage.Fill f (purpose.Back n)) b t h = cc t
delivery_task w s (stage.Fill f purpose.Delivery) b t h = h
delivery_task w s (stage.Respond i) b t h = cc t
delivery_task w s stage.Push b t h = cc t
delivery_task w s stage.Notice b t h = cc t
delivery_task w s (stage.Deliver producer) b t h = h
delivery_task w s (stage.Wait pages) b t h = cc t
delivery_task w s (stage.WaitLook pages) b t h = cc t
delivery_task w s stage.Several b t h = cc t

wait_task : (w : Wiring) (s : State) (g : Stage) (b : WorkAt) → is_waiting g ≡ true → Waiting w s g → TaskCompletes w s g b
wait_task w s stage.Ready b t h = cc t
wait_task w s stage.Announce b t h = cc t
wait_task w s (stage.Slot left) b t h = cc t
wait_task w s (stage.Entry i at) b t h = cc t
wait_task w s (stage.Page i f frame) b t h = cc t
wait_task w s (stage.Fill f p) b t h = cc t
wait_task w s (stage.Respond i) b t h = cc t
wait_task w s stage.Push b t h = cc t
wait_task w s stage.Notice b t h = cc t
wait_task w s (stage.Deliver producer) b t h = cc t
wait_task w s (stage.Wait pages) b t h = h
wait_task w s (stage.WaitLook pages) b t h = h
wait_task w s stage.Several b t h = cc t

pub ready_task : (w : Wiring) (s : State) (g : Stage) (b : WorkAt) → g ≡ stage.Ready → TaskCompletes w s g b
ready_task w s g b e = subst (λ (x : Stage). TaskCompletes w s x b) (sym e) tt

-- ---- where a step ends

pub turn_split : (e : EngineAt) (last : Ask) (left : Steps Ending) → TurnEnds e last left →
    ((k : Kind) × (last ≡ ask.TurnOver k) × IsTurnOver e k left) ⊎ IsOn (rest_in e.wires e.state e.stage e.work) (reads_in e.stage) (is_turning e.stage) (IsToldAt e.wires.vif.table.now e.stage) last left
turn_split e (ask.TurnOver k) left h = inl (k, refl, h)
turn_split e (ask.Read at count) left h = inr h
turn_split e (ask.Entry at reference rights) left h = inr h
turn_split e (ask.Write at count) left h = inr h
turn_split e (ask.Store at word) left h = inr h
turn_split e (ask.StoreTwo at x y) left h = inr h
turn_split e (ask.Push at word read) left h = inr h
turn_split e (ask.Notify port) left h = inr h
turn_split e (ask.DeliveryOver what) left h = inr h
turn_split e (ask.WaitOver what) left h = inr h

pub delivery_split : (packet : List ℕ) (e : EngineAt) (last : Ask) (left : Steps Arrival) → DeliveryEnds packet e last left →
    ((what : Delivery) × (last ≡ ask.DeliveryOver what) × (e.stage ≡ stage.Ready)) ⊎ IsOn (rest_of_delivery e.wires.vif e.state e.stage e.work) (reads_in e.stage) (is_delivering e.stage) (IsToldAt e.wires.vif.table.now e.stage) last left
delivery_split packet e (ask.DeliveryOver what) left h = inl (what, refl, h.1)
delivery_split packet e (ask.Read at count) left h = inr h.0
delivery_split packet e (ask.Entry at reference rights) left h = inr h.0
delivery_split packet e (ask.Write at count) left h = inr h.0
delivery_split packet e (ask.Store at word) left h = inr h.0
delivery_split packet e (ask.StoreTwo at x y) left h = inr h.0
delivery_split packet e (ask.Push at word read) left h = inr h.0
delivery_split packet e (ask.Notify port) left h = inr h.0
delivery_split packet e (ask.TurnOver k) left h = inr h.0
delivery_split packet e (ask.WaitOver what) left h = inr h.0

pub wait_split : (packet : List ℕ) (e : EngineAt) (last : Ask) (left : Steps Wait) → WaitEnds packet e last left →
    ((what : Awaited) × (last ≡ ask.WaitOver what) × (e.stage ≡ stage.Ready)) ⊎ IsOn (rest_of_wait e.wires.vif.rx e.state e.stage) (reads_in e.stage) (is_waiting e.stage) (IsToldAt e.wires.vif.table.now e.stage) last left
wait_split packet e (ask.WaitOver what) left h = inl (what, refl, h.1)
wait_split packet e (ask.Read at count) left h = inr h.0
wait_split packet e (ask.Entry at reference rights) left h = inr h.0
wait_split packet e (ask.Write at count) left h = inr h.0
wait_split packet e (ask.Store at word) left h = inr h.0
wait_split packet e (ask.StoreTwo at x y) left h = inr h.0
wait_split packet e (ask.Push at word read) left h = inr h.0
wait_split packet e (ask.Notify port) left h = inr h.0
wait_split packet e (ask.TurnOver k) left h = inr h.0
wait_split packet e (ask.DeliveryOver what) left h = inr h.0

sized_last : (first : List Asked) (last : Asked) → AllSized (asks_of (first ++ last ∷ [])) → IsSized last.ask
sized_last [] last h = h.0
sized_last (a ∷ first) last h = sized_last first last h.1

held_last : (first : List Asked) (last : Asked) → AllHeld (first ++ last ∷ []) → IsHeld last.ask last.words
held_last [] last h = h.0
held_last (a ∷ first) last h = held_last first last h.1

-- What is asked last is waited for, or lies in the frames by itself.
abbrev pub IsMet : {A : Type 0} → ℕ → Ask → Steps A → Type 0
IsMet frames last left = ((n : ℕ) × WaitsFor last n left) ⊎ IsInPages frames last

-- what a step asks lies in the frames, and what it leaves finishes
pub record EndsWell {A : Type 0} (frames : ℕ) (within : Want → Type 0) (all : List Asked) (left : Steps A) : Type 0 where
  pub inside : AllHeld all → AllInPages frames (asks_of all)
  pub finishes : Finishes within left

pub ends_well : {H A : Type 0} {was : H → Ask → List ℕ → H → Type 0} {full : H → Type 0} {host host_after : H} (frames : ℕ) (within : Want → Type 0) → AreInPages frames within →
    (ends : Ask → Steps A → Type 0) (offload : Offload) (from : Steps A) (new : EngineAt) (h : HostLed was full ends offload from new host host_after) → IsMet frames h.last.ask h.left → Finishes within from →
    EndsWell frames within (h.first ++ h.last ∷ []) h.left
ends_well {A = A} frames within in_pages ends offload from new h met f = record {
  inside = λ held. all_within frames within in_pages h.first h.last from h.left held h.sized h.take_none h.gone (last_met held met) f;
  finishes = finishes_gone within from h.left (events_of (h.first ++ h.last ∷ [])) f h.gone;
}
  where
    last_met : AllHeld (h.first ++ h.last ∷ []) → IsMet frames h.last.ask h.left → (m : Steps A) → LedBy m (did_by h.last.ask h.last.words) h.left → Finishes within m → IsInPages frames h.last.ask
    last_met held (inl x) m g k = last_within frames within in_pages h.last.ask x.0 h.last.words m h.left (held_last h.first h.last held) (sized_last h.first h.last h.sized) g x.1 k
    last_met held (inr p) m g k = p

-- A step's end.
pub record Ended (frames : ℕ) (e : EngineAt) (all : List Asked) : Type 0 where
  pub inside : AllHeld all → AllInPages frames (asks_of all)
  pub task : TaskCompletes e.wires e.state e.stage e.work

-- What is over takes no words of a page.
over_met : {A : Type 0} (frames : ℕ) (last over : Ask) (left : Steps A) → last ≡ over → IsInPages frames over → IsMet frames last left
over_met frames last over left is p = inr (subst (λ (a : Ask). IsInPages frames a) (sym is) p)

pub turn_ended : {H : Type 0} {was : H → Ask → List ℕ → H → Type 0} {full : H → Type 0} {host host_after : H} (w : Wiring) (offload : Offload) (from : Steps Ending) (new : EngineAt) →
    new.wires ≡ w → (h : HostLed was full (TurnEnds new) offload from new host host_after) → Completes w from → Ended (length w.vif.owners.now) new (h.first ++ h.last ∷ [])
turn_ended w offload from new same h c = by (turn_split new h.last.ask h.left h.is_end)
  where
    frames : ℕ
    frames = length w.vif.owners.now

    well : IsMet frames h.last.ask h.left → EndsWell frames (may_want w) (h.first ++ h.last ∷ []) h.left
    well met = ends_well frames (may_want w) (turn_pages frames w.program.now.shapes) (TurnEnds new) offload from new h met c

    by : ((k : Kind) × (h.last.ask ≡ ask.TurnOver k) × IsTurnOver new k h.left) ⊎ IsOn (rest_in new.wires new.state new.stage new.work) (reads_in new.stage) (is_turning new.stage) (IsToldAt new.wires.vif.table.now new.stage) h.last.ask h.left → Ended frames new (h.first ++ h.last ∷ [])
    by (inl x) = record { inside = (well (over_met frames h.last.ask (ask.TurnOver x.0) h.left x.1 tt)).inside; task = ready_task new.wires new.state new.stage new.work x.2.ready }
    by (inr on) =
        let r = well (inl (reads_in new.stage, on.waits)) in
        let there = subst (λ (x : Wiring). Completes x h.left) (sym same) r.finishes in
        record { inside = r.inside; task = turn_task new.wires new.state new.stage new.work on.is_here (subst (λ (x : Steps Ending). Completes new.wires x) on.is_rest there) }

pub delivery_ended : {H : Type 0} {was : H → Ask → List ℕ → H → Type 0} {full : H → Type 0} {host host_after : H} (w : Wiring) (offload : Offload) (packet : List ℕ) (from : Steps Arrival) (new : EngineAt) →
    new.wires ≡ w → (h : HostLed was full (DeliveryEnds packet new) offload from new host host_after) → Finishes (IsPageWant (length w.vif.owners.now)) from → Ended (length w.vif.owners.now) new (h.first ++ h.last ∷ [])
delivery_ended w offload packet from new same h c = by (delivery_split packet new h.last.ask h.left h.is_end)
  where
    frames : ℕ
    frames = length w.vif.owners.now

    well : IsMet frames h.last.ask h.left → EndsWell frames (IsPageWant frames) (h.first ++ h.last ∷ []) h.left
    well met = ends_well frames (IsPageWant frames) (page_pages frames) (DeliveryEnds packet new) offload from new h met c

    by : ((what : Delivery) × (h.last.ask ≡ ask.DeliveryOver what) × (new.stage ≡ stage.Ready)) ⊎ IsOn (rest_of_delivery new.wires.vif new.state new.stage new.work) (reads_in new.stage) (is_delivering new.stage) (IsToldAt new.wires.vif.table.now new.stage) h.last.ask h.left → Ended frames new (h.first ++ h.last ∷ [])
    by (inl x) = record { inside = (well (over_met frames h.last.ask (ask.DeliveryOver x.0) h.left x.1 tt)).inside; task = ready_task new.wires new.state new.stage new.work x.2 }
    by (inr on) =
        let r = well (inl (reads_in new.stage, on.waits)) in
        let there = subst (λ (x : Wiring). Finishes (IsPageWant (length x.vif.owners.now)) h.left) (sym same) r.finishes in
        record { inside = r.inside; task = delivery_task new.wires new.state new.stage new.work on.is_here (subst (λ (x : Steps Arrival). Finishes (IsPageWant (length new.wires.vif.owners.now)) x) on.is_rest there) }

pub wait_ended : {H : Type 0} {was : H → Ask → List ℕ → H → Type 0} {full : H → Type 0} {host host_after : H} (w : Wiring) (offload : Offload) (packet : List ℕ) (from : Steps Wait) (new : EngineAt) →
    new.wires ≡ w → (h : HostLed was full (WaitEnds packet new) offload from new host host_after) → Finishes (IsPageWant (length w.vif.owners.now)) from → Ended (length w.vif.owners.now) new (h.first ++ h.last ∷ [])
wait_ended w offload packet from new same h c = by (wait_split packet new h.last.ask h.left h.is_end)
  where
    frames : ℕ
    frames = length w.vif.owners.now

    well : IsMet frames h.last.ask h.left → EndsWell frames (IsPageWant frames) (h.first ++ h.last ∷ []) h.left
    well met = ends_well frames (IsPageWant frames) (page_pages frames) (WaitEnds packet new) offload from new h met c

    by : ((what : Awaited) × (h.last.ask ≡ ask.WaitOver what) × (new.stage ≡ stage.Ready)) ⊎ IsOn (rest_of_wait new.wires.vif.rx new.state new.stage) (reads_in new.stage) (is_waiting new.stage) (IsToldAt new.wires.vif.table.now new.stage) h.last.ask h.left → Ended frames new (h.first ++ h.last ∷ [])
    by (inl x) = record { inside = (well (over_met frames h.last.ask (ask.WaitOver x.0) h.left x.1 tt)).inside; task = ready_task new.wires new.state new.stage new.work x.2 }
    by (inr on) =
        let r = well (inl (reads_in new.stage, on.waits)) in
        let there = subst (λ (x : Wiring). Finishes (IsPageWant (length x.vif.owners.now)) h.left) (sym same) r.finishes in
        record { inside = r.inside; task = wait_task new.wires new.state new.stage new.work on.is_here (subst (λ (x : Steps Wait). Finishes (IsPageWant (length new.wires.vif.owners.now)) x) on.is_rest there) }

-- What is answered to what was asked last finishes too.
pub fed_turn : (w : Wiring) (s : State) (g : Stage) (b : WorkAt) (words : List ℕ) → AreWords words → length words ≡ reads_in g → is_turning g ≡ true → TaskCompletes w s g b → Completes w (fed (rest_in w s g b) words)
fed_turn w s g b words below n t c =
    let rest = rest_in w s g b in
    let at = due_in w s g b in
    finishes_gone (may_want w) rest (fed rest words) (reads_at at words) (task_turn w s g b t c) (read_led rest at (reads_in g) words below n (reads_of_turn w s g b t))

pub fed_delivery : (w : Wiring) (s : State) (g : Stage) (b : WorkAt) (words : List ℕ) → AreWords words → length words ≡ reads_in g → is_delivering g ≡ true → Arriving w s g b → Finishes (IsPageWant (length w.vif.owners.now)) (fed (rest_of_delivery w.vif s g b) words)
fed_delivery w s g b words below n t c =
    let rest = rest_of_delivery w.vif s g b in
    let at = due_in w s g b in
    finishes_gone (IsPageWant (length w.vif.owners.now)) rest (fed rest words) (reads_at at words) c (read_led rest at (reads_in g) words below n (reads_of_delivery w s g b t))

pub fed_wait : (w : Wiring) (s : State) (g : Stage) (b : WorkAt) (words : List ℕ) → AreWords words → length words ≡ reads_in g → is_waiting g ≡ true → Waiting w s g → Finishes (IsPageWant (length w.vif.owners.now)) (fed (rest_of_wait w.vif.rx s g) words)
fed_wait w s g b words below n t c =
    let rest = rest_of_wait w.vif.rx s g in
    let at = due_in w s g b in
    finishes_gone (IsPageWant (length w.vif.owners.now)) rest (fed rest words) (reads_at at words) c (read_led rest at (reads_in g) words below n (reads_of_wait w s g b t))
