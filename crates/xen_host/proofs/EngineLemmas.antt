-- A step of an engine: what it is of goes on, and the engine stays as it has to be.
use Rattle.std.proofs.Common.{◌≡◌, ℕ, ◌<◌, List, [], ◌∷◌, ◌++◌, length, map, refl, sym, ◌∙◌, subst, true}
use Rattle.std.specs.Prelude.{None, Option, Some, IsSome}
use Rattle.std.specs.Prelude.{◌^◌, Bool}
use Rattle.xen_netif.specs.declared.offload.Accepts.{Accepts}
use Rattle.xen_netif.specs.declared.offload.RxOffload.{RxOffload}
use Rattle.xen_page.specs.declared.place.Place.{Place}
use Rattle.xen_steps.specs.Drive.{LedBy, IsPageWant}
use Rattle.xen_steps.specs.Event.{Read}
use Rattle.xen_steps.specs.Steps.{next}
use Rattle.xen_steps.proofs.DriveLemmas.{gone_append}
use Rattle.xen_rx_fill.specs.Places.{rx_word, tx_word}
use Rattle.xen_rx_fill.specs.declared.vif.Vif.{Vif}
use Rattle.xen_rx_fill.proofs.Bounds.{frame_inside}
use Rattle.xen_turns.specs.Delivered.{IsDeliverable}
use Rattle.xen_turns.specs.Deliveries.{if_frame, if_taken, unless_halted as delivery_by, whole_delivery}
use Rattle.xen_turns.specs.Tree.{unless_halted as turn_by, whole_turn}
use Rattle.xen_turns.specs.declared.turn.Halt.{Halt}
use Rattle.xen_turns.specs.declared.wiring.Wiring.{Wiring}
use Rattle.xen_turns.proofs.ArriveLemmas.{arrives}
use Rattle.xen_turns.proofs.WaitLemmas.{wait_ends}
use Rattle.xen_host.specs.Asks.{Ask}
use Rattle.xen_steps.proofs.FinishLemmas.{finishes_gone}
use Rattle.xen_rx_fill.specs.Wired.{IsWired}
use Rattle.xen_turns.specs.Program.{event_of}
use Rattle.xen_turns.specs.Within.{Completes, TurnsComplete, may_want}
use Rattle.xen_turns.specs.declared.state.State.{State}
use Rattle.xen_host.specs.Completing.{Arriving, TaskCompletes, Waiting}
use Rattle.xen_host.specs.Fed.{fed}
use Rattle.xen_host.specs.Fits.{Fits}
use Rattle.xen_host.specs.HostLed.{GoesOnAt, TurnLeads}
use Rattle.xen_host.specs.Hosts.{events_of}
use Rattle.xen_host.specs.Stands.{Stands}
use Rattle.xen_host.specs.StepsAt.{BeginsAt, StepsAt}
use Rattle.xen_host.specs.UnderWay.{IsBegunAt, IsWaitBegunAt, between, first_read, resting_at}
use Rattle.xen_host.specs.Rest.{is_delivering, is_stepping, is_waiting, no_offload, rest_in}
use Rattle.xen_host.specs.EngineAt.{EngineAt, WorkAt}
use Rattle.bpf_note.specs.declared.op.Op.{Op as Operation}
use Rattle.xen_host.specs.declared.stage.Purpose.TheVariants as purpose
use Rattle.xen_host.specs.declared.stage.Stage.{Stage}
use Rattle.xen_host.specs.declared.stage.Stage.TheVariants as stage
use Rattle.xen_host.proofs.EndLemmas.{Ended, delivery_ended, fed_delivery, fed_turn, fed_wait, turn_ended, wait_ended}
use Rattle.xen_host.proofs.StageLemmas.{AtDelivery, AtTurn, AtWait, Under, delivery, given_length, given_words, nothing, turn, under, wait}
use Rattle.xen_host.proofs.ToldLemmas.{delivery_told, turn_told, wait_told}
use Rattle.xen_host.proofs.TurnLemmas.{packet_there, rests, delivery_steps, turn_goes, turn_steps, wait_steps}

task_delivery : (w : Wiring) (s : State) (g : Stage) (b : WorkAt) → is_delivering g ≡ true → TaskCompletes w s g b → Arriving w s g b
task_delivery w s stage.Ready b t h = cc t
task_delivery w s stage.Announce b t h = cc t
task_delivery w s (stage.Slot left) b t h = cc t
task_delivery w s (stage.Entry i at) b t h = cc t
task_delivery w s (stage.Page i f frame) b t h = cc t
task_delivery w s (stage.Fill f (purpose.Back n)) b t h = cc t
task_delivery w s (stage.Fill f purpose.Delivery) b t h = h
task_delivery w s (stage.Respond i) b t h = cc t
task_delivery w s stage.Push b t h = cc t
task_delivery w s stage.Notice b t h = cc t
task_delivery w s (stage.Deliver producer) b t h = h
task_delivery w s (stage.Wait pages) b t h = cc t
task_delivery w s (stage.WaitLook pages) b t h = cc t
task_delivery w s stage.Several b t h = cc t

task_wait : (w : Wiring) (s : State) (g : Stage) (b : WorkAt) → is_waiting g ≡ true → TaskCompletes w s g b → Waiting w s g
task_wait w s stage.Ready b t h = cc t
task_wait w s stage.Announce b t h = cc t
task_wait w s (stage.Slot left) b t h = cc t
task_wait w s (stage.Entry i at) b t h = cc t
task_wait w s (stage.Page i f frame) b t h = cc t
task_wait w s (stage.Fill f p) b t h = cc t
task_wait w s (stage.Respond i) b t h = cc t
task_wait w s stage.Push b t h = cc t
task_wait w s stage.Notice b t h = cc t
task_wait w s (stage.Deliver producer) b t h = cc t
task_wait w s (stage.Wait pages) b t h = h
task_wait w s (stage.WaitLook pages) b t h = h
task_wait w s stage.Several b t h = cc t

wires_stand : (q : EngineAt) → Stands q → (w : Wiring) → w ≡ q.wires → IsWired w.vif × TurnsComplete w
wires_stand q st w e = subst (λ (x : Wiring). IsWired x.vif × TurnsComplete x) (sym e) (st.wired, st.turns)

module _ {H : Type 0} (was : H → Ask → List ℕ → H → Type 0) (full : H → Type 0) (gave : H → Place → List ℕ → H → Type 0) (host host_after : H) (old : EngineAt) (st : Stands old) (engine : EngineAt) (went : List (Option Operation) → Type 0)
    (same : engine.wires ≡ old.wires) (led : GoesOnAt was full gave old.stage old engine went host host_after) where
  -- after the run, what is left of a turn ends
  from : (t : AtTurn was full gave old.stage old engine went host host_after) → Completes old.wires t.led.led.between
  from t =
      let e = old in
      let a = t.led in
      finishes_gone (may_want old.wires) (fed (rest_in old.wires e.state e.stage e.work) a.words) a.led.between (map event_of a.led.ran.labels)
      (fed_turn e.wires e.state e.stage e.work a.words (given_words gave _ _ host a.mid a.words a.given) (given_length gave _ _ host a.mid a.words a.given) t.turning st.left) a.led.ran.gone

  turn_end : (t : AtTurn was full gave old.stage old engine went host host_after) → Ended (length old.wires.vif.owners.now) engine (t.led.led.led.first ++ t.led.led.led.last ∷ [])
  turn_end t = turn_ended old.wires _ t.led.led.between engine same t.led.led.led (from t)

  delivery_end : (t : AtDelivery was full gave old.stage old engine went host host_after) → Ended (length old.wires.vif.owners.now) engine (t.led.led.first ++ t.led.led.last ∷ [])
  delivery_end t =
      let e = old in
      let a = t.led in
      delivery_ended e.wires e.offload e.work.packet _ engine same a.led (fed_delivery e.wires e.state e.stage e.work a.words (given_words gave _ _ host a.mid a.words a.given) (given_length gave _ _ host a.mid a.words a.given)
      t.delivering (task_delivery e.wires e.state e.stage e.work t.delivering st.left))

  wait_end : (t : AtWait was full gave old.stage old engine went host host_after) → Ended (length old.wires.vif.owners.now) engine (t.led.led.first ++ t.led.led.last ∷ [])
  wait_end t =
      let e = old in
      let a = t.led in
      wait_ended e.wires e.offload e.work.packet _ engine same a.led (fed_wait e.wires e.state e.stage e.work a.words (given_words gave _ _ host a.mid a.words a.given) (given_length gave _ _ host a.mid a.words a.given)
      t.waiting (task_wait e.wires e.state e.stage e.work t.waiting st.left))

  pub step_stands : Stands engine
  step_stands = by (under old.stage old engine went led)
    where
      by : Under was full gave old.stage old engine went host host_after → Stands engine
      by (nothing e h) = subst Stands (sym h.0) st
      by (turn t) =
          let l = t.led.led.led in
          let w = wires_stand old st engine.wires same in
          record { fits = l.fits; wired = w.0; turns = w.1; left = (turn_end t).task }
      by (delivery t) =
          let l = t.led.led in
          let w = wires_stand old st engine.wires same in
          record { fits = l.fits; wired = w.0; turns = w.1; left = (delivery_end t).task }
      by (wait t) =
          let l = t.led.led in
          let w = wires_stand old st engine.wires same in
          record { fits = l.fits; wired = w.0; turns = w.1; left = (wait_end t).task }

-- and what is under way goes on
pub stepped_at : {H : Type 0} {was : H → Ask → List ℕ → H → Type 0} {full : H → Type 0} {gave : H → Place → List ℕ → H → Type 0} {host host_after : H} (old new : EngineAt) → Stands old → (went : List (Option Operation) → Type 0) (same : Type 0) → (went [] → same) → new.wires ≡ old.wires →
    GoesOnAt was full gave old.stage old new went host host_after → is_stepping old.stage ≡ true → StepsAt was full gave went same old new host host_after
stepped_at {was = was} {full = full} {gave = gave} {host = host} {host_after = host_after} old new st went none_same none same led busy = by (under old.stage old new went led)
  where
    by : Under was full gave old.stage old new went host host_after → StepsAt was full gave went none_same old new host host_after
    by (nothing e h) = absurd (cc (busy, e))
    by (turn t) =
        let a = t.led in
        let l = a.led.led in
        record {
          words = a.words;
          mid = a.mid;
          given = a.given;
          first = l.first;
          last = l.last;
          asked = l.asked;
          take_none = l.take_none;
          stops = l.stops;
          sized = l.sized;
          told = turn_told old.wires new l.last.ask l.left same l.is_end;
          within = (turn_end was full gave host host_after old st new went same led t).inside;
          wires = same;
          offload = l.offload_is;
          labels = a.led.ran.labels;
          history = a.led.ran.history;
          turn = turn_steps old new _ a.words went (given_words gave _ _ host a.mid a.words a.given) (given_length gave _ _ host a.mid a.words a.given) same a.led;
          delivery = λ s o packet trace asked token. absurd (cc (token.0.is_here, t.not_delivering));
          wait = λ s pages packet trace asked token. absurd (cc (token.0.is_here, t.not_waiting));
        }
    by (delivery t) =
        let a = t.led in
        let l = a.led in
        record {
          words = a.words;
          mid = a.mid;
          given = a.given;
          first = l.first;
          last = l.last;
          asked = l.asked;
          take_none = l.take_none;
          stops = l.stops;
          sized = l.sized;
          told = delivery_told old.wires old.work.packet new l.last.ask l.left same l.is_end;
          within = (delivery_end was full gave host host_after old st new went same led t).inside;
          wires = same;
          offload = l.offload_is ∙ sym (t.offload a.words);
          labels = [];
          history = t.counters;
          turn = λ s trace asked token. absurd (cc (token.is_here, t.not_turning));
          delivery = λ s o packet trace asked token.
              (delivery_steps old new old.offload a.words (given_words gave _ _ host a.mid a.words a.given) (given_length gave _ _ host a.mid a.words a.given) same l s o packet trace asked token, none t.counters);
          wait = λ s pages packet trace asked token. absurd (cc (token.0.is_here, t.not_waiting));
        }
    by (wait t) =
        let a = t.led in
        let l = a.led in
        record {
          words = a.words;
          mid = a.mid;
          given = a.given;
          first = l.first;
          last = l.last;
          asked = l.asked;
          take_none = l.take_none;
          stops = l.stops;
          sized = l.sized;
          told = wait_told old.wires old.work.packet new l.last.ask l.left same l.is_end;
          within = (wait_end was full gave host host_after old st new went same led t).inside;
          wires = same;
          offload = l.offload_is ∙ sym (t.offload a.words);
          labels = [];
          history = t.counters;
          turn = λ s trace asked token. absurd (cc (token.is_here, t.not_turning));
          delivery = λ s o packet trace asked token. absurd (cc (token.0.is_here, t.not_delivering));
          wait = λ s pages packet trace asked token.
              (wait_steps old new old.offload a.words (given_words gave _ _ host a.mid a.words a.given) (given_length gave _ _ host a.mid a.words a.given) same l s pages packet trace asked token, none t.counters);
        }

-- ---- what begins

first_led : (w : Wiring) (s : State) (producer : ℕ) → producer < 2 ^ 32 → (o : Option Halt) → s.halt ≡ o → LedBy (whole_turn w s) (first_read s.halt (Read (tx_word w.vif 0) producer)) (next (whole_turn w s) producer)
first_led w s producer small o e =
    subst (λ (x : Option Halt). LedBy (turn_by w s x) (first_read x (Read (tx_word w.vif 0) producer)) (next (turn_by w s x) producer)) (sym e) (by o)
  where
    by : (x : Option Halt) → LedBy (turn_by w s x) (first_read x (Read (tx_word w.vif 0) producer)) (next (turn_by w s x) producer)
    by None = (next (turn_by w s None) producer, (producer, (small, refl), refl), refl)
    by (Some cause) = refl

module _ {H : Type 0} {was : H → Ask → List ℕ → H → Type 0} {full : H → Type 0} {host host_after : H} (old : EngineAt) (st : Stands old) (engine : EngineAt) (producer : ℕ) (small : producer < 2 ^ 32) (same : engine.wires ≡ old.wires)
    (l : TurnLeads was full no_offload (next (whole_turn old.wires old.state) producer) engine host host_after) where
  -- what is left of a turn that begins ends
  begins : Ended (length old.wires.vif.owners.now) engine (l.first ++ l.last ∷ [])
  begins =
      let w = old.wires in
      let s = old.state in
      let whole = whole_turn w s in
      let c = finishes_gone (may_want w) whole (next whole producer) (first_read s.halt (Read (tx_word w.vif 0) producer)) (st.turns s) (first_led w s producer small s.halt refl) in
      turn_ended old.wires no_offload (next whole producer) engine same l c

  pub begun_stands : Stands engine
  begun_stands =
      let x = wires_stand old st engine.wires same in
      record { fits = l.fits; wired = x.0; turns = x.1; left = begins.task }

pub begun_at : {H : Type 0} {was : H → Ask → List ℕ → H → Type 0} {full : H → Type 0} {host host_after : H} (old new : EngineAt) → Stands old → (producer : ℕ) → producer < 2 ^ 32 → new.wires ≡ old.wires →
    TurnLeads was full no_offload (next (whole_turn old.wires old.state) producer) new host host_after → BeginsAt was full old new producer host host_after
begun_at old new st producer small same l =
    let w = old.wires in
    let s = old.state in
    let whole = whole_turn w s in
    let reads = first_read s.halt (Read (tx_word w.vif 0) producer) in
    let did = events_of (l.first ++ l.last ∷ []) in
    let g = gone_append whole (next whole producer) l.left reads did (first_led w s producer small s.halt refl) l.gone in
    record {
      first = l.first;
      last = l.last;
      asked = l.asked;
      take_none = l.take_none;
      stops = l.stops;
      sized = l.sized;
      told = turn_told old.wires new l.last.ask l.left same l.is_end;
      within = (begins old st new producer small same l).inside;
      wires = same;
      offload = l.offload_is;
      turn = turn_goes new s (reads ++ did) l.last.ask l.left (subst (λ (x : Wiring). LedBy (whole_turn x s) (reads ++ did) l.left) (sym same) g) l.is_end;
    }

delivery_led : (w : Vif) (accepts : Accepts) (s : State) (o : RxOffload) (packet : List ℕ) (producer : ℕ) → producer < 2 ^ 32 → IsDeliverable accepts o packet →
    LedBy (whole_delivery w accepts s o packet) (first_read s.halt (Read (rx_word w 0) producer)) (next (delivery_by w s o packet s.halt) producer)
delivery_led w accepts s o packet producer small d =
    subst (λ (b : Bool). LedBy (if_frame w accepts s o packet b) (first_read s.halt (Read (rx_word w 0) producer)) (next (delivery_by w s o packet s.halt) producer)) (sym d.0)
    (subst (λ (b : Bool). LedBy (if_taken w s o packet b) (first_read s.halt (Read (rx_word w 0) producer)) (next (delivery_by w s o packet s.halt) producer)) (sym d.1) (by s.halt))
  where
    by : (x : Option Halt) → LedBy (delivery_by w s o packet x) (first_read x (Read (rx_word w 0) producer)) (next (delivery_by w s o packet x) producer)
    by None = (next (delivery_by w s o packet None) producer, (producer, (small, refl), refl), refl)
    by (Some cause) = refl

-- a delivery of this packet is to begin
pub delivery_stands : (e : EngineAt) → Stands e → (producer : ℕ) (b : WorkAt) → producer < 2 ^ 32 → IsDeliverable e.wires.accepts b.offload b.packet →
    Stands (record e { stage = stage.Deliver producer; work = b })
delivery_stands e st producer b small d =
    let w = e.wires.vif in
    let whole = whole_delivery w e.wires.accepts e.state b.offload b.packet in
    let rest = next (delivery_by w e.state b.offload b.packet e.state.halt) producer in
    record {
      fits = d.0;
      wired = st.wired;
      turns = st.turns;
      left = finishes_gone (IsPageWant (length e.wires.vif.owners.now)) whole rest (first_read e.state.halt (Read (rx_word w 0) producer)) (arrives w e.wires.accepts e.state b.offload b.packet st.wired) (delivery_led w e.wires.accepts e.state b.offload b.packet producer small d);
    }

-- a wait is to begin
pub wait_stands : (e : EngineAt) → Stands e → (pages : ℕ) → Stands (record e { stage = stage.Wait pages })
wait_stands e st pages =
    record { fits = tt; wired = st.wired; turns = st.turns; left = wait_ends (length e.wires.vif.owners.now) e.wires.vif.rx e.state pages (frame_inside e.wires.vif e.wires.vif.rx st.wired.rx) }

-- ---- what is under way

pub stepping_at : (g : Stage) → (g ≡ stage.Ready → ⊥) → (g ≡ stage.Several → ⊥) → is_stepping g ≡ true
stepping_at stage.Ready h k = absurd (h refl)
stepping_at stage.Announce h k = refl
stepping_at (stage.Slot left) h k = refl
stepping_at (stage.Entry i at) h k = refl
stepping_at (stage.Page i f frame) h k = refl
stepping_at (stage.Fill f p) h k = refl
stepping_at (stage.Respond i) h k = refl
stepping_at stage.Push h k = refl
stepping_at stage.Notice h k = refl
stepping_at (stage.Deliver producer) h k = refl
stepping_at (stage.Wait pages) h k = refl
stepping_at (stage.WaitLook pages) h k = refl
stepping_at stage.Several h k = absurd (k refl)

pub ready_at : (e : EngineAt) → IsSome (resting_at e) → e.stage ≡ stage.Ready
ready_at e h = by e.state e.stage h
  where
    by : (s : State) (g : Stage) → IsSome (between s g) → g ≡ stage.Ready
    by s stage.Ready h = refl
    by s stage.Announce h = absurd (cc h)
    by s (stage.Slot left) h = absurd (cc h)
    by s (stage.Entry i at) h = absurd (cc h)
    by s (stage.Page i f frame) h = absurd (cc h)
    by s (stage.Fill f p) h = absurd (cc h)
    by s (stage.Respond i) h = absurd (cc h)
    by s stage.Push h = absurd (cc h)
    by s stage.Notice h = absurd (cc h)
    by s (stage.Deliver producer) h = absurd (cc h)
    by s (stage.Wait pages) h = absurd (cc h)
    by s (stage.WaitLook pages) h = absurd (cc h)
    by s stage.Several h = absurd (cc h)

-- what is to begin: all of it is left
pub delivery_begins : (e : EngineAt) (producer : ℕ) (b : WorkAt) (packet : List ℕ) → IsSome (resting_at e) → producer < 2 ^ 32 → b.packet ≡ packet → IsDeliverable e.wires.accepts b.offload packet →
    IsBegunAt e (record e { stage = stage.Deliver producer; work = b }) producer b.offload packet
delivery_begins e producer b packet h small is d =
    let w = e.wires.vif in
    let o = b.offload in
    let s = e.state in
    let accepts = e.wires.accepts in
    let reads = first_read s.halt (Read (rx_word w 0) producer) in
    record {
      rested = rests e (ready_at e h);
      delivering = (
        record {
          gone = subst (λ (p : List ℕ). LedBy (whole_delivery w accepts s o p) reads (next (delivery_by w s o b.packet s.halt) producer)) is
              (delivery_led w accepts s o b.packet producer small (subst (λ (p : List ℕ). IsDeliverable accepts o p) (sym is) d));
          waits = refl;
          is_here = refl;
        },
        is,
      );
      wires = refl;
      offload = refl;
    }

pub wait_begins : (e : EngineAt) (pages : ℕ) → IsSome (resting_at e) → IsWaitBegunAt e (record e { stage = stage.Wait pages }) pages
wait_begins e pages h =
    let ready = ready_at e h in
    record {
      rested = rests e ready;
      waiting = (record { gone = refl; waits = refl; is_here = refl }, sym (packet_there e ready));
      wires = refl;
      offload = refl;
    }

-- nothing is under way
pub rest_stands : (e : EngineAt) → IsSome (resting_at e) → IsWired e.wires.vif → TurnsComplete e.wires → Stands e
rest_stands e h wired turns =
    let ready = sym (ready_at e h) in
    record {
      fits = subst (λ (g : Stage). Fits g e.work) ready tt;
      wired = wired;
      turns = turns;
      left = subst (λ (g : Stage). TaskCompletes e.wires e.state g e.work) ready tt;
    }
