-- What a task over a bus has done once it has begun, how it ends, and how many steps it takes.
use Rattle.std.proofs.Common.{◌≡◌, ℕ, ◌≤◌, ◌<◌, List, [], ◌∷◌, ◌++◌, Option, None, Some, refl, sym, ap, ◌∙◌, subst, length, arith, append_assoc}
use Rattle.xen_netif.specs.declared.offload.RxOffload.{RxOffload}
use Rattle.xen_page.specs.Access.{Performs}
use Rattle.xen_page.specs.declared.access.Access.{Access}
use Rattle.xen_page.proofs.AccessLemmas.{performs_none, performs_then}
use Rattle.xen_steps.specs.Drive.{accesses}
use Rattle.xen_steps.specs.Event.{Event}
use Rattle.xen_steps.specs.Event as event
use Rattle.xen_steps.proofs.DriveLemmas.{accesses-append}
use Rattle.xen_page.specs.declared.place.Place.{Place}
use Rattle.xen_rx_fill.specs.Places.{rx_word, tx_word}
use Rattle.xen_turns.specs.Awaited.{IsAwaiting}
use Rattle.xen_turns.specs.Delivered.{IsDelivery}
use Rattle.xen_turns.specs.Drive.{labels}
use Rattle.xen_turns.specs.Turned.{turned}
use Rattle.xen_turns.specs.Turns.{IsTurn}
use Rattle.xen_turns.specs.declared.delivery.delivering.Delivery.{Delivery}
use Rattle.xen_turns.specs.declared.delivery.wait.Awaited.{Awaited}
use Rattle.xen_turns.specs.declared.state.State.{State}
use Rattle.xen_turns.specs.declared.turn.Kind.{Kind}
use Rattle.xen_host.specs.Asks.{AllInPages, AllSized, Ask, TakeNone, Read, Entry, Write, Store, StoreTwo, Push, Notify, TurnOver, DeliveryOver, WaitOver, did_by}
use Rattle.xen_host.specs.Buses.{AllHeld, HasRead, IsMade, ask_of, over_after}
use Rattle.xen_host.specs.Hosts.{WasGiven}
use Rattle.xen_host.specs.Hosts.{Asked, WasAskedAll, asks_of, events_of}
use Rattle.xen_host.specs.Rest.{reads_in}
use Rattle.xen_host.specs.declared.over_bus.Over.{Over}
use Rattle.xen_host.specs.declared.over_bus.Over.TheVariants as over
use Rattle.xen_host.specs.declared.over_bus.OverBus.{OverBus}
use Rattle.xen_host.specs.Driven.{HasAwaitedAt, HasDeliveredAt, HasTurnedAt}
use Rattle.bpf_note.specs.declared.op.Op.{Op as Operation}
use Rattle.xen_turns.specs.declared.wiring.Wiring.{Wiring}
use Rattle.xen_host.specs.EngineAt.{EngineAt}
use Rattle.xen_host.specs.Stands.{Stands}
use Rattle.xen_host.specs.UnderWay.{DeliveryGoesAt, IsBegunAt, IsWaitBegunAt, TurnGoesAt, WaitGoesAt, first_read, packet_at}
use Rattle.xdp_program.specs.Tallies.{Went}
use Rattle.xen_host.specs.Driving.{GoesOn, Task, delivery, turn, wait}
use Rattle.xen_host.specs.Going.{BeginsOnBus, Counted, HasGoneBy, IsGoing, IsGone, KeepsAll, StepsOnBus}
use Rattle.xen_host.proofs.BoundLemmas.{DeliveriesAreRests, DeliveriesAreShort, TurnsAreRests, TurnsAreShort, WaitsAreRests, delivery_few, first_none, front_few, turn_few, wait_few}
use Rattle.xen_host.proofs.GoingLemmas.{events_none, events_split, held_all, held_last, inside_last, made_all, sized_last}
use Rattle.xen_host.proofs.TraceLemmas.{counted_none, labels_append}

module _ {B C : Type 0} (log : B → Option (List Access)) (gives : B → Access → B → Type 0) (size : B → ℕ) (did : Operation → C → C → Type 0) where
  -- ---- how many steps

  pub turn_short : TurnsAreRests → TurnsAreShort → (s : State) (w : Wiring) (bus : B) (before : C) (n : ℕ) (q : EngineAt) (after : C) (host : OverBus B) →
      IsGone log gives size did turn s w bus before n q after host → n ≤ 33032
  turn_short rests short s w bus before n q after host c =
      let x = did_by c.last.ask c.last.words in
      let k = c.some in
      let f = front_few c.earlier x 33032 (turn_few rests short q c.stands s (c.earlier ++ x) c.last.ask c.goes) in
      omega (arith, k, f)

  pub delivery_short : DeliveriesAreRests → DeliveriesAreShort → (s : State) (o : RxOffload) (packet : List ℕ) (w : Wiring) (bus : B) (before : C) (n : ℕ) (q : EngineAt) (after : C) (host : OverBus B) →
      IsGone log gives size did (delivery o packet) s w bus before n q after host → n ≤ 16488
  delivery_short rests short s o packet w bus before n q after host c =
      let x = did_by c.last.ask c.last.words in
      let k = c.some in
      let f = front_few c.earlier x 16488 (delivery_few rests short q c.stands s o packet (c.earlier ++ x) c.last.ask c.goes) in
      omega (arith, k, f)

  pub wait_short : WaitsAreRests → (s : State) (pages : ℕ) (packet : List ℕ) (w : Wiring) (bus : B) (before : C) (n : ℕ) (q : EngineAt) (after : C) (host : OverBus B) →
      IsGone log gives size did (wait pages packet) s w bus before n q after host → n ≤ 2
  wait_short rests s pages packet w bus before n q after host c =
      let x = did_by c.last.ask c.last.words in
      let k = c.some in
      let f = front_few c.earlier x 2 (wait_few rests q c.stands s pages packet (c.earlier ++ x) c.last.ask c.goes) in
      omega (arith, k, f)

  -- ---- what begins

  -- What was read before anything was asked, and what was asked first.
  begins : (k : Task) (s : State) (w : Wiring) (bus : B) (before after : C) (q : EngineAt) (look : List Event) (first : List Asked) (last : Asked) (host host_after : OverBus B) →
      Performs log gives bus (accesses look) host.bus.now → labels look ≡ [] → size host.bus.now ≡ length w.vif.owners.now → host.over ≡ None → WasAskedAll (IsMade log gives size) host (first ++ last ∷ []) host_after →
      TakeNone (asks_of first) → AllSized (asks_of (first ++ last ∷ [])) → (AllHeld (first ++ last ∷ []) → AllInPages (length w.vif.owners.now) (asks_of (first ++ last ∷ []))) → q.wires ≡ w →
      after ≡ before → KeepsAll k before after → GoesOn k q last.ask s (look ++ events_of (first ++ last ∷ [])) → Stands q → IsGone log gives size did k s w bus before 0 q after host_after
  begins k s w bus before after q look first last host host_after performed silent sized free asked none sizes within wires same keeps goes st =
      let all = first ++ last ∷ [] in
      let holds = held_all log gives size all host host_after asked in
      let inside = within holds in
      let made = made_all log gives size (length w.vif.owners.now) first last host host_after sized none inside asked in
      let front = events_of first in
      let behind = did_by last.ask last.words in
      let trace = look ++ events_of all in
      let here : trace ≡ (look ++ front) ++ behind = ap (λ l. look ++ l) (events_split first last) ∙ sym (append_assoc look front behind) in
      let quiet : labels trace ≡ [] = labels_append look (events_of all) ∙ ap (λ l. l ++ labels (events_of all)) silent ∙ events_none all in
      let both = performs_then log gives bus host.bus.now host_after.bus.now (accesses look) (accesses (events_of all)) performed made.performed in
      let through : Performs log gives bus (accesses trace) host_after.bus.now = subst (λ l. Performs log gives bus l host_after.bus.now) (sym (accesses-append look (events_of all))) both in
      let history : Counted did trace before after = subst (λ l. Counted did trace before l) (sym same) (counted_none did trace before quiet) in
      record {
        earlier = look ++ front;
        last = last;
        performed = subst (λ (l : List Event). Performs log gives bus (accesses l) host_after.bus.now) here through;
        counted = subst (λ (l : List Event). Counted did l before after) here history;
        keeps = keeps;
        goes = subst (λ l. GoesOn k q last.ask s l) here goes;
        stands = st;
        wide = sized_last first last sizes;
        held = held_last first last holds;
        inside = inside_last (length w.vif.owners.now) first last inside;
        over = made.over ∙ ap (λ o. over_after last.ask o) free;
        sized = made.sized ∙ sized;
        wires = wires;
        some = omega arith;
      }

  pub turn_begun : (old q : EngineAt) (bus : B) (before : C) (producer : ℕ) (host host_after : OverBus B) → size host.bus.now ≡ length old.wires.vif.owners.now → host.over ≡ None →
      Performs log gives bus (accesses (first_read old.state.halt (event.Read (tx_word old.wires.vif 0) producer))) host.bus.now → Stands q →
      BeginsOnBus log gives size old q producer host host_after → IsGone log gives size did turn old.state old.wires bus before 0 q before host_after
  turn_begun old q bus before producer host host_after sized free performed st b =
      let s = old.state in
      let at = event.Read (tx_word old.wires.vif 0) producer in
      begins turn s old.wires bus before before q (first_read s.halt at) b.first b.last host host_after performed (first_none s.halt at refl) sized free b.asked b.take_none b.sized b.within b.wires refl tt b.turn st

  -- A step that takes no answer begins with what is asked.
  unanswered : (at : Place) (n : ℕ) (words : List ℕ) (host mid : OverBus B) → n ≡ 0 → WasGiven (HasRead log gives size) at n host words mid → mid ≡ host
  unanswered at n words host mid e g = (subst (λ m. WasGiven (HasRead log gives size) at m host words mid) e g).1

  pub delivery_begun : (old mid q : EngineAt) (o : RxOffload) (packet : List ℕ) (bus : B) (before after : C) (producer : ℕ) (host host_after : OverBus B) → size host.bus.now ≡ length old.wires.vif.owners.now → host.over ≡ None →
      Performs log gives bus (accesses (first_read old.state.halt (event.Read (rx_word old.wires.vif 0) producer))) host.bus.now → IsBegunAt old mid producer o packet → Stands q →
      StepsOnBus log gives size did mid q before after host host_after →
      IsGone log gives size did (delivery o packet) old.state old.wires bus before 0 q after host_after
  delivery_begun old mid q o packet bus before after producer host host_after sized free performed b st h =
      let s = old.state in
      let at = event.Read (rx_word old.wires.vif 0) producer in
      let d = h.delivery s o packet (first_read s.halt at) None b.delivering in
      let same = unanswered _ (reads_in mid.stage) h.words host h.mid b.delivering.0.waits h.given in
      let asked = subst (λ (x : OverBus B). WasAskedAll (IsMade log gives size) x (h.first ++ h.last ∷ []) host_after) same h.asked in
      let within = subst (λ (v : Wiring). AllHeld (h.first ++ h.last ∷ []) → AllInPages (length v.vif.owners.now) (asks_of (h.first ++ h.last ∷ []))) b.wires h.within in
      begins (delivery o packet) s old.wires bus before after q (first_read s.halt at) h.first h.last host host_after performed (first_none s.halt at refl) sized free asked h.take_none h.sized within (h.wires ∙ b.wires) d.1 d.1 d.0 st

  pub wait_begun : (old mid q : EngineAt) (pages : ℕ) (bus : B) (before after : C) (host host_after : OverBus B) → size host.bus.now ≡ length old.wires.vif.owners.now → host.over ≡ None →
      host.bus.now ≡ bus → IsWaitBegunAt old mid pages → Stands q →
      StepsOnBus log gives size did mid q before after host host_after →
      IsGone log gives size did (wait pages (packet_at old)) old.state old.wires bus before 0 q after host_after
  wait_begun old mid q pages bus before after host host_after sized free untouched b st h =
      let s = old.state in
      let d = h.wait s pages (packet_at old) [] None b.waiting in
      let same = unanswered _ (reads_in mid.stage) h.words host h.mid b.waiting.0.waits h.given in
      let asked = subst (λ (x : OverBus B). WasAskedAll (IsMade log gives size) x (h.first ++ h.last ∷ []) host_after) same h.asked in
      let within = subst (λ (v : Wiring). AllHeld (h.first ++ h.last ∷ []) → AllInPages (length v.vif.owners.now) (asks_of (h.first ++ h.last ∷ []))) b.wires h.within in
      let performed = subst (λ (x : B). Performs log gives bus [] x) (sym untouched) (performs_none log gives bus) in
      begins (wait pages (packet_at old)) s old.wires bus before after q [] h.first h.last host host_after performed refl sized free asked h.take_none h.sized within (h.wires ∙ b.wires) d.1 d.1 d.0 st

  -- ---- what is under way

  pub gone_less : (k : Task) (s : State) (w : Wiring) (bus : B) (before : C) (n : ℕ) (q : EngineAt) (after : C) (host : OverBus B) → IsGone log gives size did k s w bus before n q after host → IsGone log gives size did k s w bus before 0 q after host
  gone_less k s w bus before n q after host d =
      record {
        earlier = d.earlier;
        last = d.last;
        performed = d.performed;
        counted = d.counted;
        keeps = d.keeps;
        goes = d.goes;
        stands = d.stands;
        wide = d.wide;
        held = d.held;
        inside = d.inside;
        over = d.over;
        sized = d.sized;
        wires = d.wires;
        some = omega arith;
      }

  pub going : (serves : C → Type 0) (k : Task) (s : State) (w : Wiring) (bus : B) (before : C) (most : ℕ) (q : EngineAt) (after : C) (host : OverBus B) → IsGone log gives size did k s w bus before 0 q after host →
      ((n : ℕ) (new : EngineAt) (end : C) (host_after : OverBus B) → IsGone log gives size did k s w bus before n new end host_after → n < most) →
      ((labels : List (Option Operation)) (end : C) → Went did before end labels → serves end) → IsGoing log gives size did serves most q after host
  going serves k s w bus before most q after host d few serving =
      record {
        task = k;
        state = s;
        bus = bus;
        before = before;
        gone = subst (λ (v : Wiring). IsGone log gives size did k s v bus before 0 q after host) (sym d.wires) d;
        serving = serving;
        few = λ n new end host_after x. few n new end host_after (subst (λ (v : Wiring). IsGone log gives size did k s v bus before n new end host_after) d.wires x);
      }

  pub gone_then : (k : Task) (s : State) (w : Wiring) (bus : B) (before : C) (n : ℕ) (q new : EngineAt) (after end : C) (host host_after : OverBus B) → IsGone log gives size did k s w bus before 0 q after host →
      HasGoneBy log gives size did n q new after end host host_after → IsGone log gives size did k s w bus before n new end host_after
  gone_then k s w bus before n q new after end host host_after d h =
      subst (λ (v : Wiring). IsGone log gives size did k s v bus before n new end host_after) d.wires
      (h k s bus before (subst (λ (v : Wiring). IsGone log gives size did k s v bus before 0 q after host) (sym d.wires) d))

  -- ---- what is over

  pub turn_over : (old : EngineAt) (bus : B) (before : C) (n : ℕ) (q : EngineAt) (after : C) (host : OverBus B) (what : Over) →
      IsGone log gives size did turn old.state old.wires bus before n q after host → host.over ≡ Some what → (kind : Kind) × (ask_of what ≡ TurnOver kind) × HasTurnedAt log gives did old q kind bus host.bus.now before after
  turn_over old bus before n q after host what c e = by c.last.ask (sym c.over ∙ e) c.performed c.counted c.goes
    where
      by : (a : Ask) → over_after a None ≡ Some what → Performs log gives bus (accesses (c.earlier ++ did_by a c.last.words)) host.bus.now →
          Counted did (c.earlier ++ did_by a c.last.words) before after → TurnGoesAt q a old.state (c.earlier ++ did_by a c.last.words) →
          (kind : Kind) × (ask_of what ≡ TurnOver kind) × HasTurnedAt log gives did old q kind bus host.bus.now before after
      by (TurnOver k) o p h g =
          let same : over.Turn k ≡ what = cc o in (
            k,
            ap (λ (x : Over). ask_of x) (sym same),
            record {
              trace = c.earlier ++ [];
              is_turn = subst (λ (w : Wiring). IsTurn w old.state (c.earlier ++ []) q.state (turned k (packet_at q))) c.wires g.0;
              performed = p;
              counted = h;
              packet = g.2;
              rests = g.1;
              wires = c.wires;
            },
          )
      by (DeliveryOver x) o p h g = absurd g.waits
      by (WaitOver x) o p h g = absurd g.waits
      by (Read at count) o p h g = absurd (cc o)
      by (Entry at reference rights) o p h g = absurd (cc o)
      by (Write at count) o p h g = absurd (cc o)
      by (Store at word) o p h g = absurd (cc o)
      by (StoreTwo at first second) o p h g = absurd (cc o)
      by (Push at word read) o p h g = absurd (cc o)
      by (Notify port) o p h g = absurd (cc o)

  pub delivery_over : (old : EngineAt) (o : RxOffload) (packet : List ℕ) (bus : B) (before : C) (n : ℕ) (q : EngineAt) (after : C) (host : OverBus B) (what : Over) →
      IsGone log gives size did (delivery o packet) old.state old.wires bus before n q after host → host.over ≡ Some what →
      (outcome : Delivery) × (ask_of what ≡ DeliveryOver outcome) × HasDeliveredAt log gives old q o packet outcome bus host.bus.now before after
  delivery_over old o packet bus before n q after host what c e = by c.last.ask (sym c.over ∙ e) c.performed c.goes
    where
      by : (a : Ask) → over_after a None ≡ Some what → Performs log gives bus (accesses (c.earlier ++ did_by a c.last.words)) host.bus.now → DeliveryGoesAt q a old.state o packet (c.earlier ++ did_by a c.last.words) →
          (outcome : Delivery) × (ask_of what ≡ DeliveryOver outcome) × HasDeliveredAt log gives old q o packet outcome bus host.bus.now before after
      by (DeliveryOver x) e p g =
          let same : over.Delivery x ≡ what = cc e in (
            x,
            ap (λ (y : Over). ask_of y) (sym same),
            record {
              trace = c.earlier ++ [];
              is_delivery = subst (λ (w : Wiring). IsDelivery w old.state o packet (c.earlier ++ []) q.state x) c.wires g.0;
              performed = p;
              counters = c.keeps;
              copied = λ f. g.2;
              rests = g.1;
              wires = c.wires;
            },
          )
      by (TurnOver x) e p g = absurd g.0.waits
      by (WaitOver x) e p g = absurd g.0.waits
      by (Read at count) e p g = absurd (cc e)
      by (Entry at reference rights) e p g = absurd (cc e)
      by (Write at count) e p g = absurd (cc e)
      by (Store at word) e p g = absurd (cc e)
      by (StoreTwo at first second) e p g = absurd (cc e)
      by (Push at word read) e p g = absurd (cc e)
      by (Notify port) e p g = absurd (cc e)

  pub wait_over : (old : EngineAt) (pages : ℕ) (bus : B) (before : C) (n : ℕ) (q : EngineAt) (after : C) (host : OverBus B) (what : Over) →
      IsGone log gives size did (wait pages (packet_at old)) old.state old.wires bus before n q after host → host.over ≡ Some what →
      (outcome : Awaited) × (ask_of what ≡ WaitOver outcome) × HasAwaitedAt log gives old q pages outcome bus host.bus.now before after
  wait_over old pages bus before n q after host what c e = by c.last.ask (sym c.over ∙ e) c.performed c.goes
    where
      by : (a : Ask) → over_after a None ≡ Some what → Performs log gives bus (accesses (c.earlier ++ did_by a c.last.words)) host.bus.now → WaitGoesAt q a old.state pages (packet_at old) (c.earlier ++ did_by a c.last.words) →
          (outcome : Awaited) × (ask_of what ≡ WaitOver outcome) × HasAwaitedAt log gives old q pages outcome bus host.bus.now before after
      by (WaitOver x) o p g =
          let same : over.Wait x ≡ what = cc o in (
            x,
            ap (λ (y : Over). ask_of y) (sym same),
            record {
              trace = c.earlier ++ [];
              is_awaiting = subst (λ (w : Wiring). IsAwaiting w old.state pages (c.earlier ++ []) q.state x) c.wires g.0;
              performed = p;
              counters = c.keeps;
              packet = g.2;
              rests = g.1;
              wires = c.wires;
            },
          )
      by (TurnOver x) o p g = absurd g.0.waits
      by (DeliveryOver x) o p g = absurd g.0.waits
      by (Read at count) o p g = absurd (cc o)
      by (Entry at reference rights) o p g = absurd (cc o)
      by (Write at count) o p g = absurd (cc o)
      by (Store at word) o p g = absurd (cc o)
      by (StoreTwo at first second) o p g = absurd (cc o)
      by (Push at word read) o p g = absurd (cc o)
      by (Notify port) o p g = absurd (cc o)
