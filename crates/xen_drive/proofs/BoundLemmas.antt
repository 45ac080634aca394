-- How a turn, a delivery and a wait of a host begin and end.
use Rattle.std.proofs.Common.{◌≡◌, ℕ, true, List, [], ◌++◌, None, Option, Some, refl, sym, ◌∙◌, subst, map, arith, append-nil}
use Rattle.xdp_program.specs.Ran.{IsHistory}
use Rattle.xen_netif.specs.declared.offload.RxOffload.{RxOffload}
use Rattle.xen_page.specs.Access.{Performs}
use Rattle.xen_page.specs.declared.access.Access.{Access}
use Rattle.xen_page.proofs.AccessLemmas.{performs_none, performs_then}
use Rattle.xen_steps.specs.Drive.{accesses}
use Rattle.xen_steps.specs.Event.{Event}
use Rattle.xen_steps.specs.Event as event
use Rattle.xen_steps.proofs.DriveLemmas.{accesses-append}
use Rattle.xen_rx_fill.specs.Places.{rx_word, tx_word}
use Rattle.xen_turns.specs.Awaited.{IsAwaiting}
use Rattle.xen_turns.specs.Delivered.{IsDelivery}
use Rattle.xen_turns.specs.Drive.{labels}
use Rattle.xen_turns.specs.Turned.{turned}
use Rattle.xen_turns.specs.Turns.{IsTurn}
use Rattle.xen_turns.specs.declared.delivery.delivering.Delivery.{Delivery}
use Rattle.xen_turns.specs.declared.delivery.wait.Awaited.{Awaited}
use Rattle.xen_turns.specs.declared.turn.Kind.{Kind}
use Rattle.xen_host.specs.Asks.{Ask, IsSized, Read, Entry, Write, Store, StoreTwo, Push, Notify, TurnOver, DeliveryOver, WaitOver, did_all, did_by, is_over}
use Rattle.xen_host.specs.Driving.{delivery, turn, wait}
use Rattle.xen_host.specs.Queues.{DeliveryGoesOn, TurnGoesOn, WaitGoesOn, packet_of, wired_to, wiring}
use Rattle.xen_host.specs.UnderWay.{first_read}
use Rattle.xen_host.specs.Wired.{wiring_of}
use Rattle.xen_host.specs.declared.queue.Queue.{Queue}
use Rattle.xen_host.specs.declared.wires.OwnedWiring.{OwnedWiring}
use Rattle.xen_host.proofs.BoundLemmas.{first_none}
use Rattle.xen_drive.specs.Driven.{BeginsDelivery, BeginsTurn, BeginsWait, HasAwaited, HasDelivered, HasTurned}
use Rattle.xen_drive.specs.Hosts.{Held}
use Rattle.xen_drive.proofs.StepLemmas.{Carried, last_sized}
use Rattle.xen_drive.proofs.TraceLemmas.{all_none, history_append, history_none}

module _ {S : Type 0} (log : S → Option (List Access)) (gives : S → Access → S → Type 0) where
  -- ---- what begins

  pub turn_begins : (old : Queue) (bus : S) (before : List ℕ) (h : Held S) → BeginsTurn log gives old bus before h → Carried log gives turn old.engine.state (wired_to old) bus before 0 h
  turn_begins old bus before h b =
      let s = old.engine.state in
      let look = first_read s.halt (event.Read (tx_word (wiring old).vif 0) b.producer) in
      let shapes = (wired_to old).program.shapes in
      record {
        trace = look;
        performed = b.performed;
        counted = subst (λ l. IsHistory shapes (map Some (labels look)) before l) (sym b.counters) (history_none shapes look before (first_none s.halt (event.Read (tx_word (wiring old).vif 0) b.producer) refl));
        keeps = tt;
        goes = subst (λ (f : List Ask). TurnGoesOn h.queue h.last s (look ++ (did_all f h.lent ++ did_by h.last h.lent))) (sym b.first)
            (subst (λ (a : Ask). TurnGoesOn h.queue a s (look ++ (did_all b.begun.first h.lent ++ did_by a h.lent))) (sym b.last) b.begun.turn);
        sized = subst (λ (a : Ask). IsSized a) (sym b.last) (last_sized b.begun.first b.begun.last b.begun.said.sized);
        page = b.page;
        wires = b.begun.wires;
        some = omega arith;
      }

  pub delivery_begins : (old : Queue) (o : RxOffload) (packet : List ℕ) (bus : S) (before : List ℕ) (h : Held S) → BeginsDelivery log gives old o packet bus before h →
      Carried log gives (delivery o packet) old.engine.state (wired_to old) bus before 0 h
  delivery_begins old o packet bus before h b =
      let s = old.engine.state in
      let look = first_read s.halt (event.Read (rx_word (wiring old).vif 0) b.producer) in
      let shapes = (wired_to old).program.shapes in
      let c = b.stepped in
      let d = c.stepped.delivery s o packet look None b.begun.delivering in
      record {
        trace = look;
        performed = b.performed;
        counted = subst (λ l. IsHistory shapes (map Some (labels look)) before l) (sym d.1) (history_none shapes look before (first_none s.halt (event.Read (rx_word (wiring old).vif 0) b.producer) refl));
        keeps = d.1;
        goes = subst (λ (f : List Ask). DeliveryGoesOn h.queue h.last s o packet (look ++ (did_all f h.lent ++ did_by h.last h.lent))) (sym c.first)
            (subst (λ (a : Ask). DeliveryGoesOn h.queue a s o packet (look ++ (did_all c.stepped.first h.lent ++ did_by a h.lent))) (sym c.last) d.0);
        sized = subst (λ (a : Ask). IsSized a) (sym c.last) (last_sized c.stepped.first c.stepped.last c.stepped.said.sized);
        page = c.page;
        wires = c.stepped.wires ∙ b.begun.wires;
        some = omega arith;
      }

  pub wait_begins : (old : Queue) (pages : ℕ) (bus : S) (before : List ℕ) (h : Held S) → BeginsWait old pages bus before h →
      Carried log gives (wait pages (packet_of old)) old.engine.state (wired_to old) bus before 0 h
  wait_begins old pages bus before h b =
      let s = old.engine.state in
      let packet = packet_of old in
      let c = b.stepped in
      let d = c.stepped.wait s pages packet [] None b.begun.waiting in
      record {
        trace = [];
        performed = subst (λ x. Performs log gives bus [] x) (sym b.untouched) (performs_none log gives bus);
        counted = sym d.1;
        keeps = d.1;
        goes = subst (λ (f : List Ask). WaitGoesOn h.queue h.last s pages packet (did_all f h.lent ++ did_by h.last h.lent)) (sym c.first)
            (subst (λ (a : Ask). WaitGoesOn h.queue a s pages packet (did_all c.stepped.first h.lent ++ did_by a h.lent)) (sym c.last) d.0);
        sized = subst (λ (a : Ask). IsSized a) (sym c.last) (last_sized c.stepped.first c.stepped.last c.stepped.said.sized);
        page = c.page;
        wires = c.stepped.wires ∙ b.begun.wires;
        some = omega arith;
      }

  -- ---- what is over

  more_performed : (bus mid bus' : S) (t u : List Event) → Performs log gives bus (accesses t) mid → Performs log gives mid (accesses u) bus' → Performs log gives bus (accesses (t ++ u)) bus'
  more_performed bus mid bus' t u p q = subst (λ l. Performs log gives bus l bus') (sym (accesses-append t u)) (performs_then log gives bus mid bus' (accesses t) (accesses u) p q)

  pub turn_ends : (old : Queue) (bus bus' : S) (before : List ℕ) (n : ℕ) (h : Held S) → Carried log gives turn old.engine.state (wired_to old) bus before n h → is_over h.last ≡ true →
      Performs log gives h.bus (accesses (did_all h.first h.lent)) bus' → (kind : Kind) × (h.last ≡ TurnOver kind) × HasTurned log gives old h.queue kind bus bus' before h.counters
  turn_ends old bus bus' before n h c over p = by h.last refl over c.goes
    where
      by : (last : Ask) → h.last ≡ last → is_over last ≡ true → TurnGoesOn h.queue last old.engine.state (c.trace ++ (did_all h.first h.lent ++ did_by last h.lent)) →
          (kind : Kind) × (h.last ≡ TurnOver kind) × HasTurned log gives old h.queue kind bus bus' before h.counters
      by (TurnOver k) e o g =
          let d = did_all h.first h.lent in
          let shapes = (wired_to old).program.shapes in
          let end = turned k (packet_of h.queue) in
          let is : IsTurn (wiring h.queue) old.engine.state (c.trace ++ d) h.queue.engine.state end =
          subst (λ (l : List Event). IsTurn (wiring h.queue) old.engine.state (c.trace ++ l) h.queue.engine.state end) (append-nil d) g.0 in (
            k,
            e,
            record {
              trace = c.trace ++ d;
              is_turn = subst (λ (w : OwnedWiring). IsTurn (wiring_of w) old.engine.state (c.trace ++ d) h.queue.engine.state end) c.wires is;
              performed = more_performed bus h.bus bus' c.trace d c.performed p;
              counted = history_append shapes c.trace d before h.counters h.counters c.counted (history_none shapes d h.counters (all_none h.first h.lent));
              packet = g.2;
              rests = g.1;
              wires = c.wires;
            },
          )
      by (DeliveryOver x) e o g = absurd g.waits
      by (WaitOver x) e o g = absurd g.waits
      by (Read at count) e o g = absurd (cc o)
      by (Entry at reference rights) e o g = absurd (cc o)
      by (Write at count) e o g = absurd (cc o)
      by (Store at word) e o g = absurd (cc o)
      by (StoreTwo at first second) e o g = absurd (cc o)
      by (Push at word read) e o g = absurd (cc o)
      by (Notify port) e o g = absurd (cc o)

  pub delivery_ends : (old : Queue) (o : RxOffload) (packet : List ℕ) (bus bus' : S) (before : List ℕ) (n : ℕ) (h : Held S) → Carried log gives (delivery o packet) old.engine.state (wired_to old) bus before n h → is_over h.last ≡ true →
      Performs log gives h.bus (accesses (did_all h.first h.lent)) bus' → (what : Delivery) × (h.last ≡ DeliveryOver what) × HasDelivered log gives old h.queue o packet what bus bus' before h.counters
  delivery_ends old o packet bus bus' before n h c over p = by h.last refl over c.goes
    where
      by : (last : Ask) → h.last ≡ last → is_over last ≡ true → DeliveryGoesOn h.queue last old.engine.state o packet (c.trace ++ (did_all h.first h.lent ++ did_by last h.lent)) →
          (what : Delivery) × (h.last ≡ DeliveryOver what) × HasDelivered log gives old h.queue o packet what bus bus' before h.counters
      by (DeliveryOver x) e is_last g =
          let d = did_all h.first h.lent in
          let is : IsDelivery (wiring h.queue) old.engine.state o packet (c.trace ++ d) h.queue.engine.state x =
          subst (λ (l : List Event). IsDelivery (wiring h.queue) old.engine.state o packet (c.trace ++ l) h.queue.engine.state x) (append-nil d) g.0 in (
            x,
            e,
            record {
              trace = c.trace ++ d;
              is_delivery = subst (λ (w : OwnedWiring). IsDelivery (wiring_of w) old.engine.state o packet (c.trace ++ d) h.queue.engine.state x) c.wires is;
              performed = more_performed bus h.bus bus' c.trace d c.performed p;
              counters = c.keeps;
              copied = λ f. g.2;
              rests = g.1;
              wires = c.wires;
            },
          )
      by (TurnOver x) e is_last g = absurd g.0.waits
      by (WaitOver x) e is_last g = absurd g.0.waits
      by (Read at count) e is_last g = absurd (cc is_last)
      by (Entry at reference rights) e is_last g = absurd (cc is_last)
      by (Write at count) e is_last g = absurd (cc is_last)
      by (Store at word) e is_last g = absurd (cc is_last)
      by (StoreTwo at first second) e is_last g = absurd (cc is_last)
      by (Push at word read) e is_last g = absurd (cc is_last)
      by (Notify port) e is_last g = absurd (cc is_last)

  pub wait_ends : (old : Queue) (pages : ℕ) (bus bus' : S) (before : List ℕ) (n : ℕ) (h : Held S) → Carried log gives (wait pages (packet_of old)) old.engine.state (wired_to old) bus before n h → is_over h.last ≡ true →
      Performs log gives h.bus (accesses (did_all h.first h.lent)) bus' → (what : Awaited) × (h.last ≡ WaitOver what) × HasAwaited log gives old h.queue pages what bus bus' before h.counters
  wait_ends old pages bus bus' before n h c over p = by h.last refl over c.goes
    where
      by : (last : Ask) → h.last ≡ last → is_over last ≡ true → WaitGoesOn h.queue last old.engine.state pages (packet_of old) (c.trace ++ (did_all h.first h.lent ++ did_by last h.lent)) →
          (what : Awaited) × (h.last ≡ WaitOver what) × HasAwaited log gives old h.queue pages what bus bus' before h.counters
      by (WaitOver x) e o g =
          let d = did_all h.first h.lent in
          let is : IsAwaiting (wiring h.queue) old.engine.state pages (c.trace ++ d) h.queue.engine.state x =
          subst (λ (l : List Event). IsAwaiting (wiring h.queue) old.engine.state pages (c.trace ++ l) h.queue.engine.state x) (append-nil d) g.0 in (
            x,
            e,
            record {
              trace = c.trace ++ d;
              is_awaiting = subst (λ (w : OwnedWiring). IsAwaiting (wiring_of w) old.engine.state pages (c.trace ++ d) h.queue.engine.state x) c.wires is;
              performed = more_performed bus h.bus bus' c.trace d c.performed p;
              counters = c.keeps;
              packet = g.2;
              rests = g.1;
              wires = c.wires;
            },
          )
      by (TurnOver x) e o g = absurd g.0.waits
      by (DeliveryOver x) e o g = absurd g.0.waits
      by (Read at count) e o g = absurd (cc o)
      by (Entry at reference rights) e o g = absurd (cc o)
      by (Write at count) e o g = absurd (cc o)
      by (Store at word) e o g = absurd (cc o)
      by (StoreTwo at first second) e o g = absurd (cc o)
      by (Push at word read) e o g = absurd (cc o)
      by (Notify port) e o g = absurd (cc o)
