-- Stated: claims rest on this file.
-- One front and one back over one memory, event by event. Each event goes with a number, which answers a load or an add of a counter.
use Rattle.std.specs.Prelude.{ℕ, Bool, true, false, List, [], ◌∷◌, ◌++◌, length, get_or, Option, Some, None, Result}
use Rattle.std.specs.Prelude.{Ok, Err, nat_lt}
use Rattle.xen_steps.specs.Steps.{Steps, done, ask, never}
use Rattle.xen_netif.specs.declared.offload.RxOffload.TheVariants.{Whole}
use Rattle.xen_turns.specs.Deliveries.{Arrival, whole_delivery}
use Rattle.xen_turns.specs.Tree.{Left, after_run}
use Rattle.xen_turns.specs.Turned.{Turned, Idle, Ran, Refused, Halted, Ending}
use Rattle.xen_turns.specs.Waits.{Wait, whole_wait}
use Rattle.xen_turns.specs.declared.delivery.wait.Awaited.{Awaited}
use Rattle.xen_turns.specs.declared.delivery.wait.Awaited.TheVariants as awaited
use Rattle.xen_turns.specs.declared.delivery.delivering.Delivery.{Delivery}
use Rattle.xen_turns.specs.declared.state.State.{State as BackState}
use Rattle.xen_turns.specs.declared.wiring.Wiring.{Wiring as BackWiring}
use Rattle.xen_buffers.specs.declared.wiring.FrontWiring.{FrontWiring}
use Rattle.xen_front.specs.Fronts.{all_free, chosen, poll_tests, post_tests, send_tests}
use Rattle.xen_front.specs.Given.{Given, Ending as FrontEnding}
use Rattle.xen_front.specs.Given as given
use Rattle.xen_front.specs.Slots.{pieces_of}
use Rattle.xen_front.specs.Tree.{poll, post, send}
use Rattle.xen_front.specs.declared.state.FrontState.{FrontState}
use Rattle.xen_front.specs.declared.turn.PollRefusal.{PollRefusal}
use Rattle.xen_front.specs.declared.turn.PostRefusal.{PostRefusal}
use Rattle.xen_front.specs.declared.turn.SendRefusal.{SendRefusal}
use Rattle.honest_pair.specs.Machine.Halves.{Half, Over, HasRun, half_turn}
use Rattle.honest_pair.specs.Machine.Memory.{Memory, after, answer, opening_memory}
use Rattle.honest_pair.specs.declared.awaits.Awaits.{Awaits}
use Rattle.honest_pair.specs.declared.awaits.Awaits.TheVariants as awaits

pub data PairEvent : Type 0 where
  Send : (packet : List ℕ) → PairEvent
  Post : PairEvent
  Poll : PairEvent
  FrontStep : PairEvent
  BackStep : PairEvent
  Deliver : (packet : List ℕ) → PairEvent
  Await : (pages : ℕ) → PairEvent

-- What the front is at, with what is left of its activity.
pub data Activity : Type 0 where
  Free : Activity
  Sending : Steps FrontEnding → Activity
  Posting : Steps FrontEnding → Activity
  Polling : Steps FrontEnding → Activity

-- What the back is at, with what is left of the half of its turn, of its delivery, or of its wait for rx slots. A first half is begun by
-- its first event. In the second half the packet is the copy, and `left` what the program's run left. A back delivers and waits between
-- turns, asleep or awake.
pub data BackAt : Type 0 where
  Asleep : BackAt
  First : (begun : Bool) → Steps Half → BackAt
  Second : (packet : List ℕ) (left : Left) → Steps Ending → BackAt
  Delivering : (asleep : Bool) (packet : List ℕ) → Steps Arrival → BackAt
  Waiting : (asleep : Bool) (pages : ℕ) → Steps Wait → BackAt

-- A turn that is over, with the packet's copy if the program ran on one.
pub record Past : Type 0 where
  pub turn : Turned
  pub copy : Option (List ℕ)

-- What is over: a turn, the delivery of a packet of the host's own, with what became of it, or a wait for rx slots with its answer.
pub data Deed : Type 0 where
  OfTurn : (past : Past) → Deed
  OfDelivery : (packet : List ℕ) (what : Delivery) → Deed
  OfWait : (pages : ℕ) (answer : Awaited) → Deed

abbrev pub turns_of : List Deed → List Past
turns_of [] = []
turns_of (OfTurn past ∷ ds) = past ∷ turns_of ds
turns_of (OfDelivery packet what ∷ ds) = turns_of ds
turns_of (OfWait pages answer ∷ ds) = turns_of ds

-- `front` is the front's state when its last activity was over, `back` the back's at the end of its last turn, delivery or wait.
pub record Pair : Type 0 where
  pub memory : Memory
  pub front : FrontState
  pub activity : Activity
  pub back : BackState
  pub at : BackAt
  pub sent : List (List ℕ)
  pub received : List (List ℕ)
  pub deeds : List Deed

-- The packets that an activity gave.
abbrev pub packets_of : Given → List (List ℕ)
packets_of given.Idle = []
packets_of (given.Packet offload bytes) = bytes ∷ []
packets_of given.Refused = []
packets_of (given.Halted cause) = []

-- The activity goes on, or is over.
abbrev pub ended : Pair → FrontEnding → Pair
ended p e = record p { front = e.0; activity = Free; received = p.received ++ packets_of e.1 }

abbrev pub sending : Pair → Steps FrontEnding → Pair
sending p (done e) = ended p e
sending p (ask w k) = record p { activity = Sending (ask w k) }
sending p never = record p { activity = Sending never }

abbrev pub posting : Pair → Steps FrontEnding → Pair
posting p (done e) = ended p e
posting p (ask w k) = record p { activity = Posting (ask w k) }
posting p never = record p { activity = Posting never }

abbrev pub polling : Pair → Steps FrontEnding → Pair
polling p (done e) = ended p e
polling p (ask w k) = record p { activity = Polling (ask w k) }
polling p never = record p { activity = Polling never }

-- A front that is free takes a packet, posts a buffer or polls, unless the tests refuse it.
abbrev pub send_result : FrontState → List ℕ → Result (Unit {0}) SendRefusal
send_result s bytes = send_tests s.halt false (nat_lt (length bytes) 14) (nat_lt 65535 (length bytes))
    (nat_lt (length (all_free s.tx.out)) (pieces_of (length bytes)))

abbrev pub post_result : FrontState → Result (Unit {0}) PostRefusal
post_result s = post_tests s.halt false (all_free s.rx.out)

abbrev pub poll_result : FrontState → Result (Unit {0}) PollRefusal
poll_result s = poll_tests s.halt false

abbrev pub send_tree : FrontWiring → FrontState → List ℕ → Steps FrontEnding
send_tree w s bytes = send w s bytes (chosen (pieces_of (length bytes)) s.tx.out)

abbrev pub post_tree : FrontWiring → FrontState → Steps FrontEnding
post_tree w s = post w s (get_or (all_free s.rx.out) 0 0)

abbrev pub begin_send : FrontWiring → Result (Unit {0}) SendRefusal → Pair → List ℕ → Pair
begin_send w (Ok u) p bytes = sending (record p { sent = p.sent ++ bytes ∷ [] }) (send_tree w p.front bytes)
begin_send w (Err refusal) p bytes = p

abbrev pub begin_post : FrontWiring → Result (Unit {0}) PostRefusal → Pair → Pair
begin_post w (Ok u) p = posting p (post_tree w p.front)
begin_post w (Err refusal) p = p

abbrev pub begin_poll : FrontWiring → Result (Unit {0}) PollRefusal → Pair → Pair
begin_poll w (Ok u) p = polling p (poll w p.front)
begin_poll w (Err refusal) p = p

-- The calls find the front busy if it is inside an activity.
abbrev pub on_send : FrontWiring → Activity → Pair → List ℕ → Pair
on_send w Free p bytes = begin_send w (send_result p.front bytes) p bytes
on_send w (Sending t) p bytes = p
on_send w (Posting t) p bytes = p
on_send w (Polling t) p bytes = p

abbrev pub on_post : FrontWiring → Activity → Pair → Pair
on_post w Free p = begin_post w (post_result p.front) p
on_post w (Sending t) p = p
on_post w (Posting t) p = p
on_post w (Polling t) p = p

abbrev pub on_poll : FrontWiring → Activity → Pair → Pair
on_poll w Free p = begin_poll w (poll_result p.front) p
on_poll w (Sending t) p = p
on_poll w (Posting t) p = p
on_poll w (Polling t) p = p

-- The next event of the front's activity.
abbrev pub on_front : Activity → Pair → ℕ → Pair
on_front Free p n = p
on_front (Sending (ask w k)) p n = sending (record p { memory = after w p.memory }) (k (answer w p.memory n))
on_front (Sending (done e)) p n = p
on_front (Sending never) p n = p
on_front (Posting (ask w k)) p n = posting (record p { memory = after w p.memory }) (k (answer w p.memory n))
on_front (Posting (done e)) p n = p
on_front (Posting never) p n = p
on_front (Polling (ask w k)) p n = polling (record p { memory = after w p.memory }) (k (answer w p.memory n))
on_front (Polling (done e)) p n = p
on_front (Polling never) p n = p

-- After an idle turn the back sleeps; after another the next one begins.
abbrev pub next_at : BackWiring → BackState → Turned → BackAt
next_at w s Idle = Asleep
next_at w s (Ran number packet ops slots) = First false (half_turn w s)
next_at w s (Refused cause ops slots) = First false (half_turn w s)
next_at w s (Halted cause) = First false (half_turn w s)

abbrev pub turned : BackWiring → Pair → Ending → Option (List ℕ) → Pair
turned w p e c = record p { back = e.0; at = next_at w e.0 e.1; deeds = p.deeds ++ OfTurn (record { turn = e.1; copy = c }) ∷ [] }

abbrev pub second : BackWiring → Pair → List ℕ → Left → Steps Ending → Pair
second w p packet left (done e) = turned w p e (Some packet)
second w p packet left (ask v k) = record p { at = Second packet left (ask v k) }
second w p packet left never = record p { at = Second packet left never }

abbrev pub halved : BackWiring → Pair → Half → Pair
halved w p (Over e) = turned w p e None
halved w p (HasRun slots packet left) = second w p packet left (after_run w p.back slots left)

abbrev pub first : BackWiring → Pair → Steps Half → Pair
first w p (done h) = halved w p h
first w p (ask v k) = record p { at = First true (ask v k) }
first w p never = record p { at = First true never }

-- A sleeping back wakes if its port is pending, and clears it: its host has to look for posts anew.
abbrev pub wake : BackWiring → Bool → Pair → Pair
wake w true p = record p { memory = record p.memory { pending = false; awaits = awaits.Nothing }; at = First false (half_turn w p.back) }
wake w false p = p

-- Between turns, asleep or awake.
abbrev pub rested : BackWiring → Bool → BackState → BackAt
rested w true s = Asleep
rested w false s = First false (half_turn w s)

abbrev pub landed : BackWiring → Pair → Bool → List ℕ → Arrival → Pair
landed w p asleep packet a = record p { back = a.0; at = rested w asleep a.0; deeds = p.deeds ++ OfDelivery packet a.1 ∷ [] }

abbrev pub delivering : BackWiring → Pair → Bool → List ℕ → Steps Arrival → Pair
delivering w p asleep packet (done a) = landed w p asleep packet a
delivering w p asleep packet (ask v k) = record p { at = Delivering asleep packet (ask v k) }
delivering w p asleep packet never = record p { at = Delivering asleep packet never }

abbrev pub begin_delivery : BackWiring → Pair → Bool → List ℕ → Pair
begin_delivery w p asleep packet = delivering w p asleep packet (whole_delivery w.vif w.accepts p.back Whole packet)

-- Inside a turn, a delivery or a wait nothing is done.
abbrev pub on_deliver : BackWiring → BackAt → Pair → List ℕ → Pair
on_deliver w Asleep p packet = begin_delivery w p true packet
on_deliver w (First false t) p packet = begin_delivery w p false packet
on_deliver w (First true t) p packet = p
on_deliver w (Second copy left t) p packet = p
on_deliver w (Delivering asleep other t) p packet = p
on_deliver w (Waiting asleep pages t) p packet = p

-- The back has asked for `pages` slots, from the index on that its queue is at.
abbrev pub asking : Pair → ℕ → Memory → Memory
asking p pages m = record m { awaits = awaits.Asked p.back.rx_index pages }

abbrev pub answered : Pair → ℕ → Awaited → Awaits
answered p pages awaited.Posted = awaits.Nothing
answered p pages awaited.Waiting = awaits.Fewer p.back.rx_index pages
answered p pages (awaited.Halted cause) = p.memory.awaits

abbrev pub waited : BackWiring → Pair → Bool → ℕ → Wait → Pair
waited w p asleep pages e =
    record p {
      memory = record p.memory { awaits = answered p pages e.1 };
      back = e.0;
      at = rested w asleep e.0;
      deeds = p.deeds ++ OfWait pages e.1 ∷ [];
    }

abbrev pub waiting : BackWiring → Pair → Bool → ℕ → Steps Wait → Pair
waiting w p asleep pages (done e) = waited w p asleep pages e
waiting w p asleep pages (ask v k) = record p { at = Waiting asleep pages (ask v k) }
waiting w p asleep pages never = record p { at = Waiting asleep pages never }

abbrev pub begin_wait : BackWiring → Pair → Bool → ℕ → Pair
begin_wait w p asleep pages = waiting w p asleep pages (whole_wait w.vif.rx p.back pages)

abbrev pub on_await : BackWiring → BackAt → Pair → ℕ → Pair
on_await w Asleep p pages = begin_wait w p true pages
on_await w (First false t) p pages = begin_wait w p false pages
on_await w (First true t) p pages = p
on_await w (Second copy left t) p pages = p
on_await w (Delivering asleep packet t) p pages = p
on_await w (Waiting asleep other t) p pages = p

-- A halted back's turn is over as it begins, and nothing follows.
abbrev pub on_back : BackWiring → BackAt → Pair → ℕ → Pair
on_back w Asleep p n = wake w p.memory.pending p
on_back w (First b (ask v k)) p n = first w (record p { memory = after v p.memory }) (k (answer v p.memory n))
on_back w (First b (done h)) p n = p
on_back w (First b never) p n = p
on_back w (Second packet left (ask v k)) p n = second w (record p { memory = after v p.memory }) packet left (k (answer v p.memory n))
on_back w (Second packet left (done e)) p n = p
on_back w (Second packet left never) p n = p
on_back w (Delivering asleep packet (ask v k)) p n =
    delivering w (record p { memory = after v p.memory }) asleep packet (k (answer v p.memory n))
on_back w (Delivering asleep packet (done a)) p n = p
on_back w (Delivering asleep packet never) p n = p
on_back w (Waiting asleep pages (ask v k)) p n =
    waiting w (record p { memory = asking p pages (after v p.memory) }) asleep pages (k (answer v p.memory n))
on_back w (Waiting asleep pages (done e)) p n = p
on_back w (Waiting asleep pages never) p n = p

abbrev pub step : BackWiring → FrontWiring → Pair → PairEvent → ℕ → Pair
step bw fw p (Send packet) n = on_send fw p.activity p packet
step bw fw p Post n = on_post fw p.activity p
step bw fw p Poll n = on_poll fw p.activity p
step bw fw p FrontStep n = on_front p.activity p n
step bw fw p BackStep n = on_back bw p.at p n
step bw fw p (Deliver packet) n = on_deliver bw p.at p packet
step bw fw p (Await pages) n = on_await bw p.at p pages

abbrev pub run : BackWiring → FrontWiring → Pair → List (PairEvent × ℕ) → Pair
run bw fw p [] = p
run bw fw p (e ∷ es) = run bw fw (step bw fw p e.0 e.1) es

-- A back that has done nothing yet.
abbrev pub new_back : ℕ → BackState
new_back start = record { tx_index = start; rx_index = start; halt = None }

-- Before the first event.
abbrev pub opening : FrontState → ℕ → Pair
opening front start = record {
  memory = opening_memory start;
  front = front;
  activity = Free;
  back = new_back start;
  at = Asleep;
  sent = [];
  received = [];
  deeds = [];
}
