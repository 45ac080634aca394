-- Stated: claims rest on this file.
-- Rounds of a back: a turn, and the host's answer to its packet. And what a row counts of them.
use Rattle.std.specs.Prelude.{ℕ, ◌≡◌, ◌<◌, ◌+◌, Bool, true, false, List, [], ◌∷◌, ◌++◌, count_by, Option, Some, None}
use Rattle.bpf_note.specs.declared.op.Op.{Op}
use Rattle.xen_netif.specs.declared.offload.RxOffload.TheVariants.{Whole}
use Rattle.xen_turns.specs.Delivered.{IsDelivery}
use Rattle.xen_turns.specs.Drive.{labels}
use Rattle.xen_back.specs.Queues.{IsReady, IsSameWiring, state_of, wiring_of}
use Rattle.xen_turns.specs.Turned.{Turned, Idle, Ran, Refused, Halted}
use Rattle.xen_turns.specs.Turns.{IsTurn}
use Rattle.xen_turns.specs.declared.delivery.delivering.Delivery.{Delivery}
use Rattle.xen_turns.specs.declared.delivery.delivering.Delivery.TheVariants as delivery
use Rattle.xen_back.specs.declared.queue.Queue.{Queue}
use Rattle.xen_turns.specs.declared.state.State.{State}
use Rattle.xen_turns.specs.declared.turn.Halt.{Halt}
use Rattle.xen_turns.specs.declared.turn.Turn.{Turn}
use Rattle.xen_turns.specs.declared.turn.Turn.TheVariants as shown
use Rattle.xen_turns.specs.declared.wiring.Wiring.{Wiring}
use Rattle.xen_page.specs.Access.{Performs}
use Rattle.xen_page.specs.declared.access.Access.{Access}
use Rattle.xen_steps.specs.Drive.{accesses}
use Rattle.xen_steps.specs.Event.{Event}
use Rattle.thread_pair.specs.Answering.{reply}
use Rattle.thread_pair.specs.declared.host.OnPass.{OnPass}
use Rattle.thread_pair.specs.declared.next.Next.{Next}
use Rattle.thread_pair.specs.declared.next.Next.TheVariants as next
use Rattle.thread_pair.specs.declared.report.BackRow.{BackRow}
use Rattle.thread_pair.specs.declared.report.Deliveries.{Deliveries}

-- How a turn ended, and what became of the host's answer, if there was one.
abbrev pub Round : Type 0
Round = Turned × Option Delivery

-- A round from a state: the turn's trace, the trace of the answer's delivery, and the state after both. Each packet that calls for an
-- answer gets it before the next turn begins, and nothing else is delivered.
pub data IsRound (h : OnPass) (w : Wiring) (s : State) : List Event → List Event → State → Turned → Option Delivery → Type 0 where
  silent : (t : List Event) (end : State) (u : Turned) → IsTurn w s t end u → reply h u ≡ None → IsRound h w s t [] end u None
  answered : (t p : List Event) (mid end : State) (u : Turned) (packet : List ℕ) (d : Delivery) → IsTurn w s t mid u →
      reply h u ≡ Some packet →
      IsDelivery w mid Whole packet p end d → IsRound h w s t p end u (Some d)

-- A turn that found nothing to do, or the queue halted.
abbrev pub IsRest : Turned → Type 0
IsRest Idle = Unit {0}
IsRest (Halted cause) = Unit {0}
IsRest u = ⊥

-- What comes after a turn that a host sees: it goes on unless the turn found nothing, and ends if the queue has halted.
abbrev pub next_of : Turn → Next
next_of shown.Idle = next.Rests
next_of (shown.Ran action number packet ops slots) = next.Goes
next_of (shown.Refused cause ops slots) = next.Goes
next_of (shown.Halted cause) = next.Ends

-- The tx slots that it answered.
abbrev pub slots_in : Turn → ℕ
slots_in shown.Idle = 0
slots_in (shown.Ran action number packet ops slots) = slots
slots_in (shown.Refused cause ops slots) = slots
slots_in (shown.Halted cause) = 0

-- What comes after a turn, and the tx slots that it answered.
abbrev pub next_after : Turned → Next
next_after Idle = next.Rests
next_after (Ran number packet ops slots) = next.Goes
next_after (Refused cause ops slots) = next.Goes
next_after (Halted cause) = next.Ends

abbrev pub slots_by : Turned → ℕ
slots_by Idle = 0
slots_by (Ran number packet ops slots) = slots
slots_by (Refused cause ops slots) = slots
slots_by (Halted cause) = 0

-- A turn that ran the program on a packet, and one that refused its packet.
abbrev pub is_run : Turned → Bool
is_run (Ran number packet ops slots) = true
is_run u = false

abbrev pub is_refusal : Turned → Bool
is_refusal (Refused cause ops slots) = true
is_refusal u = false

-- An answer that was sent, one for which too few slots were posted, and one for which a slot's grant failed.
abbrev pub is_sent : Option Delivery → Bool
is_sent (Some (delivery.Sent slots)) = true
is_sent d = false

abbrev pub is_few : Option Delivery → Bool
is_few (Some delivery.FewSlots) = true
is_few d = false

abbrev pub is_lost : Option Delivery → Bool
is_lost (Some (delivery.Refused slots)) = true
is_lost d = false

-- Why the queue has halted, as a turn and a delivery show it.
abbrev pub halt_of : Turned → Option Halt
halt_of (Halted cause) = Some cause
halt_of u = None

abbrev pub halt_at : Option Delivery → Option Halt
halt_at (Some (delivery.Halted cause)) = Some cause
halt_at d = None

abbrev pub or_else : Option Halt → Option Halt → Option Halt
or_else (Some cause) h = Some cause
or_else None h = h

-- The latest cause, if there is one.
abbrev pub halt_in : List Round → Option Halt
halt_in [] = None
halt_in (r ∷ rs) = or_else (halt_at r.1) (or_else (halt_of r.0) (halt_in rs))

-- What a row says of rounds, the latest first.
abbrev pub delivered : List Round → Deliveries
delivered rs = record {
  sent = count_by (λ (r : Round). is_sent r.1) rs;
  few = count_by (λ (r : Round). is_few r.1) rs;
  refused = count_by (λ (r : Round). is_lost r.1) rs;
}

abbrev pub counted : List Round → BackRow
counted rs = record {
  copied = count_by (λ (r : Round). is_run r.0) rs;
  refused = count_by (λ (r : Round). is_refusal r.0) rs;
  halted = halt_in rs;
  deliveries = delivered rs;
}

-- A row, and one more turn as a host sees it.
abbrev pub with_turn : Turn → BackRow → BackRow
with_turn shown.Idle r = r
with_turn (shown.Ran action number packet ops slots) r = record r { copied = r.copied + 1 }
with_turn (shown.Refused cause ops slots) r = record r { refused = r.refused + 1 }
with_turn (shown.Halted cause) r = record r { halted = Some cause }

-- A row, and one more delivery.
abbrev pub with_delivery : Delivery → BackRow → BackRow
with_delivery (delivery.Sent slots) r = record r { deliveries = record r.deliveries { sent = r.deliveries.sent + 1 } }
with_delivery delivery.FewSlots r = record r { deliveries = record r.deliveries { few = r.deliveries.few + 1 } }
with_delivery (delivery.Refused slots) r = record r { deliveries = record r.deliveries { refused = r.deliveries.refused + 1 } }
with_delivery (delivery.Halted cause) r = record r { halted = Some cause }
with_delivery delivery.NoFrame r = r
with_delivery delivery.NotAccepted r = r

-- Each count can grow.
abbrev pub CanCount : Deliveries → Type 0
CanCount d = (d.sent < 4294967295) × (d.few < 4294967295) × (d.refused < 4294967295)

-- A round is over: its traces are a round's, the bus went through its accesses, its labels are what the seat's operations grew by,
-- the row counts it, and its turn says what comes next and how many slots are done with.
pub record IsRoundOver {S : Type 0} (log : S → Option (List Access)) (gives : S → Access → S →
    Type 0) (h : OnPass) (old new : Queue) (row row' : BackRow)
    (n : Next) (slots : ℕ) (bus bus' : S) (ops ops' : List Op) : Type 0 where
  pub trace : List Event
  pub sending : List Event
  pub turned : Turned
  pub sent : Option Delivery
  pub is_round : IsRound h (wiring_of old) (state_of old) trace sending (state_of new) turned sent
  pub performed : Performs log gives bus (accesses trace ++ accesses sending) bus'
  pub grown : ops' ≡ ops ++ labels trace
  pub counts : (rs : List Round) → row ≡ counted rs → row' ≡ counted ((turned, sent) ∷ rs)
  pub goes : n ≡ next_after turned
  pub settles : slots ≡ slots_by turned
  pub ready : IsReady new
  pub same : IsSameWiring old new
