-- Stated: claims rest on this file.
-- What was copied and given in a run, beside what was sent and received.
use Rattle.std.specs.Prelude.{ℕ, ◌≡◌, List, [], ◌∷◌, ◌++◌, ◌==◌, if◌then◌else◌, None}
use Rattle.xen_steps.specs.Event.{Event}
use Rattle.xen_turns.specs.Awaited.{IsAwaiting}
use Rattle.xen_netif.specs.declared.offload.RxOffload.TheVariants.{Whole}
use Rattle.xen_turns.specs.Delivered.{IsDelivery}
use Rattle.xen_turns.specs.Tree.{Left}
use Rattle.xen_turns.specs.Turned.{Turned, Idle, Ran, Refused, Halted}
use Rattle.xen_turns.specs.Turns.{IsTurn}
use Rattle.xen_turns.specs.declared.delivery.wait.Awaited.{Awaited}
use Rattle.xen_turns.specs.declared.delivery.delivering.Delivery.{Delivery}
use Rattle.xen_turns.specs.declared.state.State.{State}
use Rattle.xen_turns.specs.declared.turn.PacketRefusal.TheVariants as refusal
use Rattle.xen_turns.specs.declared.wiring.Wiring.{Wiring}
use Rattle.xdp_world.specs.Activities.{Deed, DeliveryOf, Given, Item, SlotsAwaited, TurnOf, WaitOf}
use Rattle.xdp_world.specs.Activities.{all_came, deliveries_in, turns_in, waits_in}
use Rattle.xdp_world.specs.Core.{started_at}
use Rattle.xdp_world.specs.Keeping.{Keeps}
use Rattle.xdp_world.specs.declared.kept.Kept.{Kept}
use Rattle.xdp_world.specs.declared.kept.Kept.TheVariants as kept
use Rattle.xdp_world.specs.declared.report.Delivered.{Delivered}
use Rattle.xdp_world.specs.declared.report.Waited.{Waited}
use Rattle.honest_pair.specs.Machine.Law.{HasArrived, HasLooked, delivered}
use Rattle.honest_pair.specs.Machine.Traces.{HasCopy}

-- It ran, or was refused for want of rx slots.
abbrev pub HasCopied : Turned → Type 0
HasCopied Idle = ⊥
HasCopied (Ran number packet ops slots) = Unit {0}
HasCopied (Refused cause ops slots) = cause ≡ refusal.FewSlots
HasCopied (Halted cause) = ⊥

-- The packets that a turn sent back.
abbrev pub sent_back : Kept → List (List ℕ)
sent_back kept.Idle = []
sent_back (kept.Ran action number packet ops slots) = if number == 3 then packet.items ∷ [] else []
sent_back (kept.Refused cause ops slots) = []
sent_back (kept.Halted cause) = []

-- A queue's items from a state on are the traces of these turns, the packets and traces of these deliveries, and the numbers and traces of
-- these waits, each from the last's state, and what is left after them. Each turn that isn't idle ran, or was refused for want of rx slots,
-- and these are the copies in their traces, in order. Each delivery ended with its packet in posted buffers, or with too few of them, or it
-- was no frame; no wait was halted. What turns sent back and what lies in posted buffers is given, in order.
pub data AreCopied (w : Wiring) : State → List Item → List Deed → (copies given : List (List ℕ)) → State → List Item → Type 0 where
  begun : (s : State) (front : List Item) → AreCopied w s front [] [] [] s front
  idle : (s mid end : State) (t : List Event) (more front : List Item) (ds : List Deed) (copies given : List (List ℕ)) →
      s.halt ≡ None → IsTurn w s t mid Idle → AreCopied w mid more ds copies given end front →
      AreCopied w s (all_came t ++ more) (TurnOf kept.Idle ∷ ds) copies given end front
  copied : (s mid end : State) (t : List Event) (more front : List Item) (u : Turned) (k : Kept) (ds : List Deed) (copy : List ℕ)
      (out : Left) (copies given : List (List ℕ)) →
      s.halt ≡ None → IsTurn w s t mid u → Keeps u k → HasCopied u → HasCopy w s t copy out →
      AreCopied w mid more ds copies given end front →
      AreCopied w s (all_came t ++ more) (TurnOf k ∷ ds) (copy ∷ copies) (sent_back k ++ given) end front
  arrived : (s mid end : State) (packet : List ℕ) (t : List Event) (more front : List Item) (what : Delivery) (ds : List Deed)
      (copies given : List (List ℕ)) →
      IsDelivery w s Whole packet t mid what → HasArrived what → AreCopied w mid more ds copies given end front →
      AreCopied w s (Given packet ∷ (all_came t ++ more)) (DeliveryOf what ∷ ds) copies (delivered packet what ++ given) end front
  looked : (s mid end : State) (pages : ℕ) (t : List Event) (more front : List Item) (answer : Awaited) (ds : List Deed)
      (copies given : List (List ℕ)) →
      IsAwaiting w s pages t mid answer → HasLooked answer → AreCopied w mid more ds copies given end front →
      AreCopied w s (SlotsAwaited pages ∷ (all_came t ++ more)) (WaitOf answer ∷ ds) copies given end front

-- The packet of an unfinished turn whose program's run ended in TX, or of an unfinished delivery; or none.
pub data IsLast (w : Wiring) (s : State) : List Item → List (List ℕ) → Type 0 where
  nothing : (front : List Item) → IsLast w s front []
  sends_back : (front : List Event) (copy : List ℕ) (out : Left) → HasCopy w s front copy out → out.number ≡ 3 →
      IsLast w s (all_came front) (out.packet ∷ [])
  delivers : (packet : List ℕ) (front : List Event) → IsLast w s (Given packet ∷ all_came front) (packet ∷ [])

-- The turns' copies are a prefix of what was sent, in order and once each; what was received is a prefix of what the turns
-- sent back and the host delivered, joined in order, and of what an unfinished turn's run gave or an unfinished delivery has, in order
-- and once each. `end` is the state after the last turn, delivery or wait.
pub record Delivers (w : Wiring) (start : ℕ) (items : List Item) (turns : List Kept) (deliveries : List Delivered) (waits : List Waited)
    (end : State) (sent received : List (List ℕ)) : Type 0 where
  pub deeds : List Deed
  pub turns_are : turns ≡ turns_in deeds
  pub deliveries_are : deliveries ≡ deliveries_in 0 deeds
  pub waits_are : waits ≡ waits_in 0 0 deeds
  pub copies : List (List ℕ)
  pub all_given : List (List ℕ)
  pub front : List Item
  pub copied : AreCopied w (started_at start) items deeds copies all_given end front
  pub in_order : (more : List (List ℕ)) × (sent ≡ copies ++ more)
  pub last : List (List ℕ)
  pub is_last : IsLast w end front last
  pub given : (more : List (List ℕ)) × (all_given ++ last ≡ received ++ more)
