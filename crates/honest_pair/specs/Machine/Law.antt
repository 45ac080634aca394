-- Stated: claims rest on this file.
-- What holds of every list of events of the pair.
use Rattle.std.specs.Prelude.{ℕ, ◌≡◌, ◌<◌, ◌^◌, ◌==◌, if◌then◌else◌, false, List, [], ◌∷◌, ◌++◌, flat_map}
use Rattle.std.specs.Prelude.{length, Option, Some, None, All}
use Rattle.bpf_verify.specs.Consistent.{Accepted, IsConsistent}
use Rattle.xen_turns.specs.Tree.{Left}
use Rattle.xen_turns.specs.Turned.{Turned, Idle, Ran, Refused, Halted}
use Rattle.xen_turns.specs.declared.delivery.wait.Awaited.{Awaited}
use Rattle.xen_turns.specs.declared.delivery.wait.Awaited.TheVariants as awaited
use Rattle.xen_turns.specs.declared.delivery.delivering.Delivery.{Delivery}
use Rattle.xen_turns.specs.declared.delivery.delivering.Delivery.TheVariants as delivery
use Rattle.xen_turns.specs.declared.turn.PacketRefusal.TheVariants as refusal
use Rattle.xen_turns.specs.declared.wiring.Wiring.{Wiring as BackWiring}
use Rattle.xen_buffers.specs.declared.wiring.FrontWiring.{FrontWiring}
use Rattle.xen_front.specs.Given.{Ending as FrontEnding}
use Rattle.xen_front.specs.Making.{IsNew}
use Rattle.xen_front.specs.declared.state.FrontState.{FrontState}
use Rattle.honest_pair.specs.Machine.Layout.{IsBack, IsFront}
use Rattle.honest_pair.specs.Machine.Pair.{Activity, Asleep, BackAt, Deed, Deliver, Delivering, First, OfDelivery, OfTurn, OfWait, Pair, PairEvent}
use Rattle.honest_pair.specs.Machine.Pair.{Past, Posting, Second, Send, Sending, Waiting, opening, run, turns_of}
use Rattle.honest_pair.specs.declared.awaits.Awaits.TheVariants as awaits
use Rattle.xen_ring.specs.Index.{distance}
use Rattle.xen_steps.specs.Places.{page_word}
use Rattle.xen_steps.specs.Steps.{Steps}

-- The turns that aren't idle have these copies: each is Ran, or Refused for want of rx slots.
pub data HaveCopies : List Past → List (List ℕ) → Type 0 where
  none : HaveCopies [] []
  idle : (c : Option (List ℕ)) (ps : List Past) (copies : List (List ℕ)) → HaveCopies ps copies →
      HaveCopies (record { turn = Idle; copy = c } ∷ ps) copies
  ran : (number : ℕ) (packet copy : List ℕ) (ops slots : ℕ) (ps : List Past) (copies : List (List ℕ)) → HaveCopies ps copies →
      HaveCopies (record { turn = Ran number packet ops slots; copy = Some copy } ∷ ps) (copy ∷ copies)
  few : (copy : List ℕ) (ops slots : ℕ) (ps : List Past) (copies : List (List ℕ)) → HaveCopies ps copies →
      HaveCopies (record { turn = Refused refusal.FewSlots ops slots; copy = Some copy } ∷ ps) (copy ∷ copies)

-- The packets that a turn sent back: its program's run ended in TX, and it wasn't refused.
abbrev pub sent_back : Turned → List (List ℕ)
sent_back Idle = []
sent_back (Ran number packet ops slots) = if number == 3 then packet ∷ [] else []
sent_back (Refused cause ops slots) = []
sent_back (Halted cause) = []

-- The packet of a delivery that lies in posted buffers.
abbrev pub delivered : List ℕ → Delivery → List (List ℕ)
delivered packet (delivery.Sent slots) = packet ∷ []
delivered packet delivery.FewSlots = []
delivered packet (delivery.Refused slots) = []
delivered packet (delivery.Halted cause) = []
delivered packet delivery.NoFrame = []
delivered packet delivery.NotAccepted = []

-- What a turn sent back, or the host delivered.
abbrev pub given_by : Deed → List (List ℕ)
given_by (OfTurn past) = sent_back past.turn
given_by (OfDelivery packet what) = delivered packet what
given_by (OfWait pages answer) = []

abbrev pub left_by : Left → List (List ℕ)
left_by l = if l.number == 3 then l.packet ∷ [] else []

-- Also the packet of an unfinished turn whose run ended in TX, or of an unfinished delivery.
abbrev pub given_now : BackAt → List (List ℕ)
given_now Asleep = []
given_now (First b t) = []
given_now (Second packet left t) = left_by left
given_now (Delivering asleep packet t) = packet ∷ []
given_now (Waiting asleep pages t) = []

abbrev pub all_given : Pair → List (List ℕ)
all_given p = flat_map given_by p.deeds ++ given_now p.at

-- A delivery ends with its packet in posted buffers, or with too few of them, or it was no frame.
abbrev pub HasArrived : Delivery → Type 0
HasArrived (delivery.Sent slots) = Unit {0}
HasArrived delivery.FewSlots = Unit {0}
HasArrived (delivery.Refused slots) = ⊥
HasArrived (delivery.Halted cause) = ⊥
HasArrived delivery.NoFrame = Unit {0}
HasArrived delivery.NotAccepted = ⊥

-- A wait ends with as many slots posted as were awaited, or with fewer.
abbrev pub HasLooked : Awaited → Type 0
HasLooked awaited.Posted = Unit {0}
HasLooked awaited.Waiting = Unit {0}
HasLooked (awaited.Halted cause) = ⊥

abbrev pub AllArrived : List Deed → Type 0
AllArrived [] = Unit {0}
AllArrived (OfTurn past ∷ ds) = AllArrived ds
AllArrived (OfDelivery packet what ∷ ds) = HasArrived what × AllArrived ds
AllArrived (OfWait pages answer ∷ ds) = HasLooked answer × AllArrived ds

abbrev pub IsSending : Activity → Type 0
IsSending a = (t : Steps FrontEnding) × (a ≡ Sending t)

abbrev pub IsPosting : Activity → Type 0
IsPosting a = (t : Steps FrontEnding) × (a ≡ Posting t)

pub record Honest (p : Pair) : Type 0 where
  pub front : p.front.halt ≡ None
  pub back : p.back.halt ≡ None
  pub copies : (copies : List (List ℕ)) × HaveCopies (turns_of p.deeds) copies × ((more : List (List ℕ)) × (p.sent ≡ copies ++ more))
  pub received : (more : List (List ℕ)) × (all_given p ≡ p.received ++ more)
  pub arrived : AllArrived p.deeds
  pub heard : p.at ≡ Asleep → p.memory.pending ≡ false → (IsSending p.activity → ⊥) → p.memory.word (page_word 17 0) ≡ p.back.tx_index
  -- No notice is lost: what a wait found too few of still isn't posted, or the back's port is pending.
  pub told : (index pages : ℕ) → p.memory.awaits ≡ awaits.Fewer index pages → p.memory.pending ≡ false → (IsPosting p.activity → ⊥) →
      distance index (p.memory.word (page_word 18 0)) < pages

-- A front's state before its first activity.
pub record IsNewFront (s : FrontState) (start : ℕ) : Type 0 where
  pub tx : IsNew s.tx start
  pub rx : IsNew s.rx start
  pub halt : s.halt ≡ None
  pub tx_size : length s.tx.out ≡ 256
  pub rx_size : length s.rx.out ≡ 256

-- Bytes of packets, and numbers that answer counters.
abbrev pub IsByte : ℕ → Type 0
IsByte b = b < 256

abbrev pub IsBytes : PairEvent → Type 0
IsBytes (Send packet) = All IsByte packet
IsBytes (Deliver packet) = All IsByte packet
IsBytes e = Unit {0}

abbrev pub AreFit : List (PairEvent × ℕ) → Type 0
AreFit es = All (λ (e : PairEvent × ℕ). IsBytes e.0 × (e.1 < 2 ^ 64)) es

abbrev pub PairLaw : Type 0
PairLaw = (accepted : Accepted) (bw : BackWiring) (fw : FrontWiring) (front : FrontState) (start : ℕ) → IsConsistent accepted →
    IsBack accepted bw → IsFront fw → IsNewFront front start → start < 2 ^ 32 →
    (es : List (PairEvent × ℕ)) → AreFit es → Honest (run bw fw (opening front start) es)
