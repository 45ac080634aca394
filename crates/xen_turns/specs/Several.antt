-- Stated: claims rest on this file.
-- What a turn of several packets is: so many turns of the table, one after another, for a frontend that answers the same words. It reads ahead, and
-- what all of them say once each is said once: the producer is read once, the responses are pushed once, behind the last of them, and a notice is
-- sent at most once (ring.h: RING_PUSH_RESPONSES_AND_CHECK_NOTIFY, over all of them).
use Rattle.std.specs.Prelude.{ℕ, ◌≡◌, ◌<◌, ◌≤◌, ◌+◌, ◌^◌, true, List, [], ◌∷◌, ◌++◌, length, map, min, Some, None}
use Rattle.xen_steps.specs.Event.{Event, Read, Write}
use Rattle.xen_ring.specs.Index.{distance, is_due}
use Rattle.xen_rx_fill.specs.Places.{tx_word}
use Rattle.xen_rx_fill.specs.Shared.{notices}
use Rattle.xen_turns.specs.Woven.{AreWoven, Made, events_of, is_in_slot}
use Rattle.xen_turns.specs.Parts.{IsLook}
use Rattle.xen_turns.specs.Turned.{Turned, Idle, Halted}
use Rattle.xen_turns.specs.Turns.{IsTurn}
use Rattle.xen_turns.specs.declared.state.State.{State}
use Rattle.xen_turns.specs.declared.turn.Halt.{Halt}
use Rattle.xen_turns.specs.declared.wiring.Wiring.{Wiring}

-- One of the turns: its events between the look and the push, the state after it, and what became of its packet.
pub record Part : Type 0 where
  pub events : List Event
  pub after : State
  pub turned : Turned

abbrev pub events_in : List Part → List (List Event)
events_in parts = map (λ a. a.events) parts

-- The push of the responses from one index to another, the event index, and a notice if one is due.
abbrev pub pushed : Wiring → (old new event : ℕ) → List Event
pushed w old new event = Write (tx_word w.vif 2) new ∷ Read (tx_word w.vif 3) event ∷ notices w.vif (is_due old new event)

-- After this look, and with the push of its own responses, it is a turn of the table, whatever event index that reads.
abbrev pub IsAnswered : Wiring → State → List Event → Part → Type 0
IsAnswered w s look a =
    (event : ℕ) → event < 2 ^ 32 → IsTurn w s (look ++ (a.events ++ pushed w s.tx_index a.after.tx_index event)) a.after a.turned

-- So many turns, each in the state after the one before. All but the first have one look, which the producer p answers.
abbrev pub AreAnswered : Wiring → ℕ → State → List Event → List Part → State → Type 0
AreAnswered w p s look [] end = end ≡ s
AreAnswered w p s look (a ∷ more) end = IsAnswered w s look a × AreAnswered w p a.after (Read (tx_word w.vif 0) p ∷ []) more end

-- The last look before a turn: the first's own, if none is before it.
abbrev pub look_behind : Wiring → ℕ → List Event → List Part → List Event
look_behind w p look [] = look
look_behind w p look (a ∷ more) = Read (tx_word w.vif 0) p ∷ []

-- Responses are pushed if there are any.
abbrev pub pushed_if : Wiring → List Part → (old new event : ℕ) → List Event
pushed_if w [] old new event = []
pushed_if w (a ∷ more) old new event = pushed w old new event

-- Reads, and responses that are never pushed.
abbrev pub AreUnseen : Wiring → List Event → Type 0
AreUnseen w [] = Unit {0}
AreUnseen w (Read at v ∷ t) = AreUnseen w t
AreUnseen w (Write at v ∷ t) = (is_in_slot w at ≡ true) × AreUnseen w t
AreUnseen w (e ∷ t) = ⊥

-- A turn that was begun, and whose answers nobody uses, since the queue has halted before: what it did is unseen, and begins a turn of the table.
pub record IsBegun (w : Wiring) (p : ℕ) (events : List Event) : Type 0 where
  pub state : State
  pub rest : List Event
  pub after : State
  pub turned : Turned
  pub turn : IsTurn w state (Read (tx_word w.vif 0) p ∷ (events ++ rest)) after turned
  pub unseen : AreUnseen w events

abbrev pub AreBegun : Wiring → ℕ → List (List Event) → Type 0
AreBegun w p [] = Unit {0}
AreBegun w p (events ∷ more) = IsBegun w p events × AreBegun w p more

-- No slot is answered.
abbrev pub AnswersNone : Turned → Type 0
AnswersNone Idle = Unit {0}
AnswersNone (Halted cause) = Unit {0}
AnswersNone u = ⊥

-- A turn of at most `most` packets: its trace, the state after it, and what became of each packet.
pub data IsSeveral (w : Wiring) (s : State) (most : ℕ) : List Event → State → List Turned → Type 0 where
  -- nothing is there, or the queue halts before it answers anything
  alone : (t : List Event) (after : State) (u : Turned) → IsTurn w s t after u → AnswersNone u → IsSeveral w s most t after (u ∷ [])
  -- all are answered, and these are so many slots as it may take, or all that are shown
  answered : (look : List Event) (made : List Made) (p n event : ℕ) (parts : List Part) (after : State) → s.halt ≡ None →
      IsLook w s.tx_index (look ++ Read (tx_word w.vif 0) p ∷ []) (Some n) →
      0 < length parts → length parts ≤ most →
      AreAnswered w p s (look ++ Read (tx_word w.vif 0) p ∷ []) parts after →
      min n most ≤ distance s.tx_index after.tx_index →
      AreWoven w (events_in parts) made → event < 2 ^ 32 →
      IsSeveral w s most ((look ++ Read (tx_word w.vif 0) p ∷ []) ++ (events_of made ++ pushed w s.tx_index after.tx_index event)) after
      (map (λ a. a.turned) parts)
  -- one halts the queue: those before it are answered, those behind it were begun at most
  halted : (look : List Event) (made : List Made) (p n event : ℕ) (parts : List Part) (mid : State) (last : Part) (begun : List (List Event)) (cause : Halt) →
      s.halt ≡ None →
      IsLook w s.tx_index (look ++ Read (tx_word w.vif 0) p ∷ []) (Some n) →
      length parts + length begun < most →
      AreAnswered w p s (look ++ Read (tx_word w.vif 0) p ∷ []) parts mid →
      IsTurn w mid (look_behind w p (look ++ Read (tx_word w.vif 0) p ∷ []) parts ++ last.events) last.after (Halted cause) →
      last.turned ≡ Halted cause →
      AreBegun w p begun →
      AreWoven w (events_in parts ++ (last.events ∷ begun)) made → event < 2 ^ 32 →
      IsSeveral w s most ((look ++ Read (tx_word w.vif 0) p ∷ []) ++ (events_of made ++ pushed_if w parts s.tx_index mid.tx_index event)) last.after
      (map (λ a. a.turned) parts ++ (Halted cause ∷ []))
