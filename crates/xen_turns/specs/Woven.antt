-- Stated: claims rest on this file.
-- Turns that are made side by side: one trace, each of whose events is one turn's.
use Rattle.std.specs.Prelude.{ℕ, ◌≡◌, ◌<◌, ◌≤◌, List, [], ◌∷◌, Bool, true, false, not, Some, ◌==◌, ◌&&◌, if◌then◌else◌, length, nat_le, slice_get}
use Rattle.xen_page.specs.declared.place.Place.{Place}
use Rattle.xen_steps.specs.Event.{Event, Read, Write}
use Rattle.xen_turns.specs.declared.wiring.Wiring.{Wiring}

-- An event, and the number of the turn that makes it.
pub record Made : Type 0 where
  pub turn : ℕ
  pub event : Event

-- All events.
abbrev pub events_of : List Made → List Event
events_of [] = []
events_of (m ∷ t) = m.event ∷ events_of t

-- Those of one turn.
abbrev pub of_turn : ℕ → List Made → List Event
of_turn k [] = []
of_turn k (m ∷ t) = if m.turn == k then m.event ∷ of_turn k t else of_turn k t

-- These events are one turn's.
abbrev pub by_turn : ℕ → List Event → List Made
by_turn k [] = []
by_turn k (e ∷ t) = record { turn = k; event = e } ∷ by_turn k t

-- A word of the tx ring's slots, into which responses go.
abbrev pub is_in_slot : Wiring → Place → Bool
is_in_slot w at = (at.frame == w.vif.tx) && nat_le 16 at.word

-- What comes in the order of the turns: all but reads, which nobody sees, and responses, which are the frontend's only when they are
-- pushed (ring.h, RING_PUSH_RESPONSES).
abbrev pub is_in_order : Wiring → Event → Bool
is_in_order w (Read at v) = false
is_in_order w (Write at v) = not (is_in_slot w at)
is_in_order w e = true

-- The turns of what comes in their order, event by event.
abbrev pub turns_in_order : Wiring → List Made → List ℕ
turns_in_order w [] = []
turns_in_order w (m ∷ t) = if is_in_order w m.event then m.turn ∷ turns_in_order w t else turns_in_order w t

-- From k on, and none before one that is less.
abbrev pub IsRising : ℕ → List ℕ → Type 0
IsRising k [] = Unit {0}
IsRising k (n ∷ more) = (k ≤ n) × IsRising n more

-- None is more.
abbrev pub AllUpTo : ℕ → List ℕ → Type 0
AllUpTo k [] = Unit {0}
AllUpTo k (n ∷ more) = (n ≤ k) × AllUpTo k more

abbrev pub AllBelow : ℕ → List Made → Type 0
AllBelow n [] = Unit {0}
AllBelow n (m ∷ t) = (m.turn < n) × AllBelow n t

-- These turns' events, each turn's in its order.
pub record AreWoven (w : Wiring) (parts : List (List Event)) (made : List Made) : Type 0 where
  pub each : (k : ℕ) → k < length parts → slice_get parts k ≡ Some (of_turn k made)
  pub none_else : AllBelow (length parts) made
  pub order : IsRising 0 (turns_in_order w made)
