-- Stated: claims rest on this file.
-- When what a guest granted is its own again. netif.h: the response to a request ends the use of the page that the request grants.
-- ring.h, RING_PUSH_RESPONSES_AND_CHECK_NOTIFY: rsp_prod, word 2 of the ring's page, shows the responses; rsp_event, word 3, is read next.
use Rattle.std.specs.Prelude.{ℕ, ◌≡◌, ◌⊎◌, List, [], ◌∷◌, ◌++◌}
use Rattle.xen_steps.specs.Event.{Event, Read, Write, Notify}
use Rattle.xen_steps.specs.Places.{page_word}
use Rattle.xen_rx_fill.specs.declared.vif.Vif.{Vif}
use Rattle.xen_turns.specs.Turned.{Turned, Ran, Refused}
use Rattle.xen_turns.specs.declared.delivery.delivering.Delivery.{Delivery}
use Rattle.xen_turns.specs.declared.delivery.delivering.Delivery.TheVariants as delivery

-- Responses are pushed by these two events, which are what a host does at a PUSH of word 2.
abbrev pub IsPush : Event → Event → Type 0
IsPush (Write at index) (Read from event) = (at.word ≡ 2) × (from ≡ page_word at.frame 3)
IsPush e f = ⊥

-- A word of a ring's page, or a notice.
abbrev pub IsOfRings : Vif → Event → Type 0
IsOfRings w (Read at v) = (at.frame ≡ w.tx) ⊎ (at.frame ≡ w.rx)
IsOfRings w (Write at v) = (at.frame ≡ w.tx) ⊎ (at.frame ≡ w.rx)
IsOfRings w (Notify port) = Unit {0}
IsOfRings w e = ⊥

abbrev pub AllOfRings : Vif → List Event → Type 0
AllOfRings w [] = Unit {0}
AllOfRings w (e ∷ t) = IsOfRings w e × AllOfRings w t

-- After each push there is no event but of the rings' pages: no granted page is touched.
abbrev pub GivesBack : Vif → List Event → Type 0
GivesBack w [] = Unit {0}
GivesBack w (e ∷ []) = Unit {0}
GivesBack w (e ∷ f ∷ t) = (IsPush e f → AllOfRings w t) × GivesBack w (f ∷ t)

-- Responses up to this index were pushed on a ring.
pub record HasPushed (ring index : ℕ) (t : List Event) : Type 0 where
  pub before : List Event
  pub event : ℕ
  pub after : List Event
  pub joined : t ≡ before ++ Write (page_word ring 2) index ∷ Read (page_word ring 3) event ∷ after

-- The packet's slots were answered.
abbrev pub IsAnswered : Turned → Type 0
IsAnswered (Ran number packet ops slots) = Unit {0}
IsAnswered (Refused cause ops slots) = Unit {0}
IsAnswered u = ⊥

-- Rx slots were answered.
abbrev pub IsAnsweredRx : Delivery → Type 0
IsAnsweredRx (delivery.Sent slots) = Unit {0}
IsAnsweredRx (delivery.Refused slots) = Unit {0}
IsAnsweredRx what = ⊥
