-- Stated: claims rest on this file.
-- Which places a back queue touches.
use Rattle.std.specs.Prelude.{ℕ, ◌≡◌, ◌<◌, ◌⊎◌, List, [], ◌∷◌, Some, Ok}
use Rattle.xen_page.specs.Entry.{entry_of}
use Rattle.xen_page.specs.Grant.{checked}
use Rattle.xen_page.specs.Mapping.{frame_place}
use Rattle.xen_page.specs.Table.{entry_place}
use Rattle.xen_page.specs.declared.place.Place.{Place}
use Rattle.xen_page.specs.declared.entry.Rights.{Rights}
use Rattle.xen_page.specs.declared.entry.Rights.TheVariants.{ReadOnly, ReadWrite}
use Rattle.xen_steps.specs.Event.{Event, Read, Write, Instr, Load, Add, Notify}
use Rattle.xen_steps.specs.Places.{page_word}
use Rattle.xen_rx_fill.specs.Places.{rx_slot, tx_slot, tx_word}
use Rattle.xen_rx_fill.specs.declared.vif.Vif.{Vif}

-- A trace has two events, the second right after the first.
pub data AreNext (e f : Event) : List Event → Type 0 where
  here : (t : List Event) → AreNext e f (e ∷ f ∷ t)
  later : (x : Event) (t : List Event) → AreNext e f t → AreNext e f (x ∷ t)

-- The trace reads the two words of an entry of the table, one after the other, and by their check the frame is granted.
pub record IsGranted (w : Vif) (rights : Rights) (t : List Event) (frame : ℕ) : Type 0 where
  pub gref : ℕ
  pub at : Place
  pub a : ℕ
  pub b : ℕ
  pub place : entry_place w.table.now gref ≡ Some at
  pub read : AreNext (Read at a) (Read (frame_place at) b) t
  pub grants : checked w.owners.now w.granter w.user (entry_of a b) rights ≡ Ok frame

-- What a queue may do. It reads words of the rings, entries of the table, and words of a frame that is granted in the same
-- trace. It writes a response's words, a ring's `rsp_prod`, tx's `req_event`, and words of a frame that is granted for writing.
pub data IsAllowed (w : Vif) (t : List Event) : Event → Type 0 where
  ring : (frame k v : ℕ) → (frame ≡ w.tx) ⊎ (frame ≡ w.rx) → k < 1024 → IsAllowed w t (Read (page_word frame k) v)
  entry_flags : (gref v : ℕ) (at : Place) → entry_place w.table.now gref ≡ Some at → IsAllowed w t (Read at v)
  entry_frame : (gref v : ℕ) (at : Place) → entry_place w.table.now gref ≡ Some at → IsAllowed w t (Read (frame_place at) v)
  source : (frame k v : ℕ) → k < 1024 → IsGranted w ReadOnly t frame → IsAllowed w t (Read (page_word frame k) v)
  tx_response : (i v : ℕ) → IsAllowed w t (Write (tx_slot w i 0) v)
  rx_response : (i j v : ℕ) → j < 2 → IsAllowed w t (Write (rx_slot w i j) v)
  pushed : (frame v : ℕ) → (frame ≡ w.tx) ⊎ (frame ≡ w.rx) → IsAllowed w t (Write (page_word frame 2) v)
  announced : (v : ℕ) → IsAllowed w t (Write (tx_word w 1) v)
  buffer : (frame k v : ℕ) → k < 1024 → IsGranted w ReadWrite t frame → IsAllowed w t (Write (page_word frame k) v)
  notified : IsAllowed w t (Notify w.port)
  instruction : IsAllowed w t Instr
  loaded : (m k j v : ℕ) → IsAllowed w t (Load m k j v)
  added : (m k j delta old : ℕ) → IsAllowed w t (Add m k j delta old)

abbrev pub AllAllowed : Vif → List Event → List Event → Type 0
AllAllowed w t [] = Unit {0}
AllAllowed w t (e ∷ p) = IsAllowed w t e × AllAllowed w t p
