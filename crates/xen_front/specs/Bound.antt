-- Stated: claims rest on this file.
-- Where the events of an activity are, and how many there are at most.
use Rattle.std.specs.Prelude.{ℕ, ◌≡◌, ◌<◌, ◌≤◌, List, [], ◌∷◌, length, All, Contains}
use Rattle.xen_page.specs.declared.place.Place.{Place}
use Rattle.xen_steps.specs.Event.{Event, Read, Write, Notify}
use Rattle.xen_steps.specs.declared.want.Want.{Want}
use Rattle.xen_steps.specs.declared.want.Want.TheVariants as want
use Rattle.xen_front.specs.Activities.{IsSend, IsPost, IsPoll}
use Rattle.xen_front.specs.Given.{Given}
use Rattle.xen_buffers.specs.Wired.{IsWired, frames_of}
use Rattle.xen_front.specs.declared.state.FrontState.{FrontState}
use Rattle.xen_buffers.specs.declared.wiring.FrontWiring.{FrontWiring}

-- A word of one of the frames that the front was made with.
abbrev pub IsOwnPlace : FrontWiring → Place → Type 0
IsOwnPlace w at = Contains (frames_of w) at.frame × (at.word < 1024)

-- An access to such a word, or a notice to the front's port.
abbrev pub IsOwnWant : FrontWiring → Want → Type 0
IsOwnWant w (want.Read at) = IsOwnPlace w at
IsOwnWant w (want.Write at v) = IsOwnPlace w at
IsOwnWant w (want.Notify port) = port ≡ w.port
IsOwnWant w x = ⊥

abbrev pub IsOwnEvent : FrontWiring → Event → Type 0
IsOwnEvent w (Read at a) = IsOwnPlace w at
IsOwnEvent w (Write at v) = IsOwnPlace w at
IsOwnEvent w (Notify port) = port ≡ w.port
IsOwnEvent w e = ⊥

abbrev pub AreOwn : FrontWiring → List Event → Type 0
AreOwn w [] = Unit {0}
AreOwn w (e ∷ t) = IsOwnEvent w e × AreOwn w t

-- Each ring has a flag for each of 256 ids.
pub record HasFlags (s : FrontState) : Type 0 where
  pub tx : length s.tx.out ≡ 256
  pub rx : length s.rx.out ≡ 256

-- Each activity of a wired front keeps to the front's frames, and has at most this many events: a send 16 pieces of 2 + 1,024 + 3
-- words and the push, a poll two looks of 3, 2 for each of 256 tx responses and a last one, 16 slots of 3 + 1,024 words, and 3 for an
-- extra.
pub record AreShort : Type 0 where
  pub sends : (w : FrontWiring) (s : FrontState) (p ids : List ℕ) (t : List Event) (s' : FrontState) (g : Given) → IsWired w → length ids ≤ 16 →
      All (λ id. id < 256) ids →
      IsSend w s p ids t s' g → (length t ≤ 16467) × AreOwn w t
  pub posts : (w : FrontWiring) (s : FrontState) (id : ℕ) (t : List Event) (s' : FrontState) (g : Given) → IsWired w → id < 256 →
      IsPost w s id t s' g → (length t ≤ 7) × AreOwn w t
  pub polls : (w : FrontWiring) (s : FrontState) (t : List Event) (s' : FrontState) (g : Given) → IsWired w → HasFlags s → IsPoll w s t s' g →
      (length t ≤ 16954) × AreOwn w t
