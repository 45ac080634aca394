-- Stated: claims rest on this file.
-- A host over a bus: which accesses it makes of what it is asked, and what an answer is read by.
use Rattle.std.specs.Prelude.{ℕ, ◌≡◌, ◌<◌, ◌≤◌, ◌+◌, List, [], ◌∷◌, Option, Some, length}
use Rattle.xen_netif.specs.Copy.{bytes_of}
use Rattle.xen_page.specs.Access.{Performs}
use Rattle.xen_page.specs.declared.access.Access.{Access}
use Rattle.xen_page.specs.declared.access.Access.TheVariants as access
use Rattle.xen_page.specs.declared.place.Place.{Place}
use Rattle.xen_steps.specs.Drive.{accesses}
use Rattle.xen_steps.specs.Pages.{AreWords}
use Rattle.xen_steps.specs.Places.{page_word}
use Rattle.xen_host.specs.Asks.{Ask, DeliveryOver, IsInPages, TurnOver, WaitOver, Write, did_by, reads_at}
use Rattle.xen_host.specs.Hosts.{Asked}
use Rattle.xen_host.specs.declared.over_bus.Over.{Over}
use Rattle.xen_host.specs.declared.over_bus.Over.TheVariants as over
use Rattle.xen_host.specs.declared.over_bus.OverBus.{OverBus}

-- Nothing has to hold, or it never does.
abbrev pub IsAlways : {B : Type 0} → OverBus B → Type 0
IsAlways h = Unit {0}

abbrev pub IsNever : {B : Type 0} → OverBus B → Type 0
IsNever h = ⊥

-- So many words, from a place on, are words of one of `frames` pages.
abbrev pub IsInBus : ℕ → Place → ℕ → Type 0
IsInBus frames at count = (at.frame < frames) × (at.word + count ≤ 1024)

-- The bus is the same loan.
abbrev pub IsSameBus : {B : Type 0} → OverBus B → OverBus B → Type 0
IsSameBus old new = new.bus.ghost_name ≡ old.bus.ghost_name

-- The place of the k-th word from one on.
abbrev pub behind : Place → ℕ → Place
behind at k = page_word at.frame (at.word + k)

-- ---- what is over, as an ask

abbrev pub ask_of : Over → Ask
ask_of (over.Turn kind) = TurnOver kind
ask_of (over.Delivery what) = DeliveryOver what
ask_of (over.Wait what) = WaitOver what

-- What is over after an ask.
abbrev pub over_after : Ask → Option Over → Option Over
over_after (TurnOver kind) o = Some (over.Turn kind)
over_after (DeliveryOver what) o = Some (over.Delivery what)
over_after (WaitOver what) o = Some (over.Wait what)
over_after a o = o

-- ---- what was asked

-- A WRITE has as many words as it says.
abbrev pub IsHeld : Ask → List ℕ → Type 0
IsHeld (Write at count) words = length words ≡ count
IsHeld a words = Unit {0}

-- Each WRITE has as many words as it says.
abbrev pub AllHeld : List Asked → Type 0
AllHeld [] = Unit {0}
AllHeld (a ∷ more) = IsHeld a.ask a.words × AllHeld more

-- What was asked was done, if its words are in the bus's pages.
pub record IsMade {B : Type 0} (log : B → Option (List Access)) (gives : B → Access → B → Type 0) (size : B → ℕ) (old : OverBus B) (a : Ask)
    (words : List ℕ) (new : OverBus B) : Type 0 where
  pub performed : IsInPages (size old.bus.now) a → Performs log gives old.bus.now (accesses (did_by a words)) new.bus.now
  pub sized : size new.bus.now ≡ size old.bus.now
  pub held : IsHeld a words
  pub over : new.over ≡ over_after a old.over
  pub loan : IsSameBus old new

-- ---- what was answered

-- Words were read from a place on, each once and in order, if they are in the bus's pages.
pub record MayRead {B : Type 0} (log : B → Option (List Access)) (gives : B → Access → B → Type 0) (size : B → ℕ) (old : B) (at : Place)
    (words : List ℕ) (new : B) : Type 0 where
  pub performed : IsInBus (size old) at (length words) → Performs log gives old (accesses (reads_at at words)) new
  pub below : AreWords words
  pub sized : size new ≡ size old

-- A host did so.
pub record HasRead {B : Type 0} (log : B → Option (List Access)) (gives : B → Access → B → Type 0) (size : B → ℕ) (old : OverBus B) (at : Place)
    (words : List ℕ) (new : OverBus B) : Type 0 where
  pub read : MayRead log gives size old.bus.now at words new.bus.now
  pub over : new.over ≡ old.over
  pub loan : IsSameBus old new

-- ---- the parts

-- These are the bytes of so many words from a place on, lowest byte first.
pub record IsFilled {B : Type 0} (log : B → Option (List Access)) (gives : B → Access → B → Type 0) (size : B → ℕ) (old : B) (at : Place)
    (count : ℕ) (bytes : List ℕ) (new : B) : Type 0 where
  pub words : List ℕ
  pub all : length words ≡ count
  pub told : bytes ≡ bytes_of words
  pub read : MayRead log gives size old at words new

-- A word was written.
pub record MayWrite {B : Type 0} (log : B → Option (List Access)) (gives : B → Access → B → Type 0) (size : B → ℕ) (old : OverBus B)
    (at : Place) (word : ℕ) (new : OverBus B) : Type 0 where
  pub performed : IsInBus (size old.bus.now) at 1 → Performs log gives old.bus.now (access.Write at word ∷ []) new.bus.now
  pub sized : size new.bus.now ≡ size old.bus.now
  pub over : new.over ≡ old.over
  pub loan : IsSameBus old new
