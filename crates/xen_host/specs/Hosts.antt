-- Stated: claims rest on this file.
-- What a host was asked, and what C's host is: room for ops, and lent words.
use Rattle.std.specs.Prelude.{ℕ, zero, suc, ◌≡◌, ◌<◌, ◌≤◌, ◌+◌, ◌/◌, List, [], ◌∷◌, ◌++◌, length, take, drop}
use Rattle.xen_netif.specs.Copy.{bytes_from}
use Rattle.xen_netif.specs.declared.fragment.Fragment.{Fragment}
use Rattle.xen_page.specs.declared.place.Place.{Place}
use Rattle.xen_steps.specs.Event.{Event}
use Rattle.xen_steps.specs.Pages.{AreWords, covered}
use Rattle.xen_steps.specs.Places.{page_word}
use Rattle.xen_host.specs.Asks.{Ask, Write, did_by, op_of}
use Rattle.xen_host.specs.LentWords.{lent_words}
use Rattle.xen_host.specs.declared.host.Ops.{Ops}

-- An ask, and the words of a WRITE, which stand in no ask.
pub record Asked : Type 0 where
  pub ask : Ask
  pub words : List ℕ

-- An ask that takes no words.
abbrev pub plain : Ask → Asked
plain a = record { ask = a; words = [] }

abbrev pub plain_all : List Ask → List Asked
plain_all [] = []
plain_all (a ∷ more) = plain a ∷ plain_all more

abbrev pub asks_of : List Asked → List Ask
asks_of [] = []
asks_of (a ∷ more) = a.ask ∷ asks_of more

-- What these write and give notice of.
abbrev pub events_of : List Asked → List Event
events_of [] = []
events_of (a ∷ more) = did_by a.ask a.words ++ events_of more

-- They were asked one after another.
abbrev pub WasAskedAll : {H : Type 0} → (H → Ask → List ℕ → H → Type 0) → H → List Asked → H → Type 0
WasAskedAll {H} was old [] new = old ≡ new
WasAskedAll {H} was old (a ∷ more) new = (mid : H) × was old a.ask a.words mid × WasAskedAll was mid more new

-- The bytes of a fragment, whose words of this frame a host gave, stand after a packet's bytes.
pub record GavePage {H : Type 0} (gave : H → Place → List ℕ → H → Type 0) (frame : ℕ) (f : Fragment) (packet packet_after : List ℕ) (old new : H) :
    Type 0 where
  pub words : List ℕ
  pub all : length words ≡ covered f
  pub below : AreWords words
  pub read : packet_after ≡ packet ++ bytes_from f (f.offset / 4) words
  pub given : gave old (page_word frame (f.offset / 4)) words new

-- ---- C's host

-- Its ops and words are the same loans.
abbrev pub IsSameLoan : Ops → Ops → Type 0
IsSameLoan old new = (new.ops.ghost_name ≡ old.ops.ghost_name) × (new.words.ghost_name ≡ old.words.ghost_name)

-- The lent words stay, but for those in front that a WRITE takes. It is the first op of a step, and a page of words is lent then.
abbrev pub IsLent : Ask → List ℕ → Ops → Ops → Type 0
IsLent (Write at count) words old new =
    (old.count ≡ 0) × (1024 ≤ length old.words.now) × (take count (lent_words new.words.now) ≡ take count words) ×
    (drop count (lent_words new.words.now) ≡ drop count (lent_words old.words.now)) × (length words ≡ count)
IsLent a words old new = new.words.now ≡ old.words.now

-- An ask stands behind the ops that were said.
pub record IsPut (old : Ops) (a : Ask) (words : List ℕ) (new : Ops) : Type 0 where
  pub room : old.count < length old.ops.now
  pub ops : new.ops.now ≡ take old.count old.ops.now ++ op_of a ∷ drop (old.count + 1) old.ops.now
  pub counted : new.count ≡ old.count + 1
  pub lent : IsLent a words old new
  pub width : length new.words.now ≡ length old.words.now
  pub loan : IsSameLoan old new

-- The answers stand in front of the lent words, wherever they were read.
abbrev pub HasGiven : Ops → Place → List ℕ → Ops → Type 0
HasGiven old at words new = (words ≡ take (length words) (lent_words old.words.now)) × (new ≡ old)

abbrev pub IsFresh : Ops → Type 0
IsFresh h = (h.count ≡ 0) × (1 ≤ length h.ops.now) × (1024 ≤ length h.words.now)

abbrev pub IsFree : Ops → Type 0
IsFree h = h.count < length h.ops.now

abbrev pub IsSettled : Ops → Type 0
IsSettled h = h.count ≤ length h.ops.now

abbrev pub IsFull : Ops → Type 0
IsFull h = h.count ≡ length h.ops.now

-- An answer of so many words of 32 bits, from a place on, was given, if any was waited for.
abbrev pub WasGiven : {H : Type 0} → (H → Place → List ℕ → H → Type 0) → Place → ℕ → H → List ℕ → H → Type 0
WasGiven gave at zero host words mid = (words ≡ []) × (mid ≡ host)
WasGiven gave at (suc n) host words mid = (length words ≡ suc n) × gave host at words mid × AreWords words
