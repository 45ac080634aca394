-- Stated: claims rest on this file.
-- Which words a turn reads, in order, each once.
use Rattle.std.specs.Prelude.{ℕ, zero, suc, ◌≡◌, ◌≢◌, ◌<◌, ◌≤◌, ◌+◌, ◌/◌, ◌⊎◌, List}
use Rattle.std.specs.Prelude.{[], ◌∷◌, ◌++◌, Option, None, Some, Ok, Err, length}
use Rattle.std.specs.List.{Contains}
use Rattle.xen_netif.specs.Chain.{Slot}
use Rattle.xen_netif.specs.Copy.{covered}
use Rattle.xen_netif.specs.Segments.{offered_fragments}
use Rattle.xen_netif.specs.declared.fault.SizeFault.{SizeFault}
use Rattle.xen_netif.specs.declared.fragment.Fragment.{Fragment}
use Rattle.xen_page.specs.Mapping.{frame_place}
use Rattle.xen_page.specs.Table.{entry_place}
use Rattle.xen_page.specs.declared.place.Place.{Place}
use Rattle.xen_steps.specs.Event.{Event, Read}
use Rattle.xen_steps.specs.Places.{add32, page_word}
use Rattle.xen_netif.specs.declared.offload.RxOffload.TheVariants.{Whole}
use Rattle.xen_rx_fill.specs.Packets.{pages}
use Rattle.xen_rx_fill.specs.Places.{rx_slot, rx_word, tx_slot, tx_word}
use Rattle.xen_rx_fill.specs.Sending.{AreTargets}
use Rattle.xen_rx_fill.specs.declared.target.Grants.{Grants}
use Rattle.xen_rx_fill.specs.declared.target.Target.{Target}
use Rattle.xen_turns.specs.Parts.{HasRead, IsCopy, slots_reads}
use Rattle.xen_turns.specs.Turned.{Turned, Idle, Ran, Refused, Halted}
use Rattle.xen_turns.specs.Turns.{IsTurn}
use Rattle.xen_turns.specs.declared.state.State.{State}
use Rattle.xen_turns.specs.declared.turn.Halt.{Halt}
use Rattle.xen_turns.specs.declared.turn.Halt.TheVariants as halt
use Rattle.xen_turns.specs.declared.turn.PacketRefusal.TheVariants as refusal
use Rattle.xen_turns.specs.declared.wiring.Wiring.{Wiring}

-- The places of a trace's reads.
abbrev pub places_read : List Event → List Place
places_read [] = []
places_read (Read at v ∷ t) = at ∷ places_read t
places_read (e ∷ t) = places_read t

-- No place is this one.
abbrev pub AllOther : Place → List Place → Type 0
AllOther at [] = Unit {0}
AllOther at (p ∷ ps) = (at ≢ p) × AllOther at ps

abbrev pub AreDistinct : List Place → Type 0
AreDistinct [] = Unit {0}
AreDistinct (p ∷ ps) = AllOther p ps × AreDistinct ps

-- The three words of each of n slots, the first of them the i-th from t.
abbrev pub slot_places : Wiring → ℕ → ℕ → ℕ → List Place
slot_places w t i zero = []
slot_places w t i (suc n) = tx_slot w.vif (add32 t i) 0 ∷ tx_slot w.vif (add32 t i) 1 ∷ tx_slot w.vif (add32 t i) 2
    ∷ slot_places w t (i + 1) n

-- Words of a frame, n of them, in rising order.
abbrev pub page_places : ℕ → ℕ → ℕ → List Place
page_places frame place zero = []
page_places frame place (suc n) = page_word frame place ∷ page_places frame (place + 1) n

-- The two words of an entry.
abbrev pub entry_places : Option Place → List Place
entry_places None = []
entry_places (Some at) = at ∷ frame_place at ∷ []

-- For each fragment, its entry's words and, if that granted a frame, the words that it covers; up to the first for which no frame is given.
abbrev pub copy_places : Wiring → List Fragment → List ℕ → List Place
copy_places w [] frames = []
copy_places w (f ∷ fs) [] = entry_places (entry_place w.vif.table.now f.gref)
copy_places w (f ∷ fs) (frame ∷ frames) =
    entry_places (entry_place w.vif.table.now f.gref) ++ (page_places frame (f.offset / 4) (covered f) ++ copy_places w fs frames)

-- Each word of a chain's slots is read, in rising order, and no word twice.
abbrev pub SlotsOnce : Type 0
SlotsOnce = (w : Wiring) (s : State) (n : ℕ) (look p : List Event) (slots : List Slot) → HasRead w s n look p slots →
    (places_read p ≡ slot_places w s.tx_index 0 (length slots)) × AreDistinct (places_read p)

-- Each frame is what the second word of its fragment's entry was answered.
abbrev pub AreGranted : Wiring → List Fragment → List ℕ → List Event → Type 0
AreGranted w fs [] p = Unit {0}
AreGranted w [] (frame ∷ frames) p = ⊥
AreGranted w (f ∷ fs) (frame ∷ frames) p =
    ((at : Place) × (entry_place w.vif.table.now f.gref ≡ Some at) × Contains p (Read (frame_place at) frame)) × AreGranted w fs frames p

-- Each entry's words and each covered word of the fragments that are copied are read, one after another: for all of them, or up to one
-- whose entry grants nothing.
abbrev pub FragmentsOnce : Type 0
FragmentsOnce = (w : Wiring) (fs : List Fragment) (p : List Event) (out : Option (List ℕ)) → IsCopy w fs p out →
    (frames : List ℕ) × (places_read p ≡ copy_places w fs frames) × AreGranted w fs frames p
    × (out ≢ None → length frames ≡ length fs) × (out ≡ None → length frames < length fs)

-- The two words of each rx slot, as many as there are references, the first of them the i-th from x, and the words of its entry.
abbrev pub target_places : Wiring → ℕ → ℕ → List ℕ → List Place
target_places w x i [] = []
target_places w x i (gref ∷ grefs) =
    rx_slot w.vif (add32 x i) 0 ∷ rx_slot w.vif (add32 x i) 1
    ∷ (entry_places (entry_place w.vif.table.now gref) ++ target_places w x (i + 1) grefs)

-- Each reference is what the second word of its rx slot was answered, of slots of which the first is the i-th from x.
abbrev pub ArePosted : Wiring → ℕ → ℕ → List ℕ → List Event → Type 0
ArePosted w x i [] p = Unit {0}
ArePosted w x i (gref ∷ grefs) p = Contains p (Read (rx_slot w.vif (add32 x i) 1) gref) × ArePosted w x (i + 1) grefs p

-- Both words of each rx slot that a transmit takes are read, and its entry's words, one after another and nothing else.
abbrev pub TargetsOnce : Type 0
TargetsOnce = (w : Wiring) (x i left : ℕ) (p : List Event) (grants : Grants) (ts : List Target) → AreTargets w.vif x Whole i left p grants ts →
    (grefs : List ℕ) × (length grefs ≡ length ts) × (places_read p ≡ target_places w x i grefs) × ArePosted w x i grefs p

-- The covered words of one frame are different words.
abbrev pub CoveredDistinct : Type 0
CoveredDistinct = (frame place n : ℕ) → AreDistinct (page_places frame place n)

-- The two words of each of n rx slots, the first of them the i-th from x, without their entries.
abbrev pub posted_places : Wiring → ℕ → ℕ → ℕ → List Place
posted_places w x i zero = []
posted_places w x i (suc n) = rx_slot w.vif (add32 x i) 0 ∷ rx_slot w.vif (add32 x i) 1 ∷ posted_places w x (i + 1) n

-- The words of the rx slots that one ring has room for are different words.
abbrev pub PostedDistinct : Type 0
PostedDistinct = (w : Wiring) (x n : ℕ) → n ≤ 256 → AreDistinct (posted_places w x 0 n)

-- What a transmit into rx slots of these references reads: the producer, the slots with their entries, and the event index.
abbrev pub sent_places : Wiring → ℕ → List ℕ → List Place
sent_places w x grefs = rx_word w.vif 0 ∷ (target_places w x 0 grefs ++ rx_word w.vif 3 ∷ [])

-- The producer is read, and once more if it showed nothing.
abbrev pub AreLooks : Wiring → List Place → Type 0
AreLooks w places = (places ≡ tx_word w.vif 0 ∷ []) ⊎ (places ≡ tx_word w.vif 0 ∷ tx_word w.vif 0 ∷ [])

-- All that a turn reads in which slots are read: the producer once or twice, the slots, whose words are what these reads were answered,
-- and then these places.
pub record SlotsRead (w : Wiring) (s : State) (p : List Event) (slots : List Slot) (rest : List Place) : Type 0 where
  pub before : List Event
  pub looked : AreLooks w (places_read before)
  pub later : List Event
  pub answered : p ≡ before ++ (slots_reads w s.tx_index 0 slots ++ later)
  pub read : places_read p ≡ places_read before ++ (slot_places w s.tx_index 0 (length slots) ++ rest)

-- A packet whose sizes are wrong: nothing but its slots, and what is read last.
pub record SizeReads (w : Wiring) (s : State) (p : List Event) (fault : SizeFault) (count : ℕ) (last : List Place) : Type 0 where
  pub slots : List Slot
  pub counted : length slots ≡ count
  pub sizes : offered_fragments w.offers slots ≡ Err fault
  pub read : SlotsRead w s p slots last

-- A packet of which a grant fails its check: the fragments up to that one.
pub record GrantReads (w : Wiring) (s : State) (p : List Event) (count : ℕ) (last : List Place) : Type 0 where
  pub slots : List Slot
  pub counted : length slots ≡ count
  pub fragments : List Fragment
  pub sizes : offered_fragments w.offers slots ≡ Ok fragments
  pub frames : List ℕ
  pub granted : AreGranted w fragments frames p
  pub denied : length frames < length fragments
  pub read : SlotsRead w s p slots (copy_places w fragments frames ++ last)

-- A packet that is copied whole.
pub record TurnReads (w : Wiring) (s : State) (p : List Event) (count : ℕ) (last : List Place) : Type 0 where
  pub slots : List Slot
  pub counted : length slots ≡ count
  pub fragments : List Fragment
  pub sizes : offered_fragments w.offers slots ≡ Ok fragments
  pub frames : List ℕ
  pub granted : AreGranted w fragments frames p
  pub whole : length frames ≡ length fragments
  pub read : SlotsRead w s p slots (copy_places w fragments frames ++ last)

-- The event index of the responses.
abbrev pub notice_reads : Wiring → List Place
notice_reads w = tx_word w.vif 3 ∷ []

-- A packet that is sent into rx slots of these references, or up to one whose grant fails.
abbrev pub SendReads : Wiring → State → List Event → ℕ → List ℕ → Type 0
SendReads w s p count grefs = ArePosted w s.rx_index 0 grefs p × TurnReads w s p count (sent_places w s.rx_index grefs ++ notice_reads w)

-- A queue that halts: at the producer, at a slot, or at the rx producer.
abbrev pub HaltReads : Wiring → State → List Event → Halt → Type 0
HaltReads w s p halt.TxProducer = AreLooks w (places_read p)
HaltReads w s p halt.RxProducer = (count : ℕ) × TurnReads w s p count (rx_word w.vif 0 ∷ [])
HaltReads w s p cause = (slots : List Slot) × SlotsRead w s p slots []

-- All that a turn reads, by what became of it. One of a queue that had halted before reads nothing.
abbrev pub ReadsOf : Wiring → State → List Event → Turned → Type 0
ReadsOf w s p Idle = places_read p ≡ tx_word w.vif 0 ∷ tx_word w.vif 0 ∷ []
ReadsOf w s p (Ran number packet ops count) =
    (number ≢ 3 → TurnReads w s p count (notice_reads w))
    × (number ≡ 3 → (grefs : List ℕ) × (length grefs ≡ pages packet) × SendReads w s p count grefs)
ReadsOf w s p (Refused (refusal.Size fault) ops count) = SizeReads w s p fault count (notice_reads w)
ReadsOf w s p (Refused refusal.Grant ops count) = GrantReads w s p count (notice_reads w)
ReadsOf w s p (Refused refusal.FewSlots ops count) = TurnReads w s p count (rx_word w.vif 0 ∷ notice_reads w)
ReadsOf w s p (Refused refusal.RxGrant ops count) = (grefs : List ℕ) × SendReads w s p count grefs
ReadsOf w s p (Halted cause) = (s.halt ≡ None → HaltReads w s p cause) × (s.halt ≢ None → p ≡ [])

abbrev pub TurnsOnce : Type 0
TurnsOnce = (w : Wiring) (s : State) (p : List Event) (new : State) (u : Turned) → IsTurn w s p new u → ReadsOf w s p u
