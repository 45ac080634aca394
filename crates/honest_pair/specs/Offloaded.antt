-- Stated: claims rest on this file.
-- A packet that leaves its front a checksum or a segmentation (netif.h, "Guest receive"): what a delivery has written when it is over, and
-- what the front makes of it.
use Rattle.std.specs.Prelude.{ℕ, ◌≡◌, ◌<◌, ◌/◌, ◌%◌, ◌^◌, true, List, length, get_or, All, Option, Some, None}
use Rattle.xen_buffers.specs.Grants.{buffer}
use Rattle.xen_buffers.specs.declared.wiring.FrontWiring.{FrontWiring}
use Rattle.xen_front.specs.Given.{Packet}
use Rattle.xen_front.specs.Slots.{in_flight}
use Rattle.xen_front.specs.Tree.{nothing_gathered, receive}
use Rattle.xen_front.specs.declared.state.FrontState.{FrontState}
use Rattle.xen_netif.specs.declared.offload.RxOffload.{RxOffload}
use Rattle.xen_page.specs.declared.place.Place.{Place}
use Rattle.xen_rx_fill.specs.Packets.{response_word, slot_of, slots, word_of, words}
use Rattle.xen_rx_fill.specs.declared.target.Grants.TheVariants.{Passed}
use Rattle.xen_steps.specs.Places.{add32, page_word, rx_entry}
use Rattle.xen_steps.specs.Steps.{Steps, done, ask, never}
use Rattle.xen_steps.specs.declared.want.Want.TheVariants as want
use Rattle.xen_turns.specs.Delivered.{IsDeliverable}
use Rattle.honest_pair.specs.Machine.Law.{IsByte}

-- What an activity comes to whose reads are answered from a memory. Its own stores end grants, which it doesn't read.
abbrev pub answered : {A : Type 0} → (Place → ℕ) → Steps A → Option A
answered word (done x) = Some x
answered word (ask (want.Read at) k) = answered word (k (word at))
answered word (ask (want.Write at v) k) = answered word (k 0)
answered word (ask (want.Notify port) k) = answered word (k 0)
answered word (ask want.Instr k) = None
answered word (ask (want.Load map key at) k) = None
answered word (ask (want.Add map key at delta) k) = None
answered word (ask want.Done k) = None
answered word never = None

-- The ids are of posted buffers in flight, each once, in the entries of the rx ring from the front's consumer on.
pub record ArePosted (s : FrontState) (ids : List ℕ) : Type 0 where
  pub cons : s.rx.cons < 2 ^ 32
  pub small : (i : ℕ) → i < length ids → get_or ids i 0 < 256
  pub flying : (i : ℕ) → i < length ids → in_flight s.rx (get_or ids i 0) ≡ true
  pub differ : (i j : ℕ) → i < j → j < length ids → get_or ids i 0 ≡ get_or ids j 0 → ⊥
  pub entries : (i : ℕ) → i < length ids → get_or s.posts (add32 s.rx.cons i % 256) 0 ≡ get_or ids i 0

-- The words of a delivery that is over, as its row `sent` has them: the responses in those entries, and the packet in those buffers.
pub record IsWritten (w : FrontWiring) (s : FrontState) (o : RxOffload) (packet ids : List ℕ) (word : Place → ℕ) : Type 0 where
  pub count : length ids ≡ slots o packet
  pub responses : (i j : ℕ) → i < length ids → j < 2 →
      word (rx_entry w.rx_frame (add32 s.rx.cons i) j) ≡ response_word o Passed packet (length ids) i (get_or ids i 0) j
  pub pages : (k : ℕ) → k < words packet →
      word (page_word (buffer w.rx.now (get_or ids (slot_of o (k / 1024)) 0)).frame (k % 1024)) ≡ word_of packet k

-- A front receives each packet that it accepts with its bytes, and with what the packet leaves to it.
abbrev pub OffloadsAreReceived : Type 0
OffloadsAreReceived = (w : FrontWiring) (s : FrontState) (o : RxOffload) (packet ids : List ℕ) (word : Place → ℕ) →
    IsDeliverable s.accepts o packet → All IsByte packet → ArePosted s ids → IsWritten w s o packet ids word →
    (s' : FrontState) × (answered word (receive w (length ids) s nothing_gathered) ≡ Some (s', Packet o packet))
