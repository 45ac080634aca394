-- Stated: claims rest on this file.
-- What holds of the back of an honest pair.
use Rattle.std.specs.Prelude.{ℕ, ◌≡◌, ◌<◌, ◌^◌, Bool, true, false, List, ◌++◌, Some, None, get_or, nat_lt}
use Rattle.xen_netif.specs.declared.offload.RxOffload.TheVariants.{Whole}
use Rattle.xen_turns.specs.Deliveries.{whole_delivery}
use Rattle.xen_turns.specs.declared.state.State.{State}
use Rattle.xen_turns.specs.declared.wiring.Wiring.{Wiring as BackWiring}
use Rattle.xen_buffers.specs.declared.wiring.FrontWiring.{FrontWiring}
use Rattle.xen_ring.specs.Index.{distance}
use Rattle.xen_steps.specs.Places.{add32, available, page_word}
use Rattle.xen_steps.specs.declared.want.Want.TheVariants as want
use Rattle.honest_pair.specs.Invariant.Ended.{GivenAll, GivesPacket, HalfEnd, Landed, Programmed, Ready, Resting, Slept}
use Rattle.honest_pair.specs.Invariant.Ends.{BackSafe}
use Rattle.honest_pair.specs.Invariant.Ghosts.{Front, Back, bytes_in}
use Rattle.honest_pair.specs.Machine.Halves.{half_turn}
use Rattle.honest_pair.specs.Invariant.Inv.{Inv}
use Rattle.honest_pair.specs.Invariant.Joined.{Joined}
use Rattle.honest_pair.specs.Invariant.Laid.{Laid}
use Rattle.honest_pair.specs.Machine.Memory.{Memory, after}
use Rattle.honest_pair.specs.declared.awaits.Awaits.TheVariants as awaits

-- Whatever the front does between its events, a turn keeps the invariant, is never halted, copies the next packet, and is Ran, or
-- Refused 6.
abbrev pub BackLaw : Type 0
BackLaw = (w : FrontWiring) (start : ℕ) → start < 2 ^ 32 → Laid w → (v : BackWiring) → Joined w v → Programmed v →
    (s : State) (copies given : List (List ℕ)) (b : Back) → Ready start s copies given b →
    BackSafe w start (GivenAll given) (HalfEnd w start v s copies given) b (half_turn v s)

-- Whatever the front does between its events, a delivery of a packet of the host's own keeps the invariant, and gives that packet or none.
abbrev pub DeliveryLaw : Type 0
DeliveryLaw = (w : FrontWiring) (start : ℕ) → start < 2 ^ 32 → Laid w → (v : BackWiring) → Joined w v →
    (asleep : Bool) (s : State) (copies given : List (List ℕ)) (b : Back) → Resting asleep start s copies given b →
    (packet : List ℕ) → ((i : ℕ) → get_or packet i 0 < 256) →
    BackSafe w start (GivesPacket given packet) (λ b' e. Landed asleep start copies given packet b' e.0 e.1) b
    (whole_delivery v.vif v.accepts s Whole packet)

-- Awake.
abbrev pub woken : Back → Back
woken b = record b { asleep = false }

abbrev pub WakeLaw : Type 0
WakeLaw = (w : FrontWiring) (start : ℕ) (s : State) (copies given : List (List ℕ)) (b : Back) (m : Memory) (f : Front) →
    Slept start s copies given b → Inv w start m f b →
    Inv w start (record m { pending = false; awaits = awaits.Nothing }) f (woken b) × Ready start s copies given (woken b)

-- A wait that a back begins between turns, asleep or awake: the store of the event index keeps the invariant, and then the producer
-- shows some number of slots; if that is too few, it stays so or the front tells.
abbrev pub AskLaw : Type 0
AskLaw = (w : FrontWiring) (start : ℕ) → Laid w → (asleep : Bool) (s : State) (copies given : List (List ℕ)) (b : Back) →
    Resting asleep start s copies given b → (pages : ℕ) (m : Memory) (f : Front) → Inv w start m f b →
    Inv w start (record (after (want.Write (page_word w.rx_frame 1) (add32 s.rx_index pages)) m)
    { awaits = awaits.Asked s.rx_index pages }) f b

abbrev pub LookLaw : Type 0
LookLaw = (w : FrontWiring) (start : ℕ) → start < 2 ^ 32 → (asleep : Bool) (s : State) (copies given : List (List ℕ)) (b : Back) →
    Resting asleep start s copies given b → (pages : ℕ) (m : Memory) (f : Front) → Inv w start m f b →
    m.awaits ≡ awaits.Asked s.rx_index pages → (k : ℕ) × (available s.rx_index (m.word (page_word w.rx_frame 0)) ≡ Some k) ×
    (nat_lt k pages ≡ true → Inv w start (record m { awaits = awaits.Fewer s.rx_index pages }) f b)

-- A wait that found enough.
abbrev pub ForgetLaw : Type 0
ForgetLaw = (w : FrontWiring) (start : ℕ) (m : Memory) (f : Front) (b : Back) → Inv w start m f b →
    Inv w start (record m { awaits = awaits.Nothing }) f b

-- What was too few still is, if the back's port isn't pending and no push of posts is open.
abbrev pub ToldLaw : Type 0
ToldLaw = (w : FrontWiring) (start : ℕ) (m : Memory) (f : Front) (b : Back) (index pages : ℕ) → Inv w start m f b → f.posting ≡ false →
    m.awaits ≡ awaits.Fewer index pages → m.pending ≡ false → distance index (m.word (page_word w.rx_frame 0)) < pages

-- What is answered is a prefix of what was sent.
abbrev pub PrefixLaw : Type 0
PrefixLaw = (w : FrontWiring) (start : ℕ) (m : Memory) (f : Front) (b : Back) → Inv w start m f b → (more : List (List ℕ)) ×
    (bytes_in f.sent ≡ bytes_in b.done ++ more)

abbrev pub GivenLaw : Type 0
GivenLaw = (w : FrontWiring) (start : ℕ) (m : Memory) (f : Front) (b : Back) → Inv w start m f b → (more : List (List ℕ)) ×
    (bytes_in b.given ≡ bytes_in f.rx_told ++ more)

-- A back that sleeps and isn't woken has seen all, if no push of the front is open.
abbrev pub HeardLaw : Type 0
HeardLaw = (w : FrontWiring) (start : ℕ) (m : Memory) (f : Front) (b : Back) (s : State) (copies given : List (List ℕ)) →
    Slept start s copies given b → Inv w start m f b →
    m.pending ≡ false → f.window ≡ None → m.word (page_word w.tx_frame 0) ≡ s.tx_index
