-- What the laws of the pair's two ends are, and what stands between its events.
use Rattle.std.proofs.Common.{◌≡◌, ℕ, ◌<◌, ◌^◌, ◌⊎◌, Bool, true, false, List, [], ◌∷◌, ◌++◌, All, Some, None, Ok}
use Rattle.std.specs.Prelude.{◌==◌, if◌then◌else◌, flat_map, nat_lt}
use Rattle.xen_netif.specs.declared.offload.RxOffload.TheVariants.{Whole}
use Rattle.xen_ring.specs.Index.{distance}
use Rattle.xen_steps.specs.Places.{add32, available, page_word}
use Rattle.xen_steps.specs.Steps.{Steps}
use Rattle.xen_steps.specs.declared.want.Want.TheVariants as want
use Rattle.xen_turns.specs.Deliveries.{Arrival, whole_delivery}
use Rattle.xen_turns.specs.Tree.{Left, after_run}
use Rattle.xen_turns.specs.Turned.{Turned, Idle, Ran, Refused, Halted, Ending}
use Rattle.xen_turns.specs.Waits.{Wait, final_check, last_read}
use Rattle.xen_turns.specs.declared.delivery.delivering.Delivery.{Delivery}
use Rattle.xen_turns.specs.declared.delivery.delivering.Delivery.TheVariants as delivery
use Rattle.xen_turns.specs.declared.state.State.{State as BackState}
use Rattle.xen_turns.specs.declared.turn.PacketRefusal.TheVariants as refusal
use Rattle.xen_turns.specs.declared.wiring.Wiring.{Wiring as BackWiring}
use Rattle.xen_buffers.specs.declared.wiring.FrontWiring.{FrontWiring}
use Rattle.xen_front.specs.Given.{Ending as FrontEnding}
use Rattle.xen_front.specs.Tree.{poll}
use Rattle.xen_front.specs.declared.state.FrontState.{FrontState}
use Rattle.honest_pair.specs.Machine.Halves.{Half, Over, HasRun, half_turn}
use Rattle.honest_pair.specs.Machine.Law.{IsByte, IsBytes, given_by}
use Rattle.honest_pair.specs.Machine.Memory.{Memory, after}
use Rattle.honest_pair.specs.Machine.Pair.{Activity, Free, Sending, Posting, Polling, BackAt, Asleep, First, Second, Delivering, Waiting, Pair, PairEvent, packets_of, send_result, post_result, poll_result, send_tree, post_tree, begin_send, begin_post, begin_poll}
use Rattle.honest_pair.specs.Machine.Safe.{Safe}
use Rattle.honest_pair.specs.declared.awaits.Awaits.{Awaits}
use Rattle.honest_pair.specs.declared.awaits.Awaits.TheVariants as awaits
use Rattle.honest_pair.proofs.Machine.Deeds.{Done, Packets}

-- Rest: the front between activities, of which these packets were sent and received. Sendings, Posts, Polls: inside a send, a post or a
-- poll. Says: what is known of it at any time; Windowless, Postless: it has no push of requests, or of posts, whose notice is undecided.
-- Ready, Slept: the back between turns, that has made these copies and given these packets.
module _ (bw : BackWiring) (fw : FrontWiring) {Front Back : Type 0} (Inv : Memory → Front → Back → Type 0)
    (Rest : FrontState → Packets → Packets → Front → Type 0) (Sendings Posts Polls Says : Packets → Packets → Front → Type 0) (Windowless Postless : Front → Type 0)
    (Ready Slept : BackState → Packets → Packets → Back → Type 0) (givens : Back → Packets) where
  abbrev pub BackInv : Memory → Back → Front → Type 0
  BackInv m b f = Inv m f b

  abbrev pub FrontEnd : Packets → Packets → Front → FrontEnding → Type 0
  FrontEnd w r f e = Rest e.0 w (r ++ packets_of e.1) f

  abbrev pub TurnEnd : Packets → Packets → Back → BackState → Turned → Type 0
  TurnEnd c g b s Idle = ⊥
  TurnEnd c g b s (Ran number packet ops k) = Ready s c (if number == 3 then g ++ packet ∷ [] else g) b
  TurnEnd c g b s (Refused (refusal.Size fault) ops k) = ⊥
  TurnEnd c g b s (Refused refusal.Grant ops k) = ⊥
  TurnEnd c g b s (Refused refusal.FewSlots ops k) = Ready s c g b
  TurnEnd c g b s (Refused refusal.RxGrant ops k) = ⊥
  TurnEnd c g b s (Halted cause) = ⊥

  abbrev pub EndedTurn : Packets → Packets → Back → Ending → Type 0
  EndedTurn c g b e = TurnEnd c g b e.0 e.1

  abbrev pub GivenAll : Packets → Back → Type 0
  GivenAll g b = givens b ≡ g

  abbrev pub GivesLeft : Packets → Left → Back → Type 0
  GivesLeft g l b = (givens b ≡ g) ⊎ ((l.number ≡ 3) × (givens b ≡ g ++ l.packet ∷ []))

  abbrev pub OverAs : BackState → Packets → Packets → Back → BackState → Turned → Type 0
  OverAs s c g b t Idle = (t ≡ s) × Slept s c g b
  OverAs s c g b t (Ran number packet ops k) = ⊥
  OverAs s c g b t (Refused cause ops k) = ⊥
  OverAs s c g b t (Halted cause) = ⊥

  abbrev pub HalfEnd : BackState → Packets → Packets → Back → Half → Type 0
  HalfEnd s c g b (Over e) = OverAs s c g b e.0 e.1
  HalfEnd s c g b (HasRun slots packet l) = Safe BackInv (GivesLeft g l) (EndedTurn (c ++ packet ∷ []) g) b (after_run bw s slots l)

  -- between turns, asleep or awake
  abbrev pub Resting : Bool → BackState → Packets → Packets → Back → Type 0
  Resting true = Slept
  Resting false = Ready

  abbrev pub GivesPacket : Packets → List ℕ → Back → Type 0
  GivesPacket g packet b = (givens b ≡ g) ⊎ (givens b ≡ g ++ packet ∷ [])

  abbrev pub Landed : Bool → Packets → Packets → List ℕ → Back → BackState → Delivery → Type 0
  Landed asleep c g packet b s (delivery.Sent slots) = Resting asleep s c (g ++ packet ∷ []) b
  Landed asleep c g packet b s delivery.FewSlots = Resting asleep s c g b
  Landed asleep c g packet b s (delivery.Refused slots) = ⊥
  Landed asleep c g packet b s (delivery.Halted cause) = ⊥
  Landed asleep c g packet b s delivery.NoFrame = Resting asleep s c g b
  Landed asleep c g packet b s delivery.NotAccepted = ⊥

  abbrev pub EndedDelivery : Bool → Packets → Packets → List ℕ → Back → Arrival → Type 0
  EndedDelivery asleep c g packet b a = Landed asleep c g packet b a.0 a.1

  -- what the two ends keep to
  pub record EndLaws : Type 0 where
    pub begin_send : (s : FrontState) (w r : Packets) (p : List ℕ) (f : Front) → Rest s w r f → send_result s p ≡ Ok tt → All IsByte p → (m : Memory) (b : Back) → Inv m f b →
        (f' : Front) × Inv m f' b × Sendings (w ++ p ∷ []) r f' × Safe Inv (Sendings (w ++ p ∷ []) r) (FrontEnd (w ++ p ∷ []) r) f' (send_tree fw s p)
    pub begin_post : (s : FrontState) (w r : Packets) (f : Front) → Rest s w r f → post_result s ≡ Ok tt → Posts w r f × Safe Inv (Posts w r) (FrontEnd w r) f (post_tree fw s)
    pub begin_poll : (s : FrontState) (w r : Packets) (f : Front) → Rest s w r f → poll_result s ≡ Ok tt → Polls w r f × Safe Inv (Polls w r) (FrontEnd w r) f (poll fw s)
    pub running : (s : FrontState) (w r : Packets) (f : Front) → Rest s w r f → s.halt ≡ None
    pub rest_says : (s : FrontState) (w r : Packets) (f : Front) → Rest s w r f → Says w r f × Windowless f × Postless f
    pub sending_says : (w r : Packets) (f : Front) → Sendings w r f → Says w r f × Postless f
    pub post_says : (w r : Packets) (f : Front) → Posts w r f → Says w r f × Windowless f
    pub poll_says : (w r : Packets) (f : Front) → Polls w r f → Says w r f × Windowless f × Postless f
    pub wakes : (s : BackState) (c g : Packets) (b : Back) (m : Memory) (f : Front) → Slept s c g b → Inv m f b → (b' : Back) × Inv (record m { pending = false; awaits = awaits.Nothing }) f b' × Ready s c g b'
    pub half_safe : (s : BackState) (c g : Packets) (b : Back) → Ready s c g b → Safe BackInv (GivenAll g) (HalfEnd s c g) b (half_turn bw s)
    pub delivery_safe : (asleep : Bool) (s : BackState) (c g : Packets) (b : Back) (packet : List ℕ) → Resting asleep s c g b → All IsByte packet →
        Safe BackInv (GivesPacket g packet) (EndedDelivery asleep c g packet) b (whole_delivery bw.vif bw.accepts s Whole packet)
    pub wait_asks : (asleep : Bool) (s : BackState) (c g : Packets) (b : Back) (pages : ℕ) (m : Memory) (f : Front) → Resting asleep s c g b → Inv m f b →
        Inv (record (after (want.Write (page_word bw.vif.rx 1) (add32 s.rx_index pages)) m) { awaits = awaits.Asked s.rx_index pages }) f b
    pub wait_looks : (asleep : Bool) (s : BackState) (c g : Packets) (b : Back) (pages : ℕ) (m : Memory) (f : Front) → Resting asleep s c g b → Inv m f b →
        m.awaits ≡ awaits.Asked s.rx_index pages → (k : ℕ) × (available s.rx_index (m.word (page_word bw.vif.rx 0)) ≡ Some k) ×
        (nat_lt k pages ≡ true → Inv (record m { awaits = awaits.Fewer s.rx_index pages }) f b)
    pub forgets : (m : Memory) (f : Front) (b : Back) → Inv m f b → Inv (record m { awaits = awaits.Nothing }) f b
    pub ready_runs : (s : BackState) (c g : Packets) (b : Back) → Ready s c g b → (givens b ≡ g) × (s.halt ≡ None)
    pub slept_runs : (s : BackState) (c g : Packets) (b : Back) → Slept s c g b → (givens b ≡ g) × (s.halt ≡ None)
    pub copied : (s : BackState) (w r c g : Packets) (m : Memory) (f : Front) (b : Back) → Says w r f → Inv m f b → Ready s c g b → (more : Packets) × (w ≡ c ++ more)
    pub got : (w r : Packets) (m : Memory) (f : Front) (b : Back) → Says w r f → Inv m f b → (more : Packets) × (givens b ≡ r ++ more)
    pub tells : (m : Memory) (f : Front) (b : Back) (index pages : ℕ) → Inv m f b → Postless f → m.awaits ≡ awaits.Fewer index pages → m.pending ≡ false → distance index (m.word (page_word 18 0)) < pages
    pub hears : (s : BackState) (c g : Packets) (m : Memory) (f : Front) (b : Back) → Inv m f b → Slept s c g b → Windowless f → m.pending ≡ false → m.word (page_word 17 0) ≡ s.tx_index

  abbrev pub FrontStands : Activity → FrontState → Packets → Packets → Front → Type 0
  FrontStands Free s w r f = Rest s w r f
  FrontStands (Sending t) s w r f = Sendings w r f × Safe Inv (Sendings w r) (FrontEnd w r) f t × (s.halt ≡ None)
  FrontStands (Posting t) s w r f = Posts w r f × Safe Inv (Posts w r) (FrontEnd w r) f t × (s.halt ≡ None)
  FrontStands (Polling t) s w r f = Polls w r f × Safe Inv (Polls w r) (FrontEnd w r) f t × (s.halt ≡ None)

  -- where a wait is: before the store of the event index, or behind it
  abbrev pub Looks : BackState → ℕ → Steps Wait → Awaits → Type 0
  Looks s pages t a = (t ≡ final_check bw.vif.rx s pages) ⊎ ((t ≡ last_read bw.vif.rx s pages) × (a ≡ awaits.Asked s.rx_index pages))

  abbrev pub BackStands : BackAt → BackState → Packets → Packets → Back → Awaits → Type 0
  BackStands Asleep s c g b a = Slept s c g b
  BackStands (First false t) s c g b a = (t ≡ half_turn bw s) × Ready s c g b
  BackStands (First true t) s c g b a = GivenAll g b × Safe BackInv (GivenAll g) (HalfEnd s c g) b t
  BackStands (Second packet l t) s c g b a = GivesLeft g l b × Safe BackInv (GivesLeft g l) (EndedTurn (c ++ packet ∷ []) g) b t
  BackStands (Delivering asleep packet t) s c g b a = GivesPacket g packet b × Safe BackInv (GivesPacket g packet) (EndedDelivery asleep c g packet) b t
  BackStands (Waiting asleep pages t) s c g b a = Resting asleep s c g b × Looks s pages t a

  -- c are the copies of the turns that are over
  pub record Stands (p : Pair) (c : Packets) (f : Front) (b : Back) : Type 0 where
    pub inv : Inv p.memory f b
    pub front : FrontStands p.activity p.front p.sent p.received f
    pub back : BackStands p.at p.back c (flat_map given_by p.deeds) b p.memory.awaits
    pub running : p.back.halt ≡ None
    pub copies : Done p.deeds c
    pub sent : (more : Packets) × (p.sent ≡ c ++ more)

  abbrev pub Fit : List (PairEvent × ℕ) → Type 0
  Fit [] = Unit {0}
  Fit (e ∷ es) = (IsBytes e.0 × (e.1 < 2 ^ 64)) × Fit es

  abbrev pub Good : Pair → Type 0
  Good p = (c : Packets) × (f : Front) × (b : Back) × Stands p c f b
