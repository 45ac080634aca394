-- Delivering a packet of the host's own is safe.
use Rattle.std.proofs.Common.{◌≡◌, ℕ, ◌+◌, ◌^◌, ◌<◌, ◌≤◌, inl, inr, Bool, true, false, List, [], ◌∷◌, ◌++◌, length, None, refl, sym, ◌∙◌, ap, arith, subst}
use Rattle.std.specs.Prelude.{get_or, nat_lt, if◌then◌else◌}
use Rattle.std.proofs.lemmas.Bool.Decides.{nat_tests}
use Rattle.xen_turns.specs.Delivered.{is_frame}
use Rattle.xen_turns.specs.Deliveries.{Arrival, arrived, if_frame, unless_halted, whole_delivery}
use Rattle.xen_turns.specs.Responses.{after_slots}
use Rattle.xen_turns.specs.declared.delivery.delivering.Delivery.TheVariants as delivery
use Rattle.xen_turns.specs.declared.state.State.{State}
use Rattle.xen_turns.specs.declared.wiring.Wiring.{Wiring as BackWiring}
use Rattle.xen_buffers.specs.declared.wiring.FrontWiring.{FrontWiring}
use Rattle.xen_steps.specs.Places.{add32}
use Rattle.xen_steps.specs.Steps.{bind}
use Rattle.xen_netif.specs.declared.offload.RxOffload.TheVariants.{Whole}
use Rattle.xen_rx_fill.specs.Transmit.{transmit}
use Rattle.xen_rx_fill.specs.declared.by_event.phase.TransmitOutcome.{TransmitOutcome}
use Rattle.xen_rx_fill.specs.declared.by_event.phase.TransmitOutcome.TheVariants as outcome
use Rattle.honest_pair.specs.Invariant.Backs.{DeliveryLaw}
use Rattle.honest_pair.specs.Invariant.Ended.{Between, GivesPacket, Landed, Resting}
use Rattle.honest_pair.specs.Invariant.Ends.{BackSafe}
use Rattle.honest_pair.specs.Invariant.Ghosts.{Sent, slots, Back, bytes_in}
use Rattle.honest_pair.specs.Invariant.Joined.{Joined}
use Rattle.honest_pair.specs.Invariant.Laid.{Laid}
use Rattle.honest_pair.proofs.Invariant.BackLaws.{same_wiring}
use Rattle.honest_pair.proofs.Invariant.BackLooks.{over, safe_bind}
use Rattle.honest_pair.proofs.Invariant.BackPosts.{sending}
use Rattle.honest_pair.proofs.Invariant.BackTransmits as transmits
use Rattle.honest_pair.proofs.Invariant.BackTransmits.{IsFit}
use Rattle.honest_pair.proofs.Invariant.BackTurns.{bytes_more}

frame_sizes : (packet : List ℕ) → is_frame packet ≡ true → (14 ≤ length packet) × (length packet ≤ 65535)
frame_sizes packet h = by (nat_lt (length packet) 14) (nat_lt 65535 (length packet)) refl refl h
  where
    by : (a b : Bool) → nat_lt (length packet) 14 ≡ a → nat_lt 65535 (length packet) ≡ b → (if a then false else (if b then false else true)) ≡ true → (14 ≤ length packet) × (length packet ≤ 65535)
    by true b p q e = absurd (cc)
    by false true p q e = absurd (cc)
    by false false p q e = (grind (arith, nat_tests), grind (arith, nat_tests))

frame_fits : (packet : List ℕ) → is_frame packet ≡ true → ((i : ℕ) → get_or packet i 0 < 256) → IsFit packet
frame_fits packet h bytes = let z = frame_sizes packet h in record { least = z.0; most = z.1; bytes = bytes }

-- `a` are the packets ahead; nothing of them is read.
module _ (w : FrontWiring) (start : ℕ) (small : start < 2 ^ 32) (v : BackWiring) (j : Joined w v) (y : Laid w) (d a g : List Sent) (e : ℕ) (sl : Bool) (s : State) (at : Between start d g s) (packet : List ℕ) (bytes : (i : ℕ) → get_or packet i 0 < 256) where
  abbrev resting_with : List Sent → List ℕ → Back
  resting_with g2 rs = sending d a 0 g2 rs e sl 0 [] 0 0

  abbrev K : Back → Type 0
  K = GivesPacket (bytes_in g) packet

  none_more : (b : Back) → b.given ≡ g → K b
  none_more b k = inl (ap bytes_in k)

  one_more : (b : Back) (x : Sent) → x.bytes ≡ packet → b.given ≡ g ++ x ∷ [] → K b
  one_more b x p k = inr (ap bytes_in k ∙ bytes_more g x ∙ ap (λ q. bytes_in g ++ q ∷ []) p)

  abbrev Ends : Back → Arrival → Type 0
  Ends b e2 = Landed sl start (bytes_in d) (bytes_in g) packet b e2.0 e2.1

  -- a back that rests so is between turns
  abbrev Rests : Type 0
  Rests = (g2 : List Sent) (rs : List ℕ) (t : State) → Between start d g2 t → Resting sl start t (bytes_in d) (bytes_in g2) (resting_with g2 rs)

  module _ (fit : IsFit packet) (rests : Rests) where
    abbrev Transmitted : Back → TransmitOutcome → Type 0
    Transmitted = transmits.Transmitted w start small v j y d a 0 g e sl packet fit K none_more one_more

    arrived_safe : (b : Back) (o : TransmitOutcome) → Transmitted b o → BackSafe w start K Ends b (arrived s o)
    arrived_safe b outcome.Overflow h = absurd h
    arrived_safe b (outcome.Refused n) h = absurd h
    arrived_safe b outcome.TooFew h = subst (λ b2. Ends b2 (s, delivery.FewSlots)) (sym h.1) (rests g h.0 s at)
    arrived_safe b (outcome.Sent n) h =
        let rs = h.0 in
        let x = h.1 in
        let given : bytes_in (g ++ x ∷ []) ≡ bytes_in g ++ packet ∷ [] = bytes_more g x ∙ ap (λ p. bytes_in g ++ p ∷ []) h.3 in
        let between : Between start d (g ++ x ∷ []) (after_slots s n) = record { tx = at.tx; rx = ap (λ i. add32 i n) at.rx ∙ h.4; running = at.running } in
        subst (λ b2. Ends b2 (after_slots s n, delivery.Sent n)) (sym h.2)
        (subst (λ z. Resting sl start (after_slots s n) (bytes_in d) z (resting_with (g ++ x ∷ []) rs)) given (rests (g ++ x ∷ []) rs (after_slots s n) between))

    running_safe : (rs : List ℕ) → BackSafe w start K Ends (resting_with g rs) (unless_halted (over w v).vif s Whole packet None)
    running_safe rs =
        subst (λ i. BackSafe w start K Ends (resting_with g rs) (bind (transmit (over w v).vif i Whole packet) (arrived s))) (sym at.rx)
        (safe_bind w start K Transmitted Ends (resting_with g rs) (transmit (over w v).vif (add32 start (length (slots g))) Whole packet) (arrived s)
        (transmits.transmit_safe w start small v j y d a 0 g e sl packet fit K none_more one_more rs) arrived_safe)

  framed_safe : Rests → (rs : List ℕ) (b : Bool) → is_frame packet ≡ b → BackSafe w start K Ends (resting_with g rs) (if_frame (over w v).vif (over w v).accepts s Whole packet b)
  framed_safe rests rs false q = rests g rs s at
  framed_safe rests rs true q =
      subst (λ o. BackSafe w start K Ends (resting_with g rs) (unless_halted (over w v).vif s Whole packet o)) (sym at.running) (running_safe (frame_fits packet q bytes) rests rs)

  delivered_safe : Rests → (rs : List ℕ) → BackSafe w start K Ends (resting_with g rs) (whole_delivery v.vif v.accepts s Whole packet)
  delivered_safe rests rs =
      subst (λ u. BackSafe w start K Ends (resting_with g rs) (whole_delivery u.vif u.accepts s Whole packet)) (same_wiring w v j) (framed_safe rests rs (is_frame packet) refl)

-- by what the back had copied and given
carried : (w : FrontWiring) (start : ℕ) (v : BackWiring) (sl : Bool) (s : State) (packet : List ℕ) (c c2 g g2 : List (List ℕ)) (b b2 : Back) → c ≡ c2 → g ≡ g2 → b2 ≡ b →
    BackSafe w start (GivesPacket g packet) (λ b3 e. Landed sl start c g packet b3 e.0 e.1) b (whole_delivery v.vif v.accepts s Whole packet) →
    BackSafe w start (GivesPacket g2 packet) (λ b3 e. Landed sl start c2 g2 packet b3 e.0 e.1) b2 (whole_delivery v.vif v.accepts s Whole packet)
carried w start v sl s packet c c2 g g2 b b2 p q r h =
    subst (λ b4. BackSafe w start (GivesPacket g2 packet) (λ b3 e. Landed sl start c2 g2 packet b3 e.0 e.1) b4 (whole_delivery v.vif v.accepts s Whole packet)) (sym r)
    (subst (λ g4. BackSafe w start (GivesPacket g4 packet) (λ b3 e. Landed sl start c2 g4 packet b3 e.0 e.1) b (whole_delivery v.vif v.accepts s Whole packet)) q
    (subst (λ c4. BackSafe w start (GivesPacket g packet) (λ b3 e. Landed sl start c4 g packet b3 e.0 e.1) b (whole_delivery v.vif v.accepts s Whole packet)) p h))

pub delivery_safe : DeliveryLaw
delivery_safe w start small y v j true s c g b h packet bytes =
    let d = h.answered in
    let e = length (slots d) + 1 in
    carried w start v true s packet (bytes_in d) c (bytes_in h.sent) g (sending d [] 0 h.sent h.posts e true 0 [] 0 0) b h.copied h.gave h.back
    (delivered_safe w start small v j y d [] h.sent e true s h.between packet bytes
    (λ g2 rs t n. record { answered = d; sent = g2; posts = rs; back = refl; copied = refl; gave = refl; between = n }) h.posts)
delivery_safe w start small y v j false s c g b h packet bytes =
    let d = h.answered in
    carried w start v false s packet (bytes_in d) c (bytes_in h.sent) g (sending d h.ahead 0 h.sent h.posts h.event false 0 [] 0 0) b h.copied h.gave h.back
    (delivered_safe w start small v j y d h.ahead h.sent h.event false s h.between packet bytes
    (λ g2 rs t n. record { answered = d; ahead = h.ahead; sent = g2; posts = rs; event = h.event; back = refl; copied = refl; gave = refl; between = n }) h.posts)
