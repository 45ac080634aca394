-- Sending a packet back is safe.
use Rattle.std.proofs.Common.{◌≡◌, ℕ, ◌^◌, ◌<◌, inl, inr, false, List, [], ◌∷◌, ◌++◌, length, map, refl, sym, ◌∙◌, ap, arith, subst}
use Rattle.xen_turns.specs.Tree.{Left, after_transmit, answered, after_slots, respond, send}
use Rattle.xen_turns.specs.Turned.{Ending, Ran, Refused}
use Rattle.xen_turns.specs.declared.state.State.{State}
use Rattle.xen_turns.specs.declared.turn.PacketRefusal.TheVariants as refusal
use Rattle.xen_turns.specs.declared.wiring.Wiring.{Wiring as BackWiring}
use Rattle.xen_buffers.specs.declared.wiring.FrontWiring.{FrontWiring}
use Rattle.xen_netif.specs.Chain.{Slot}
use Rattle.xen_netif.specs.declared.status.Status.TheVariants as status
use Rattle.xen_steps.specs.Places.{add32}
use Rattle.xen_steps.specs.Steps.{bind}
use Rattle.xen_netif.specs.declared.offload.RxOffload.TheVariants.{Whole}
use Rattle.xen_rx_fill.specs.Transmit.{transmit}
use Rattle.xen_rx_fill.specs.declared.by_event.phase.TransmitOutcome.{TransmitOutcome}
use Rattle.xen_rx_fill.specs.declared.by_event.phase.TransmitOutcome.TheVariants as outcome
use Rattle.honest_pair.specs.Invariant.Ended.{Between, EndedTurn, Fits, GivesLeft, working, resting}
use Rattle.honest_pair.specs.Invariant.Ends.{BackSafe, HasGiven}
use Rattle.honest_pair.specs.Invariant.Ghosts.{IsSent, Sent, pieces_in, slots, Back, bytes_in}
use Rattle.honest_pair.specs.Invariant.Inv.{tx_words}
use Rattle.honest_pair.specs.Invariant.Joined.{Joined}
use Rattle.honest_pair.specs.Invariant.Laid.{Laid}
use Rattle.honest_pair.proofs.Invariant.BackLooks.{over, safe_bind, safe_less}
use Rattle.honest_pair.proofs.Invariant.BackChains.{onto}
use Rattle.honest_pair.proofs.Invariant.BackAnswers.{Answered, respond_safe}
use Rattle.honest_pair.proofs.Invariant.BackTransmits as transmits
use Rattle.honest_pair.proofs.Invariant.BackTransmits.{IsFit}
use Rattle.honest_pair.proofs.Invariant.BackTurns.{SendSafe, bytes_more, next_between}

module _ (w : FrontWiring) (start : ℕ) (small : start < 2 ^ 32) (v : BackWiring) (j : Joined w v) (y : Laid w) (d : List Sent) (s : Sent) (l g : List Sent) (e : ℕ) (r : Left) (sent : IsSent s) (fit : Fits s.bytes r.packet) (three : r.number ≡ 3) where
  abbrev used : ℕ
  used = length s.ids

  abbrev a : List Sent
  a = s ∷ l

  abbrev K : Back → Type 0
  K = GivesLeft (bytes_in g) r

  fits : IsFit r.packet
  fits = let z = fit.0 in let q = sent.least in let q2 = sent.most in record { least = omega (arith, z, q); most = omega (arith, z, q2); bytes = fit.1 }

  none_more : (b : Back) → b.given ≡ g → K b
  none_more b k = inl (ap bytes_in k)

  one_more : (b : Back) (x : Sent) → x.bytes ≡ r.packet → b.given ≡ g ++ x ∷ [] → K b
  one_more b x p k = inr (three, ap bytes_in k ∙ bytes_more g x ∙ ap (λ q. bytes_in g ++ q ∷ []) p)

  abbrev Transmitted : Back → TransmitOutcome → Type 0
  Transmitted = transmits.Transmitted w start small v j y d a used g e false r.packet fits K none_more one_more

  module _ (state : State) (at : Between start d g state) where
    abbrev all : List Slot
    all = map (tx_words w start) (pieces_in s)

    abbrev Ends : Back → Ending → Type 0
    Ends = EndedTurn start (bytes_in d ++ s.bytes ∷ []) (bytes_in g)

    transmitted_safe : (b : Back) (o : TransmitOutcome) → Transmitted b o → BackSafe w start K Ends b (after_transmit (over w v) state all r.packet r.ops o)
    transmitted_safe b outcome.Overflow h = absurd h
    transmitted_safe b (outcome.Refused n) h = absurd h
    transmitted_safe b outcome.TooFew h =
        let rs = h.0 in
        let u = Refused refusal.FewSlots r.ops (length all) in
        subst (λ b2. BackSafe w start K Ends b2 (respond (over w v) state all status.Error u)) (sym h.1)
        (safe_less w start (HasGiven g) K (Answered w start y v d s l g rs e sent (answered state used, u)) Ends (working d a used 0 g rs e) (respond (over w v) state all status.Error u)
        (λ b2 k. inl (ap bytes_in k))
        (λ b2 x z. onto Ends (resting (d ++ s ∷ []) l g rs e) b2 (answered state used, u) x z.0 z.1
        (record { answered = d ++ s ∷ []; ahead = l; sent = g; posts = rs; event = e; back = refl; copied = bytes_more d s; gave = refl; between = next_between start d g s state at }))
        (respond_safe w start y v d s l g rs e sent state status.Error u at.tx))
    transmitted_safe b (outcome.Sent n) h =
        let rs = h.0 in
        let x = h.1 in
        let u = Ran 3 r.packet r.ops (length all) in
        let given : bytes_in (g ++ x ∷ []) ≡ bytes_in g ++ r.packet ∷ [] = bytes_more g x ∙ ap (λ p. bytes_in g ++ p ∷ []) h.3 in
        let between : Between start d (g ++ x ∷ []) (after_slots state n) = record { tx = at.tx; rx = ap (λ i. add32 i n) at.rx ∙ h.4; running = at.running } in
        subst (λ b2. BackSafe w start K Ends b2 (respond (over w v) (after_slots state n) all status.Okay u)) (sym h.2)
        (safe_less w start (HasGiven (g ++ x ∷ [])) K (Answered w start y v d s l (g ++ x ∷ []) rs e sent (answered (after_slots state n) used, u)) Ends (working d a used 0 (g ++ x ∷ []) rs e) (respond (over w v) (after_slots state n) all status.Okay u)
        (λ b2 k. inr (three, ap bytes_in k ∙ given))
        (λ b2 end z. onto Ends (resting (d ++ s ∷ []) l (g ++ x ∷ []) rs e) b2 (answered (after_slots state n) used, u) end z.0 z.1
        (record { answered = d ++ s ∷ []; ahead = l; sent = g ++ x ∷ []; posts = rs; event = e; back = refl; copied = bytes_more d s; gave = given; between = next_between start d (g ++ x ∷ []) s (after_slots state n) between }))
        (respond_safe w start y v d s l (g ++ x ∷ []) rs e sent (after_slots state n) status.Okay u at.tx))

    send_ends : (rs : List ℕ) → BackSafe w start K Ends (working d a used 0 g rs e) (send (over w v) state all r.packet r.ops)
    send_ends rs =
        subst (λ i. BackSafe w start K Ends (working d a used 0 g rs e) (bind (transmit (over w v).vif i Whole r.packet) (after_transmit (over w v) state all r.packet r.ops))) (sym at.rx)
        (safe_bind w start K Transmitted Ends (working d a used 0 g rs e) (transmit (over w v).vif (add32 start (length (slots g))) Whole r.packet) (after_transmit (over w v) state all r.packet r.ops)
        (transmits.transmit_safe w start small v j y d a used g e false r.packet fits K none_more one_more rs) transmitted_safe)

pub send_safe : (w : FrontWiring) (start : ℕ) → start < 2 ^ 32 → (v : BackWiring) → Joined w v → Laid w → SendSafe w start v
send_safe w start small v j y d s l g rs e state r good fit at three = send_ends w start small v j y d s l g e r good fit three state at rs
