-- What the pair's assembly wants of the back.
use Rattle.honest_pair.proofs.Invariant.Lists.{bytes_append}
use Rattle.std.proofs.Common.{◌≡◌, ℕ, ◌+◌, inl, inr, true, false, List, [], ◌++◌, length, Some, None, refl, sym, ◌∙◌, ap, subst}
use Rattle.xen_turns.specs.declared.wiring.Wiring.{Wiring as BackWiring}
use Rattle.xen_buffers.specs.declared.wiring.FrontWiring.{FrontWiring}
use Rattle.xen_steps.specs.Places.{add32}
use Rattle.honest_pair.specs.Invariant.Backs.{BackLaw, WakeLaw, PrefixLaw, GivenLaw, HeardLaw, woken}
use Rattle.honest_pair.specs.Invariant.Ended.{GivenAll, HalfEnd, resting, slept}
use Rattle.honest_pair.specs.Invariant.Ends.{BackSafe, HasGiven}
use Rattle.honest_pair.specs.Invariant.Ghosts.{Sent, Front, slots, tx_sent, bytes_in}
use Rattle.honest_pair.specs.Machine.Halves.{half_turn}
use Rattle.honest_pair.specs.Invariant.Inv.{Inv}
use Rattle.honest_pair.specs.Invariant.Joined.{Joined}
use Rattle.honest_pair.specs.Machine.Memory.{Memory}
use Rattle.honest_pair.specs.declared.awaits.Awaits.TheVariants as awaits
use Rattle.honest_pair.proofs.Invariant.BackLooks.{over, safe_less}
use Rattle.honest_pair.proofs.Invariant.BackTurns.{half_rests}
use Rattle.honest_pair.proofs.Invariant.BackSends.{send_safe}

-- the same rings
pub same_wiring : (w : FrontWiring) (v : BackWiring) → Joined w v → over w v ≡ v
same_wiring w v j =
    ap (λ t. record v { vif = record v.vif { tx = t; rx = w.rx_frame } }) (sym j.tx)
    ∙ ap (λ t. record v { vif = record v.vif { rx = t } }) (sym j.rx)

pub half_safe : BackLaw
half_safe w start small y v j runs s c g b ready =
    let at = same_wiring w v j in
    let d = ready.answered in let gv = ready.sent in
    let first : BackSafe w start (HasGiven gv) (HalfEnd w start v s (bytes_in d) (bytes_in gv)) (resting d ready.ahead gv ready.posts ready.event) (half_turn v s) =
    subst (λ u. BackSafe w start (HasGiven gv) (HalfEnd w start u s (bytes_in d) (bytes_in gv)) (resting d ready.ahead gv ready.posts ready.event) (half_turn u s)) at
    (half_rests w start y small v j runs (send_safe w start small v j y) d ready.ahead gv ready.posts ready.event s ready.between) in
    let less : BackSafe w start (GivenAll (bytes_in gv)) (HalfEnd w start v s (bytes_in d) (bytes_in gv)) (resting d ready.ahead gv ready.posts ready.event) (half_turn v s) =
    safe_less w start (HasGiven gv) (GivenAll (bytes_in gv)) (HalfEnd w start v s (bytes_in d) (bytes_in gv)) (HalfEnd w start v s (bytes_in d) (bytes_in gv)) (resting d ready.ahead gv ready.posts ready.event) (half_turn v s)
    (λ b2 k. ap bytes_in k) (λ b2 x h. h) first in
    subst (λ b2. BackSafe w start (GivenAll g) (HalfEnd w start v s c g) b2 (half_turn v s)) (sym ready.back)
    (subst (λ g2. BackSafe w start (GivenAll g2) (HalfEnd w start v s c g2) (resting d ready.ahead gv ready.posts ready.event) (half_turn v s)) ready.gave
    (subst (λ c2. BackSafe w start (GivenAll (bytes_in gv)) (HalfEnd w start v s c2 (bytes_in gv)) (resting d ready.ahead gv ready.posts ready.event) (half_turn v s)) ready.copied less))

wakes_as : (w : FrontWiring) (start : ℕ) (d g : List Sent) (rs : List ℕ) (m : Memory) (f : Front) → Inv w start m f (slept d g rs) → Inv w start (record m { pending = false; awaits = awaits.Nothing }) f (woken (slept d g rs))
wakes_as w start d g rs m f h = record {
  tx = record { took = h.tx.took; told = h.tx.told; wrote = h.tx.wrote; used = h.tx.used; known = h.tx.known; room = h.tx.room; unique = h.tx.unique; good = h.tx.good };
  tx_head = h.tx_head;
  tx_slots = h.tx_slots;
  rx = h.rx;
  rx_head = record { req_prod = h.rx_head.req_prod; event = tt; rsp_prod = h.rx_head.rsp_prod };
  rx_slots = h.rx_slots;
  reading = h.reading;
  front_notes = h.front_notes;
  heard = λ x. cc;
  awaited = tt;
}

pub wakes : WakeLaw
wakes w start s c g b m f sl h = (
  subst (λ b2. Inv w start (record m { pending = false; awaits = awaits.Nothing }) f (woken b2)) (sym sl.back) (wakes_as w start sl.answered sl.sent sl.posts m f (subst (Inv w start m f) sl.back h)),
  record { answered = sl.answered; ahead = []; sent = sl.sent; posts = sl.posts; event = length (slots sl.answered) + 1; back = ap woken sl.back; copied = sl.copied; gave = sl.gave; between = sl.between },
)

pub copies_begin : PrefixLaw
copies_begin w start m f b h = (bytes_in (b.ahead ++ h.tx.known.0), ap bytes_in h.tx.known.1 ∙ bytes_append b.done (b.ahead ++ h.tx.known.0))

pub told_begins : GivenLaw
told_begins w start m f b h = (bytes_in h.rx.told.0, ap bytes_in h.rx.told.1 ∙ bytes_append f.rx_told h.rx.told.0)

pub all_heard : HeardLaw
all_heard w start m f b s c g sl h quiet closed =
    let i = subst (Inv w start m f) sl.back h in
    let x = i.heard refl in
    let t = length (slots sl.answered) in
    let seen : tx_sent f ≡ t = elim x.1 [
      | inl p ↦ (let bad : true ≡ false = sym p ∙ quiet in absurd (cc))
      | inr q ↦ elim q [ inl e ↦ e | inr o ↦ (let bad : None ≡ Some t = sym closed ∙ o in absurd (cc)) ]
    ] in
    i.tx_head.req_prod ∙ ap (add32 start) seen ∙ sym sl.between.tx
