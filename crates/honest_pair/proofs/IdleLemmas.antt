-- What a front has left: nothing unless it is busy, and it never asks for nothing.
use Rattle.std.proofs.Common.{◌≡◌, ◌≢◌, ℕ, refl, sym, subst, true, false, List}
use Rattle.xen_steps.specs.Drive.{Any, Bounded, IsPageWant}
use Rattle.xen_steps.specs.Steps.{Steps, done, ask, never, want_of}
use Rattle.xen_steps.specs.declared.want.Want.{Want}
use Rattle.xen_steps.specs.declared.want.Want.TheVariants as want
use Rattle.xen_buffers.specs.declared.wiring.FrontWiring.{FrontWiring}
use Rattle.xen_front.specs.Fronts.{busy, rest}
use Rattle.xen_front.specs.Given.{Ending}
use Rattle.xen_front.specs.Rest.{busy_in, rest_at}
use Rattle.xen_front.specs.declared.front.Front.{Front}
use Rattle.xen_front.specs.declared.by_event.phase.Phase.{Phase}
use Rattle.xen_front.specs.declared.by_event.phase.Phase.TheVariants as phase
use Rattle.xen_front.specs.declared.state.FrontState.{FrontState}
use Rattle.xen_front.proofs.ShortLemmas.{short_opened}
use Rattle.honest_pair.specs.Shows.{IsGoing}

-- a front that isn't busy has nothing left, and one that has is busy
idle_done : (w : FrontWiring) (s : FrontState) (p q : List ℕ) (x : Phase) → busy_in x ≡ false → want_of (rest_at w s p q x) ≡ want.Done
idle_done w s p q phase.Ready h = refl
idle_done w s p q (phase.GrantFrame a) h = absurd (cc)
idle_done w s p q (phase.GrantFlags a) h = absurd (cc)
idle_done w s p q (phase.Fill a) h = absurd (cc)
idle_done w s p q (phase.Second a) h = absurd (cc)
idle_done w s p q (phase.Third a) h = absurd (cc)
idle_done w s p q (phase.PostFrame a b) h = absurd (cc)
idle_done w s p q (phase.PostFlags a b) h = absurd (cc)
idle_done w s p q (phase.PostFirst a b) h = absurd (cc)
idle_done w s p q (phase.PostSecond a b) h = absurd (cc)
idle_done w s p q (phase.Publish a) h = absurd (cc)
idle_done w s p q (phase.ReadEvent a) h = absurd (cc)
idle_done w s p q phase.Notice h = absurd (cc)
idle_done w s p q phase.TxLook h = absurd (cc)
idle_done w s p q phase.TxAnnounce h = absurd (cc)
idle_done w s p q phase.TxLookAgain h = absurd (cc)
idle_done w s p q (phase.Take a) h = absurd (cc)
idle_done w s p q (phase.TxEnd a b) h = absurd (cc)
idle_done w s p q phase.RxAnnounce h = absurd (cc)
idle_done w s p q phase.RxLookAgain h = absurd (cc)
idle_done w s p q (phase.RxFirst a) h = absurd (cc)
idle_done w s p q (phase.RxSecond a b) h = absurd (cc)
idle_done w s p q (phase.RxEnd a) h = absurd (cc)
idle_done w s p q (phase.RxPage a) h = absurd (cc)
idle_done w s p q (phase.ExtraFirst a) h = absurd (cc)
idle_done w s p q (phase.ExtraSecond a b) h = absurd (cc)
idle_done w s p q (phase.ExtraEnd a b) h = absurd (cc)
idle_done w s p q (phase.Ended a) h = absurd (cc)

going_busy : (w : FrontWiring) (s : FrontState) (p q : List ℕ) (x : Phase) → IsGoing (rest_at w s p q x) → busy_in x ≡ true
going_busy w s p q phase.Ready h = absurd h
going_busy w s p q (phase.GrantFrame a) h = refl
going_busy w s p q (phase.GrantFlags a) h = refl
going_busy w s p q (phase.Fill a) h = refl
going_busy w s p q (phase.Second a) h = refl
going_busy w s p q (phase.Third a) h = refl
going_busy w s p q (phase.PostFrame a b) h = refl
going_busy w s p q (phase.PostFlags a b) h = refl
going_busy w s p q (phase.PostFirst a b) h = refl
going_busy w s p q (phase.PostSecond a b) h = refl
going_busy w s p q (phase.Publish a) h = refl
going_busy w s p q (phase.ReadEvent a) h = refl
going_busy w s p q phase.Notice h = refl
going_busy w s p q phase.TxLook h = refl
going_busy w s p q phase.TxAnnounce h = refl
going_busy w s p q phase.TxLookAgain h = refl
going_busy w s p q (phase.Take a) h = refl
going_busy w s p q (phase.TxEnd a b) h = refl
going_busy w s p q phase.RxAnnounce h = refl
going_busy w s p q phase.RxLookAgain h = refl
going_busy w s p q (phase.RxFirst a) h = refl
going_busy w s p q (phase.RxSecond a b) h = refl
going_busy w s p q (phase.RxEnd a) h = refl
going_busy w s p q (phase.RxPage a) h = refl
going_busy w s p q (phase.ExtraFirst a) h = refl
going_busy w s p q (phase.ExtraSecond a b) h = refl
going_busy w s p q (phase.ExtraEnd a b) h = refl
going_busy w s p q (phase.Ended a) h = refl

pub nothing_left : (f : Front) → busy f ≡ false → want_of (rest f) ≡ want.Done
nothing_left f h = idle_done f.wiring f.state f.sent f.received f.phase h

pub is_busy : (f : Front) (t : Steps Ending) → rest f ≡ t → IsGoing t → busy f ≡ true
is_busy f t e h = going_busy f.wiring f.state f.sent f.received f.phase (subst IsGoing (sym e) h)

-- a front never asks for nothing
pub asks_on : (f : Front) (v : Want) (c : ℕ → Steps Ending) → rest f ≡ ask v c → v ≡ want.Done → ⊥
asks_on f v c e d =
    let b : Bounded (IsPageWant f.wiring.frames) Any (ask v c) 17000 = subst (λ x. Bounded (IsPageWant f.wiring.frames) Any x 17000) e (short_opened f.wiring f.state f.sent f.received f.phase f.short) in
    subst (IsPageWant f.wiring.frames) d b.1

pub not_done : (t : Steps Ending) → want_of t ≢ want.Done → IsGoing t
not_done (done e) n = absurd (n refl)
not_done (ask v c) n = tt
not_done never n = tt
