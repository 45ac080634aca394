-- What is left of an activity stays short.
use Rattle.std.proofs.Common.{◌≡◌, ℕ, ◌-◌, ◌≤◌, List, arith, subst, sym}
use Rattle.xen_steps.specs.Drive.{Any, Bounded, IsPageWant}
use Rattle.xen_steps.specs.Steps.{Steps, done, ask, never, next}
use Rattle.xen_steps.specs.declared.want.Want.{Want}
use Rattle.xen_steps.specs.declared.want.Want.TheVariants as want
use Rattle.xen_steps.proofs.DriveLemmas.{bounded_le, bounded_wider}
use Rattle.xen_front.specs.Bound.{IsOwnWant}
use Rattle.xen_front.specs.Given.{Ending}
use Rattle.xen_front.specs.Rest.{rest_at}
use Rattle.xen_front.specs.Short.{IsShort}
use Rattle.xen_buffers.specs.Wired.{IsWired}
use Rattle.xen_front.specs.declared.by_event.phase.Phase.{Phase}
use Rattle.xen_front.specs.declared.by_event.phase.Phase.TheVariants as phase
use Rattle.xen_front.specs.declared.state.FrontState.{FrontState}
use Rattle.xen_buffers.specs.declared.wiring.FrontWiring.{FrontWiring}
use Rattle.xen_front.proofs.BoundLemmas.{page_want}

bounded_next_le : (within : Want → Type 0) (s : Steps Ending) (a n : ℕ) → Bounded within Any s n → Bounded within Any (next s a) n
bounded_next_le within (done x) a n b = b
bounded_next_le within (ask w k) a n b = bounded_le within Any (k a) (n - 1) n (b.2 a) (omega arith)
bounded_next_le within never a n b = tt

pub short_opened : (w : FrontWiring) (s : FrontState) (p q : List ℕ) (x : Phase) → IsShort w s p q x → Bounded (IsPageWant w.frames) Any (rest_at w s p q x) 17000
unfolding IsShort
short_opened w s p q x h = h

-- between activities
pub short_ready : (w : FrontWiring) (s : FrontState) (p q : List ℕ) → IsShort w s p q phase.Ready
unfolding IsShort
short_ready w s p q = tt

-- after an answer
pub short_fed : (w : FrontWiring) (s s' : FrontState) (p p' q q' : List ℕ) (x x' : Phase) (a : ℕ) → IsShort w s p q x → rest_at w s' p' q' x' ≡ next (rest_at w s p q x) a → IsShort w s' p' q' x'
unfolding IsShort
short_fed w s s' p p' q q' x x' a h e =
    subst (λ t. Bounded (IsPageWant w.frames) Any t 17000) (sym e) (bounded_next_le (IsPageWant w.frames) (rest_at w s p q x) a 17000 h)

-- as an activity begins
pub short_begun : (w : FrontWiring) (s : FrontState) (p q : List ℕ) (x : Phase) (t : Steps Ending) (n : ℕ) → IsWired w → n ≤ 17000 → Bounded (IsOwnWant w) Any t n → rest_at w s p q x ≡ t → IsShort w s p q x
unfolding IsShort
short_begun w s p q x t n h few b e =
    subst (λ t. Bounded (IsPageWant w.frames) Any t 17000) (sym e)
    (bounded_le (IsPageWant w.frames) Any t n 17000 (bounded_wider (IsOwnWant w) (IsPageWant w.frames) (page_want w h) Any t n b) few)

-- what is on a bus is on a bus of more frames
pub page_want_of_more : (frames more : ℕ) → frames ≤ more → (v : Want) → IsPageWant frames v → IsPageWant more v
page_want_of_more frames more le (want.Read at) h = (omega (arith, le, h.0), h.1)
page_want_of_more frames more le (want.Write at v) h = (omega (arith, le, h.0), h.1)
page_want_of_more frames more le want.Instr h = absurd h
page_want_of_more frames more le (want.Load m k j) h = absurd h
page_want_of_more frames more le (want.Add m k j d) h = absurd h
page_want_of_more frames more le (want.Notify p) h = tt
page_want_of_more frames more le want.Done h = absurd h
