-- Stated: claims rest on this file.
-- A front's activity comes to an end.
use Rattle.std.specs.Prelude.{ℕ, List}
use Rattle.std.specs.Coded.{Unit-prop}
use Rattle.xen_steps.specs.Drive.{Any, Bounded, Bounded-prop, IsPageWant, IsPageWant-prop}
use Rattle.xen_front.specs.Given.{Ending}
use Rattle.xen_front.specs.Rest.{rest_at}
use Rattle.xen_front.specs.declared.by_event.phase.Phase.{Phase}
use Rattle.xen_front.specs.declared.state.FrontState.{FrontState}
use Rattle.xen_buffers.specs.declared.wiring.FrontWiring.{FrontWiring}

-- What is left has at most 17,000 events, each an access to a word on the bus or a notice.
unfoldable pub IsShort : FrontWiring → FrontState → List ℕ → List ℕ → Phase → Type 0
IsShort w s p q x = Bounded (IsPageWant w.frames) Any (rest_at w s p q x) 17000

pub IsShort-prop : (w : FrontWiring) (s : FrontState) (p q : List ℕ) (x : Phase) → IsProp (IsShort w s p q x)
unfolding IsShort
IsShort-prop w s p q x = Bounded-prop (IsPageWant w.frames) Any (IsPageWant-prop w.frames) (λ (y : Ending). Unit-prop)
    (rest_at w s p q x) 17000
