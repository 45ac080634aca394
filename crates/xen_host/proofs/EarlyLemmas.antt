-- What is left of a turn whose program has not run.
use Rattle.std.proofs.Common.{◌≡◌, true, false, refl, ◌∙◌}
use Rattle.xen_steps.specs.Steps.{Steps}
use Rattle.xen_turns.specs.Turned.{Ending}
use Rattle.xen_turns.specs.declared.state.State.{State}
use Rattle.xen_host.specs.Early.{EarlyFrom, at_rx, is_early, is_late}
use Rattle.xen_host.specs.EngineAt.{EngineAt}
use Rattle.xen_host.specs.declared.stage.Stage.{Stage}
use Rattle.xen_host.specs.declared.stage.Stage.TheVariants as stage

pub early_as : (from to : State → Steps Ending) (s : State) (e : EngineAt) → ((t : State) → from t ≡ to t) → EarlyFrom from s e → EarlyFrom to s e
early_as from to s e same h early = let q = h early in record { state = q.state; left = λ x. q.left x ∙ same (at_rx x s) }

pub late_not_early : (g : Stage) → is_late g ≡ true → is_early g ≡ false
late_not_early stage.Ready h = refl
late_not_early stage.Announce h = refl
late_not_early (stage.Slot left) h = cc h
late_not_early (stage.Entry i at) h = cc h
late_not_early (stage.Page i f frame) h = cc h
late_not_early (stage.Fill f purpose) h = refl
late_not_early (stage.Respond i) h = refl
late_not_early stage.Push h = refl
late_not_early stage.Notice h = refl
late_not_early (stage.Deliver producer) h = refl
late_not_early (stage.Wait pages) h = refl
late_not_early (stage.WaitLook pages) h = refl
late_not_early stage.Several h = refl

-- Its program has run, or will not.
pub late_early : (to : State → Steps Ending) (s : State) (e : EngineAt) → is_late e.stage ≡ true → EarlyFrom to s e
late_early to s e h early = absurd (cc (late_not_early e.stage h, early))
