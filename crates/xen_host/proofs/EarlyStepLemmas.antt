-- What a step keeps of a turn.
use Rattle.std.proofs.Common.{◌≡◌, ℕ, true, false, List}
use Rattle.xen_page.specs.declared.place.Place.{Place}
use Rattle.xen_host.specs.Early.{is_early, is_late}
use Rattle.xen_host.specs.EarlySteps.{StepKeeps, is_answering, is_done}
use Rattle.xen_host.specs.EngineAt.{EngineAt}
use Rattle.xen_host.specs.declared.stage.Stage.{Stage}

-- A step that is neither early nor one of responses.
pub keeps_other : {H : Type 0} (gave : H → Place → List ℕ → H → Type 0) (g : Stage) (old new : EngineAt) (host : H) → is_early g ≡ false → is_answering g ≡ false → (is_late g ≡ true → is_done g ≡ false → is_late new.stage ≡ true) →
    StepKeeps gave g old new host
keeps_other gave g old new host not_early not_answering late = record {
  early = λ h k. absurd (cc (h, not_early));
  on = λ h k. absurd (cc (h, not_early));
  rx = λ h. absurd (cc (h, not_early));
  answers = λ h. absurd (cc (h, not_answering));
  late = late;
}
