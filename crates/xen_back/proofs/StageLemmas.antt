-- A stage with another phase.
use Rattle.std.proofs.Common.{◌≡◌, refl, sym, ap, ◌∙◌}
use Rattle.xen_back.specs.Rest.{at_phase, packet_at}
use Rattle.xen_back.specs.declared.by_event.phase.Phase.{Phase}
use Rattle.xen_back.specs.declared.by_event.stage.Stage.{Stage}
use Rattle.xen_back.specs.declared.by_event.stage.Stage.TheVariants as stages

pub packet_at_phase : (g : Stage) (x : Phase) (new : Stage) → new ≡ at_phase g x → packet_at g ≡ packet_at new
packet_at_phase g x new e = by g ∙ sym (ap packet_at e)
  where
    by : (g : Stage) → packet_at g ≡ packet_at (at_phase g x)
    by (stages.At p y) = refl
    by (stages.EntryFlags a) = refl
    by (stages.EntryFrame a n) = refl
    by (stages.Page a) = refl
    by (stages.Run a) = refl
    by (stages.Send p t) = refl
