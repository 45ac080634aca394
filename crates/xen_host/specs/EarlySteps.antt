-- For proofs: no claim rests on this file.
-- What a step of an engine keeps of a turn: its state until its program runs, and its rx index until it sends.
use Rattle.std.specs.Prelude.{ℕ, ◌≡◌, Bool, true, false, List}
use Rattle.xen_page.specs.declared.place.Place.{Place}
use Rattle.xen_host.specs.Early.{StaysEarly, is_early, is_late}
use Rattle.xen_host.specs.EngineAt.{EngineAt}
use Rattle.xen_host.specs.Fed.{fed}
use Rattle.xen_host.specs.Hosts.{WasGiven}
use Rattle.xen_host.specs.Rest.{due_in, reads_in, rest_in}
use Rattle.xen_host.specs.declared.stage.Stage.{Stage}
use Rattle.xen_host.specs.declared.stage.Stage.TheVariants as stage

-- It is answered by these words, and goes on before its program's run.
pub record MovesEarly {H : Type 0} (gave : H → Place → List ℕ → H → Type 0) (g : Stage) (old new : EngineAt) (host : H) : Type 0 where
  pub words : List ℕ
  pub mid : H
  pub given : WasGiven gave (due_in old.wires old.state g old.work) (reads_in g) host words mid
  pub stays : StaysEarly (λ s. fed (rest_in old.wires s g old.work) words) old.state new

-- It is answered, but for the push, or over.
abbrev pub is_done : Stage → Bool
is_done stage.Push = true
is_done stage.Ready = true
is_done g = false

-- Its responses are written.
abbrev pub is_answering : Stage → Bool
is_answering (stage.Respond i) = true
is_answering g = false

pub record StepKeeps {H : Type 0} (gave : H → Place → List ℕ → H → Type 0) (g : Stage) (old new : EngineAt) (host : H) : Type 0 where
  pub early : is_early g ≡ true → is_early new.stage ≡ true → MovesEarly gave g old new host
  pub on : is_early g ≡ true → is_early new.stage ≡ false → is_late new.stage ≡ true
  pub rx : is_early g ≡ true → new.state.rx_index ≡ old.state.rx_index
  pub answers : is_answering g ≡ true → new.state.rx_index ≡ old.state.rx_index
  pub late : is_late g ≡ true → is_done g ≡ false → is_late new.stage ≡ true
