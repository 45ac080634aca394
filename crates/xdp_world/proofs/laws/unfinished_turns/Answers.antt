use Rattle.std.proofs.Common.{◌≡◌, List, [], ◌∷◌, ◌++◌, refl, sym, subst}
use Rattle.std.proofs.lemmas.List.{append-nil}
use Rattle.xen_steps.specs.declared.want.Want.TheVariants as want
use Rattle.xen_steps.specs.Drive.{LedBy}
use Rattle.xen_steps.specs.Event.{Event}
use Rattle.xen_steps.specs.Steps.{Steps, Runs, done, ask, never, want_of}
use Rattle.xen_turns.specs.Tree.{whole_turn}
use Rattle.xen_steps.proofs.DriveLemmas.{runs_alone, runs_more}
use Rattle.xen_turns.proofs.TurnParts.{turn_parts}
use Rattle.xen_turns.proofs.TurnRuns.{runs_turn}
use Rattle.xdp_world.proofs.laws.unfinished_turns.Goals as goal

runs_behind : {A : Type 0} (s m : Steps A) (t u : List Event) (r : A) → LedBy s t m → Runs m u r → Runs s (t ++ u) r
runs_behind s m [] u r g h = subst (λ x. Runs x u r) (sym g) h
runs_behind s m (e ∷ t) u r g h = runs_more s g.0 e g.1 (t ++ u) r (runs_behind g.0 m t u r g.2 h)

runs_left : {A : Type 0} (s m : Steps A) (t u : List Event) (r : A) → LedBy s t m → Runs s (t ++ u) r → Runs m u r
runs_left s m [] u r g h = subst (λ x. Runs x u r) g h
runs_left s m (e ∷ t) u r g h = runs_left g.0 m t u r g.2 (runs_alone s g.0 e g.1 (t ++ u) r h)

ends : {A : Type 0} (s : Steps A) (r : A) → Runs s [] r → want_of s ≡ want.Done
ends (done x) r h = refl
ends (ask w k) r h = absurd h
ends never r h = absurd h

pub returns : goal.returns
returns c = record {
  begins = λ w s front left i.
      let (t, end, r) = i.completed in
      (t, end.0, end.1, turn_parts w s (front ++ t) end.0 end.1 (runs_behind (whole_turn w s) left front t end i.gone r));
  proper = λ w s front left i running new u h.
      i.isnt_over running (ends left (new, u) (runs_left (whole_turn w s) left front [] (new, u) i.gone
      (subst (λ (t : List Event). Runs (whole_turn w s) t (new, u)) (sym (append-nil front)) (runs_turn w s front new u h))));
  completed = λ w s front left i t new u h. turn_parts w s (front ++ t) new u (runs_behind (whole_turn w s) left front t (new, u) i.gone h);
  else_not = λ w s front left i t new u h. runs_left (whole_turn w s) left front t (new, u) i.gone (runs_turn w s (front ++ t) new u h);
}
