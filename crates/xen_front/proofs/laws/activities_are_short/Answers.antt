use Rattle.xen_steps.proofs.DriveLemmas.{bounded_runs}
use Rattle.xen_steps.specs.Drive.{Any}
use Rattle.xen_front.specs.Bound.{IsOwnWant}
use Rattle.xen_front.specs.Tree.{poll, post, send}
use Rattle.xen_front.proofs.ActivityLemmas.{runs_send, runs_post, runs_poll}
use Rattle.xen_front.proofs.BoundLemmas.{bounded_poll, bounded_post, bounded_send, own_runs}
use Rattle.xen_front.proofs.IdLemmas.{AreIds-from_All}
use Rattle.xen_front.proofs.laws.activities_are_short.Goals as goal

pub returns : goal.returns
returns c = record {
  sends = λ w s p ids t s' g h few all is.
      let b = bounded_send w h s p ids few (AreIds-from_All ids all) in
      let run = runs_send w s p ids t s' g is in
      (bounded_runs (IsOwnWant w) Any (send w s p ids) 16467 t (s', g) b run, own_runs w (send w s p ids) 16467 t (s', g) b run);
  posts = λ w s id t s' g h lt is.
      let b = bounded_post w h s id lt in
      let run = runs_post w s id t s' g is in
      (bounded_runs (IsOwnWant w) Any (post w s id) 7 t (s', g) b run, own_runs w (post w s id) 7 t (s', g) b run);
  polls = λ w s t s' g h f is.
      let b = bounded_poll w h s f in
      let run = runs_poll w s t s' g is in
      (bounded_runs (IsOwnWant w) Any (poll w s) 16954 t (s', g) b run, own_runs w (poll w s) 16954 t (s', g) b run);
}
