-- Stated: claims rest on this file.
-- What C is answered if a step has no queue, and to a step of several turns with counters of its own.
use Rattle.std.specs.Prelude.{ℕ, ◌≡◌, ◌≢◌, List}
use Rattle.xen_host.specs.Queues.{AreEnough, AreFew, HasStepped, IsNothing}
use Rattle.xen_host.specs.Severals.{AreEnoughTogether, AreFewTogether, HasSteppedTogether, IsNothingTogether}
use Rattle.xen_host.specs.declared.op.HostOp.{HostOp}
use Rattle.xen_host.specs.declared.queue.Queue.{Queue}
use Rattle.xen_host.specs.declared.stage.Stage.TheVariants as stage
use Rattle.xen_host.specs.declared.turn_result.TurnResult.{TurnResult}

-- nothing is said, and nothing has changed
pub record IsUnsaid (count : ℕ) (words words_after counters counters_after : List ℕ) (ops ops_after : List HostOp) : Type 0 where
  pub none : count ≡ 0
  pub words_kept : words_after ≡ words
  pub counters_kept : counters_after ≡ counters
  pub ops_kept : ops_after ≡ ops

-- several turns have gone on together, or what is under way by itself, which leaves the results; or there was too little for that, and nothing
-- has changed
pub record TurnsStepped (old new : Queue) (lent lent_after before after : List ℕ) (ops ops_after : List HostOp) (results results_after : List TurnResult)
    (count : ℕ) : Type 0 where
  pub stepped : AreEnoughTogether old lent before ops results →
      HasSteppedTogether old new lent lent_after before after ops ops_after results results_after count
  pub few : old.engine.stage ≡ stage.Several → AreFewTogether old lent before ops results →
      IsNothingTogether old new lent lent_after before after ops ops_after results results_after count
  pub alone : AreEnough old lent before ops → (results_after ≡ results) × HasStepped old new lent lent_after before after ops ops_after count
  pub none : old.engine.stage ≢ stage.Several → AreFew old lent before ops →
      (results_after ≡ results) × IsNothing old new lent lent_after before after ops ops_after count
