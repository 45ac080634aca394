-- Stated: claims rest on this file.
-- What contracts see of a wait that is taken one event at a time.
use Rattle.std.specs.Prelude.{ℕ, ◌≡◌}
use Rattle.xen_steps.specs.Answers.{number}
use Rattle.xen_steps.specs.Steps.{Steps, done, next}
use Rattle.xen_steps.specs.declared.want.Answer.{Answer}
use Rattle.xen_back.specs.Queues.{IsReady, IsSameWiring, state_of, wiring_of}
use Rattle.xen_turns.specs.declared.delivery.wait.Awaited.{Awaited}
use Rattle.xen_back.specs.declared.delivery.wait_stage.Awaiting.{Awaiting}
use Rattle.xen_back.specs.declared.queue.Queue.{Queue}
use Rattle.xen_turns.specs.Waits.{Wait, whole_wait}
use Rattle.xen_back.specs.Waits.{rest_looking}

-- What is left of a wait.
abbrev pub left_of_wait : Awaiting → Steps Wait
left_of_wait a = rest_looking a.rx a.state a.wanted a.looking

-- A wait that was begun by a queue as it is.
pub record IsWaitOf (q : Queue) (a : Awaiting) : Type 0 where
  pub rx : a.rx ≡ (wiring_of q).vif.rx
  pub state : a.state ≡ state_of q

-- All of a wait is left.
pub record IsWaitBegun (q : Queue) (wanted : ℕ) (a : Awaiting) : Type 0 where
  pub left : left_of_wait a ≡ whole_wait (wiring_of q).vif.rx (state_of q) wanted
  pub own : IsWaitOf q a

-- A wait that was fed an answer: what it has left is what follows that answer.
pub record IsWaitFed (answer : Answer) (old new : Awaiting) : Type 0 where
  pub left : left_of_wait new ≡ next (left_of_wait old) (number answer)
  pub rx : new.rx ≡ old.rx
  pub state : new.state ≡ old.state

-- A wait is over, and then the queue goes on.
pub record IsWaitOver (old new : Queue) (a : Awaiting) (result : Awaited) : Type 0 where
  pub over : left_of_wait a ≡ done (state_of new, result)
  pub ready : IsReady new
  pub same : IsSameWiring old new
