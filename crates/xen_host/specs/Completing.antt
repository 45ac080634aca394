-- Stated: claims rest on this file.
-- What a queue is about comes to its end.
use Rattle.std.specs.Prelude.{length}
use Rattle.xen_steps.specs.Drive.{IsPageWant, IsPageWant-prop}
use Rattle.xen_steps.specs.Finish.{Finishes, Finishes-prop}
use Rattle.xen_turns.specs.Within.{Completes, Completes-prop}
use Rattle.xen_turns.specs.declared.state.State.{State}
use Rattle.xen_host.specs.Rest.{rest_in, rest_of_delivery, rest_of_wait}
use Rattle.xen_host.specs.declared.stage.Purpose.TheVariants as purpose
use Rattle.xen_host.specs.declared.stage.Stage.{Stage}
use Rattle.xen_host.specs.declared.stage.Stage.TheVariants as stage
use Rattle.xen_turns.specs.declared.wiring.Wiring.{Wiring}
use Rattle.xen_host.specs.EngineAt.{WorkAt}

abbrev pub Arriving : Wiring → State → Stage → WorkAt → Type 0
Arriving w s g b = Finishes (IsPageWant (length w.vif.owners.now)) (rest_of_delivery w.vif s g b)

abbrev pub Waiting : Wiring → State → Stage → Type 0
Waiting w s g = Finishes (IsPageWant (length w.vif.owners.now)) (rest_of_wait w.vif.rx s g)

-- It ends, whatever it is answered, and until then wants nothing that it may not.
abbrev pub TaskCompletes : Wiring → State → Stage → WorkAt → Type 0
TaskCompletes w s stage.Ready b = Unit {0}
TaskCompletes w s stage.Several b = Unit {0}
TaskCompletes w s (stage.Fill f purpose.Delivery) b = Arriving w s (stage.Fill f purpose.Delivery) b
TaskCompletes w s (stage.Deliver producer) b = Arriving w s (stage.Deliver producer) b
TaskCompletes w s (stage.Wait pages) b = Waiting w s (stage.Wait pages)
TaskCompletes w s (stage.WaitLook pages) b = Waiting w s (stage.WaitLook pages)
TaskCompletes w s g b = Completes w (rest_in w s g b)

turn-prop : (w : Wiring) (s : State) (g : Stage) (b : WorkAt) → IsProp (Completes w (rest_in w s g b))
turn-prop w s g b = Completes-prop w (rest_in w s g b)

delivery-prop : (w : Wiring) (s : State) (g : Stage) (b : WorkAt) → IsProp (Arriving w s g b)
delivery-prop w s g b = Finishes-prop (IsPageWant (length w.vif.owners.now)) (IsPageWant-prop (length w.vif.owners.now)) (rest_of_delivery w.vif s g b)

wait-prop : (w : Wiring) (s : State) (g : Stage) → IsProp (Waiting w s g)
wait-prop w s g = Finishes-prop (IsPageWant (length w.vif.owners.now)) (IsPageWant-prop (length w.vif.owners.now)) (rest_of_wait w.vif.rx s g)

pub TaskCompletes-prop : (w : Wiring) (s : State) (g : Stage) (b : WorkAt) → IsProp (TaskCompletes w s g b)
TaskCompletes-prop w s stage.Ready b = λ x y i. x
TaskCompletes-prop w s stage.Several b = λ x y i. x
TaskCompletes-prop w s (stage.Fill f purpose.Delivery) b = delivery-prop w s (stage.Fill f purpose.Delivery) b
TaskCompletes-prop w s (stage.Deliver producer) b = delivery-prop w s (stage.Deliver producer) b
TaskCompletes-prop w s (stage.Wait pages) b = wait-prop w s (stage.Wait pages)
TaskCompletes-prop w s (stage.WaitLook pages) b = wait-prop w s (stage.WaitLook pages)
TaskCompletes-prop w s stage.Announce b = turn-prop w s stage.Announce b
TaskCompletes-prop w s (stage.Slot left) b = turn-prop w s (stage.Slot left) b
TaskCompletes-prop w s (stage.Entry i at) b = turn-prop w s (stage.Entry i at) b
TaskCompletes-prop w s (stage.Page i f frame) b = turn-prop w s (stage.Page i f frame) b
TaskCompletes-prop w s (stage.Fill f (purpose.Back n)) b = turn-prop w s (stage.Fill f (purpose.Back n)) b
TaskCompletes-prop w s (stage.Respond i) b = turn-prop w s (stage.Respond i) b
TaskCompletes-prop w s stage.Push b = turn-prop w s stage.Push b
TaskCompletes-prop w s stage.Notice b = turn-prop w s stage.Notice b
