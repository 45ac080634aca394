-- What a turn's computation is at a phase that waits on an index or on a number.
use Rattle.std.proofs.Common.{◌≡◌, ap, Option}
use Rattle.xen_back.specs.Queues.{IsReady, rest, state_of, wiring_of}
use Rattle.xen_back.specs.Rest.{rest_of_stage}
use Rattle.xen_turns.specs.Tree.{whole_turn}
use Rattle.xen_back.specs.declared.by_event.stage.Stage.{Stage}
use Rattle.xen_back.specs.declared.queue.Queue.{Queue}

-- A queue between turns has a whole turn left.
pub ready_rest : (q : Queue) → IsReady q → rest q ≡ whole_turn (wiring_of q) (state_of q)
ready_rest q h = ap (λ (g : Option Stage). rest_of_stage (wiring_of q) (state_of q) g) h.1
