-- Stated: claims rest on this file.
-- What a queue is doing.
use Rattle.std.specs.Prelude.{ℕ, ◌≡◌, ◌≢◌, ◌<◌, Bool, true, false, IsTrue, List, [], ◌∷◌, Option, Some, length, slice_index_or}
use Rattle.std.specs.Coded.{Unit-prop}
use Rattle.std.proofs.Props.{props}
use Rattle.xen_steps.specs.Event.{Event}
use Rattle.xen_steps.specs.Steps.{want_of}
use Rattle.xen_steps.specs.declared.want.Want.{Want}
use Rattle.xen_steps.specs.declared.want.Want.TheVariants as want
use Rattle.xen_back.specs.ByEvent.{left_of}
use Rattle.xen_back.specs.Queues.{rest, state_of}
use Rattle.xen_back.specs.WaitsByEvent.{left_of_wait}
use Rattle.xen_back.specs.declared.by_event.phase.Phase.TheVariants as phase
use Rattle.xen_back.specs.declared.by_event.stage.Stage.{Stage}
use Rattle.xen_back.specs.declared.by_event.stage.Stage.TheVariants as stage
use Rattle.xen_back.specs.declared.queue.Queue.{Queue}
use Rattle.xen_turns.specs.declared.wiring.Wiring.{Wiring}
use Rattle.xdp_world.specs.Activities.{Given, Item, IsUndelivered, IsUnwaited, SlotsAwaited, all_came}
use Rattle.xdp_world.specs.Core.{IsUnfinished}
use Rattle.xdp_world.specs.declared.doing.Doing.{Doing}
use Rattle.xdp_world.specs.declared.doing.Doing.TheVariants as doing

-- Whether a queue at this stage is between turns.
abbrev pub is_ready : Option Stage → Bool
is_ready (Some (stage.At packet phase.Ready)) = true
is_ready s = false

-- What a queue is doing is so. A delivery or a wait that is under way is the queue's, and wants something.
abbrev pub Fits : Doing → Queue → Type 0
Fits doing.Between q = IsTrue (is_ready q.stage)
Fits doing.Turn q = Unit {0}
Fits (doing.Delivery d) q = IsTrue (is_ready q.stage) × (d.vif ≡ q.wiring.vif) × (d.state ≡ state_of q) × (want_of (left_of d) ≢ want.Done)
Fits (doing.Wait a) q =
    IsTrue (is_ready q.stage) × (a.rx ≡ q.wiring.vif.rx) × (a.state ≡ state_of q) × (want_of (left_of_wait a) ≢ want.Done)

pub Fits-prop : (d : Doing) (q : Queue) → IsProp (Fits d q)
Fits-prop doing.Between q = hlevel props
Fits-prop doing.Turn q = Unit-prop
Fits-prop (doing.Delivery d) q = hlevel props
Fits-prop (doing.Wait a) q = hlevel props

abbrev pub AllFit : List Doing → List Queue → Type 0
AllFit ds qs = (i : ℕ) (d : Doing) (q : Queue) → i < length qs → Fits (slice_index_or ds i d) (slice_index_or qs i q)

pub AllFit-prop : (ds : List Doing) (qs : List Queue) → IsProp (AllFit ds qs)
AllFit-prop ds qs = let p : (d : Doing) (q : Queue) → IsProp (Fits d q) = Fits-prop in hlevel p

-- Whether a call of the host is under way: a delivery or a wait.
abbrev pub is_call : Option Doing → Bool
is_call (Some (doing.Delivery d)) = true
is_call (Some (doing.Wait a)) = true
is_call o = false

-- Whether nothing is under way.
abbrev pub is_between : Option Doing → Bool
is_between (Some doing.Between) = true
is_between o = false

-- What a queue wants next: its delivery or its wait, if one is under way, else its turn.
abbrev pub want_at : Queue → Option Doing → Want
want_at q (Some (doing.Delivery d)) = want_of (left_of d)
want_at q (Some (doing.Wait a)) = want_of (left_of_wait a)
want_at q o = want_of (rest q)

-- What is left after the items since the last deed leads to where the queue is: nothing was begun, or a turn, a delivery or
-- a wait.
abbrev pub IsAt : Wiring → Queue → Doing → List Item → Type 0
IsAt w q doing.Between front = (front ≡ []) × IsUnfinished w (state_of q) [] (rest q)
IsAt w q doing.Turn front = (f : List Event) × (front ≡ all_came f) × (f ≢ []) × IsUnfinished w (state_of q) f (rest q)
IsAt w q (doing.Delivery d) front = (packet : List ℕ) × (f : List Event) × (front ≡ Given packet ∷ all_came f) ×
    IsUndelivered w (state_of q) packet f (left_of d)
IsAt w q (doing.Wait a) front = (pages : ℕ) × (f : List Event) × (front ≡ SlotsAwaited pages ∷ all_came f) ×
    IsUnwaited w (state_of q) pages f (left_of_wait a)
