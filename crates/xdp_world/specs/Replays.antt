-- For proofs: no claim rests on this file.
-- A world in which one queue is stepped.
use Rattle.bpf_maps.specs.Beginning.{Beginning}
use Rattle.std.specs.Prelude.{ℕ, ◌≡◌, ◌⊎◌, List, [], ◌++◌, slice_index_or}
use Rattle.xen_back.specs.Queues.{rest, wiring_of}
use Rattle.xen_turns.specs.Tree.{whole_turn}
use Rattle.xen_back.specs.declared.queue.Queue.{Queue}
use Rattle.xen_turns.specs.declared.state.State.{State}
use Rattle.xen_turns.specs.declared.wiring.Wiring.{Wiring}
use Rattle.xen_steps.specs.Drive.{Any, Bounded}
use Rattle.xen_steps.specs.Steps.{want_of}
use Rattle.xen_steps.specs.declared.want.Want.{Want}
use Rattle.xen_steps.specs.declared.want.Want.TheVariants as want
use Rattle.xdp_world.specs.Entries.{Entry}
use Rattle.xdp_world.specs.Replay.{AreOf, read_answers}
use Rattle.xdp_world.specs.Stands.{Stands}
use Rattle.xdp_world.specs.declared.world.World.{World}

abbrev pub Anything : Want → Type 0
Anything w = Unit {0}

-- `most` events are enough for what is left of the queue's turn, and for each later turn.
pub record IsEnough (most : ℕ) (q : Queue) : Type 0 where
  pub now : Bounded Anything Any (rest q) most
  pub later : (s : State) → Bounded Anything Any (whole_turn (wiring_of q) s) most

-- A read, or nothing more.
abbrev pub Pauses : Want → Type 0
Pauses (want.Read at) = Unit {0}
Pauses want.Done = Unit {0}
Pauses w = ⊥

-- For what is left of the queue's turn n events are enough, or it wants a read or nothing.
abbrev pub IsNear : ℕ → Queue → Type 0
IsNear n q = Pauses (want_of (rest q)) ⊎ Bounded Anything Any (rest q) n

-- The world goes on by steps of a queue, whose reads were answered by these numbers.
abbrev pub Replays : World → World → ℕ → List ℕ → Type 0
Replays old new queue given = (wirings : ℕ → Wiring) (start : ℕ) (begin : Beginning) (es : List Entry) → Stands old wirings start begin es →
    (more : List Entry) × AreOf queue more × (read_answers more ≡ given) × Stands new wirings start begin (es ++ more)

-- A queue that is stepped no further when these answers are left.
abbrev pub Rests : Want → List ℕ → Type 0
Rests (want.Read at) left = left ≡ []
Rests want.Done left = Unit {0}
Rests w left = ⊥

-- The queue's reads took the answers, as far as it came.
pub record Took (old new : World) (queue : ℕ) (answers : List ℕ) : Type 0 where
  pub given : List ℕ
  pub left : List ℕ
  pub split : answers ≡ given ++ left
  pub replays : Replays old new queue given
  pub rests : (d : Queue) → Rests (want_of (rest (slice_index_or new.queues.items queue d))) left
