-- Stated: claims rest on this file.
-- What queues that share counters do with them, and their reader.
use Rattle.std.specs.Prelude.{ℕ, ◌≡◌, ◌≢◌, ◌⊎◌, ◌+◌, ◌++◌, List, [], ◌∷◌, IsSome, None, Some}
use Rattle.std.specs.Arc.{arc_value}
use Rattle.bpf_maps.specs.Seats.{CountersView, SeatView, begin_of, new_seats}
use Rattle.bpf_note.specs.Shape.{IsCounter}
use Rattle.bpf_note.specs.declared.op.Op.TheVariants.{Add, Load}
use Rattle.bpf_verify.specs.Consistent.{Accepted}
use Rattle.xen_host.specs.Queues.{AreEnoughAtSeat, AreFewAtSeat, AreTheSame, HasSteppedAtSeat, resting, wired_to}
use Rattle.xen_host.specs.Severals.{AreEnoughTogetherAtSeat, AreFewTogetherAtSeat, HasSteppedTogetherAtSeat}
use Rattle.xen_host.specs.declared.op.HostOp.{HostOp}
use Rattle.xen_host.specs.declared.queue.Queue.{Queue}
use Rattle.xen_host.specs.declared.sharing.Share.{Share}
use Rattle.xen_host.specs.declared.sharing.ShareFault.{ShareFault}
use Rattle.xen_host.specs.declared.sharing.ShareFault.TheVariants as fault
use Rattle.xen_host.specs.declared.sharing.SharedCounters.{SharedCounters}
use Rattle.xen_host.specs.declared.stage.Stage.TheVariants as stage
use Rattle.xen_host.specs.declared.turn_result.TurnResult.{TurnResult}

-- The counters themselves.
abbrev pub counters_of : SharedCounters → CountersView
counters_of c = arc_value c.counters

-- The seats at them that no queue has, and the reader's.
abbrev pub seats_of : SharedCounters → List SeatView
seats_of c = c.seats.items ++ c.reader ∷ []

-- New counters of a program's maps, all 0: their seats have done nothing, one is for each of these queues, and the last one reads.
pub record AreNewFor (p : Accepted) (queues : ℕ) (c : SharedCounters) : Type 0 where
  pub program : c.program ≡ p
  pub count : (counters_of c).seats ≡ queues + 1
  pub zeros : (m k j : ℕ) → begin_of (counters_of c) m k j ≡ 0
  pub seats : seats_of c ≡ new_seats (counters_of c) (queues + 1)

-- The counters are the same, with the same program, and nothing was done by their reader.
pub record AreSame (old new : SharedCounters) : Type 0 where
  pub program : new.program ≡ old.program
  pub counters : counters_of new ≡ counters_of old
  pub reader : new.reader ≡ old.reader

-- Counter j of value k of map m was loaded by the reader's seat, and was n.
pub record HasRead (old new : SharedCounters) (m k j n : ℕ) : Type 0 where
  pub is_there : IsCounter old.program.shapes m k j
  pub reader : new.reader ≡ record old.reader { ops = old.reader.ops ++ Load m k j n ∷ [] }
  pub program : new.program ≡ old.program
  pub counters : counters_of new ≡ counters_of old
  pub seats : new.seats.items ≡ old.seats.items

-- An amount was added to counter j of value k of map m by the reader's seat, in one operation, which found n.
pub record HasAdded (old new : SharedCounters) (m k j amount n : ℕ) : Type 0 where
  pub is_there : IsCounter old.program.shapes m k j
  pub reader : new.reader ≡ record old.reader { ops = old.reader.ops ++ Add m k j amount n ∷ [] }
  pub program : new.program ≡ old.program
  pub counters : counters_of new ≡ counters_of old
  pub seats : new.seats.items ≡ old.seats.items

-- A share at a seat of these counters that no queue had before, and no other gets.
pub record IsGivenBy (old new : SharedCounters) (s : Share) : Type 0 where
  pub counters : arc_value s.counters ≡ counters_of old
  pub seat : old.seats.items ≡ new.seats.items ++ s.seat ∷ []
  pub same : AreSame old new

-- A queue that had no share, between two turns, has one now in counters of its program's maps. All else of it stays.
pub record SharesNow (old new : Queue) (c c_after : SharedCounters) : Type 0 where
  pub rested : IsSome (resting old)
  pub unshared : old.share ≡ None
  pub maps : c.program.shapes ≡ (wired_to old).program.shapes
  pub share : Share
  pub given : IsGivenBy c c_after share
  pub shares : new.share ≡ Some share
  pub rest : AreTheSame old new

-- Why a queue doesn't share counters: what is so.
abbrev pub IsShareFault : Queue → SharedCounters → ShareFault → Type 0
IsShareFault q c fault.Memory = Unit {0}
IsShareFault q c fault.Busy = resting q ≡ None
IsShareFault q c fault.Shared = IsSome q.share
IsShareFault q c fault.Maps = c.program.shapes ≡ (wired_to q).program.shapes → ⊥
IsShareFault q c fault.Seats = c.seats.items ≡ []

-- A queue's share is another's now, both between two turns. All else of them stays.
pub record HasPassed (old new to to_after : Queue) : Type 0 where
  pub rested : IsSome (resting old)
  pub to_rested : IsSome (resting to)
  pub shared : IsSome old.share
  pub unshared : to.share ≡ None
  pub maps : (wired_to to).program.shapes ≡ (wired_to old).program.shapes
  pub passed : to_after.share ≡ old.share
  pub without : new.share ≡ None
  pub rest : AreTheSame old new
  pub to_rest : AreTheSame to to_after

-- Why a queue doesn't get another's share: what is so.
abbrev pub IsPassFault : Queue → Queue → ShareFault → Type 0
IsPassFault q to fault.Memory = ⊥
IsPassFault q to fault.Busy = (resting q ≡ None) ⊎ (resting to ≡ None)
IsPassFault q to fault.Shared = IsSome to.share
IsPassFault q to fault.Maps = (wired_to to).program.shapes ≡ (wired_to q).program.shapes → ⊥
IsPassFault q to fault.Seats = q.share ≡ None

-- A step with the counters that the queue shares: the list of its seat at them grew by the program's operations and by no others.
pub record StepsShared (old new : Queue) (lent lent_after : List ℕ) (ops ops_after : List HostOp) (count : ℕ) : Type 0 where
  pub share : Share
  pub share_after : Share
  pub before : old.share ≡ Some share
  pub after : new.share ≡ Some share_after
  pub counters : share_after.counters ≡ share.counters
  pub seat : share_after.seat ≡ record share.seat { ops = share_after.seat.ops }
  pub stepped : AreEnoughAtSeat old lent ops → HasSteppedAtSeat old new lent lent_after share.seat share_after.seat ops ops_after count
  pub few : AreFewAtSeat old lent ops →
      (count ≡ 0) × (lent_after ≡ lent) × (ops_after ≡ ops) × AreTheSame old new × (share_after.seat ≡ share.seat)

-- So it is while a turn of several packets is under way, and of what is under way by itself, whose step leaves the results.
pub record TurnsShared (old new : Queue) (lent lent_after : List ℕ) (ops ops_after : List HostOp) (results results_after : List TurnResult)
    (count : ℕ) : Type 0 where
  pub share : Share
  pub share_after : Share
  pub before : old.share ≡ Some share
  pub after : new.share ≡ Some share_after
  pub counters : share_after.counters ≡ share.counters
  pub seat : share_after.seat ≡ record share.seat { ops = share_after.seat.ops }
  pub stepped : AreEnoughTogetherAtSeat old lent ops results →
      HasSteppedTogetherAtSeat old new lent lent_after share.seat share_after.seat ops ops_after results results_after count
  pub few : old.engine.stage ≡ stage.Several → AreFewTogetherAtSeat lent ops results →
      (count ≡ 0) × (lent_after ≡ lent) × (ops_after ≡ ops) × (results_after ≡ results) × AreTheSame old new × (share_after.seat ≡ share.seat)
  pub alone : AreEnoughAtSeat old lent ops →
      (results_after ≡ results) × HasSteppedAtSeat old new lent lent_after share.seat share_after.seat ops ops_after count
  pub none : old.engine.stage ≢ stage.Several → AreFewAtSeat old lent ops →
      (count ≡ 0) × (lent_after ≡ lent) × (ops_after ≡ ops) × (results_after ≡ results) × AreTheSame old new × (share_after.seat ≡ share.seat)
