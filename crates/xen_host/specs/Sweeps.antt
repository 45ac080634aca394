-- For proofs: no claim rests on this file.
-- Several turns begin, or go on, one after another.
use Rattle.std.specs.Prelude.{ℕ, zero, suc, ◌≡◌, ◌+◌, ◌-◌, ◌==◌, ◌&&◌, if◌then◌else◌, List, Option, None, Some, length, set, slice_get}
use Rattle.bpf_note.specs.declared.op.Op.{Op as Operation}
use Rattle.xdp_program.specs.Tallies.{Went}
use Rattle.xen_steps.specs.Places.{add32}
use Rattle.xen_turns.specs.declared.state.State.{State}
use Rattle.xen_turns.specs.declared.wiring.Wiring.{Wiring}
use Rattle.xen_host.specs.LaneSteps.{LaneBegins, LaneSteps, lane_at}
use Rattle.xen_host.specs.Lanes.{is_held, own}
use Rattle.xen_host.specs.Stands.{Stands}
use Rattle.xen_host.specs.declared.lane.Lane.{Lane}
use Rattle.xen_host.specs.LentWords.{lent_words}
use Rattle.xen_host.specs.declared.lane_host.LaneHost.{LaneHost}
use Rattle.xen_host.specs.declared.op.HostOp.{HostOp}
use Rattle.xen_host.specs.declared.several.Several.{Several}

-- All but what a host says, how much it may, and which words are its own, stays.
pub record KeepsRoom (old new : LaneHost) : Type 0 where
  pub tx : new.tx ≡ old.tx
  pub room : length new.ops.now ≡ length old.ops.now
  pub width : length new.words.now ≡ length old.words.now
  pub ops : new.ops.ghost_name ≡ old.ops.ghost_name
  pub words : new.words.ghost_name ≡ old.words.ghost_name

-- Where several turns have come to: their lanes, the rx index behind what was sent, the number of those that are answered, the number of slots
-- that are taken, the program's counters, the ops and how many are said, and the lent words.
pub record SweepAt (C : Type 0) : Type 0 where
  pub lanes : List Lane
  pub rx : ℕ
  pub answered : ℕ
  pub taken : ℕ
  pub counters : C
  pub ops : List HostOp
  pub count : ℕ
  pub lent : List ℕ

abbrev pub sweep_at : {C : Type 0} → Several → (answered : ℕ) → C → LaneHost → SweepAt C
sweep_at v answered counters h =
    record {
      lanes = v.lanes;
      rx = v.rx_index;
      answered = answered;
      taken = h.ahead.taken;
      counters = counters;
      ops = h.ops.now;
      count = h.count;
      lent = lent_words h.words.now;
    }

module _ {C : Type 0} (did : Operation → C → C → Type 0) (w : Wiring) where
  -- The operations that a lane's program makes of the counters.
  abbrev pub went_in : (old new : SweepAt C) → List (Option Operation) → Type 0
  went_in old new labels = Went did old.counters new.counters labels

  -- The k-th goes on. If it is the first that isn't answered, it may be then.
  pub record StepsLane (limit k : ℕ) (old new : SweepAt C) : Type 0 where
    pub lane : Lane
    pub there : slice_get old.lanes k ≡ Some lane
    pub lane_after : Lane
    pub lanes : new.lanes ≡ set old.lanes k lane_after
    pub taken : new.taken ≡ old.taken
    pub answered : new.answered ≡ (if (old.answered == k) && is_held (lane_at w lane_after) then k + 1 else old.answered)
    pub stands : Stands (lane_at w lane) → Stands (lane_at w lane_after)
    pub steps : Stands (lane_at w lane) →
        LaneSteps (went_in old new) (old.answered == k) old.rx new.rx (own k) limit (lane_at w lane) (lane_at w lane_after) old.ops new.ops old.count
        new.count old.lent new.lent

  -- n of them go on, from one on.
  abbrev pub HaveStepped : (limit from n : ℕ) → (old new : SweepAt C) → Type 0
  HaveStepped limit from zero old new = new ≡ old
  HaveStepped limit from (suc n) old new = (mid : SweepAt C) × HaveStepped limit from n old mid × StepsLane limit (from + n) mid new

  -- The k-th begins, at the next slot that was read ahead. It says one op at most.
  pub record BeginsLane (s : State) (shown ahead k : ℕ) (old new : SweepAt C) : Type 0 where
    pub lane_after : Lane
    pub lanes : new.lanes ≡ set old.lanes k lane_after
    pub rx : new.rx ≡ old.rx
    pub answered : new.answered ≡ old.answered
    pub stands : Stands (lane_at w lane_after)
    pub begins : LaneBegins (went_in old new) (record { tx_index = add32 s.tx_index old.taken; rx_index = old.rx; halt = None }) (shown - old.taken)
        old.taken ahead new.taken (own k) (old.count + 1) (lane_at w lane_after) old.ops new.ops old.count new.count old.lent new.lent

  -- n of them begin.
  abbrev pub HaveBegun : State → (shown ahead n : ℕ) → (old new : SweepAt C) → Type 0
  HaveBegun s shown ahead zero old new = new ≡ old
  HaveBegun s shown ahead (suc n) old new = (mid : SweepAt C) × HaveBegun s shown ahead n old mid × BeginsLane s shown ahead n mid new
