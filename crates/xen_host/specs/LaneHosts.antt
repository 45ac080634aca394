-- For proofs: no claim rests on this file.
-- The host of one of a turn's packets: room for ops that all share, and lent words, of which a page's are its own.
use Rattle.std.specs.Prelude.{ℕ, ◌≡◌, ◌<◌, ◌≤◌, ◌+◌, ◌^◌, true, false, List, ◌∷◌, ◌++◌, length, take, drop}
use Rattle.xen_page.specs.declared.place.Place.{Place}
use Rattle.xen_host.specs.Asks.{Ask, Write}
use Rattle.xen_host.specs.LentWords.{lent_words}
use Rattle.xen_host.specs.declared.lane_host.LaneHost.{LaneHost}
pub use Rattle.xen_host.specs.Joined.{is_said, lane_op_at, said_by}

-- All but the ops, and the words of a WRITE, stay.
pub record StaysBeside (old new : LaneHost) : Type 0 where
  pub base : new.base ≡ old.base
  pub limit : new.limit ≡ old.limit
  pub own : new.own ≡ old.own
  pub ahead : new.ahead ≡ old.ahead
  pub tx : new.tx ≡ old.tx
  pub room : length new.ops.now ≡ length old.ops.now
  pub width : length new.words.now ≡ length old.words.now
  pub ops : new.ops.ghost_name ≡ old.ops.ghost_name
  pub words : new.words.ghost_name ≡ old.words.ghost_name

-- The lent words stay, but for those of its own that a WRITE takes, which it says before all else.
abbrev pub IsLaneLent : Ask → List ℕ → LaneHost → LaneHost → Type 0
IsLaneLent (Write at count) words old new =
    (old.count ≡ old.base) × (take old.own (lent_words new.words.now) ≡ take old.own (lent_words old.words.now)) ×
    (take count (drop old.own (lent_words new.words.now)) ≡ take count words) ×
    (drop (old.own + count) (lent_words new.words.now) ≡ drop (old.own + count) (lent_words old.words.now)) × (length words ≡ count)
IsLaneLent a words old new = new.words.now ≡ old.words.now

-- An ask is said behind the ops of all, or kept.
pub record IsLanePut (old : LaneHost) (a : Ask) (words : List ℕ) (new : LaneHost) : Type 0 where
  pub said : is_said old.tx a ≡ true → (old.count < old.limit) × (new.count ≡ old.count + 1) ×
      (new.ops.now ≡ take old.count old.ops.now ++ lane_op_at old.own a ∷ drop (old.count + 1) old.ops.now)
  pub kept : is_said old.tx a ≡ false → (new.count ≡ old.count) × (new.ops.now ≡ old.ops.now)
  pub lent : IsLaneLent a words old new
  pub beside : StaysBeside old new

-- The answer stands in front of its own words.
abbrev pub HasLaneGiven : LaneHost → Place → List ℕ → LaneHost → Type 0
HasLaneGiven old at words new = (words ≡ take (length words) (drop old.own (lent_words old.words.now))) × (new ≡ old)

-- It says no more than there is room for, and its own words have a place that an op can name.
abbrev pub LaneFits : LaneHost → Type 0
LaneFits h = (h.limit ≤ length h.ops.now) × (h.own ≤ 2 ^ 31)

-- It has said nothing.
abbrev pub IsLaneFresh : LaneHost → Type 0
IsLaneFresh h = (h.count ≡ h.base) × (h.count < h.limit) × (h.own + 1024 ≤ length h.words.now) × LaneFits h

abbrev pub IsLaneFree : LaneHost → Type 0
IsLaneFree h = (h.count < h.limit) × LaneFits h

abbrev pub IsLaneSettled : LaneHost → Type 0
IsLaneSettled h = (h.count ≤ h.limit) × LaneFits h

abbrev pub IsLaneFull : LaneHost → Type 0
IsLaneFull h = h.count ≡ h.limit
