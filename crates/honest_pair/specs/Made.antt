-- For proofs: no claim rests on this file.
-- The front before its first activity.
use Rattle.std.specs.Prelude.{ℕ, ◌≡◌, false}
use Rattle.xen_front.specs.Fronts.{busy, state_of, wiring_of}
use Rattle.xen_front.specs.declared.front.Front.{Front}
use Rattle.honest_pair.specs.Machine.Law.{IsNewFront}
use Rattle.honest_pair.specs.Machine.Layout.{IsFront}

-- the pair's front before its first activity
pub record IsFresh (start : ℕ) (f : Front) : Type 0 where
  pub laid : IsFront (wiring_of f)
  pub new : IsNewFront (state_of f) start
  pub free : busy f ≡ false
