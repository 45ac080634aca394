-- Stated: claims rest on this file.
-- What holds of several turns side by side between two calls.
use Rattle.std.proofs.Props.{props}
use Rattle.std.specs.Prelude.{◌≤◌, List, [], ◌∷◌}
use Rattle.xen_host.specs.EngineAt.{work_at}
use Rattle.xen_host.specs.Fits.{Fits, Fits-prop}
use Rattle.xen_host.specs.declared.lane.Lane.{Lane}
use Rattle.xen_host.specs.declared.several.Phase.{Phase}
use Rattle.xen_host.specs.declared.several.Phase.TheVariants as phase
use Rattle.xen_host.specs.declared.several.Several.{Several}

-- A turn's work fits its stage.
abbrev pub WorkFits : Lane → Type 0
WorkFits l = Fits l.engine.stage (work_at l.packet l.engine.work)

abbrev pub AllFit : List Lane → Type 0
AllFit [] = Unit {0}
AllFit (l ∷ more) = WorkFits l × AllFit more

-- No more slots are read ahead than are shown, than a ring has and than there are turns; no more turns are answered than have begun.
abbrev pub NumbersFit : Phase → Several → Type 0
NumbersFit phase.Slots v = (v.ahead ≤ 16) × (v.ahead ≤ v.shown) × (v.shown ≤ 256)
NumbersFit phase.Lanes v = (v.held ≤ v.count) × (v.count ≤ 16)
NumbersFit phase.Push v = v.count ≤ 16

pub record SeveralFits (v : Several) : Type 0 where
  pub lanes : AllFit v.lanes
  pub numbers : NumbersFit v.phase v

all-prop : (lanes : List Lane) → IsProp (AllFit lanes)
all-prop [] = hlevel props
all-prop (l ∷ more) = hlevel (props, Fits-prop, all-prop more)

numbers-prop : (g : Phase) (v : Several) → IsProp (NumbersFit g v)
numbers-prop phase.Slots v = hlevel props
numbers-prop phase.Lanes v = hlevel props
numbers-prop phase.Push v = hlevel props

-- This has one proof at most.
pub SeveralFits-prop : (v : Several) → IsProp (SeveralFits v)
SeveralFits-prop v = hlevel (props, all-prop, numbers-prop)
