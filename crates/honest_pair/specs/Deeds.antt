-- Stated: claims rest on this file.
-- What a pair has done, as the report of a run tells it.
use Rattle.std.specs.Prelude.{ℕ, ◌≡◌, ◌+◌, List, [], ◌∷◌}
use Rattle.std.specs.Global.{Vec}
use Rattle.honest_pair.specs.Machine.Pair.{Deed, OfTurn, OfDelivery, OfWait, Past}
use Rattle.xdp_world.specs.Calls.{Awaits as AwaitsCall, Call, Delivers, Stepped}
use Rattle.xdp_world.specs.Keeping.{Keeps}
use Rattle.xdp_world.specs.declared.kept.Kept.{Kept}
use Rattle.xdp_world.specs.declared.report.Delivered.{Delivered}
use Rattle.xdp_world.specs.declared.report.Waited.{Waited}

-- the turns are kept, in order
abbrev pub AllKept : List Past → List Kept → Type 0
AllKept [] [] = Unit {0}
AllKept [] (k ∷ ks) = ⊥
AllKept (p ∷ ps) [] = ⊥
AllKept (p ∷ ps) (k ∷ ks) = Keeps p.turn k × AllKept ps ks

-- what became of the deliveries, each with how many turns were over before it, n being over at first
abbrev pub deliveries_of : ℕ → List Deed → List Delivered
deliveries_of n [] = []
deliveries_of n (OfTurn past ∷ ds) = deliveries_of (n + 1) ds
deliveries_of n (OfDelivery packet what ∷ ds) = record { turns = n; delivery = what } ∷ deliveries_of n ds
deliveries_of n (OfWait pages answer ∷ ds) = deliveries_of n ds

-- the answers of the waits, each with how many turns and deliveries were over before it, n and m being over at first
abbrev pub waits_of : (turns deliveries : ℕ) → List Deed → List Waited
waits_of n m [] = []
waits_of n m (OfTurn past ∷ ds) = waits_of (n + 1) m ds
waits_of n m (OfDelivery packet what ∷ ds) = waits_of n (m + 1) ds
waits_of n m (OfWait pages answer ∷ ds) = record { turns = n; deliveries = m; awaited = answer } ∷ waits_of n m ds

abbrev pub bytes_in : Vec ℕ → List ℕ
bytes_in v = v.items

-- each call is of the one queue
abbrev pub AreOwn : List Call → Type 0
AreOwn [] = Unit {0}
AreOwn (Stepped e ∷ cs) = (e.queue ≡ 0) × AreOwn cs
AreOwn (Delivers queue packet ∷ cs) = (queue ≡ 0) × AreOwn cs
AreOwn (AwaitsCall queue pages ∷ cs) = (queue ≡ 0) × AreOwn cs
