-- For proofs: no claim rests on this file.
-- Turns that have been read further than they took: the host has made the reads that they asked for last.
use Rattle.std.specs.Prelude.{ℕ, ◌≡◌, ◌+◌, ◌⊎◌, false, List, [], ◌∷◌, ◌++◌, length}
use Rattle.xen_steps.specs.Event.{Event}
use Rattle.xen_steps.specs.Pages.{AreWords}
use Rattle.xen_turns.specs.Woven.{Made, of_turn}
use Rattle.xen_host.specs.Asks.{read_by}
use Rattle.xen_host.specs.Lanes.{LaneAt, is_held}
use Rattle.xen_host.specs.Rest.{reads_in}

-- Nothing more was read, or what one that isn't held asked for last, with any words.
abbrev pub IsFurther : LaneAt → List Event → Type 0
IsFurther l r = (r ≡ []) ⊎ ((is_held l.engine ≡ false) × (words : List ℕ) × AreWords words × (length words ≡ reads_in l.engine.stage) × (r ≡ read_by l.asked words))

-- The turns from the k-th on, of which `other` has more reads than `made`.
abbrev pub AreFurther : ℕ → List LaneAt → List Made → List Made → Type 0
AreFurther k [] made other = Unit {0}
AreFurther k (l ∷ more) made other = (r : List Event) × IsFurther l r × (of_turn k other ≡ of_turn k made ++ r) × AreFurther (k + 1) more made other
