-- Stated: claims rest on this file.
-- What holds of each setup with lists.
use Rattle.std.specs.Prelude.{◌≡◌, ◌<◌, ◌≤◌, List, [], ◌∷◌, Option, Some, None, length, true}
use Rattle.std.specs.List.{AllByRecursion}
use Rattle.bpf_lists.specs.Keys.{count}
use Rattle.bpf_lists.specs.Refusals.{AreWhole}
use Rattle.bpf_lists.specs.declared.list.MapList.{MapList}
use Rattle.bpf_lists.specs.declared.list.MapList.TheVariants as given
use Rattle.bpf_note.specs.Shape.{IsShape, Shape, most_maps}
use Rattle.bpf_note.specs.declared.key.MapKey.TheVariants.{Index, Listed, Constants}
use Rattle.xdp_load.specs.Limits.{are_names}
use Rattle.xdp_load.specs.Listed.{ListedView}
use Rattle.xdp_load.specs.Sound.{IsPacket}
use Rattle.xdp_load.specs.Values.{AreFilled}

-- an array has no list; another map's is of its kind of keys, and each row has a value; constants are as many as the map has
abbrev pub Fits : Shape → Option MapList → Type 0
Fits s None = s.key ≡ Index
Fits s (Some (given.Rows rows)) = (s.key ≡ Listed rows.kind) × AreWhole rows.kind rows.keys × (count rows.kind rows.keys ≤ s.entries)
Fits s (Some (given.Constants bytes)) = s.key ≡ Constants (length bytes)

-- each map's list fits it
abbrev pub AreFitting : List Shape → List (Option MapList) → Type 0
AreFitting [] [] = Unit {0}
AreFitting [] (l ∷ ls) = ⊥
AreFitting (s ∷ ss) [] = ⊥
AreFitting (s ∷ ss) (l ∷ ls) = Fits s l × AreFitting ss ls

-- the numbers and lengths are within their limits, each queue number is below the number of queues, each map has a name of its own
pub record IsListedSound (x : ListedView) : Type 0 where
  pub some_queues : 1 ≤ x.setup.queues
  pub few_queues : x.setup.queues ≤ 8
  pub few_maps : length x.setup.shapes ≤ most_maps
  pub shapes : AllByRecursion IsShape x.setup.shapes
  pub values : AreFilled x.setup.shapes x.setup.values
  pub named : length x.setup.names ≡ length x.setup.shapes
  pub names : are_names x.setup.names ≡ true
  pub script : AllByRecursion (λ p. p.0 < x.setup.queues) x.setup.script
  pub packets : AllByRecursion (IsPacket x.setup.queues) x.setup.packets
  pub lists : AreFitting x.setup.shapes x.lists
