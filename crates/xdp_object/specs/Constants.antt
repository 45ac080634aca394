-- Stated: claims rest on this file.
-- Maps of constants, which stand behind a program's other maps: as libbpf makes them (bpf_object__init_global_data_maps), one for each section,
-- of one value, which has the section's bytes.
use Rattle.std.specs.Prelude.{ℕ, ◌≡◌, ◌<◌, ◌≤◌, List, [], ◌∷◌, ◌++◌, Option, Some, None, false, length, replicate, slice_index, take}
use Rattle.bpf_lists.specs.declared.list.MapList.{MapList}
use Rattle.bpf_lists.specs.declared.list.MapList.TheVariants as list
use Rattle.bpf_note.specs.Shape.{Shape}
use Rattle.bpf_note.specs.declared.key.MapKey.TheVariants as key
use Rattle.bpf_object.specs.Object.{Parts}
use Rattle.bpf_object.specs.Constants.{HasConstants, HasNoConstants}
use Rattle.xdp_object.specs.Maps.{AreMaps, IsName}
use Rattle.xdp_object.specs.declared.fault.MapCause.{MapCause}
use Rattle.xdp_object.specs.declared.fault.MapCause.TheVariants.{Constants, Name, Bytes}

-- the names, the shapes and the lists of maps, by their numbers
pub record MapsView : Type 0 where
  pub names : List (List ℕ)
  pub shapes : List Shape
  pub lists : List (Option MapList)

-- the maps of these symbols, for which no list is given
pub record AreUnlisted (o : Parts) (symbols : List ℕ) (m : MapsView) : Type 0 where
  pub maps : AreMaps o symbols m.names m.shapes
  pub lists : m.lists ≡ replicate (length symbols) None

-- section s has constants of this name and these bytes, which a map can have
pub record AreConstants (o : Parts) (s : ℕ) (name bytes : List ℕ) : Type 0 where
  pub has : HasConstants o s name bytes
  pub right : IsName name
  pub few : length bytes ≤ 65536

-- why a section has no such constants. The causes are tried in this order.
abbrev pub IsConstantsCause : Parts → ℕ → MapCause → Type 0
IsConstantsCause o s (Constants fault) = HasNoConstants o s fault
IsConstantsCause o s Name = (name : List ℕ) × ((bytes : List ℕ) × (HasConstants o s name bytes × (IsName name → ⊥)))
IsConstantsCause o s Bytes =
    (name : List ℕ) × ((bytes : List ℕ) × (HasConstants o s name bytes × IsName name × (length bytes ≤ 65536 → ⊥)))
IsConstantsCause o s _ = ⊥

-- these maps, and behind them one of constants
abbrev pub constants_shape : ℕ → Shape
constants_shape bytes = record { entries = 1; counters = 1; key = key.Constants bytes; parts = false }

abbrev pub with_constants : MapsView → List ℕ → List ℕ → MapsView
with_constants m name bytes = record {
  names = m.names ++ name ∷ [];
  shapes = m.shapes ++ constants_shape (length bytes) ∷ [];
  lists = m.lists ++ Some (list.Constants bytes) ∷ [];
}

-- the maps m, and behind them one for each of these sections, in their order
pub data AreBehind (o : Parts) (m : MapsView) : List ℕ → MapsView → Type 0 where
  none : AreBehind o m [] m
  more : (sections : List ℕ) (n : MapsView) (s : ℕ) (name bytes : List ℕ) → AreBehind o m sections n → AreConstants o s name bytes →
      AreBehind o m (sections ++ s ∷ []) (with_constants n name bytes)

-- section k of these is the first without such constants
pub record IsFirstWithout (o : Parts) (m : MapsView) (sections : List ℕ) (k : ℕ) (cause : MapCause) : Type 0 where
  pub below : k < length sections
  pub behind : MapsView
  pub before : AreBehind o m (take k sections) behind
  pub why : IsConstantsCause o (slice_index sections k) cause
