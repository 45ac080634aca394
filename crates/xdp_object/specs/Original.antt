-- Stated: claims rest on this file.
-- The program that a function of an object is with given maps: with their numbers, where each map that it refers to is the given one of its
-- name. Of a given map the object says the name, how many entries and counters it has, its keys, and its constants. It doesn't say which rows it
-- has, what its counters begin with, or whether a part of a counter may be loaded. Maps that the function doesn't refer to may be given too.
use Rattle.std.specs.Prelude.{ℕ, ◌≡◌, ◌+◌, ◌*◌, ◌<◌, ◌⊎◌, List, [], ◌∷◌, ◌++◌, Some, None, false, length, option_map, position, slice_get, take}
use Rattle.std.specs.Str.{bytes_eq}
use Rattle.bpf_lists.specs.declared.list.MapList.TheVariants as list
use Rattle.bpf_note.specs.Constants.{constant_address}
use Rattle.bpf_note.specs.Shape.{Shape}
use Rattle.bpf_object.specs.Map.{HasNoTypes}
use Rattle.bpf_object.specs.Object.{Parts, IsObject, IsNoObject}
use Rattle.bpf_object.specs.Program.{IsProgram, IsNoProgram}
use Rattle.bpf_object.specs.declared.fault.TypesFault.{TypesFault}
use Rattle.bpf_object.specs.declared.reference.ConstantReference.{ConstantReference}
use Rattle.bpf_object.specs.declared.reference.MapReference.{MapReference}
use Rattle.xdp_object.specs.Constants.{AreConstants, IsConstantsCause, MapsView, constants_shape}
use Rattle.xdp_object.specs.Link.{with_address, with_map}
use Rattle.xdp_object.specs.Maps.{HasName, HasShape, IsCause}
use Rattle.xdp_object.specs.declared.fault.GivenCause.{GivenCause}
use Rattle.xdp_object.specs.declared.fault.GivenCause.TheVariants as cause
use Rattle.xdp_object.specs.declared.fault.OriginalFault.{OriginalFault}
use Rattle.xdp_object.specs.declared.fault.OriginalFault.TheVariants.{Object, Program, Types, Map, Memory}

-- ---- which given map is meant

-- a shape, whether or not a part of a counter may be loaded
abbrev pub whole : Shape → Shape
whole s = record { entries = s.entries; counters = s.counters; key = s.key; parts = false }

-- map n of those given is the one of this name, and has this shape
pub record IsGiven (given : MapsView) (name : List ℕ) (s : Shape) (n : ℕ) : Type 0 where
  pub named : position (bytes_eq name) given.names ≡ Some n
  pub shaped : option_map whole (slice_get given.shapes n) ≡ Some (whole s)

-- map n of those given has these constants
abbrev pub HasConstants : MapsView → ℕ → List ℕ → Type 0
HasConstants given n bytes = slice_get given.lists n ≡ Some (Some (list.Constants bytes))

-- the symbol's map is the given one of number n
pub record IsMapGiven (o : Parts) (given : MapsView) (symbol n : ℕ) : Type 0 where
  pub name : List ℕ
  pub named : HasName o symbol name
  pub shape : Shape
  pub shaped : HasShape o symbol shape
  pub is : IsGiven given name shape n

-- the constants of the section are those of the given map of number n
pub record AreConstantsGiven (o : Parts) (given : MapsView) (section n : ℕ) : Type 0 where
  pub name : List ℕ
  pub bytes : List ℕ
  pub are : AreConstants o section name bytes
  pub is : IsGiven given name (constants_shape (length bytes)) n
  pub has : HasConstants given n bytes

-- ---- the program

-- The code with the given maps' numbers in the wide loads that refer to these maps.
pub data AreNumbered (o : Parts) (given : MapsView) (code : List ℕ) : List MapReference → List ℕ → Type 0 where
  none : AreNumbered o given code [] code
  more : (rs : List MapReference) (program : List ℕ) (r : MapReference) (n : ℕ) → AreNumbered o given code rs program →
      IsMapGiven o given r.map n → AreNumbered o given code (rs ++ r ∷ []) (with_map program (8 * r.slot) n)

-- The code with the addresses of constants in the wide loads that refer to these.
pub data ArePlaced (o : Parts) (given : MapsView) (code : List ℕ) : List ConstantReference → List ℕ → Type 0 where
  none : ArePlaced o given code [] code
  more : (cs : List ConstantReference) (program : List ℕ) (c : ConstantReference) (n : ℕ) → ArePlaced o given code cs program →
      AreConstantsGiven o given c.section n → ArePlaced o given code (cs ++ c ∷ []) (with_address program (8 * c.slot) (constant_address n c.place))

-- the function of this name in an object that is read, with the given maps
pub record IsOriginalIn (o : Parts) (name : List ℕ) (given : MapsView) (program : List ℕ) : Type 0 where
  pub code : List ℕ
  pub maps : List MapReference
  pub constants : List ConstantReference
  pub is : IsProgram o name code maps constants
  pub with_maps : List ℕ
  pub numbered : AreNumbered o given code maps with_maps
  pub placed : ArePlaced o given with_maps constants program

-- the bytes are an object, in which the function of this name is this program with the given maps
pub record IsOriginalOf (bytes name : List ℕ) (given : MapsView) (program : List ℕ) : Type 0 where
  pub object : Parts
  pub is : IsObject object
  pub of : object.bytes ≡ bytes
  pub has : IsOriginalIn object name given program

-- ---- why there is none. The causes are tried in this order.

-- no given map has the name, or the one of it has another shape
abbrev pub IsNotGiven : MapsView → List ℕ → Shape → GivenCause → Type 0
IsNotGiven given name s cause.Name = position (bytes_eq name) given.names ≡ None
IsNotGiven given name s cause.Shape =
    (n : ℕ) × (position (bytes_eq name) given.names ≡ Some n) × (option_map whole (slice_get given.shapes n) ≡ Some (whole s) → ⊥)
IsNotGiven given name s _ = ⊥

-- the symbol has no map, or none that is given
abbrev pub IsMapNotGiven : Parts → MapsView → ℕ → GivenCause → Type 0
IsMapNotGiven o given symbol (cause.Map why) = IsCause o symbol why
IsMapNotGiven o given symbol why =
    (name : List ℕ) × (HasName o symbol name × ((s : Shape) × (HasShape o symbol s × IsNotGiven given name s why)))

-- the given map has other constants than these
abbrev pub HasOthers : MapsView → List ℕ → List ℕ → Type 0
HasOthers given name bytes = (n : ℕ) × (IsGiven given name (constants_shape (length bytes)) n × (HasConstants given n bytes → ⊥))

-- the section has no constants, or none that are given
abbrev pub AreConstantsNotGiven : Parts → MapsView → ℕ → GivenCause → Type 0
AreConstantsNotGiven o given section (cause.Map why) = IsConstantsCause o section why
AreConstantsNotGiven o given section cause.Constants =
    (name : List ℕ) × ((bytes : List ℕ) × (AreConstants o section name bytes × HasOthers given name bytes))
AreConstantsNotGiven o given section why =
    (name : List ℕ) × ((bytes : List ℕ) × (AreConstants o section name bytes × IsNotGiven given name (constants_shape (length bytes)) why))

-- the wide load at this slot is the first that refers to a map that isn't given
pub record IsFirstUnnumbered (o : Parts) (given : MapsView) (code : List ℕ) (rs : List MapReference) (slot : ℕ) (why : GivenCause) : Type 0 where
  pub k : ℕ
  pub r : MapReference
  pub there : slice_get rs k ≡ Some r
  pub at : slot ≡ r.slot
  pub before : (program : List ℕ) × AreNumbered o given code (take k rs) program
  pub none : IsMapNotGiven o given r.map why

-- the same of constants
pub record IsFirstUnplaced (o : Parts) (given : MapsView) (code : List ℕ) (cs : List ConstantReference) (slot : ℕ) (why : GivenCause) : Type 0 where
  pub k : ℕ
  pub c : ConstantReference
  pub there : slice_get cs k ≡ Some c
  pub at : slot ≡ c.slot
  pub before : (program : List ℕ) × ArePlaced o given code (take k cs) program
  pub none : AreConstantsNotGiven o given c.section why

-- a map that the function refers to isn't given
pub record HasNoNumbers (o : Parts) (name : List ℕ) (given : MapsView) (slot : ℕ) (why : GivenCause) : Type 0 where
  pub code : List ℕ
  pub maps : List MapReference
  pub constants : List ConstantReference
  pub is : IsProgram o name code maps constants
  pub first : IsFirstUnnumbered o given code maps slot why

-- the function refers to maps, and the object's types can't be read
pub record LacksTypes (o : Parts) (name : List ℕ) (why : TypesFault) : Type 0 where
  pub code : List ℕ
  pub maps : List MapReference
  pub constants : List ConstantReference
  pub is : IsProgram o name code maps constants
  pub some : 0 < length maps
  pub none : HasNoTypes o why

-- all its maps are given, and constants aren't
pub record HasNoPlaces (o : Parts) (name : List ℕ) (given : MapsView) (slot : ℕ) (why : GivenCause) : Type 0 where
  pub code : List ℕ
  pub maps : List MapReference
  pub constants : List ConstantReference
  pub is : IsProgram o name code maps constants
  pub with_maps : List ℕ
  pub numbered : AreNumbered o given code maps with_maps
  pub first : IsFirstUnplaced o given with_maps constants slot why

abbrev pub IsNoOriginalIn : Parts → List ℕ → MapsView → OriginalFault → Type 0
IsNoOriginalIn o name given (Object fault) = ⊥
IsNoOriginalIn o name given (Program fault) = IsNoProgram o name fault
IsNoOriginalIn o name given (Types fault) = LacksTypes o name fault
IsNoOriginalIn o name given (Map slot why) = HasNoNumbers o name given slot why ⊎ HasNoPlaces o name given slot why
IsNoOriginalIn o name given Memory = Unit {0}

-- the bytes are an object, in which the function is no program with the given maps
pub record HasNoOriginal (bytes name : List ℕ) (given : MapsView) (fault : OriginalFault) : Type 0 where
  pub object : Parts
  pub is : IsObject object
  pub of : object.bytes ≡ bytes
  pub none : IsNoOriginalIn object name given fault

abbrev pub IsNoOriginal : List ℕ → List ℕ → MapsView → OriginalFault → Type 0
IsNoOriginal bytes name given (Object fault) = IsNoObject bytes fault
IsNoOriginal bytes name given Memory = Unit {0}
IsNoOriginal bytes name given fault = HasNoOriginal bytes name given fault
