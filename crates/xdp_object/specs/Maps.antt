-- Stated: claims rest on this file.
-- The names and the shapes of a program's maps, by what the object says of their symbols.
use Rattle.std.specs.Prelude.{ℕ, ◌≡◌, ◌<◌, ◌≤◌, List, [], Ok, Err, IsUtf8, false, length, get_or, slice_index}
use Rattle.bpf_note.specs.Shape.{Shape}
use Rattle.bpf_note.specs.declared.key.MapKey.TheVariants.{Index}
use Rattle.bpf_object.specs.Object.{Parts}
use Rattle.bpf_object.specs.Types.{Table}
use Rattle.bpf_object.specs.Map.{AreTypesOf, HasNoTypes, IsNamedMap, IsMapOf, IsNoMap}
use Rattle.bpf_object.specs.declared.definition.MapDefinition.{MapDefinition}
use Rattle.xdp_object.specs.Shape.{shape_of}
use Rattle.xdp_object.specs.declared.fault.MapCause.{MapCause}
use Rattle.xdp_object.specs.declared.fault.MapCause.TheVariants.{Definition, Name, Shape as NoShape}
use Rattle.xdp_object.specs.declared.fault.SetupFault.{SetupFault}
use Rattle.xdp_object.specs.declared.fault.SetupFault.TheVariants.{Types, Map, Memory}

-- a name is a text of 1 to 32 bytes
pub record IsName (name : List ℕ) : Type 0 where
  pub some : 1 ≤ length name
  pub short : length name ≤ 32
  pub text : IsUtf8 name

-- the symbol is a map of this name
pub record HasName (o : Parts) (symbol : ℕ) (name : List ℕ) : Type 0 where
  pub named : IsNamedMap o symbol name
  pub right : IsName name

-- the symbol's map has a definition, and that has this shape
pub record HasShape (o : Parts) (symbol : ℕ) (s : Shape) : Type 0 where
  pub types : Table
  pub are : AreTypesOf o types
  pub definition : MapDefinition
  pub is : IsMapOf o types symbol definition
  pub shape : shape_of definition ≡ Ok s

-- why a symbol has no such name or shape
abbrev pub IsCause : Parts → ℕ → MapCause → Type 0
IsCause o symbol (Definition fault) = (t : Table) × AreTypesOf o t × IsNoMap o t symbol fault
IsCause o symbol Name = (name : List ℕ) × IsNamedMap o symbol name × (IsName name → ⊥)
IsCause o symbol (NoShape fault) = (t : Table) × AreTypesOf o t × (d : MapDefinition) × IsMapOf o t symbol d × (shape_of d ≡ Err fault)
IsCause o symbol _ = ⊥

abbrev pub IsNoMapAt : Parts → ℕ → ℕ → SetupFault → Type 0
IsNoMapAt o number symbol (Map n cause) = (n ≡ number) × IsCause o symbol cause
IsNoMapAt o number symbol Memory = Unit {0}
IsNoMapAt o number symbol _ = ⊥

-- a shape, for places where there is none
abbrev pub no_shape : Shape
no_shape = record { entries = 0; counters = 0; key = Index; parts = false }

-- these maps have these names and shapes, each at its number
pub record AreMaps (o : Parts) (symbols : List ℕ) (names : List (List ℕ)) (shapes : List Shape) : Type 0 where
  pub names_counted : length names ≡ length symbols
  pub shapes_counted : length shapes ≡ length symbols
  pub named : (k : ℕ) → k < length symbols → HasName o (slice_index symbols k) (get_or names k [])
  pub shaped : (k : ℕ) → k < length symbols → HasShape o (slice_index symbols k) (get_or shapes k no_shape)

-- the first n maps have names and shapes
abbrev pub HaveMaps : Parts → List ℕ → ℕ → Type 0
HaveMaps o symbols n = (k : ℕ) → k < n →
    ((name : List ℕ) × HasName o (slice_index symbols k) name) × ((s : Shape) × HasShape o (slice_index symbols k) s)

-- the first map that can't be one here
abbrev pub IsNoneAmong : Parts → List ℕ → SetupFault → Type 0
IsNoneAmong o symbols (Map n cause) = (n < length symbols) × HaveMaps o symbols n × IsCause o (slice_index symbols n) cause
IsNoneAmong o symbols Memory = Unit {0}
IsNoneAmong o symbols _ = ⊥

-- why these maps have no names and shapes: there are some, and the object's types can't be read; or one can't be a map here
abbrev pub IsNoMaps : Parts → List ℕ → SetupFault → Type 0
IsNoMaps o symbols (Types fault) = (0 < length symbols) × HasNoTypes o fault
IsNoMaps o symbols fault = IsNoneAmong o symbols fault
