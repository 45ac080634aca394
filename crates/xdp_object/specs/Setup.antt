-- Stated: claims rest on this file.
-- The setup of a function of an object, and why there is none. The causes are tried in this order.
use Rattle.std.specs.Prelude.{ℕ, ◌≡◌, ◌+◌, ◌⊎◌, List, Some, None, length}
use Rattle.bpf_object.specs.Object.{Parts, IsObject, IsNoObject}
use Rattle.bpf_object.specs.Program.{IsProgram, IsNoProgram}
use Rattle.bpf_object.specs.declared.reference.ConstantReference.{ConstantReference}
use Rattle.bpf_object.specs.declared.reference.MapReference.{MapReference}
use Rattle.xdp_object.specs.Constants.{MapsView, AreUnlisted, AreBehind, IsFirstWithout}
use Rattle.xdp_object.specs.Link.{Links, links_of}
use Rattle.xdp_object.specs.Maps.{IsNoMaps}
use Rattle.xdp_object.specs.declared.fault.SetupFault.{SetupFault}
use Rattle.xdp_object.specs.declared.fault.SetupFault.TheVariants.{Object, Program, Maps, Map, Memory}

-- a program, and its maps by number
pub record SetupView : Type 0 where
  pub program : List ℕ
  pub maps : MapsView

-- The function of this name has code that refers to maps of these symbols and to constants of these sections, and is this program with their
-- numbers and addresses.
pub record IsLinked (o : Parts) (name : List ℕ) (l : Links) : Type 0 where
  pub code : List ℕ
  pub maps : List MapReference
  pub constants : List ConstantReference
  pub is : IsProgram o name code maps constants
  pub link : links_of code maps constants ≡ Some l

-- the setup of the function in an object that is read
pub record IsSetupIn (o : Parts) (name : List ℕ) (s : SetupView) : Type 0 where
  pub links : Links
  pub link : IsLinked o name links
  pub program : s.program ≡ links.program
  pub first : MapsView
  pub maps : AreUnlisted o links.maps first
  pub constants : AreBehind o first links.sections s.maps

-- the bytes are an object, in which the function of this name has this setup
pub record IsSetupOf (bytes name : List ℕ) (s : SetupView) : Type 0 where
  pub object : Parts
  pub is : IsObject object
  pub of : object.bytes ≡ bytes
  pub has : IsSetupIn object name s

-- the code refers to more than 16 maps, with those of constants
pub record HasManyMaps (o : Parts) (name : List ℕ) : Type 0 where
  pub code : List ℕ
  pub maps : List MapReference
  pub constants : List ConstantReference
  pub is : IsProgram o name code maps constants
  pub many : links_of code maps constants ≡ None

-- the program's maps have no names and shapes
pub record HasNoMaps (o : Parts) (name : List ℕ) (fault : SetupFault) : Type 0 where
  pub links : Links
  pub link : IsLinked o name links
  pub no_maps : IsNoMaps o links.maps fault

-- map n is the first of a section that has no constants for it
abbrev pub IsUnplaced : Parts → Links → MapsView → SetupFault → Type 0
IsUnplaced o l m (Map n cause) = (k : ℕ) × ((n ≡ length l.maps + k) × IsFirstWithout o m l.sections k cause)
IsUnplaced o l m _ = ⊥

-- the program's maps have names and shapes, and a section of its constants can be no map
pub record LacksConstants (o : Parts) (name : List ℕ) (fault : SetupFault) : Type 0 where
  pub links : Links
  pub link : IsLinked o name links
  pub first : MapsView
  pub maps : AreUnlisted o links.maps first
  pub without : IsUnplaced o links first fault

abbrev pub IsNoSetupIn : Parts → List ℕ → SetupFault → Type 0
IsNoSetupIn o name (Object fault) = ⊥
IsNoSetupIn o name (Program fault) = IsNoProgram o name fault
IsNoSetupIn o name Maps = HasManyMaps o name
IsNoSetupIn o name Memory = Unit {0}
IsNoSetupIn o name fault = HasNoMaps o name fault ⊎ LacksConstants o name fault

-- the bytes are an object, in which the function has no setup
pub record HasNoSetup (bytes name : List ℕ) (fault : SetupFault) : Type 0 where
  pub object : Parts
  pub is : IsObject object
  pub of : object.bytes ≡ bytes
  pub none : IsNoSetupIn object name fault

-- why the bytes have no setup of the function: they are no object, or it has none
abbrev pub IsNoSetup : List ℕ → List ℕ → SetupFault → Type 0
IsNoSetup bytes name (Object fault) = IsNoObject bytes fault
IsNoSetup bytes name Memory = Unit {0}
IsNoSetup bytes name fault = HasNoSetup bytes name fault
