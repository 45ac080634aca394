-- Stated: claims rest on this file.
-- What C is answered when it asks for a program.
use Rattle.std.specs.Prelude.{ℕ, ◌≡◌, ◌<◌, ◌≤◌, ◌⊎◌, List, All, length, map, take, false}
use Rattle.std.specs.List.{HoldsAt}
use Rattle.bpf_insn.specs.Code.{Spells}
use Rattle.bpf_insn.specs.declared.refusal.Cause.TheVariants.{Memory}
use Rattle.bpf_note.specs.declared.key.MapKey.TheVariants.{Index}
use Rattle.bpf_note.specs.Shape.{Shape, IsNarrow}
use Rattle.bpf_verify.specs.Consistent.{Accepted, instructions}
use Rattle.bpf_verify.specs.FirstRefusal.{IsFaultless}
use Rattle.xdp_load.specs.declared.fault.TextFault.TheVariants as text
use Rattle.xdp_program.specs.Refused.{IsRefused}
use Rattle.xdp_program.specs.Settings.{IsProgramOf, IsSettingsFault}
use Rattle.xdp_program.specs.declared.fault.LoadFault.TheVariants as load
use Rattle.xdp_program.specs.declared.fault.SettingsFault.TheVariants as settings
use Rattle.xdp_host.specs.Verdict.{accepting, verdict_of}
use Rattle.xdp_host.specs.declared.fault.Fault.{Fault}
use Rattle.xdp_host.specs.declared.fault.Fault.TheVariants.{Refused, Map, Text, Empty}
use Rattle.xdp_host.specs.declared.abi.XdpMap.{XdpMap}
use Rattle.xdp_host.specs.declared.abi.XdpVerdict.{XdpVerdict}

abbrev pub shape_of : XdpMap → Shape
shape_of m = record { entries = m.entries; counters = m.counters; key = Index; parts = false }

abbrev pub shapes_of : List XdpMap → List Shape
shapes_of maps = map shape_of maps

-- at most four maps, each within its limits
pub record AreWithin (maps : List XdpMap) : Type 0 where
  pub few : length maps ≤ 4
  pub shapes : All IsNarrow (shapes_of maps)

-- this map is the first of at most four that is out of its limits
pub record IsFirstOutside (maps : List XdpMap) (number : ℕ) : Type 0 where
  pub few : length maps ≤ 4
  pub there : number < length maps
  pub before : All IsNarrow (shapes_of (take number maps))
  pub outside : HoldsAt (λ m. IsNarrow (shape_of m) → ⊥) maps number

-- the number of the first map out of its limits, or of the fifth
abbrev pub IsOutside : List XdpMap → ℕ → Type 0
IsOutside maps number = ((4 < length maps) × (number ≡ 4)) ⊎ IsFirstOutside maps number

-- ---- bytes with maps

-- the bytes spell this program, which has nothing to refuse with these maps
pub record IsLoaded (bytes : List ℕ) (maps : List XdpMap) (p : Accepted) : Type 0 where
  pub maps_within : AreWithin maps
  pub shapes : p.shapes ≡ shapes_of maps
  pub spelled : Spells p.code bytes
  pub faultless : IsFaultless p.code (shapes_of maps)

-- a map is out of its limits; or all are within, and the program is refused with them
abbrev pub IsFault : List ℕ → List XdpMap → Fault → Type 0
IsFault bytes maps (Refused r) = AreWithin maps × IsRefused bytes (shapes_of maps) (load.Refused r)
IsFault bytes maps (Map number) = IsOutside maps number
IsFault bytes maps (Text f) = ⊥
IsFault bytes maps Empty = ⊥

-- the program was loaded, and the verdict has its number of instructions
abbrev pub Accepts : List ℕ → List XdpMap → Accepted → XdpVerdict → Type 0
Accepts bytes maps p v = IsLoaded bytes maps p × (v ≡ accepting (instructions p.code))

-- the verdict tells why there is no program
abbrev pub Refuses : List ℕ → List XdpMap → XdpVerdict → Type 0
Refuses bytes maps v = (f : Fault) × IsFault bytes maps f × (v ≡ verdict_of f)

-- ---- settings texts

-- the text's fault; or the text spells settings, and this is the refusal of their program
abbrev pub IsFaultOfText : List ℕ → Fault → Type 0
IsFaultOfText bytes (Refused r) = IsSettingsFault bytes (settings.Program (load.Refused r))
IsFaultOfText bytes (Map number) = ⊥
IsFaultOfText bytes (Text f) = IsSettingsFault bytes (settings.Text f)
IsFaultOfText bytes Empty = ⊥

abbrev pub AcceptsText : List ℕ → Accepted → XdpVerdict → Type 0
AcceptsText bytes p v = IsProgramOf bytes p × (v ≡ accepting (instructions p.code))

abbrev pub RefusesText : List ℕ → XdpVerdict → Type 0
RefusesText bytes v = (f : Fault) × IsFaultOfText bytes f × (v ≡ verdict_of f)

-- ---- what isn't refused

-- out of memory: V0, or L0 of a settings text
abbrev pub IsOutOfMemory : Fault → Type 0
IsOutOfMemory (Refused r) = r.cause ≡ Memory
IsOutOfMemory (Map number) = ⊥
IsOutOfMemory (Text f) = f ≡ text.Memory
IsOutOfMemory Empty = ⊥

-- the verdict tells of a program, or that memory ran out
abbrev pub AcceptsUnlessOutOfMemory : XdpVerdict → Type 0
AcceptsUnlessOutOfMemory v = (v.kind ≡ 0) ⊎ ((f : Fault) × IsOutOfMemory f × (v ≡ verdict_of f))
