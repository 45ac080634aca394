-- Stated: claims rest on this file.
-- What becomes of a settings text: its setup with the lists of its maps, its program, and its lists for a program.
use Rattle.std.specs.Prelude.{ℕ, ◌≡◌, ◌≤◌, ◌⊎◌, List, Option, Ok, Err, length}
use Rattle.bpf_insn.specs.Code.{Spells}
use Rattle.bpf_lists.specs.declared.list.MapList.{MapList}
use Rattle.bpf_note.specs.Shape.{most_maps}
use Rattle.bpf_verify.specs.Consistent.{Accepted}
use Rattle.bpf_verify.specs.FirstRefusal.{IsFaultless}
use Rattle.xdp_load.specs.Listed.{AreListedBelow, IsRowsFault, ListedView, listed_of}
use Rattle.xdp_load.specs.Setup.{SetupView}
use Rattle.xdp_load.specs.Spot.{Refused as RefusedAt}
use Rattle.xdp_load.specs.declared.fault.TextFault.{TextFault}
use Rattle.xdp_load.specs.declared.fault.TextFault.TheVariants.{Memory, Refused}
use Rattle.xdp_program.specs.Refused.{IsRefused, IsOutOfMemory}
use Rattle.xdp_program.specs.declared.fault.RelistFault.{RelistFault}
use Rattle.xdp_program.specs.declared.fault.RelistFault.TheVariants as relist
use Rattle.xdp_program.specs.declared.fault.SettingsFault.{SettingsFault}
use Rattle.xdp_program.specs.declared.fault.SettingsFault.TheVariants.{Text, Program}

-- the text spells this setup with these lists, each of which a map can have
abbrev pub IsSetupOf : List ℕ → ListedView → Type 0
IsSetupOf text x = (listed_of text ≡ Ok x) × AreListedBelow x.lists (length x.lists)

-- the text has this first fault, at this spot: it spells no setup; or it does, and this is its first list that no map can have
abbrev pub IsFirstFault : List ℕ → RefusedAt → Type 0
IsFirstFault text r = (listed_of text ≡ Err r) ⊎ IsRowsFault (listed_of text) r

-- the first fault of the text, or out of memory as it is read
abbrev pub IsFaultOf : List ℕ → TextFault → Type 0
IsFaultOf text Memory = Unit {0}
IsFaultOf text (Refused f) = (r : RefusedAt) × IsFirstFault text r × (r.fault ≡ f)

-- ---- a program

-- the text spells settings whose program, with nothing to refuse, and whose maps these are
abbrev pub IsProgramOf : List ℕ → Accepted → Type 0
IsProgramOf text p = (x : ListedView) × IsSetupOf text x × Spells p.code x.setup.program × (p.shapes ≡ x.setup.shapes) ×
    IsFaultless p.code p.shapes

-- the text spells settings whose maps have these names, by number
abbrev pub AreNamesOf : List ℕ → List (List ℕ) → Type 0
AreNamesOf text names = (x : ListedView) × IsSetupOf text x × (names ≡ x.setup.names)

-- the text spells settings whose maps have these lists, by number; an array has none
abbrev pub AreListsOf : List ℕ → List (Option MapList) → Type 0
AreListsOf text lists = (x : ListedView) × IsSetupOf text x × (lists ≡ x.lists)

-- the text's fault; or the text spells settings, of at most 16 maps, and this is the fault of their program with these
abbrev pub IsSettingsFault : List ℕ → SettingsFault → Type 0
IsSettingsFault text (Text f) = IsFaultOf text f
IsSettingsFault text (Program f) = (x : ListedView) × IsSetupOf text x × (length x.setup.shapes ≤ most_maps) ×
    IsRefused x.setup.program x.setup.shapes f

-- out of memory
abbrev pub IsSettingsOutOfMemory : SettingsFault → Type 0
IsSettingsOutOfMemory (Text f) = f ≡ Memory
IsSettingsOutOfMemory (Program f) = IsOutOfMemory f

-- ---- lists for a program

-- a setup is of this program, with the same maps
abbrev pub IsSetupFor : Accepted → SetupView → Type 0
IsSetupFor p s = Spells p.code s.program × (p.shapes ≡ s.shapes)

-- the text spells settings of this program, and the lists are theirs
abbrev pub IsRelisted : List ℕ → Accepted → List (Option MapList) → Type 0
IsRelisted text p lists = (x : ListedView) × IsSetupOf text x × IsSetupFor p x.setup × (lists ≡ x.lists)

-- the text's fault; or the text spells settings of another program, or of other maps
abbrev pub IsRelistFault : List ℕ → Accepted → RelistFault → Type 0
IsRelistFault text p (relist.Text f) = IsFaultOf text f
IsRelistFault text p relist.Other = (x : ListedView) × IsSetupOf text x × (IsSetupFor p x.setup → ⊥)

abbrev pub relist_out_of_memory : RelistFault
relist_out_of_memory = relist.Text Memory
