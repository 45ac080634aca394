-- Stated: claims rest on this file.
-- What C is answered when it asks for a program of an object.
use Rattle.std.specs.Prelude.{ℕ, ◌≡◌, List, min}
use Rattle.bpf_insn.specs.Code.{Spells}
use Rattle.bpf_note.specs.Shape.{Shape}
use Rattle.bpf_verify.specs.Consistent.{instructions}
use Rattle.bpf_verify.specs.FirstRefusal.{IsFaultless}
use Rattle.xdp_object.specs.FaultNumber.{fault_number, fault_place}
use Rattle.xdp_object.specs.Setup.{SetupView, IsNoSetup, IsSetupOf}
use Rattle.xdp_program.specs.Refused.{IsRefused}
use Rattle.xdp_program.specs.declared.fault.LoadFault.TheVariants as load
use Rattle.xdp_host.specs.Verdict.{accepting, verdict_of}
use Rattle.xdp_host.specs.declared.abi.XdpVerdict.{XdpVerdict}
use Rattle.xdp_host.specs.declared.fault.Fault.{Fault}
use Rattle.xdp_host.specs.declared.fault.Fault.TheVariants as fault
use Rattle.xdp_host.specs.declared.loaded_program.LoadedProgram.{LoadedProgram}
use Rattle.xdp_host.specs.declared.object_fault.ObjectFault.{ObjectFault}
use Rattle.xdp_host.specs.declared.object_fault.ObjectFault.TheVariants.{Setup, Program}

-- The function of this name in the object is this program, with nothing to refuse, and with maps of these names and lists.
pub record IsOfObject (object function : List ℕ) (p : LoadedProgram) : Type 0 where
  pub setup : SetupView
  pub is : IsSetupOf object function setup
  pub spelled : Spells p.program.code setup.program
  pub shapes : p.program.shapes ≡ setup.maps.shapes
  pub faultless : IsFaultless p.program.code setup.maps.shapes
  pub names : p.names ≡ setup.maps.names
  pub lists : p.lists ≡ setup.maps.lists

-- the refusal of a program with these maps
abbrev pub IsSetupFault : List ℕ → List Shape → Fault → Type 0
IsSetupFault program shapes (fault.Refused r) = IsRefused program shapes (load.Refused r)
IsSetupFault program shapes (fault.Map number) = ⊥
IsSetupFault program shapes (fault.Text f) = ⊥
IsSetupFault program shapes fault.Empty = ⊥

-- the object has no setup of the function; or it has, and this is the refusal of its program
abbrev pub IsObjectFault : List ℕ → List ℕ → ObjectFault → Type 0
IsObjectFault object function (Setup f) = IsNoSetup object function f
IsObjectFault object function (Program f) = (s : SetupView) × IsSetupOf object function s × IsSetupFault s.program s.maps.shapes f

-- the three numbers that C gets; where it is has 32 bits
abbrev pub object_verdict : ObjectFault → XdpVerdict
object_verdict (Setup f) = record { kind = 7; cause = fault_number f; at = min (fault_place f) 4294967295 }
object_verdict (Program f) = verdict_of f

abbrev pub AcceptsObject : List ℕ → List ℕ → LoadedProgram → XdpVerdict → Type 0
AcceptsObject object function p v = IsOfObject object function p × (v ≡ accepting (instructions p.program.code))

abbrev pub RefusesObject : List ℕ → List ℕ → XdpVerdict → Type 0
RefusesObject object function v = (f : ObjectFault) × IsObjectFault object function f × (v ≡ object_verdict f)
