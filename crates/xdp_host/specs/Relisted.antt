-- Stated: claims rest on this file.
-- What C is answered to lists that are to become a program's or a queue's.
use Rattle.std.specs.Prelude.{ℕ, ◌≡◌, ◌⊎◌, List, Option}
use Rattle.bpf_lists.specs.declared.list.MapList.{MapList}
use Rattle.bpf_verify.specs.Consistent.{instructions}
use Rattle.xdp_program.specs.Settings.{IsRelistFault, IsRelisted}
use Rattle.xdp_program.specs.declared.fault.RelistFault.{RelistFault}
use Rattle.xdp_program.specs.declared.fault.RelistFault.TheVariants as relist
use Rattle.xen_host.specs.Queues.{wired_to}
use Rattle.xen_host.specs.Relisted.{IsRelist}
use Rattle.xen_host.specs.declared.queue.Queue.{Queue}
use Rattle.xen_host.specs.declared.relisting.Relist.{Relist}
use Rattle.xen_host.specs.declared.relisting.Relist.TheVariants.{Relisted, Busy}
use Rattle.xdp_host.specs.Verdict.{accepting, verdict_of}
use Rattle.xdp_host.specs.declared.abi.XdpVerdict.{XdpVerdict}
use Rattle.xdp_host.specs.declared.fault.Fault.TheVariants.{Text}
use Rattle.xdp_host.specs.declared.loaded_program.LoadedProgram.{LoadedProgram}

-- ---- a program's lists, of a settings text

-- The text's fault; or its settings are of another program, or of other maps.
abbrev pub relist_verdict : RelistFault → XdpVerdict
relist_verdict (relist.Text f) = verdict_of (Text f)
relist_verdict relist.Other = record { kind = 6; cause = 0; at = 0 }

-- The program has the text's lists in place of its own, and nothing else of it is different.
pub record HasTaken (text : List ℕ) (old new : LoadedProgram) (told : XdpVerdict) : Type 0 where
  pub lists : List (Option MapList)
  pub theirs : IsRelisted text old.program lists
  pub taken : new ≡ record old { lists = lists }
  pub told_is : told ≡ accepting (instructions old.program.code)

-- Nothing has changed, and the verdict tells why.
pub record HasNotTaken (text : List ℕ) (old new : LoadedProgram) (told : XdpVerdict) : Type 0 where
  pub fault : RelistFault
  pub why : IsRelistFault text old.program fault
  pub kept : new ≡ old
  pub told_is : told ≡ relist_verdict fault

abbrev pub TakesText : List ℕ → LoadedProgram → LoadedProgram → XdpVerdict → Type 0
TakesText text old new told = HasTaken text old new told ⊎ HasNotTaken text old new told

-- ---- a queue's lists, of a program

-- The numbers of include/laxonje.h.
abbrev pub relist_number : Relist → ℕ
relist_number Relisted = 0
relist_number Busy = 2

abbrev pub other_maps : ℕ
other_maps = 3

abbrev pub no_memory : ℕ
no_memory = 4

abbrev pub no_program : ℕ
no_program = 5

-- The queue was given the lists of a program with maps of the same shapes, and C gets the number of its answer, unless memory ran out.
-- With other maps nothing has changed.
pub record TakesLists (old new : Queue) (p : LoadedProgram) (told : ℕ) : Type 0 where
  pub given : p.program.shapes ≡ (wired_to old).program.shapes →
      ((answer : Relist) × (told ≡ relist_number answer) × IsRelist old new p.lists answer) ⊎ ((told ≡ no_memory) × (new ≡ old))
  pub refused : (p.program.shapes ≡ (wired_to old).program.shapes → ⊥) → (told ≡ other_maps) × (new ≡ old)
