-- Stated: claims rest on this file.
-- What a program's bytes come to: alone, and on a packet.
use Rattle.std.specs.Prelude.{ℕ, ◌≡◌, ◌≤◌, ◌⊎◌, List, [], length, Result, Ok, Err}
use Rattle.bpf_insn.specs.Code.{Spells}
use Rattle.bpf_insn.specs.Refusal.{IsNoCode}
use Rattle.bpf_insn.specs.declared.insn.Insn.{Insn}
use Rattle.bpf_insn.specs.declared.refusal.Refusal.{Refusal}
use Rattle.bpf_note.specs.Shape.{Shape}
use Rattle.bpf_verify.specs.FirstRefusal.{IsFaultless, IsRefusal}
use Rattle.bpf_verify.specs.Consistent.{Accepted as Program, instructions}
use Rattle.bpf_vm.specs.Run.{IsRunOf}
use Rattle.bpf_vm.specs.declared.ended.Ended.{Ended}
use Rattle.xdp_load.specs.Listed.{ListedView}
use Rattle.xdp_world.specs.Report.{IsCoreRun}
use Rattle.xdp_world.specs.declared.report.Report.{Report}
use Rattle.xdp_commands.specs.declared.executing.Accepted.{Accepted}

-- the bytes spell a program without a cause of refusal, and this is its run on the packet, with interface and queue 0,
-- which does no more instructions than it has
pub record IsRunOfBytes (program packet : List ℕ) (ended : Ended) : Type 0 where
  pub code : List Insn
  pub spelled : Spells code program
  pub faultless : IsFaultless code []
  pub run : IsRunOf code packet 0 0 ended.number ended.packet.bytes ended.instructions
  pub bound : ended.instructions ≤ instructions code

-- the bytes spell a program that is refused so with these maps
pub record IsRefusalOfCode (program : List ℕ) (shapes : List Shape) (refusal : Refusal) : Type 0 where
  pub code : List Insn
  pub spelled : Spells code program
  pub refused : IsRefusal code shapes refusal.cause refusal.pc

-- the refusal is that of the bytes, or of the program that they spell
abbrev pub IsRefusalOfBytes : List ℕ → List Shape → Refusal → Type 0
IsRefusalOfBytes program shapes refusal = IsNoCode program refusal ⊎ IsRefusalOfCode program shapes refusal

-- a run, or a refusal
abbrev pub Executes : List ℕ → List ℕ → Result Ended Refusal → Type 0
Executes program packet (Ok ended) = IsRunOfBytes program packet ended
Executes program packet (Err refusal) = IsRefusalOfBytes program [] refusal

-- the accepted program is the one that the bytes spell, which has no cause of refusal with these maps
pub record IsProgramOfBytes (program : List ℕ) (shapes : List Shape) (p : Program) : Type 0 where
  pub spelled : Spells p.code program
  pub faultless : IsFaultless p.code shapes
  pub maps : p.shapes ≡ shapes

-- the report is that of the queues of a setup's program through the steps of its script, with its lists, from counters that begin
-- with its numbers
pub record IsRunOfSetup (x : ListedView) (r : Report) : Type 0 where
  pub program : Program
  pub accepted : IsProgramOfBytes x.setup.program x.setup.shapes program
  pub run : IsCoreRun program x.lists x.setup.values x.setup.queues x.setup.ifindex x.setup.start x.setup.script r

-- a run of a setup, or a refusal of its program
abbrev pub RunsSetup : ListedView → Result Report Refusal → Type 0
RunsSetup x (Ok report) = IsRunOfSetup x report
RunsSetup x (Err refusal) = IsRefusalOfBytes x.setup.program x.setup.shapes refusal

-- the bytes spell a program without a cause of refusal, and it has this many instructions and slots
pub record IsAccepted (program : List ℕ) (shapes : List Shape) (accepted : Accepted) : Type 0 where
  pub code : List Insn
  pub spelled : Spells code program
  pub faultless : IsFaultless code shapes
  pub counted : accepted.instructions ≡ instructions code
  pub long : accepted.slots ≡ length code

-- what a check of a program's bytes with these maps answers
abbrev pub Checks : List ℕ → List Shape → Result Accepted Refusal → Type 0
Checks program shapes (Ok accepted) = IsAccepted program shapes accepted
Checks program shapes (Err refusal) = IsRefusalOfBytes program shapes refusal
