-- Stated: claims rest on this file.
-- The lines that the program prints.
use Rattle.std.specs.Prelude.{ℕ, List, ◌++◌, codes, decimal, Result, Ok, Err}
use Rattle.hex.specs.Hex.{encode_lower}
use Rattle.bpf_insn.specs.Cause.{refusal_text}
use Rattle.bpf_insn.specs.declared.refusal.Refusal.{Refusal}
use Rattle.bpf_vm.specs.Actions.{action_name, action_of}
use Rattle.bpf_vm.specs.declared.ended.Ended.{Ended}
use Rattle.xdp_load.specs.FaultNumber.{fault_number}
use Rattle.xdp_load.specs.declared.fault.TextFault.{TextFault}
use Rattle.xdp_world.specs.declared.report.Report.{Report}
use Rattle.xdp_commands.specs.CounterLines.{totals_text}
use Rattle.xdp_commands.specs.TurnLines.{queues_text}
use Rattle.xdp_commands.specs.declared.executing.Accepted.{Accepted}

-- the action, its number and the count of instructions; then the packet in lower-case hex
abbrev pub ended_text : Ended → List ℕ
ended_text e =
    codes "action " ++ (action_name (action_of e.number)
    ++ (codes " number " ++ (decimal e.number ++ (codes " instructions " ++ (decimal e.instructions
    ++ (codes "\npacket " ++ (encode_lower e.packet.bytes ++ codes "\n")))))))

abbrev pub refused_text : Refusal → List ℕ
refused_text r = codes "refused " ++ (refusal_text r ++ codes "\n")

-- the lines of a run, or of a refusal
abbrev pub executed_text : Result Ended Refusal → List ℕ
executed_text (Ok e) = ended_text e
executed_text (Err r) = refused_text r

-- the line of a check: how many instructions the program has, a wide load being one, and how many slots
abbrev pub checked_text : Result Accepted Refusal → List ℕ
checked_text (Ok a) = codes "accepted, " ++ (decimal a.instructions ++ (codes " instructions, " ++ (decimal a.slots ++ codes " slots\n")))
checked_text (Err r) = refused_text r

-- the line of refused settings
abbrev pub settings_text : TextFault → List ℕ
settings_text f = codes "settings refused L" ++ (decimal (fault_number f) ++ codes "\n")

-- the lines of a run of queues whose maps have these names: the turns, then the counters
abbrev pub report_text : List (List ℕ) → Report → List ℕ
report_text names r = queues_text 0 r.turns.items ++ totals_text names r.totals

abbrev pub ran_text : List (List ℕ) → Result Report Refusal → List ℕ
ran_text names (Ok report) = report_text names report
ran_text names (Err r) = refused_text r
