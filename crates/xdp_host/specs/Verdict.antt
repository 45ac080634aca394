-- Stated: claims rest on this file.
-- The verdict on a program: the three numbers that C gets.
use Rattle.std.specs.Prelude.{ℕ}
use Rattle.bpf_insn.specs.Cause.{cause_number}
use Rattle.bpf_insn.specs.declared.refusal.Cause.TheVariants.{Memory}
use Rattle.xdp_load.specs.FaultNumber.{fault_number}
use Rattle.xdp_host.specs.declared.fault.Fault.{Fault}
use Rattle.xdp_host.specs.declared.fault.Fault.TheVariants.{Refused, Map, Text, Empty}
use Rattle.xdp_host.specs.declared.abi.XdpVerdict.{XdpVerdict}

-- accepted, with the number of instructions
abbrev pub accepting : ℕ → XdpVerdict
accepting instructions = record { kind = 0; cause = 0; at = instructions }

-- refused, and why
abbrev pub verdict_of : Fault → XdpVerdict
verdict_of (Refused r) = record { kind = 1; cause = cause_number r.cause; at = r.pc }
verdict_of (Map number) = record { kind = 2; cause = 0; at = number }
verdict_of (Text f) = record { kind = 3; cause = fault_number f; at = 0 }
verdict_of Empty = record { kind = 4; cause = 0; at = 0 }

-- out of memory before the first slot is checked
abbrev pub out_of_memory : Fault
out_of_memory = Refused (record { cause = Memory; pc = 0 })
