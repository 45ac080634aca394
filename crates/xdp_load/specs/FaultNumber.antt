-- Stated: claims rest on this file.
-- The number after the L.
use Rattle.std.specs.Prelude.{ℕ}
use Rattle.xdp_load.specs.declared.fault.Fault.TheVariants.{Text, Syntax, Key, Limit, Name, Hex, Relocation, Rows}
use Rattle.xdp_load.specs.declared.fault.TextFault.{TextFault}
use Rattle.xdp_load.specs.declared.fault.TextFault.TheVariants.{Memory, Refused}

abbrev pub fault_number : TextFault → ℕ
fault_number Memory = 0
fault_number (Refused Text) = 1
fault_number (Refused Syntax) = 2
fault_number (Refused Key) = 3
fault_number (Refused Limit) = 4
fault_number (Refused Name) = 5
fault_number (Refused Hex) = 6
fault_number (Refused Relocation) = 7
fault_number (Refused Rows) = 8
