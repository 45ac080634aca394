-- Stated: claims rest on this file.
-- The packet of a copy.
use Rattle.std.specs.Prelude.{ℕ, ◌≡◌, List, [], Option, None, Some}
use Rattle.bpf_vm.specs.Packet.{Packet}

abbrev pub bytes_held : Option Packet → List ℕ
bytes_held None = []
bytes_held (Some p) = p.bytes

-- there is a packet, in room for the longest
abbrev pub IsHeld : Option Packet → Type 0
IsHeld None = ⊥
IsHeld (Some p) = p.room.size ≡ 65535
