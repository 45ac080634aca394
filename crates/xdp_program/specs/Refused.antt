-- Stated: claims rest on this file.
-- Why a program isn't accepted, and when a run is made.
use Rattle.std.specs.Prelude.{ℕ, ◌≡◌, ◌<◌, ◌≤◌, ◌⊎◌, List, length}
use Rattle.bpf_insn.specs.Code.{Spells}
use Rattle.bpf_insn.specs.Refusal.{IsNoCode}
use Rattle.bpf_insn.specs.declared.insn.Insn.{Insn}
use Rattle.bpf_insn.specs.declared.refusal.Cause.TheVariants.{Memory}
use Rattle.bpf_maps.specs.Layout.{total}
use Rattle.bpf_note.specs.Shape.{Shape, most_maps}
use Rattle.bpf_verify.specs.FirstRefusal.{IsRefusal}
use Rattle.xdp_program.specs.declared.fault.LoadFault.{LoadFault}
use Rattle.xdp_program.specs.declared.fault.LoadFault.TheVariants.{Maps, Refused}

-- more than 16 maps; or the decoder's refusal; or the bytes spell a code, and the verifier's refusal of it
abbrev pub IsRefused : List ℕ → List Shape → LoadFault → Type 0
IsRefused bytes shapes Maps = most_maps < length shapes
IsRefused bytes shapes (Refused r) = IsNoCode bytes r ⊎ ((code : List Insn) × Spells code bytes × IsRefusal code shapes r.cause r.pc)

-- out of memory before the first slot is checked
abbrev pub out_of_memory : LoadFault
out_of_memory = Refused (record { cause = Memory; pc = 0 })

-- out of memory
abbrev pub IsOutOfMemory : LoadFault → Type 0
IsOutOfMemory Maps = ⊥
IsOutOfMemory (Refused r) = r.cause ≡ Memory

-- there are words enough, and the packet isn't too long
abbrev pub IsMade : List Shape → List ℕ → List ℕ → Type 0
IsMade shapes words packet = (length packet ≤ 65535) × (total shapes ≤ length words)

abbrev pub IsUnmade : List Shape → List ℕ → List ℕ → Type 0
IsUnmade shapes words packet = (65535 < length packet) ⊎ (length words < total shapes)
