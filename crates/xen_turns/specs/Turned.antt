-- Stated: claims rest on this file.
-- A turn with its packet's bytes.
use Rattle.std.specs.Prelude.{ℕ, ◌≡◌, ◌≤◌, List, length}
use Rattle.bpf_vm.specs.Actions.{action_of}
use Rattle.xen_turns.specs.declared.state.State.{State}
use Rattle.xen_turns.specs.declared.turn.Halt.{Halt}
use Rattle.xen_turns.specs.declared.turn.PacketRefusal.{PacketRefusal}
use Rattle.xen_turns.specs.declared.turn.Kind.{Kind}
use Rattle.xen_turns.specs.declared.turn.Kind.TheVariants as kind
use Rattle.xen_turns.specs.declared.turn.Turn.{Turn}
use Rattle.xen_turns.specs.declared.turn.Turn.TheVariants as turn

pub data Turned : Type 0 where
  Idle : Turned
  Ran : (number : ℕ) → (packet : List ℕ) → (ops slots : ℕ) → Turned
  Refused : (cause : PacketRefusal) → (ops slots : ℕ) → Turned
  Halted : (cause : Halt) → Turned

-- the state and the turn that a turn ends in
abbrev pub Ending : Type 0
Ending = State × Turned

-- the turn of this kind, with these bytes if a program ran
abbrev pub turned : Kind → List ℕ → Turned
turned kind.Idle packet = Idle
turned (kind.Ran ops number slots) packet = Ran number packet ops slots
turned (kind.Refused cause ops slots) packet = Refused cause ops slots
turned (kind.Halted cause) packet = Halted cause

-- what a host is shown of a turn
abbrev pub Shows : Turned → Turn → Type 0
Shows Idle turn.Idle = Unit {0}
Shows (Ran number packet ops slots) (turn.Ran action n bytes o k) = (action ≡ action_of number) × (n ≡ number) ×
    (bytes.now ≡ packet) × (o ≡ ops) × (k ≡ slots)
Shows (Refused cause ops slots) (turn.Refused c o k) = (c ≡ cause) × (o ≡ ops) × (k ≡ slots)
Shows (Halted cause) (turn.Halted c) = c ≡ cause
Shows u shown = ⊥

-- a packet that is shown has at most 65,535 bytes
abbrev pub IsShort : Turn → Type 0
IsShort (turn.Ran action n bytes o k) = length bytes.now ≤ 65535
IsShort shown = Unit {0}
