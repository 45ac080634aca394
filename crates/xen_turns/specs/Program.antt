-- Stated: claims rest on this file.
-- The program's part of a turn's trace.
use Rattle.std.specs.Prelude.{ℕ, zero, suc, ◌≡◌, ◌≤◌, ◌%◌, ◌^◌, List, [], ◌∷◌, length, map, Option, None, Some}
use Rattle.bpf_note.specs.declared.op.Op.{Op}
use Rattle.bpf_note.specs.declared.op.Op.TheVariants as op
use Rattle.bpf_verify.specs.Consistent.{instructions}
use Rattle.bpf_vm.specs.Course.{start_state}
use Rattle.bpf_vm.specs.Run.{Walk}
use Rattle.xen_steps.specs.Event.{Event, Instr, Load, Add}
use Rattle.xen_turns.specs.Responses.{Left}
use Rattle.xen_turns.specs.declared.wiring.Wiring.{Wiring}

-- The event of a step: its label, or an instruction that nothing else takes part in.
abbrev pub event_of : Option Op → Event
event_of None = Instr
event_of (Some (op.Load m k j v)) = Load m k j v
event_of (Some (op.Add m k j delta old)) = Add m k j delta old

-- How many labels there are.
abbrev pub ops_in : List (Option Op) → ℕ
ops_in [] = 0
ops_in (None ∷ labels) = ops_in labels
ops_in (Some op ∷ labels) = suc (ops_in labels)

-- The events of a run of the wired program on a packet, of at most as many steps as it has instructions.
pub record IsProgram (w : Wiring) (packet : List ℕ) (p : List Event) (out : Left) : Type 0 where
  pub r0 : ℕ
  pub labels : List (Option Op)
  pub walk : Walk w.program.now.code r0 out.packet (start_state w.program.now.shapes w.lists.now packet w.ifindex w.queue) labels
  pub within : length labels ≤ instructions w.program.now.code
  pub events : p ≡ map event_of labels
  pub number : out.number ≡ r0 % 2 ^ 32
  pub ops : out.ops ≡ ops_in labels

-- Instructions that read no counter, n of them.
abbrev pub plain_instructions : ℕ → List Event
plain_instructions zero = []
plain_instructions (suc n) = Instr ∷ plain_instructions n
