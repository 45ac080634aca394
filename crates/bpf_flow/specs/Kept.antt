-- Stated: claims rest on this file.
-- What no step changes, and the counters that a step may read or add to.
use Rattle.std.specs.Prelude.{◌≡◌, List, length, Option, None, Some}
use Rattle.bpf_note.specs.Shape.{Shape, IsCounter}
use Rattle.bpf_note.specs.State.{State}
use Rattle.bpf_note.specs.declared.op.Op.{Op}
use Rattle.bpf_note.specs.declared.op.Op.TheVariants.{Load, Add}

-- the second state has the first one's maps and rows, and a packet of the same length
pub record Kept (s t : State) : Type 0 where
  pub shapes : t.shapes ≡ s.shapes
  pub length : length t.packet ≡ length s.packet
  pub find : t.find ≡ s.find

-- the counter that a label names, if any, is one of the maps'
abbrev pub IsLabelOf : List Shape → Option Op → Type 0
IsLabelOf shapes None = Unit {0}
IsLabelOf shapes (Some (Load m k j v)) = IsCounter shapes m k j
IsLabelOf shapes (Some (Add m k j delta old)) = IsCounter shapes m k j
