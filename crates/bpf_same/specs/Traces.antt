-- For proofs: no claim rests on this file.
-- What a run of the old program is to come to: what it is to do to counters, with what it finds; or from which counters it alone
-- leaves which.
use Rattle.std.specs.Prelude.{ℕ, ◌≡◌, List, [], ◌∷◌, length, Option, None, Some, Bool, true, false}
use Rattle.bpf_insn.specs.declared.insn.Insn.{Insn}
use Rattle.bpf_note.specs.State.{State}
use Rattle.bpf_note.specs.Regions.{Place, InPacket, InStack, InContext, InCounter, Nowhere, region}
use Rattle.bpf_note.specs.declared.op.Op.{Op}
use Rattle.bpf_same.specs.Same.{operations, Runs}
use Rattle.bpf_same.specs.Counts.{Effect, Does}
use Rattle.bpf_same.specs.Alone.{Counters, IsFound, counters_after, FindsAndLeaves, RunsAlone}

pub record Trace : Type 0 where
  pub r0 : ℕ
  pub bytes : List ℕ
  pub done : List Op
  pub found : Counters
  pub left : Counters

-- from the state there is such a run, alone or not
abbrev pub Has : Bool → List Insn → Trace → State → Type 0
Has true code e s = RunsAlone code e.r0 e.bytes s e.found e.left
Has false code e s = Runs code e.r0 e.bytes s e.done

-- after a step with this label the trace is another one
abbrev pub IsNext : Bool → Option Op → Trace → Trace → Type 0
IsNext alone None e d = e ≡ d
IsNext true (Some op) e d = IsFound e.found (Does op) × (d ≡ record { r0 = e.r0; bytes = e.bytes; done = e.done; found = counters_after e.found (Does op); left = e.left })
IsNext false (Some op) e d = e ≡ record { r0 = d.r0; bytes = d.bytes; done = op ∷ d.done; found = d.found; left = d.left }

abbrev pub standing : Counters → Place → Option ℕ
standing c (InCounter m k j) = Some (c m k j)
standing c (InPacket at) = None
standing c (InStack at) = None
standing c (InContext at) = None
standing c Nowhere = None

-- what is known to stand in the counter at an address: alone what does, else nothing
abbrev pub numbers : Bool → Trace → State → ℕ → Option ℕ
numbers true e s a = standing e.found (region (length s.packet) s.shapes a 8)
numbers false e s a = None

-- the effects of operations
abbrev pub does : List Op → List Effect
does [] = []
does (op ∷ done) = Does op ∷ does done

-- labels of a walk are what the trace says
abbrev pub Follows : Bool → List (Option Op) → Trace → Type 0
Follows true labels r = FindsAndLeaves r.found (does (operations labels)) r.left
Follows false labels r = operations labels ≡ r.done
