-- Stated: claims rest on this file.
-- When one program has the runs of another.
use Rattle.std.specs.Prelude.{ℕ, ◌≡◌, List, [], ◌∷◌, Option, None, Some}
use Rattle.bpf_insn.specs.declared.insn.Insn.{Insn}
use Rattle.bpf_note.specs.Shape.{Shape}
use Rattle.bpf_note.specs.State.{State, IsStart}
use Rattle.bpf_note.specs.declared.op.Op.{Op}
use Rattle.bpf_vm.specs.Run.{Walk}

-- the operations on counters, with what they found, of the labels of a walk's instructions
abbrev pub operations : List (Option Op) → List Op
operations [] = []
operations (None ∷ labels) = operations labels
operations (Some op ∷ labels) = op ∷ operations labels

-- a run from the state: it does these operations on counters, in this order, and ends with r0 and these packet bytes
pub record Runs (code : List Insn) (r0 : ℕ) (bytes : List ℕ) (s : State) (done : List Op) : Type 0 where
  pub labels : List (Option Op)
  pub walk : Walk code r0 bytes s labels
  pub did : operations labels ≡ done

-- from every start, each run of the new program is one of the old program
abbrev pub IsSame : List Shape → List Insn → List Insn → Type 0
IsSame shapes old new = (s : State) → IsStart s → s.shapes ≡ shapes → (r0 : ℕ) (bytes : List ℕ) (done : List Op) →
    Runs new r0 bytes s done → Runs old r0 bytes s done
