-- Stated: claims rest on this file.
-- When notes account for every run of a program, and when ranks bound it.
use Rattle.std.specs.Prelude.{ℕ, ◌+◌, ◌^◌, ◌≡◌, ◌<◌, ◌≤◌, ◌⊎◌, List, [], ◌∷◌, length, Some, slice_get}
use Rattle.bpf_insn.specs.declared.insn.Insn.{Insn}
use Rattle.bpf_insn.specs.declared.insn.Insn.TheVariants.{Second}
use Rattle.bpf_insn.specs.Code.{IsCode}
use Rattle.bpf_note.specs.Shape.{Shape, AreShapes, most_maps}
use Rattle.bpf_note.specs.State.{State, IsStart}
use Rattle.bpf_note.specs.Facts.{Facts}
use Rattle.bpf_note.specs.Describes.{Describes}
use Rattle.bpf_flow.specs.Step.{Outcome, Next, Loads, Adds, Exited, Fault, step}
use Rattle.bpf_verify.specs.Paths.{IsRank}
use Rattle.bpf_verify.specs.Edges.{Edge}

-- a program that was accepted
pub record Accepted : Type 0 where
  pub code : List Insn
  pub shapes : List Shape

-- one of the notes describes the state
abbrev pub OneDescribes : List Facts → State → Type 0
OneDescribes [] s = ⊥
OneDescribes (n ∷ ns) s = Describes n s ⊎ OneDescribes ns s

-- a state over the program's maps, which one of the notes at its slot describes
abbrev pub DescribedBy : Accepted → (ℕ → List Facts) → State → Type 0
DescribedBy p notes s = (s.shapes ≡ p.shapes) × OneDescribes (notes s.pc) s

-- what a step comes to is an exit, or is described by the notes whatever a counter answers
abbrev pub GoesOnBy : Accepted → (ℕ → List Facts) → Outcome → Type 0
GoesOnBy p notes (Next t) = DescribedBy p notes t
GoesOnBy p notes (Loads m k j go) = (x : ℕ) → x < 2 ^ 64 → DescribedBy p notes (go x)
GoesOnBy p notes (Adds m k j delta go) = (x : ℕ) → x < 2 ^ 64 → DescribedBy p notes (go x)
GoesOnBy p notes (Exited x) = Unit {0}
GoesOnBy p notes Fault = ⊥

-- notes at each slot, at most eight, that describe every start and what each step of a state that they describe leads to
pub record AreNotesOf (p : Accepted) (notes : ℕ → List Facts) : Type 0 where
  pub few : (pc : ℕ) → length (notes pc) ≤ 8
  pub starts : (s : State) → IsStart s → s.shapes ≡ p.shapes → DescribedBy p notes s
  pub steps : (s : State) → DescribedBy p notes s → GoesOnBy p notes (step p.code s)

-- such notes describe the state; a program that is accepted keeps no notes: that there are some is what its contracts say
abbrev pub IsDescribed : Accepted → State → Type 0
IsDescribed p s = (notes : ℕ → List Facts) × AreNotesOf p notes × DescribedBy p notes s

-- what a step comes to is an exit, or is described whatever a counter answers
abbrev pub GoesOn : Accepted → Outcome → Type 0
GoesOn p (Next t) = IsDescribed p t
GoesOn p (Loads m k j go) = (x : ℕ) → x < 2 ^ 64 → IsDescribed p (go x)
GoesOn p (Adds m k j delta go) = (x : ℕ) → x < 2 ^ 64 → IsDescribed p (go x)
GoesOn p (Exited x) = Unit {0}
GoesOn p Fault = ⊥

-- a second half is no instruction
abbrev pub worth : Insn → ℕ
worth Second = 0
worth i = 1

-- how many instructions the slots hold
abbrev pub instructions : List Insn → ℕ
instructions [] = 0
instructions (i ∷ is) = worth i + instructions is

-- each instruction has a rank below their number, reached or not, which falls along every edge of the flow graph
pub record IsOrdered (code : List Insn) : Type 0 where
  pub rank : ℕ → ℕ
  pub below : (pc : ℕ) (i : Insn) → slice_get code pc ≡ Some i → worth i ≡ 1 → rank pc < instructions code
  pub falls : IsRank (Edge code) rank

-- every start is described, and so is what each step of a described state leads to
pub record IsConsistent (p : Accepted) : Type 0 where
  pub laid_out : IsCode p.code
  pub few_maps : length p.shapes ≤ most_maps
  pub maps : AreShapes p.shapes
  pub starts : (s : State) → IsStart s → s.shapes ≡ p.shapes → IsDescribed p s
  pub steps : (s : State) → IsDescribed p s → GoesOn p (step p.code s)
  pub ordered : IsOrdered p.code
