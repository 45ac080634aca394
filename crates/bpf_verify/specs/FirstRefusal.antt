-- Stated: claims rest on this file.
-- Why a program is refused: the first cause of the first pass that has one.
use Rattle.std.specs.Prelude.{ℕ, ◌≡◌, ◌<◌, ◌⊎◌, List, ◌∷◌, ◌++◌, length, Some, true, false, slice_get, Contains}
use Rattle.bpf_insn.specs.declared.insn.Insn.{Insn}
use Rattle.bpf_insn.specs.declared.refusal.Cause.{Cause}
use Rattle.bpf_insn.specs.declared.refusal.Cause.TheVariants.{Memory, Target, BackJump, End, Unset, FramePointer, NoPointer, Packet}
use Rattle.bpf_insn.specs.declared.refusal.Cause.TheVariants.{Stack, Context, MayBeNull, MapAccess, Helper, MapNumber, Argument}
use Rattle.bpf_note.specs.Shape.{Shape}
use Rattle.bpf_note.specs.Facts.{Facts}
use Rattle.bpf_flow.specs.Graph.{reads}
use Rattle.bpf_verify.specs.Consistent.{IsOrdered}
use Rattle.bpf_verify.specs.Structure.{jump_of, misses_target, runs_off, lacks_map}
use Rattle.bpf_verify.specs.Edges.{JumpsBack, ClosesCycle, IsPassOrder}
use Rattle.bpf_verify.specs.Gathered.{AreNotes, AreAllowed, TakesMemory, IsFirstCause, IsFirstRefused}
use Rattle.bpf_verify.specs.Unwritten.{Unwritten}

-- nothing is wrong with the structure at slot pc, where instruction i stands
pub record IsFine (code : List Insn) (maps pc : ℕ) (i : Insn) : Type 0 where
  pub target : misses_target code pc (jump_of i) ≡ false
  pub cycle : ClosesCycle code pc → ⊥
  pub ends : runs_off code pc i ≡ false
  pub map : lacks_map maps i ≡ false

-- the cause is the first of these four that is there
abbrev pub IsFault : List Insn → ℕ → ℕ → Insn → Cause → Type 0
IsFault code maps pc i Target = misses_target code pc (jump_of i) ≡ true
IsFault code maps pc i BackJump = (misses_target code pc (jump_of i) ≡ false) × ClosesCycle code pc
IsFault code maps pc i End = (misses_target code pc (jump_of i) ≡ false) × (ClosesCycle code pc → ⊥) × (runs_off code pc i ≡ true)
IsFault code maps pc i MapNumber = (misses_target code pc (jump_of i) ≡ false) × (ClosesCycle code pc → ⊥) ×
    (runs_off code pc i ≡ false) × (lacks_map maps i ≡ true)
IsFault code maps pc i cause = ⊥

-- nothing is wrong with the structure of any slot, reached or not
abbrev pub IsStructured : List Insn → ℕ → Type 0
IsStructured code maps = (pc : ℕ) (i : Insn) → slice_get code pc ≡ Some i → IsFine code maps pc i

-- the lowest slot with a fault of structure, and its first fault
pub record IsFirstFault (code : List Insn) (maps pc : ℕ) (cause : Cause) : Type 0 where
  pub insn : Insn
  pub here : slice_get code pc ≡ Some insn
  pub fault : IsFault code maps pc insn cause
  pub before : (p : ℕ) (i : Insn) → p < pc → slice_get code p ≡ Some i → IsFine code maps p i

-- whether the jump at slot pc closes a cycle takes a search if the program has no order, and that memory; nothing is wrong
-- below the slot, nor with the jump's target
pub record IsSearching (code : List Insn) (maps pc : ℕ) : Type 0 where
  pub jump : JumpsBack code pc
  pub unordered : IsOrdered code → ⊥
  pub found : misses_target code pc (jump_of jump.insn) ≡ false
  pub before : (p : ℕ) (i : Insn) → p < pc → slice_get code p ≡ Some i → IsFine code maps p i

-- out of memory before the first slot is checked or in a search, or the first fault of structure
abbrev pub IsStructureRefusal : List Insn → ℕ → ℕ → Cause → Type 0
IsStructureRefusal code maps pc Memory = (pc ≡ 0) ⊎ IsSearching code maps pc
IsStructureRefusal code maps pc cause = IsFirstFault code maps pc cause

-- the second pass went over all reached slots in its order and the rule refused no note
pub record IsPassed (code : List Insn) (shapes : List Shape) (notes : ℕ → List Facts) : Type 0 where
  pub order : List ℕ
  pub is_order : IsPassOrder code order
  pub are_notes : AreNotes code shapes order notes
  pub allowed : (p : ℕ) → Contains order p → AreAllowed code shapes p (notes p)

-- slot pc is the first in the order of the second pass at which the rule refuses a note: the slots before it have told theirs
pub record IsStopped (code : List Insn) (shapes : List Shape) (pc : ℕ) (cause : Cause) : Type 0 where
  pub order : List ℕ
  pub is_order : IsPassOrder code order
  pub before : List ℕ
  pub rest : List ℕ
  pub parts : order ≡ before ++ pc ∷ rest
  pub notes : ℕ → List Facts
  pub are_notes : AreNotes code shapes before notes
  pub allowed : (p : ℕ) → Contains before p → AreAllowed code shapes p (notes p)
  pub refused : IsFirstCause code shapes pc (notes pc) cause

-- the second pass stops at slot pc, and this is the first of the notes there that the rule refuses
pub record IsStoppedBy (code : List Insn) (shapes : List Shape) (pc : ℕ) (cause : Cause) (note : Facts) : Type 0 where
  pub stopped : IsStopped code shapes pc cause
  pub first : IsFirstRefused code shapes pc (stopped.notes pc) cause note

-- the second pass follows the notes of slot pc: the slots before it in its order have told theirs, and a note there takes memory
pub record IsFollowed (code : List Insn) (shapes : List Shape) (pc : ℕ) : Type 0 where
  pub order : List ℕ
  pub is_order : IsPassOrder code order
  pub before : List ℕ
  pub rest : List ℕ
  pub parts : order ≡ before ++ pc ∷ rest
  pub notes : ℕ → List Facts
  pub are_notes : AreNotes code shapes before notes
  pub allowed : (p : ℕ) → Contains before p → AreAllowed code shapes p (notes p)
  pub takes : TakesMemory code shapes pc (notes pc)

-- out of memory before the first slot is checked or as notes are followed, or the second pass stopped there
abbrev pub IsHalted : List Insn → List Shape → ℕ → Cause → Type 0
IsHalted code shapes pc Memory = (pc ≡ 0) ⊎ IsFollowed code shapes pc
IsHalted code shapes pc cause = IsStopped code shapes pc cause

-- the instruction at a slot reads a register that some path leaves unwritten
pub record ReadsUnset (code : List Insn) (pc : ℕ) : Type 0 where
  pub insn : Insn
  pub register : ℕ
  pub here : slice_get code pc ≡ Some insn
  pub read : reads insn register ≡ true
  pub unwritten : Unwritten code register pc

-- the structure has no fault, and the second pass stopped
pub record IsSecondRefusal (code : List Insn) (shapes : List Shape) (pc : ℕ) (cause : Cause) : Type 0 where
  pub structured : IsStructured code (length shapes)
  pub stopped : IsStopped code shapes pc cause

-- memory may run out before the first slot is checked, in a search of the first pass, and as the second pass follows notes
pub data IsOutOfMemory (code : List Insn) (shapes : List Shape) (pc : ℕ) : Type 0 where
  at_start : pc ≡ 0 → IsOutOfMemory code shapes pc
  in_search : IsSearching code (length shapes) pc → IsOutOfMemory code shapes pc
  in_notes : IsStructured code (length shapes) → IsFollowed code shapes pc → IsOutOfMemory code shapes pc

-- the refusal is the program's: out of memory, or the first cause of the first pass that has one
abbrev pub IsRefusal : List Insn → List Shape → Cause → ℕ → Type 0
IsRefusal code shapes Memory pc = IsOutOfMemory code shapes pc
IsRefusal code shapes Target pc = IsFirstFault code (length shapes) pc Target
IsRefusal code shapes BackJump pc = IsFirstFault code (length shapes) pc BackJump
IsRefusal code shapes End pc = IsFirstFault code (length shapes) pc End
IsRefusal code shapes MapNumber pc = IsFirstFault code (length shapes) pc MapNumber
IsRefusal code shapes Unset pc = IsSecondRefusal code shapes pc Unset × ReadsUnset code pc
IsRefusal code shapes FramePointer pc = IsSecondRefusal code shapes pc FramePointer
IsRefusal code shapes NoPointer pc = IsSecondRefusal code shapes pc NoPointer
IsRefusal code shapes Packet pc = IsSecondRefusal code shapes pc Packet
IsRefusal code shapes Stack pc = IsSecondRefusal code shapes pc Stack
IsRefusal code shapes Context pc = IsSecondRefusal code shapes pc Context
IsRefusal code shapes MayBeNull pc = IsSecondRefusal code shapes pc MayBeNull
IsRefusal code shapes MapAccess pc = IsSecondRefusal code shapes pc MapAccess
IsRefusal code shapes Helper pc = IsSecondRefusal code shapes pc Helper
IsRefusal code shapes Argument pc = IsSecondRefusal code shapes pc Argument
IsRefusal code shapes cause pc = ⊥

-- the program has no cause of refusal, and no path leaves unwritten what an instruction reads
pub record IsFaultless (code : List Insn) (shapes : List Shape) : Type 0 where
  pub structured : IsStructured code (length shapes)
  pub notes : ℕ → List Facts
  pub passed : IsPassed code shapes notes
  pub written : (pc : ℕ) → ReadsUnset code pc → ⊥
