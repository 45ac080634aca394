-- Stated: claims rest on this file.
-- What the second pass knows at each slot: lists of at most eight notes, as they arrive along the edges into it.
use Rattle.std.specs.Prelude.{ℕ, ◌≡◌, ◌<◌, List, [], ◌∷◌, ◌++◌, length, Option, None, Some, ◌==◌, ◌⊎◌, slice_get, if◌then◌else◌}
use Rattle.std.specs.Prelude.{Contains, Ok, Err}
use Rattle.bpf_insn.specs.declared.insn.Insn.{Insn}
use Rattle.bpf_insn.specs.declared.refusal.Cause.{Cause}
use Rattle.bpf_note.specs.Shape.{Shape}
use Rattle.bpf_note.specs.Facts.{Facts, entry}
use Rattle.bpf_note.specs.Join.{joined}
use Rattle.bpf_flow.specs.Edges.{Edges, Answer}
use Rattle.bpf_flow.specs.Rule.{after_of}
use Rattle.bpf_flow.specs.Gives.{WantsMemory}

-- a note arrives at a list: one that equals a note there is dropped, else it is appended; if eight stand there it is joined into
-- the eighth
pub data Arrives (ns : List Facts) (n : Facts) : List Facts → Type 0 where
  dropped : Contains ns n → Arrives ns n ns
  appended : (Contains ns n → ⊥) → length ns < 8 → Arrives ns n (ns ++ n ∷ [])
  merged : (first : List Facts) (eighth : Facts) → (Contains ns n → ⊥) → length first ≡ 7 → ns ≡ first ++ eighth ∷ [] →
      Arrives ns n (first ++ joined eighth n ∷ [])

-- those of the edges that lead to slot q come to its list, one after another
abbrev pub Hears : List Facts → ℕ → Edges → List Facts → Type 0
Hears ns q [] r = ns ≡ r
Hears ns q (e ∷ es) r = ((q ≡ e.0) × ((m : List Facts) × Arrives ns e.1 m × Hears m q es r)) ⊎ ((q ≡ e.0 → ⊥) × Hears ns q es r)

-- what the rule says of the instruction at a slot, if n is known
abbrev pub rule_by : Option Insn → ℕ → Facts → List Shape → Answer
rule_by None pc n shapes = Ok []
rule_by (Some i) pc n shapes = after_of i pc n shapes

unfoldable pub rule_at : List Insn → List Shape → ℕ → Facts → Answer
rule_at code shapes pc n = rule_by (slice_get code pc) pc n shapes

abbrev pub allowed : Answer → Edges
allowed (Ok es) = es
allowed (Err c) = []

-- the edges out of a slot, note by note in their order, for each note the next slot before a jump's target
abbrev pub told : List Insn → List Shape → ℕ → List Facts → Edges
told code shapes p [] = []
told code shapes p (n ∷ ns) = allowed (rule_at code shapes p n) ++ told code shapes p ns

-- what slot q has heard, having begun with ns, from these slots in turn, at which the notes stand
abbrev pub Gathers : List Insn → List Shape → (ℕ → List Facts) → ℕ → List Facts → List ℕ → List Facts → Type 0
Gathers code shapes notes q ns [] r = ns ≡ r
Gathers code shapes notes q ns (p ∷ ps) r = (m : List Facts) × Hears ns q (told code shapes p (notes p)) m ×
    Gathers code shapes notes q m ps r

-- at the first slot stands what is known at the entry
abbrev pub first_notes : ℕ → List Facts
first_notes q = if q == 0 then entry ∷ [] else []

-- the notes that stand once these slots have told theirs: at each slot what it has heard from them
abbrev pub AreNotes : List Insn → List Shape → List ℕ → (ℕ → List Facts) → Type 0
AreNotes code shapes slots notes = (q : ℕ) → Gathers code shapes notes q (first_notes q) slots (notes q)

-- the rule refuses no note of the list
abbrev pub AreAllowed : List Insn → List Shape → ℕ → List Facts → Type 0
AreAllowed code shapes pc [] = Unit {0}
AreAllowed code shapes pc (n ∷ ns) = ((es : Edges) × (rule_at code shapes pc n ≡ Ok es)) × AreAllowed code shapes pc ns

-- from a note of the list the rule leads on along an edge, and it refuses none before that note: what the edge's slot hears
-- takes memory
abbrev pub TakesMemory : List Insn → List Shape → ℕ → List Facts → Type 0
TakesMemory code shapes pc [] = ⊥
TakesMemory code shapes pc (n ∷ ns) = WantsMemory (rule_at code shapes pc n) ⊎
    (((es : Edges) × (rule_at code shapes pc n ≡ Ok es)) × TakesMemory code shapes pc ns)

-- the rule refuses the list's first note that it refuses with this cause
abbrev pub IsFirstCause : List Insn → List Shape → ℕ → List Facts → Cause → Type 0
IsFirstCause code shapes pc [] cause = ⊥
IsFirstCause code shapes pc (n ∷ ns) cause =
    (rule_at code shapes pc n ≡ Err cause) ⊎ (((es : Edges) × (rule_at code shapes pc n ≡ Ok es)) × IsFirstCause code shapes pc ns cause)

-- the rule refuses this note of the list with this cause, and none before it
pub record IsFirstRefused (code : List Insn) (shapes : List Shape) (pc : ℕ) (ns : List Facts) (cause : Cause) (note : Facts) : Type 0 where
  pub before : List Facts
  pub rest : List Facts
  pub parts : ns ≡ before ++ note ∷ rest
  pub allowed : AreAllowed code shapes pc before
  pub refused : rule_at code shapes pc note ≡ Err cause
