-- For proofs: no claim rests on this file.
-- The second pass's table of notes, slot by slot, as what the notes say.
use Rattle.std.specs.Prelude.{ℕ, ◌<◌, List, [], ◌∷◌, map, slice_index_or}
use Rattle.bpf_insn.specs.declared.refusal.Cause.{Cause}
use Rattle.bpf_insn.specs.declared.refusal.Cause.TheVariants.{Memory}
use Rattle.bpf_note.specs.Parts.{Noted, facts}
use Rattle.bpf_note.specs.Facts.{Facts}
use Rattle.bpf_flow.specs.Edges.{Edges}

-- what the notes at slot q say
abbrev pub facts_at : List (List Noted) → ℕ → List Facts
facts_at table q = map facts (slice_index_or table q [])

-- the edges lead to slots below n
abbrev pub LeadInside : Edges → ℕ → Type 0
LeadInside [] n = Unit {0}
LeadInside (e ∷ es) n = (e.0 < n) × LeadInside es n

-- out of memory, if the first holds, or a cause of which the second holds
abbrev pub IsMet : Cause → Type 0 → Type 0 → Type 0
IsMet Memory W P = W
IsMet c W P = P
