use Rattle.std.proofs.Common.{◌≡◌, ◌<◌, ℕ, length, get_or}
use Rattle.std.specs.Prelude.{vec_len}
use Rattle.bpf_verify.specs.Tables.{facts_at}
use Rattle.bpf_verify.proofs.PassingLemmas.{IsPassingWith}
use Rattle.bpf_verify.proofs.notes.notes_at.Given as goal

abbrev pub invariant-loop-pc : goal.invariant-loop-pc
invariant-loop-pc l = (vec_len l.table.lists ≡ length l.code) × IsPassingWith l.code l.shapes l.pc-items l.pc-index (facts_at l.table.lists.items) × ((j : ℕ) → j < l.pc-index → get_or l.pc-items j 0 ≡ l.at → ⊥)
