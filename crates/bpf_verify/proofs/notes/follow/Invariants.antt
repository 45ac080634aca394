use Rattle.std.proofs.Common.{◌≡◌, ℕ, length, map, drop, reverse}
use Rattle.std.specs.Prelude.{vec_len}
use Rattle.bpf_note.specs.Parts.{facts}
use Rattle.bpf_verify.specs.Tables.{facts_at}
use Rattle.bpf_verify.proofs.FollowLemmas.{IsFollowing}
use Rattle.bpf_verify.proofs.notes.follow.Given as goal

-- the first i lists of facts are followed, and the one before them is the next
abbrev pub invariant-loop-note : goal.invariant-loop-note
invariant-loop-note l = (vec_len l.table.lists ≡ length l.code) × ((i : ℕ) × (drop i (facts_at l.fn.table.lists.items l.pc) ≡ map facts (reverse l.list)) ×
    IsFollowing l.code l.shapes l.pc i (facts_at l.fn.table.lists.items) (facts_at l.table.lists.items))

abbrev pub decreases-loop-note : goal.decreases-loop-note
decreases-loop-note l = length l.list
