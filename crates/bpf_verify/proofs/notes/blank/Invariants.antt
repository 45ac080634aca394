use Rattle.std.proofs.Common.{◌≡◌, ℕ}
use Rattle.std.specs.Prelude.{vec_len}
use Rattle.bpf_verify.specs.Gathered.{first_notes}
use Rattle.bpf_verify.specs.Tables.{facts_at}
use Rattle.bpf_verify.proofs.notes.blank.Given as goal

abbrev pub invariant-loop-slot : goal.invariant-loop-slot
invariant-loop-slot l = (vec_len l.lists ≡ l._slot) × ((q : ℕ) → facts_at l.lists.items q ≡ first_notes q)
