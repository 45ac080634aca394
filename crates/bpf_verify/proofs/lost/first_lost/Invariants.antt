use Rattle.std.proofs.Common.{◌≡◌, ◌<◌, ℕ, Some, map}
use Rattle.std.specs.Prelude.{slice_get}
use Rattle.bpf_insn.specs.Register.{number}
use Rattle.bpf_note.specs.Facts.{Facts}
use Rattle.bpf_note.specs.Parts.{facts}
use Rattle.bpf_verify.specs.Lost.{Loses}
use Rattle.bpf_verify.proofs.lost.first_lost.Given as goal

abbrev pub invariant-loop-i : goal.invariant-loop-i
invariant-loop-i l = (j : ℕ) (n : Facts) → j < l.i → slice_get (map (λ b. facts b.value) l.fn.notes.items) j ≡ Some n → Loses l.code l.shapes l.at (number l.register) n → ⊥
