use Rattle.std.proofs.Common.{◌≡◌, length}
use Rattle.std.specs.Prelude.{vec_len}
use Rattle.bpf_verify.specs.Tables.{facts_at}
use Rattle.bpf_verify.proofs.PassingLemmas.{IsPassingWith}
use Rattle.bpf_verify.proofs.notes.second_pass.Given as goal

abbrev pub invariant-loop-pc : goal.invariant-loop-pc
invariant-loop-pc l = (vec_len l.table.lists ≡ length l.code) × IsPassingWith l.code l.shapes l.pc-items l.pc-index (facts_at l.table.lists.items)
