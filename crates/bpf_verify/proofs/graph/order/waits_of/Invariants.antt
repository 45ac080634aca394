use Rattle.std.proofs.Common.{◌≡◌, ℕ, length, vec_len}
use Rattle.std.specs.Prelude.{slice_index}
use Rattle.bpf_verify.specs.Marks.{marked}
use Rattle.bpf_verify.specs.Waits.{into}
use Rattle.bpf_verify.proofs.graph.order.waits_of.Given as goal

abbrev pub invariant-loop-pc : goal.invariant-loop-pc
invariant-loop-pc l = record { len : vec_len l.waits ≡ length l.code; counts : (q : ℕ) → slice_index l.waits.items q ≡ into l.code (marked l.live) l.pc q }
