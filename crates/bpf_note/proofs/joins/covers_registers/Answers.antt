use Rattle.std.proofs.Common.{◌≡◌, ◌<◌, ◌∙◌, ap, ℕ, List, length, arith}
use Rattle.std.specs.Prelude.{slice_index_or}
use borrow.Author.Count.{below_more}
use Rattle.bpf_note.specs.declared.val.Val.{Val}
use Rattle.bpf_note.specs.declared.val.Val.TheVariants.{Unset}
use Rattle.bpf_note.specs.Join.{joined_value}
use Rattle.bpf_note.proofs.PlaceLemmas.{same_read}
use Rattle.bpf_note.proofs.joins.covers_registers.Goals as goal

-- the same at another default
at_default : (xs ys : List Val) (i : ℕ) (d e : Val) → i < length xs → i < length ys → joined_value (slice_index_or xs i d) (slice_index_or ys i d) ≡ slice_index_or xs i d →
    joined_value (slice_index_or xs i e) (slice_index_or ys i e) ≡ slice_index_or xs i e
at_default xs ys i d e hx hy h =
    ap (λ (v : Val). joined_value v (slice_index_or ys i e)) (same_read xs i e d hx) ∙ ap (joined_value (slice_index_or xs i d)) (same_read ys i e d hy) ∙ h ∙ same_read xs i d e hx

pub loop-i-preserved : goal.loop-i-preserved
loop-i-preserved c =
    below_more _ _ c.loop-i.invariant (at_default c.args.a.now c.args.b.now c.loop-i.i _ Unset (omega arith) (omega arith) (c.covers_value.ensures.0 c.if-not-covers_value.false))
