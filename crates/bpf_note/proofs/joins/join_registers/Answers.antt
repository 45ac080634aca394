use Rattle.std.proofs.Common.{◌≡◌, arith, refl, rules}
use Rattle.std.specs.Prelude.{slice_index_or}
use Rattle.bpf_note.specs.declared.val.Val.{Val}
use Rattle.bpf_note.specs.declared.val.Val.TheVariants.{Unset}
use Rattle.bpf_note.specs.Join.{joined_value}
use Rattle.bpf_note.proofs.PlaceLemmas.{changed_from, kept_from, all_joined}
use Rattle.bpf_note.proofs.joins.join_registers.Goals.{then-not-is_same_value, else-not-is_same_value}
use Rattle.bpf_note.proofs.joins.join_registers.Goals as goal

pub loop-i-preserved : goal.loop-i-preserved
loop-i-preserved c = elim c.if-not-is_same_value.branch [
  | then-not-is_same_value w ↦ rw w.a-is (changed_from c.loop-i.a c.args.a.now c.args.b.now joined_value Unset _ w.join_value.result c.loop-i.i 11 c.loop-i.invariant.0 c.told-a c.told-b (omega arith) c.loop-i.invariant.1 c.loop-i.invariant.2 w.join_value.ensures)
  | else-not-is_same_value w ↦
      let x : Val = slice_index_or c.loop-i.a c.loop-i.i Unset in
      let y : Val = slice_index_or c.args.b.now c.loop-i.i Unset in
      let equal : x ≡ y = c.is_same_value.ensures.0 w.if-not-is_same_value.false in
      let same : joined_value x y ≡ x = joined_with_same x y equal in
      rw w.a-is (kept_from c.loop-i.a c.args.a.now c.args.b.now joined_value Unset c.loop-i.i 11 c.loop-i.invariant.0 c.loop-i.invariant.1 c.loop-i.invariant.2 same)
]
  where
    joined_with_same : (a b : Val) → a ≡ b → joined_value a b ≡ a
    joined_with_same a b e = search rules

pub returns : goal.returns
returns c = all_joined c.loop-i.a c.args.a.now c.args.b.now joined_value Unset 11 c.loop-i.invariant.0 c.told-a c.told-b refl (λ k lt. c.loop-i.invariant.1 k (omega arith))
