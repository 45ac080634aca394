use Rattle.std.proofs.Common.{rules, ◌≡◌, ℕ, Some, inl, inr, true, subst, arith}
use Rattle.std.specs.Prelude.{slice_get}
use Rattle.std.proofs.lemmas.Bool.{cases_lt}
use Rattle.bpf_same.specs.Renumbered.{IsWitnessed, IsRenumberedFrom}
use Rattle.bpf_same.proofs.renumbered.are_renumbered.Goals as goal

pub loop-slot-preserved : goal.loop-slot-preserved
loop-slot-preserved c = λ q p i low e at.
    elim (cases_lt q c.loop-slot.slot) [
      | inl old ↦ c.loop-slot.invariant q p i old e at
      | inr high ↦
          let this : c.loop-slot.slot ≡ q = omega (arith, low, high) in
          let holds : c.is_slot_renumbered.result ≡ true = search rules in
          subst (λ (q : ℕ). slice_get c.args.new.now q ≡ Some i → IsWitnessed c.args.witnesses.now q p → IsRenumberedFrom c.args.witnesses.now (slice_get c.args.old.now p) i q p) this (c.is_slot_renumbered.ensures.0 holds p i) e at
    ]
