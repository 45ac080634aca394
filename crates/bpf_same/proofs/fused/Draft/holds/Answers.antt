use Rattle.std.proofs.Common.{◌≡◌, ◌⊎◌, ℕ, inl, inr, length, subst, arith}
use Rattle.std.proofs.lemmas.Bool.{cases_lt}
use Rattle.std.proofs.lemmas.Option.{slice_get_past}
use Rattle.bpf_same.specs.Fused.{IsCount, IsOutside, IsShared}
use Rattle.bpf_same.specs.Plans.{plan_of}
use Rattle.bpf_same.proofs.TogetherLemmas.{shared_past}
use Rattle.bpf_same.proofs.fused.Draft.holds.Goals as goal

pub loop-at-init : goal.loop-at-init
loop-at-init c = λ q l. absurd (omega (arith, l))

pub loop-at-preserved : goal.loop-at-preserved
loop-at-preserved c = λ q l.
    elim (cases_lt q c.loop-at.at) [
      | inl old ↦ c.loop-at.invariant q old
      | inr high ↦
          let this : c.loop-at.at ≡ q = omega (arith, l, high) in
          let plan = plan_of c.args.self.now in
          subst (λ (q : ℕ). IsOutside plan q → IsShared plan q ⊎ IsCount plan q) this (c.is_as_said.ensures c.if-not-is_as_said.false)
    ]

pub returns : goal.returns
returns c = λ t. record {
  begins = c.is_outside.ensures c.if-not-is_outside.false;
  each = λ p out.
      elim (cases_lt p (length c.args.self.now.roles.now)) [
        | inl low ↦ c.loop-at.invariant p (omega (arith, low, c.loop-at-test.false)) out
        | inr high ↦ inl (shared_past (plan_of c.args.self.now) p (slice_get_past c.args.self.now.new.now p (omega (arith, high, c.if-self.false))))
      ];
}
