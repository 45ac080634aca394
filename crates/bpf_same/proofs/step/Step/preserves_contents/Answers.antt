use Rattle.std.proofs.Common.{rules, ◌≡◌, ℕ, Some, inl, inr, true, sym, subst, arith}
use Rattle.std.proofs.lemmas.Bool.{cases_lt}
use Rattle.bpf_same.specs.Contents.{content_of}
use Rattle.bpf_same.proofs.step.Step.preserves_contents.Goals as goal

pub loop-index-preserved : goal.loop-index-preserved
loop-index-preserved c = λ k low content e.
    elim (cases_lt k c.loop-index.index) [
      | inl old ↦ c.loop-index.invariant k old content e
      | inr high ↦
          let this : c.loop-index.index ≡ k = omega (arith, low, high) in
          let holds : c.preserves_content.result ≡ true = search rules in
          c.preserves_content.ensures holds content (subst (λ (k : ℕ). content_of c.args.next.now k ≡ Some content) (sym this) e)
    ]

pub returns : goal.returns
returns c = λ r k content small e. c.loop-index.invariant k (omega (arith, small, c.loop-index-test.false)) content e
