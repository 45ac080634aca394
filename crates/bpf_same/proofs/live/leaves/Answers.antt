use Rattle.std.proofs.Common.{rules, ◌≡◌, ◌⊎◌, ℕ, inl, inr, true, subst, arith}
use Rattle.std.proofs.lemmas.Bool.{cases_lt}
use Rattle.bpf_same.specs.LinearForms.{bit}
use Rattle.bpf_same.specs.Stepped.{alters}
use Rattle.bpf_same.proofs.live.leaves.Goals as goal

pub loop-register-init : goal.loop-register-init
loop-register-init c = λ k l. absurd (omega (arith, l))

pub loop-register-preserved : goal.loop-register-preserved
loop-register-preserved c = λ k l.
    elim (cases_lt k c.loop-register.register) [
      | inl old ↦ c.loop-register.invariant k old
      | inr high ↦
          let this : c.loop-register.register ≡ k = omega (arith, l, high) in
          let left : c.is_left.result ≡ true = search rules in
          subst (λ (k : ℕ). bit c.args.after k ≡ 1 → (bit c.args.before k ≡ 1) ⊎ (alters c.args.insn k ≡ true)) this (c.is_left.ensures left)
    ]

pub returns : goal.returns
returns c = λ t k l. c.loop-register.invariant k (omega (arith, l, c.loop-register-test.false))
