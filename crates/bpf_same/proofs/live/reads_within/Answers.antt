use Rattle.std.proofs.Common.{◌≡◌, ℕ, inl, inr, true, subst, arith, ap, ◌∙◌}
use Rattle.std.specs.Prelude.{slice_index_or}
use Rattle.std.proofs.lemmas.Bool.{cases_lt}
use Rattle.bpf_insn.specs.Register.{number}
use Rattle.bpf_insn.specs.declared.register.Register.{Register}
use Rattle.bpf_insn.specs.declared.register.Register.TheVariants.{R0}
use Rattle.bpf_flow.specs.Graph.{reads}
use Rattle.bpf_flow.proofs.RegisterLemmas.{number_small}
use Rattle.bpf_same.specs.LinearForms.{bit}
use Rattle.bpf_same.proofs.LiveLemmas.{registers, register_at}
use Rattle.bpf_same.proofs.live.reads_within.Goals as goal

pub loop-at-init : goal.loop-at-init
loop-at-init c = λ r l. absurd (omega (arith, l))

pub loop-at-preserved : goal.loop-at-preserved
loop-at-preserved c = λ r l.
    elim (cases_lt (number r) c.loop-at.at) [
      | inl old ↦ c.loop-at.invariant r old
      | inr high ↦
          let this : c.loop-at.at ≡ number r = omega (arith, l, high) in
          let fact = c.is_within.ensures c.if-not-is_within.false in
          subst (λ (q : Register). reads c.args.insn (number q) ≡ true → bit c.args.mask (number q) ≡ 1) (ap (λ (k : ℕ). slice_index_or registers k R0) this ∙ register_at R0 r) fact
    ]

pub returns : goal.returns
returns c = λ t r. c.loop-at.invariant r (omega (arith, c.loop-at-test.false, number_small r))
