use Rattle.std.proofs.Common.{rules, ◌≡◌, ◌∙◌, ℕ, Some, None, inl, inr, true, sym, subst, arith}
use Rattle.std.proofs.lemmas.Bool.{cases_lt}
use Rattle.bpf_same.specs.LinearForms.{old_of, new_of, room_of, bound_of, shifted_of, total, IsWord}
use Rattle.bpf_same.proofs.start.holds_at_entry.Goals as goal

pub loop-register-preserved : goal.loop-register-preserved
loop-register-preserved c = λ k low s e f w.
    elim (cases_lt k c.loop-register.register) [
      | inl old ↦ c.loop-register.invariant k old s e f w
      | inr high ↦
          let this : c.loop-register.register ≡ k = omega (arith, low, high) in
          let holds : c.is_itself.result ≡ true = search rules in
          subst (λ (k : ℕ). IsWord (f k) → total f s ≡ f k) this (c.is_itself.ensures holds s (subst (λ (k : ℕ). old_of c.args.relation.now k ≡ Some s) (sym this) e) f) w
    ]

pub loop-term-init : goal.loop-term-init
loop-term-init c = (λ k small s e f w. c.loop-register.invariant k (omega (arith, small, c.loop-register-test.false)) s e f w, λ n low. absurd (omega (arith, low)))

pub loop-term-preserved : goal.loop-term-preserved
loop-term-preserved c = (
  c.loop-term.invariant.0,
  λ n low.
      elim (cases_lt n c.loop-term.term) [
        | inl old ↦ c.loop-term.invariant.1 n old
        | inr high ↦
            let this : c.loop-term.term ≡ n = omega (arith, low, high) in
            let holds : c.is_free.result ≡ true = search rules in
            subst (λ (n : ℕ). new_of c.args.relation.now n ≡ None) this (c.is_free.ensures holds)
      ],
)

pub loop-number-init : goal.loop-number-init
loop-number-init c = (c.loop-term.invariant.0, λ n small. c.loop-term.invariant.1 n (omega (arith, small, c.loop-term-test.false)), λ r low. absurd (omega (arith, low)))

pub loop-number-preserved : goal.loop-number-preserved
loop-number-preserved c = (
  c.loop-number.invariant.0,
  c.loop-number.invariant.1,
  λ r low.
      elim (cases_lt r c.loop-number.number) [
        | inl old ↦ c.loop-number.invariant.2 r old
        | inr high ↦
            let this : c.loop-number.number ≡ r = omega (arith, low, high) in
            let holds : c.is_roomless.result ≡ true = search rules in
            subst (λ (r : ℕ). room_of c.args.relation.now r ≡ None) this (c.is_roomless.ensures holds)
      ],
)

pub loop-index-init : goal.loop-index-init
loop-index-init c = (c.loop-number.invariant.0, c.loop-number.invariant.1, λ r small. c.loop-number.invariant.2 r (omega (arith, small, c.loop-number-test.false)), λ r low. absurd (omega (arith, low)))

pub loop-index-preserved : goal.loop-index-preserved
loop-index-preserved c = (
  c.loop-index.invariant.0,
  c.loop-index.invariant.1,
  c.loop-index.invariant.2,
  λ r low.
      elim (cases_lt r c.loop-index.index) [
        | inl old ↦ c.loop-index.invariant.3 r old
        | inr high ↦
            let this : c.loop-index.index ≡ r = omega (arith, low, high) in
            let holds : c.is_boundless.result ≡ true = search rules in
            subst (λ (r : ℕ). bound_of c.args.relation.now r ≡ None) this (c.is_boundless.ensures holds)
      ],
)

pub loop-shifted-init : goal.loop-shifted-init
loop-shifted-init c = (c.loop-index.invariant.0, c.loop-index.invariant.1, c.loop-index.invariant.2, λ r small. c.loop-index.invariant.3 r (omega (arith, small, c.loop-index-test.false)), λ k low. absurd (omega (arith, low)))

pub loop-shifted-preserved : goal.loop-shifted-preserved
loop-shifted-preserved c = (
  c.loop-shifted.invariant.0,
  c.loop-shifted.invariant.1,
  c.loop-shifted.invariant.2,
  c.loop-shifted.invariant.3,
  λ k low.
      elim (cases_lt k c.loop-shifted.shifted) [
        | inl old ↦ c.loop-shifted.invariant.4 k old
        | inr high ↦
            let this : c.loop-shifted.shifted ≡ k = omega (arith, low, high) in
            let holds : c.is_unshifted.result ≡ true = search rules in
            subst (λ (k : ℕ). shifted_of c.args.relation.now k ≡ None) this (c.is_unshifted.ensures holds)
      ],
)

pub returns : goal.returns
returns c = λ t f g w same. record {
  olds = λ k s small e. same k small ∙ sym (c.loop-shifted.invariant.0 k small s e f (w k));
  news = λ n s small e. absurd (let none : new_of c.args.relation.now n ≡ None = c.loop-shifted.invariant.1 n small in cc (none, e));
  rooms = λ r room small e. absurd (let none : room_of c.args.relation.now r ≡ None = c.loop-shifted.invariant.2 r small in cc (none, e));
  bounds = λ r b small e. absurd (let none : bound_of c.args.relation.now r ≡ None = c.loop-shifted.invariant.3 r small in cc (none, e));
  shifted = λ k s small e. absurd (let none : shifted_of c.args.relation.now k ≡ None = c.loop-shifted.invariant.4 k (omega (arith, small, c.loop-shifted-test.false)) in cc (none, e));
  words = w;
}
