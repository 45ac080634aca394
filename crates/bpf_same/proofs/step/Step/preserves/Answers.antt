use Rattle.std.proofs.Common.{rules, ◌≡◌, ℕ, Some, inl, inr, true, sym, subst, arith}
use Rattle.std.proofs.lemmas.Bool.{cases_lt}
use Rattle.bpf_note.specs.Parts.{facts}
use Rattle.bpf_same.specs.LinearForms.{old_of, new_of, room_of, bound_of, shifted_of}
use Rattle.bpf_same.specs.Contents.{IsOldFound, IsNewFound}
use Rattle.bpf_same.specs.Stepped.{PreservesBound, PreservesShifted}
use Rattle.bpf_same.proofs.step.Step.preserves.Goals as goal

pub loop-register-preserved : goal.loop-register-preserved
loop-register-preserved c = λ k low s e.
    let t = c.args.self.now in
    elim (cases_lt k c.loop-register.register) [
      | inl old ↦ c.loop-register.invariant k old s e
      | inr high ↦
          let this : c.loop-register.register ≡ k = omega (arith, low, high) in
          let holds : c.preserves_register.result ≡ true = search rules in
          subst (λ (k : ℕ). IsOldFound t.alone t.insn t.stutters t.low (facts t.after.now) t.before.now k s) this (c.preserves_register.ensures holds s (subst (λ (k : ℕ). old_of c.args.next.now k ≡ Some s) (sym this) e))
    ]

pub loop-term-init : goal.loop-term-init
loop-term-init c = (λ k small s e. c.loop-register.invariant k (omega (arith, small, c.loop-register-test.false)) s e, λ n low s e. absurd (omega (arith, low)))

pub loop-term-preserved : goal.loop-term-preserved
loop-term-preserved c = (
  c.loop-term.invariant.0,
  λ n low s e.
      let t = c.args.self.now in
      elim (cases_lt n c.loop-term.term) [
        | inl old ↦ c.loop-term.invariant.1 n old s e
        | inr high ↦
            let this : c.loop-term.term ≡ n = omega (arith, low, high) in
            let holds : c.preserves_term.result ≡ true = search rules in
            subst (λ (n : ℕ). IsNewFound t.alone t.insn t.stutters t.low (facts t.after.now) t.before.now n s) this (c.preserves_term.ensures holds s (subst (λ (n : ℕ). new_of c.args.next.now n ≡ Some s) (sym this) e))
      ],
)

pub loop-number-init : goal.loop-number-init
loop-number-init c = (c.loop-term.invariant.0, λ n small s e. c.loop-term.invariant.1 n (omega (arith, small, c.loop-term-test.false)) s e, λ r low room e. absurd (omega (arith, low)))

pub loop-number-preserved : goal.loop-number-preserved
loop-number-preserved c = (
  c.loop-number.invariant.0,
  c.loop-number.invariant.1,
  λ r low room e.
      elim (cases_lt r c.loop-number.number) [
        | inl old ↦ c.loop-number.invariant.2 r old room e
        | inr high ↦
            let this : c.loop-number.number ≡ r = omega (arith, low, high) in
            let holds : c.preserves_room.result ≡ true = search rules in
            c.preserves_room.ensures holds room (subst (λ (r : ℕ). room_of c.args.next.now r ≡ Some room) (sym this) e)
      ],
)

pub loop-index-init : goal.loop-index-init
loop-index-init c = (c.loop-number.invariant.0, c.loop-number.invariant.1, λ r small room e. c.loop-number.invariant.2 r (omega (arith, small, c.loop-number-test.false)) room e, λ r low b e. absurd (omega (arith, low)))

pub loop-index-preserved : goal.loop-index-preserved
loop-index-preserved c = (
  c.loop-index.invariant.0,
  c.loop-index.invariant.1,
  c.loop-index.invariant.2,
  λ k low r e.
      let t = c.args.self.now in
      elim (cases_lt k c.loop-index.index) [
        | inl old ↦ c.loop-index.invariant.3 k old r e
        | inr high ↦
            let this : c.loop-index.index ≡ k = omega (arith, low, high) in
            let holds : c.preserves_bound.result ≡ true = search rules in
            subst (λ (k : ℕ). PreservesBound t.insn t.stutters t.low (facts t.after.now) t.before.now k r) this (c.preserves_bound.ensures holds r (subst (λ (k : ℕ). bound_of c.args.next.now k ≡ Some r) (sym this) e))
      ],
)

pub loop-shifted-init : goal.loop-shifted-init
loop-shifted-init c =
    (c.loop-index.invariant.0, c.loop-index.invariant.1, c.loop-index.invariant.2, λ r small b e. c.loop-index.invariant.3 r (omega (arith, small, c.loop-index-test.false)) b e, λ k low s e. absurd (omega (arith, low)))

pub loop-shifted-preserved : goal.loop-shifted-preserved
loop-shifted-preserved c = (
  c.loop-shifted.invariant.0,
  c.loop-shifted.invariant.1,
  c.loop-shifted.invariant.2,
  c.loop-shifted.invariant.3,
  λ k low s e.
      let t = c.args.self.now in
      elim (cases_lt k c.loop-shifted.shifted) [
        | inl old ↦ c.loop-shifted.invariant.4 k old s e
        | inr high ↦
            let this : c.loop-shifted.shifted ≡ k = omega (arith, low, high) in
            let holds : c.preserves_shifted.result ≡ true = search rules in
            subst (λ (k : ℕ). PreservesShifted t.insn t.stutters t.low (facts t.after.now) t.before.now k s) this (c.preserves_shifted.ensures holds s (subst (λ (k : ℕ). shifted_of c.args.next.now k ≡ Some s) (sym this) e))
      ],
)

pub returns : goal.returns
returns c = λ r f g f' g' k t h contain finds. record {
  olds = λ j s small e. c.loop-shifted.invariant.0 j small s e f g f' g' k t h contain finds;
  news = λ n s small e. c.loop-shifted.invariant.1 n small s e f g f' g' k t h contain finds;
  rooms = λ k room small e. c.loop-shifted.invariant.2 k small room e f g f' g' t h;
  bounds = λ k b small e. c.loop-shifted.invariant.3 k small b e f g f' g' t h;
  shifted = λ k s small e. c.loop-shifted.invariant.4 k (omega (arith, small, c.loop-shifted-test.false)) s e f g f' g' t h;
  words = t.fits;
}
