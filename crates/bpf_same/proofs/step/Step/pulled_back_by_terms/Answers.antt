use Rattle.std.proofs.Common.{◌≡◌, ◌∙◌, ap, arith, ℕ, Some}
use Rattle.bpf_note.specs.Parts.{facts}
use Rattle.bpf_same.specs.LinearForms.{plus, gathered}
use Rattle.bpf_same.proofs.PreserveLemmas.{all_gathered, none_before}
use Rattle.bpf_same.proofs.step.Step.pulled_back_by_terms.Goals as goal

pub loop-term-init : goal.loop-term-init
loop-term-init c =
    let s = c.args.self.now in
    (omega arith, none_before s.insn s.stutters s.low (facts s.after.now) s.before.now c.args.form c.constant-all.result (omega arith) c.constant-all.ensures)

pub loop-term-preserved : goal.loop-term-preserved
loop-term-preserved c = (omega (arith, c.loop-term-test.true), c.in-Some.ensures c.loop-term.invariant.1)

pub returns : goal.returns
returns c = λ f g f' g' t h.
    let all : 64 ≡ c.loop-term.term = omega (arith, c.loop-term.invariant.0, c.loop-term-test.false) in
    ap (λ (n : ℕ). plus (Some c.args.form.constant) (gathered f' c.args.form.terms n)) all ∙ c.loop-term.invariant.1 f g f' g' t h

pub returns-then-form-term-eq0 : goal.returns-then-form-term-eq0
returns-then-form-term-eq0 c = λ f g f' g' t h.
    ap (plus (Some c.args.form.constant)) (all_gathered f' c.args.form.terms c.loop-term.term (omega (arith, c.loop-term-test.true)) c.if-form-term-eq0.true) ∙ c.loop-term.invariant.1 f g f' g' t h
