use Rattle.std.proofs.Common.{arith, rules, ℕ, ◌≡◌, ◌≢◌, true, not}
use Rattle.std.specs.Prelude.{◌==◌}
use Rattle.std.proofs.lemmas.Bool.Decides.{nat_tests}
use Rattle.bpf_same.proofs.ContentLemmas.{forms_apart}
use Rattle.bpf_same.proofs.linear_form.LinearForm.is_apart.Goals as goal

differ : (x y : ℕ) → not (x == y) ≡ true → x ≢ y
differ x y t = grind (arith, nat_tests)

pub returns-then-self-other : goal.returns-then-self-other
returns-then-self-other c = λ t f a b p q.
    let same : c.args.self.terms ≡ c.args.other.terms = search rules in
    forms_apart f c.args.self c.args.other a b same (omega arith) (omega arith) c.if-self-other.true p q

pub returns-else-self-other : goal.returns-else-self-other
returns-else-self-other c = λ t. absurd (differ _ _ t c.if-self-other.false)
