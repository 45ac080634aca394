use Rattle.std.proofs.Common.{arith, sym, ◌∙◌}
use Rattle.bpf_note.specs.Parts.{facts}
use Rattle.bpf_same.proofs.CaughtLemmas.{sum_if}
use Rattle.bpf_same.proofs.caught.added_alone.Goals as goal

pub returns-then-is_there : goal.returns-then-is_there
returns-then-is_there c =
    sum_if c.args.dst c.args.src c.number-register.result c.args.relation.now c.with_old.result (facts c.args.note.now) c.in-Some.form c.moved.result c.in-Some-old_constant.by c.number-register.ensures.number
    (λ ten. omega (arith, ten, c.if-register-eq-FRAME.false)) (sym c.old_form.ensures ∙ c.in-Some.is) c.in-Some-old_constant.ensures (c.is_there.ensures c.if-is_there.true) c.moved.ensures c.with_old.ensures
