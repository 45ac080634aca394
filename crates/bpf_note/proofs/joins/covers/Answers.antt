use Rattle.std.proofs.Common.{◌≡◌, ◌∙◌, sym, subst, true, false, inr}
use Rattle.bpf_note.specs.Facts.{Facts}
use Rattle.bpf_note.specs.Parts.{facts}
use Rattle.bpf_note.specs.Describes.{Describes}
use Rattle.bpf_note.proofs.FactLemmas.{noted, covers_all, registers_covered, slots_covered, bounds_covered}
use Rattle.bpf_note.proofs.JoinDescribes.{joined_describes}
use Rattle.bpf_note.proofs.joins.covers.Goals.{then-covers_registers, else-covers_registers}
use Rattle.bpf_note.proofs.joins.covers.Goals as goal

never : {P : Type 0} → false ≡ true → P
never e = absurd (cc)

pub returns-then-covers_stack-clause-exact : goal.returns-then-covers_stack-clause-exact
returns-then-covers_stack-clause-exact c =
    let a = noted c.a.inside.regs c.a.inside.slots c.a.inside.bounds in
    let b = noted c.b.inside.regs c.b.inside.slots c.b.inside.bounds in
    rw (← c.a.view_is, ← c.b.view_is) (elim c.if-covers_registers.branch [
      | then-covers_registers w ↦ (
        λ t. covers_all a b (c.covers_registers.ensures.0 w.if-covers_registers.true) (w.covers_stack.ensures.0 (sym w.value-is ∙ c.if-covers_stack.true))
            (c.covers.ensures.0 t),
        λ e. c.covers.ensures.1 (bounds_covered a b c.a.invariant.0 e),
      )
      | else-covers_registers w ↦ never (sym w.if-covers_registers.false ∙ sym w.value-is ∙ c.if-covers_stack.true)
    ])

pub returns-else-covers_stack-clause-exact : goal.returns-else-covers_stack-clause-exact
returns-else-covers_stack-clause-exact c =
    let a = noted c.a.inside.regs c.a.inside.slots c.a.inside.bounds in
    let b = noted c.b.inside.regs c.b.inside.slots c.b.inside.bounds in
    rw (← c.a.view_is, ← c.b.view_is) (elim c.if-covers_registers.branch [
      | then-covers_registers w ↦ (λ t. never (sym c.if-covers_stack.false ∙ t), λ e. w.value-is ∙ w.covers_stack.ensures.1 (slots_covered a b e))
      | else-covers_registers w ↦ (λ t. never (sym c.if-covers_stack.false ∙ t), λ e. w.value-is ∙ c.covers_registers.ensures.1 (registers_covered a b e))
    ])

pub returns-then-covers_stack-clause-describes : goal.returns-then-covers_stack-clause-describes
returns-then-covers_stack-clause-describes c = λ t s d.
    subst (λ (f : Facts). Describes f s) ((returns-then-covers_stack-clause-exact c).0 t) (joined_describes (facts c.args.a.now) (facts c.args.b.now) s (inr d))
