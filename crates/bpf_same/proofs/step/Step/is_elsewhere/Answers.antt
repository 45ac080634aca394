use Rattle.std.proofs.Common.{rules, FitsSigned, w16, to_z, ◌≡◌, sym, ap, ◌∙◌, pos}
use Rattle.std.proofs.lemmas.Int.{to_z-of_z}
use Rattle.bpf_note.specs.Parts.{facts}
use Rattle.bpf_same.proofs.ContentLemmas.{elsewhere_if}
use Rattle.bpf_same.proofs.step.Step.is_elsewhere.Goals as goal

pub returns-then-off-eq0 : goal.returns-then-off-eq0
returns-then-off-eq0 c = λ t.
    let s = c.args.self.now in
    let fits : FitsSigned w16 c.in-AddCounter.off = search rules in
    let none : c.in-AddCounter.off ≡ pos 0 = sym (to_z-of_z w16 c.in-AddCounter.off fits) ∙ ap (to_z w16) c.if-off-eq0.true in
    elsewhere_if s.insn s.stutters s.low (facts s.after.now) s.before.now c.args.address c.in-AddCounter.fetch c.in-AddCounter.dst c.in-AddCounter.src c.in-AddCounter.off c.number.result c.in-AddCounter.is none c.number.ensures.number (c.is_value_apart.ensures t)
