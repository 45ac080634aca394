use Rattle.std.proofs.Common.{w16, ℤ, sym, ap, ◌∙◌}
use Rattle.std.proofs.lemmas.Int.{to_z-of_z}
use Rattle.bpf_note.specs.Parts.{facts}
use Rattle.bpf_same.specs.Moved.{address_in}
use Rattle.bpf_same.proofs.ContentLemmas.{loaded_stands}
use Rattle.bpf_same.proofs.step.Step.is_loaded_by.Goals as goal

pub returns-then-is : goal.returns-then-is
returns-then-is c = λ t.
    let s = c.args.self.now in
    loaded_stands s.insn s.stutters s.low (facts s.after.now) s.before.now c.args.dst c.args.src c.args.off c.number.result c.address.result c.args.address c.held.result c.args.number c.requires c.number.ensures.number
    (λ f g h. sym (ap (λ (off : ℤ). address_in f c.args.src off) (to_z-of_z w16 c.args.off c.ranges.off)) ∙ c.address.ensures f g h)
    (c.is.ensures c.if-is.true) c.held.ensures (c.is-then-is.ensures t)
