use Rattle.std.proofs.Common.{◌∙◌, sym, subst}
use Rattle.bpf_note.specs.Parts.{facts}
use Rattle.bpf_same.specs.declared.range.Range.{Range}
use Rattle.bpf_same.specs.Stepped.{PreservesBound}
use Rattle.bpf_same.proofs.RoomLemmas.{some_same}
use Rattle.bpf_same.proofs.step.Step.preserves_bound.Goals as goal

pub returns-in-Some : goal.returns-in-Some
returns-in-Some c = λ t r e.
    let s = c.args.self.now in
    subst (λ (r : Range). PreservesBound s.insn s.stutters s.low (facts s.after.now) s.before.now c.args.register r) (some_same (sym c.in-Some.is ∙ (c.bound.ensures ∙ e))) (c.is_bounded.ensures t)
