use Rattle.std.proofs.Common.{w16, ap, ◌∙◌, ℕ, Some}
use Rattle.std.proofs.lemmas.Int.{to_z-of_z}
use Rattle.bpf_insn.specs.Signed.{sign_extended}
use Rattle.bpf_same.specs.LinearForms.{plus, total}
use Rattle.bpf_same.proofs.copied.at_offset.Goals as goal

pub returns : goal.returns
returns c = λ f. c.moved.ensures f ∙ ap (λ (by : ℕ). plus (total f c.args.form) (Some by)) (c.offset.ensures ∙ ap sign_extended (to_z-of_z w16 c.args.off c.ranges.off))
