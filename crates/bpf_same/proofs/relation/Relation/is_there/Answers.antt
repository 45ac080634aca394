use Rattle.std.proofs.Common.{◌∙◌, arith}
use Rattle.bpf_note.specs.Parts.{facts}
use Rattle.bpf_same.proofs.CaughtLemmas.{is_there}
use Rattle.bpf_same.proofs.relation.Relation.is_there.Goals as goal

pub returns-in_default : goal.returns-in_default
returns-in_default c = λ t.
    is_there (facts c.args.note.now) c.args.self.now c.new_form-held.result c.args.form c.args.register c.requires (λ e. c.in_default.not-Unset (c.register.ensures.value ∙ e)) (omega (arith, c.if-held-form.false)) c.new_form-held.ensures
