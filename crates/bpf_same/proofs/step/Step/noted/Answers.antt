use Rattle.std.proofs.Common.{sym, ap, ◌∙◌}
use Rattle.bpf_same.specs.Stepped.{number_in}
use Rattle.bpf_same.proofs.step.Step.noted.Goals as goal

pub returns-in-Some : goal.returns-in-Some
returns-in-Some c = λ f g f' g' t h. t.noted c.args.register c.in-Some.number (ap number_in (sym c.register.ensures.value) ∙ c.in-Some.ensures) c.requires ∙ sym (c.constant.ensures f)
