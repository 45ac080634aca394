use Rattle.std.proofs.Common.{◌∙◌}
use Rattle.bpf_same.proofs.step.Step.register_left.Goals as goal

pub returns : goal.returns
returns c = λ f g f' g' t h. t.kept c.args.register c.requires.small c.requires.left ∙ c.new_form.ensures f g h
