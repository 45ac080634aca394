use Rattle.std.proofs.Common.{◌∙◌, ap}
use Rattle.bpf_same.proofs.step.Step.is_found.Goals as goal

pub returns-then-register-number : goal.returns-then-register-number
returns-then-register-number c = λ t f g f' g' h stepped holds contain finds.
    ap f' (c.if-register-number.true ∙ c.number.ensures.number) ∙ c.is_standing.ensures t f g f' g' h stepped holds contain finds
