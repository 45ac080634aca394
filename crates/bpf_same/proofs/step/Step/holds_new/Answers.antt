use Rattle.bpf_same.proofs.step.Step.holds_new.Goals as goal

pub returns : goal.returns
returns c = λ t. c.is_found.ensures t

pub returns-then-preserves_new : goal.returns-then-preserves_new
returns-then-preserves_new c = λ t f g f' g' h stepped holds contain finds. c.preserves_new.ensures c.if-preserves_new.true f g f' g' stepped holds
