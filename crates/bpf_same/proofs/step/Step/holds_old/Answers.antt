use Rattle.bpf_same.proofs.step.Step.holds_old.Goals as goal

pub returns : goal.returns
returns c = λ t. c.is_old_found.ensures t

pub returns-then-preserves_old : goal.returns-then-preserves_old
returns-then-preserves_old c = λ t f g f' g' h stepped holds contain finds. c.preserves_old.ensures c.if-preserves_old.true f g f' g' stepped holds
