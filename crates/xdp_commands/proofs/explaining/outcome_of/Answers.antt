use Rattle.xdp_commands.proofs.explaining.outcome_of.Goals as goal

pub loss_of-requires-clause-structured : goal.loss_of-requires-clause-structured
loss_of-requires-clause-structured c = c.in-Err-explain.ensures.structured
