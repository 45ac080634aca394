use Rattle.xdp_host.proofs.laxonje_load_settings.Goals as goal

pub returns-clause-accepted : goal.returns-clause-accepted
returns-clause-accepted c = λ s code spelled fine faultless. c.set.ensures.out_of_memory (c.load_settings-loaded.ensures.accepted s code spelled fine faultless)
