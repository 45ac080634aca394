use Rattle.xdp_program.proofs.SettingsLemmas.{relist_accepted}
use Rattle.xdp_program.proofs.program.Program.relisted.Goals as goal

pub returns-clause-accepted : goal.returns-clause-accepted
returns-clause-accepted c = relist_accepted c.relist.result c.args.text.now c.args.self.now c.relist.ensures.lists c.relist.ensures.refused
