use Rattle.xdp_program.proofs.LoadLemmas.{load_accepted}
use Rattle.xdp_program.proofs.program.Program.load.Goals as goal

pub returns-clause-accepted : goal.returns-clause-accepted
returns-clause-accepted c = load_accepted c.faultless_programs_are_accepted.ensures c.accept.result c.args.bytes.now c.args.shapes.now c.accept.ensures.spelled c.accept.ensures.refused
