use Rattle.xdp_program.proofs.SettingsLemmas.{fault_seen}
use Rattle.xdp_program.proofs.program.Program.relist.Goals as goal

pub returns-in-Err-clause-refused : goal.returns-in-Err-clause-refused
returns-in-Err-clause-refused c = rw c.fault.ensures (fault_seen c.args.text.now c.in-Err.error c.in-Err.ensures.refused)
