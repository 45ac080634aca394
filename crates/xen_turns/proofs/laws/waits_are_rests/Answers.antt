use Rattle.xen_turns.proofs.WaitLemmas.{rows_wait, wait_ends, wait_rows}
use Rattle.xen_turns.proofs.laws.waits_are_rests.Goals as goal

pub returns : goal.returns
returns c = record { rests = wait_rows; waits = rows_wait; ends = wait_ends }
