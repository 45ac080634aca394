use Rattle.std.proofs.Common.{rules}
use Rattle.xen_drive.proofs.whole.await_slots.Goals as goal

pub returns-clause-awaited : goal.returns-clause-awaited
returns-clause-awaited g c = (c.await_in_words.result, c.op.ensures, search rules)
