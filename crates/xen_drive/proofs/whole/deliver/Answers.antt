use Rattle.std.proofs.Common.{rules}
use Rattle.xen_drive.proofs.whole.deliver.Goals as goal

pub returns-clause-delivered : goal.returns-clause-delivered
returns-clause-delivered g c = (c.deliver_in_words.result, c.op.ensures, search rules)
