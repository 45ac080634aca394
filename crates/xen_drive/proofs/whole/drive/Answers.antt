use Rattle.std.proofs.Common.{rules}
use Rattle.xen_drive.proofs.whole.drive.Goals as goal

pub returns-clause-turned : goal.returns-clause-turned
returns-clause-turned g c = (c.drive_in_words.result, c.op.ensures, search rules)
