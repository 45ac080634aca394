use Rattle.std.proofs.Common.{refl}
use Rattle.bpf_same.proofs.SharperLemmas.{unites}
use Rattle.bpf_same.proofs.sharper.united.Goals as goal

pub returns-in-Some : goal.returns-in-Some
returns-in-Some c = unites c.args.one.low c.args.one.high c.args.other.low c.args.other.high c.args.one.low c.in-Some.high refl c.in-Some.ensures.1
