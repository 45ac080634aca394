use Rattle.std.proofs.Common.{refl}
use Rattle.xen_host.specs.Asks as ask
use Rattle.xen_host.proofs.HostLemmas.{put_asked}
use Rattle.xen_host.proofs.host.OpsHost.read_entry.Goals as goal

pub returns : goal.returns
returns c =
    put_asked (ask.Entry c.args.at c.args.reference c.args.rights) c.read_entry.result _ _ refl c.read_entry.ensures c.requires c.put.ensures.ops c.put.ensures.counted c.put.ensures.words c.put.ensures.loan
