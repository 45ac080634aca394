use Rattle.std.proofs.Common.{refl}
use Rattle.xen_host.specs.Asks as ask
use Rattle.xen_host.proofs.HostLemmas.{put_asked}
use Rattle.xen_host.proofs.host.OpsHost.notify.Goals as goal

pub returns-clause-asked : goal.returns-clause-asked
returns-clause-asked c =
    put_asked (ask.Notify c.args.port) c.notify.result _ _ refl c.notify.ensures c.requires c.put.ensures.ops c.put.ensures.counted c.put.ensures.words c.put.ensures.loan
