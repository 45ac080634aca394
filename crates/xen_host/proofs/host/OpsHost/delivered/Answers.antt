use Rattle.std.proofs.Common.{refl}
use Rattle.xen_host.specs.Asks as ask
use Rattle.xen_host.proofs.HostLemmas.{put_asked}
use Rattle.xen_host.proofs.host.OpsHost.delivered.Goals as goal

pub returns : goal.returns
returns c =
    put_asked (ask.DeliveryOver c.args.delivery) c.delivered.result _ _ refl c.delivered.ensures c.requires c.put.ensures.ops c.put.ensures.counted c.put.ensures.words c.put.ensures.loan
