use Rattle.std.proofs.Common.{refl}
use Rattle.xen_host.specs.Asks as ask
use Rattle.xen_host.proofs.HostLemmas.{put_asked}
use Rattle.xen_host.proofs.host.OpsHost.awaited.Goals as goal

pub returns : goal.returns
returns c =
    put_asked (ask.WaitOver c.args.awaited) c.awaited.result _ _ refl c.awaited.ensures c.requires c.put.ensures.ops c.put.ensures.counted c.put.ensures.words c.put.ensures.loan
