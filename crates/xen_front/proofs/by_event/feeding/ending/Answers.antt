use Rattle.xen_front.proofs.RestLemmas.{asks_nothing}
use Rattle.xen_front.proofs.by_event.feeding.ending.Goals as goal

pub unreachable-requires : goal.unreachable-requires
unreachable-requires c =
    let r = c.requires in
    asks_nothing r.0 r.1 r.2 r.3 c.args.phase c.in_default.not-Ready c.in_default.not-Ended r.4
