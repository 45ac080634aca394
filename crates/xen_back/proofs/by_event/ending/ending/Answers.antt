use Rattle.xen_back.proofs.FeedLemmas.{asks_nothing}
use Rattle.xen_back.proofs.by_event.ending.ending.Goals as goal

pub unreachable-requires-in_default : goal.unreachable-requires-in_default
unreachable-requires-in_default c =
    let e = c.requires in
    asks_nothing e.0 c.args.state.now e.1 c.args.phase.now c.in_default.not-Ready c.in_default.not-Ended e.2
