use Rattle.std.proofs.Common.{take}
use Rattle.honest_pair.specs.Events.{events_in}
use Rattle.honest_pair.specs.Shows.{HasDone}
use Rattle.honest_pair.proofs.pair.Pair.steps.Given as goal

abbrev pub invariant-loop-event : goal.invariant-loop-event
invariant-loop-event l = HasDone l.fn.self l.self (events_in (take l.event-index l.events))
