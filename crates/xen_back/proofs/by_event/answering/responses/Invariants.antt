use Rattle.std.proofs.Common.{◌≡◌, take, map}
use Rattle.xen_turns.specs.Tree.{response}
use Rattle.xen_back.proofs.by_event.answering.responses.Given as goal

abbrev pub invariant-loop-request : goal.invariant-loop-request
invariant-loop-request l = l.words.items ≡ map (response l.status) (take l.request-index l.request-items)
