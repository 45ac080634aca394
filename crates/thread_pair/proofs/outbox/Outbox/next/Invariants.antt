use Rattle.std.proofs.Common.{◌≡◌, length}
use Rattle.thread_pair.specs.Sending.{still_to_send}
use Rattle.thread_pair.proofs.outbox.Outbox.next.Given as goal

abbrev pub invariant-loop-packet : goal.invariant-loop-packet
invariant-loop-packet l = still_to_send l.self ≡ still_to_send l.fn.self

abbrev pub decreases-loop-packet : goal.decreases-loop-packet
decreases-loop-packet l = length l.self.left.now
