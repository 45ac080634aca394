use Rattle.std.proofs.Common.{arith}
use Rattle.thread_pair.proofs.SendingLemmas.{less_left}
use Rattle.thread_pair.proofs.outbox.Outbox.pass.Goals as goal

-- src/outbox.rt:48:5
pub returns : goal.returns
returns c h few =
    let self = c.args.self.now in
    let sum = c.saturating_add-self.ensures in
    less_left self.queue self.sent c.saturating_add-self.result self.left.now h (omega (arith, sum, few))
