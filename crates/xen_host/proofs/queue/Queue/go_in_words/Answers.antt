use Rattle.std.proofs.Common.{arith}
use Rattle.xdp_program.specs.Ran.{IsHistory}
use Rattle.xdp_program.proofs.TallyLemmas.{history_length, history_of, loan_of}
use Rattle.xen_host.specs.Queues.{wired_to}
use Rattle.xen_host.proofs.SeveralLemmas.{together_also}
use Rattle.xen_host.proofs.queue.Queue.go_in_words.Goals as goal

pub go_together-requires-clause-serving : goal.go_together-requires-clause-serving
go_together-requires-clause-serving c = λ labels after went.
    let shapes = (wired_to c.args.self.now).program.shapes in
    omega (arith, c.requires.counts, history_length shapes labels c.args.counters.now.words.now after.words.now (history_of shapes labels c.args.counters.now after went))

pub returns-clause-stepped : goal.returns-clause-stepped
returns-clause-stepped c = λ g t.
    let shapes = (wired_to c.args.self.now).program.shapes in
    let before = c.args.counters.now in
    let after = c.go_together.new.counters in
    together_also (λ labels. IsHistory shapes labels before.words.now after.words.now) (λ labels h. history_of shapes labels before after h) (c.go_together.ensures.stepped g t)

pub returns-clause-counters : goal.returns-clause-counters
returns-clause-counters c =
    let shapes = (wired_to c.args.self.now).program.shapes in
    let r = c.go_together in
    history_length shapes r.ensures.went.0 c.args.counters.now.words.now r.new.counters.words.now (history_of shapes r.ensures.went.0 c.args.counters.now r.new.counters r.ensures.went.1)

pub returns-clause-loan : goal.returns-clause-loan
returns-clause-loan c = loan_of (wired_to c.args.self.now).program.shapes c.go_together.ensures.went.0 c.args.counters.now c.go_together.new.counters c.go_together.ensures.went.1
