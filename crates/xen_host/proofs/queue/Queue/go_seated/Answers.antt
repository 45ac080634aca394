use Rattle.std.proofs.Common.{ap, sym, ◌∙◌}
use Rattle.std.specs.Prelude.{List}
use Rattle.bpf_maps.specs.Seats.{SeatView}
use Rattle.bpf_note.specs.declared.op.Op.{Op}
use Rattle.xdp_program.specs.Tallies.{HasGrown}
use Rattle.xdp_program.proofs.TallyLemmas.{grown_of, seat_of}
use Rattle.xen_host.specs.Queues.{wired_to}
use Rattle.xen_host.proofs.ShareLemmas.{serves_grown}
use Rattle.xen_host.proofs.SeveralLemmas.{together_also}
use Rattle.xen_host.proofs.queue.Queue.go_seated.Goals as goal

pub go_together-requires-clause-serving : goal.go_together-requires-clause-serving
go_together-requires-clause-serving c = λ labels after went. serves_grown (wired_to c.args.self.now).program.shapes labels c.args.counters.now after c.requires.counts went

pub returns-clause-stepped : goal.returns-clause-stepped
returns-clause-stepped c = λ g t.
    let shapes = (wired_to c.args.self.now).program.shapes in
    let before = c.args.counters.now in
    let after = c.go_together.new.counters in
    together_also (HasGrown before.seat.now after.seat.now) (λ labels h. grown_of shapes labels before after h) (c.go_together.ensures.stepped g t)

pub returns-clause-same : goal.returns-clause-same
returns-clause-same c =
    let r = c.go_together in
    let before = c.args.counters.now.seat.now in
    let grown = grown_of (wired_to c.args.self.now).program.shapes r.ensures.went.0 c.args.counters.now r.new.counters r.ensures.went.1 in
    grown ∙ ap (λ (l : List Op). record before { ops = l }) (sym (ap (λ (s : SeatView). s.ops) grown))

pub returns-clause-loan : goal.returns-clause-loan
returns-clause-loan c = seat_of (wired_to c.args.self.now).program.shapes c.go_together.ensures.went.0 c.args.counters.now c.go_together.new.counters c.go_together.ensures.went.1
