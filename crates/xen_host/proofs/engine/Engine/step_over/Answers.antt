use Rattle.xen_host.specs.EngineAt.{engine_at}
use Rattle.xen_host.proofs.GoingLemmas.{stepped_loan}
use Rattle.xen_host.proofs.engine.Engine.step_over.Goals as goal

pub returns-clause-loan : goal.returns-clause-loan
returns-clause-loan g c =
    let w = g.W.Wires.wiring c.args.wires.now in
    let old = engine_at w (g.R.Room.held c.args.packet.now) c.args.self.now in
    let new = engine_at w (g.R.Room.held c.step_by.new.packet) c.step_by.new.self in
    stepped_loan g.B.Bus.log g.B.Bus.access_gives g.B.Bus.size (g.T.Tallies.did w.program.now.shapes) old new c.args.counters.now c.step_by.new.counters c.args.host.now c.step_by.new.host c.step_by.ensures.stepped
