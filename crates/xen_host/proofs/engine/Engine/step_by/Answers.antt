use Rattle.std.proofs.Common.{◌≡◌, refl, sym}
use Rattle.xdp_program.specs.Tallies.{Went}
use Rattle.xen_host.specs.EngineAt.{engine_at}
use Rattle.xen_host.proofs.EngineLemmas.{step_stands, stepped_at}
use Rattle.xen_host.proofs.engine.Engine.step_by.Goals as goal

pub returns : goal.returns
returns g c =
    let w = g.W.Wires.wiring c.args.wires.now in
    let old = engine_at w (g.R.Room.held c.args.packet.now) c.args.self.now in
    let new = engine_at w (g.R.Room.held c.step.new.packet) c.step.new.self in
    let st = c.requires.stands in
    let went = Went (g.T.Tallies.did w.program.now.shapes) c.args.counters.now c.step.new.counters in
    record {
      stands = step_stands g.H.Host.was_asked g.H.Host.is_full g.H.Host.has_given _ _ old st new went refl c.step.ensures.led;
      stepped = stepped_at old new st went (c.step.new.counters ≡ c.args.counters.now) (λ e. sym e) refl c.step.ensures.led c.requires.busy;
    }
