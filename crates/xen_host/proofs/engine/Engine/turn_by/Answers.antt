use Rattle.std.proofs.Common.{arith, refl}
use Rattle.xen_host.specs.EngineAt.{engine_at}
use Rattle.xen_host.proofs.EngineLemmas.{begun_at, begun_stands}
use Rattle.xen_host.proofs.engine.Engine.turn_by.Goals as goal

pub returns : goal.returns
returns g c =
    let w = g.W.Wires.wiring c.args.wires.now in
    let old = engine_at w (g.R.Room.held c.args.packet.now) c.args.self.now in
    let new = engine_at w (g.R.Room.held c.begin.new.packet) c.begin.new.self in
    let st = c.requires.stands in
    record {
      stands = begun_stands old st new c.args.producer (omega (arith, c.ranges.producer.fits)) refl c.begin.ensures.led;
      begun = begun_at old new st c.args.producer (omega (arith, c.ranges.producer.fits)) refl c.begin.ensures.led;
    }
