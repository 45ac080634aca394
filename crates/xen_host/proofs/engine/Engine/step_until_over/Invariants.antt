use Rattle.std.proofs.Common.{◌≡◌}
use Rattle.xen_host.specs.EngineAt.{engine_at}
use Rattle.xen_host.specs.Going.{HasGoneBy}
use Rattle.xen_host.proofs.engine.Engine.step_until_over.Given as goal

abbrev pub invariant-loop-round : goal.invariant-loop-round
invariant-loop-round g l =
    record {
      gone : HasGoneBy g.B.Bus.log g.B.Bus.access_gives g.B.Bus.size (g.T.Tallies.did (g.W.Wires.wiring l.wires).program.now.shapes) l.round (engine_at (g.W.Wires.wiring l.wires) (g.R.Room.held l.fn.packet) l.fn.self) (engine_at (g.W.Wires.wiring l.wires) (g.R.Room.held l.packet) l.self) l.fn.counters l.counters l.fn.host l.host;
      loan : l.host.bus.ghost_name ≡ l.fn.host.bus.ghost_name;
    }
