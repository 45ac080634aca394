use Rattle.std.proofs.Common.{◌≡◌, take, vec_len}
use Rattle.xdp_world.specs.Asked.{GoesBy}
use Rattle.xdp_world.proofs.world.World.happen_all.Given as goal

abbrev pub invariant-loop-event : goal.invariant-loop-event
invariant-loop-event l =
    record {
      size : vec_len l.self.queues ≡ vec_len l.fn.self.queues;
      shapes : l.self.counters.shapes ≡ l.fn.self.counters.shapes;
      goes : GoesBy l.fn.self l.self (take l.event-index l.events);
    }
