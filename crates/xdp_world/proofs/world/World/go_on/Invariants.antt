use Rattle.std.proofs.Common.{◌≡◌, ◌-◌, [], get_or, vec_len}
use Rattle.xen_back.specs.declared.queue.Queue.{Queue}
use Rattle.xdp_world.specs.Replays.{IsEnough, IsNear, Replays}
use Rattle.xdp_world.specs.Stands.{IsFree}
use Rattle.xdp_world.proofs.world.World.go_on.Given as goal

abbrev pub invariant-loop-event : goal.invariant-loop-event
invariant-loop-event l =
    record {
      size : vec_len l.self.queues ≡ vec_len l.fn.self.queues;
      shapes : l.self.counters.shapes ≡ l.fn.self.counters.shapes;
      free : IsFree l.self l.queue;
      enough : (d : Queue) → IsEnough l.most (get_or l.self.queues.items l.queue d);
      near : (d : Queue) → IsNear (l.most - l._event) (get_or l.self.queues.items l.queue d);
      replays : Replays l.fn.self l.self l.queue [];
    }
