use Rattle.std.proofs.Common.{◌≡◌, get_or, take, vec_len}
use Rattle.xen_back.specs.Queues.{rest}
use Rattle.xen_back.specs.declared.queue.Queue.{Queue}
use Rattle.xen_steps.specs.Steps.{want_of}
use Rattle.xdp_world.specs.Replays.{IsEnough, Pauses, Replays}
use Rattle.xdp_world.specs.Stands.{IsFree}
use Rattle.xdp_world.proofs.world.World.give.Given as goal

abbrev pub invariant-loop-answer : goal.invariant-loop-answer
invariant-loop-answer l =
    record {
      size : vec_len l.self.queues ≡ vec_len l.fn.self.queues;
      shapes : l.self.counters.shapes ≡ l.fn.self.counters.shapes;
      free : IsFree l.self l.queue;
      enough : (d : Queue) → IsEnough l.most (get_or l.self.queues.items l.queue d);
      pauses : (d : Queue) → Pauses (want_of (rest (get_or l.self.queues.items l.queue d)));
      replays : Replays l.fn.self l.self l.queue (take l.answer-index l.answers);
    }
