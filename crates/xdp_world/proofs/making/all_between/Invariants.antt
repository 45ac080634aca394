use Rattle.std.proofs.Common.{◌≡◌, ◌≤◌, ◌<◌, ℕ, get_or, vec_len, vec_capacity}
use Rattle.xdp_world.specs.declared.doing.Doing.{Doing}
use Rattle.xdp_world.specs.declared.doing.Doing.TheVariants as doing
use Rattle.xdp_world.proofs.making.all_between.Given as goal

abbrev pub invariant-loop-queue : goal.invariant-loop-queue
invariant-loop-queue l =
    record {
      count : vec_len l.doing ≡ l._queue;
      room : l.queues ≤ vec_capacity l.doing;
      between : (i : ℕ) (d : Doing) → i < l._queue → get_or l.doing.items i d ≡ doing.Between;
    }
