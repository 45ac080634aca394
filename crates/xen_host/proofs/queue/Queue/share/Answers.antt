use Rattle.std.proofs.Common.{◌≡◌, refl, rules}
use Rattle.std.specs.Prelude.{IsSome, None}
use Rattle.xen_host.specs.Queues.{resting, wired_to}
use Rattle.xen_host.proofs.queue.Queue.share.Goals as goal

pub returns-clause-shared : goal.returns-clause-shared
returns-clause-shared c =
    let q = c.args.self.now in
    let rested : IsSome (resting q) = search rules in
    let unshared : q.share ≡ None = search rules in
    let maps : c.args.counters.now.program.shapes ≡ (wired_to q).program.shapes = search rules in
    record {
      rested = rested;
      unshared = unshared;
      maps = maps;
      share = c.in_ok-share.field-0;
      given = c.in_ok-share.ensures.given;
      shares = refl;
      rest = record { engine = refl; wires = refl; packet = refl; several = refl };
    }
