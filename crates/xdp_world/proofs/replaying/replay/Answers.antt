use Rattle.std.proofs.Common.{◌≡◌, ◌<◌, ◌+◌, ℕ, List, [], ◌++◌, length, refl, get_or, sym, ◌∙◌, ap, subst, arith}
use Rattle.std.specs.Global.{Vec}
use Rattle.bpf_verify.specs.Consistent.{instructions}
use Rattle.xen_back.specs.declared.queue.Queue.{Queue}
use Rattle.xdp_world.specs.Entries.{events_of, steps_of}
use Rattle.xdp_world.specs.Replay.{Stops}
use Rattle.xdp_world.specs.Replays.{IsEnough}
use Rattle.xdp_world.specs.Stands.{kept_in}
use Rattle.xdp_world.specs.declared.kept.Kept.{Kept}
use Rattle.xdp_world.proofs.Begins.{queue_at}
use Rattle.xdp_world.proofs.Plainly.{sofar_of}
use Rattle.xdp_world.proofs.Replays.{enough_begun, stops}
use Rattle.xdp_world.proofs.replaying.replay.Goals as goal

pub give-requires-clause-enough : goal.give-requires-clause-enough
give-requires-clause-enough c = λ d.
    let b = c.in_ok-world.ensures.begins in
    let world = c.in_ok-world.world in
    let queue = c.args.queue in
    let program = c.args.program.now in
    let there : queue < length world.queues.items = omega (arith, c.requires.queue, c.in_ok-world.ensures.size, world.queues.ok.0) in
    let most : 287383 + instructions program.code ≡ 287383 + c.from-most.result = omega (arith, c.from-most.ensures, c.instructions.ensures.count) in
    subst (λ (n : ℕ). IsEnough n (get_or world.queues.items queue d)) most
    (enough_begun program (b.wirings queue) c.args.start (events_of queue []) (kept_in world.turns.items queue) (get_or world.queues.items queue d)
    c.instructions.ensures.consistent (b.wired queue c.requires.queue).program (sofar_of world b.wirings c.args.start _ [] b.stands queue d there))

pub returns : goal.returns
returns c =
    let b = c.in_ok-world.ensures.begins in
    let took = c.in_ok-give.ensures.took in
    let world = c.give.new.self in
    let queue = c.args.queue in
    let start = c.args.start in
    let g = took.replays b.wirings start _ [] b.stands in
    let there : queue < length world.queues.items = omega (arith, c.requires.queue, c.give.ensures.size, c.in_ok-world.ensures.size, world.queues.ok.0) in
    let d : Queue = queue_at world.queues.items queue there in
    let q = get_or world.queues.items queue d in
    let turns : kept_in world.turns.items queue ≡ kept_in c.report.result.turns.items queue = ap (λ (t : List (Vec Kept)). kept_in t queue) (sym c.report.ensures.turns) in
    record {
      steps = steps_of g.0;
      run = record {
        wirings = b.wirings;
        wired = b.wired;
        entries = g.0;
        steps_are = refl;
        count = omega (arith, c.report.ensures.count, c.give.ensures.size, c.in_ok-world.ensures.size, c.report.result.turns.ok.0);
        delivered = omega (arith, c.report.ensures.delivered, c.give.ensures.size, c.in_ok-world.ensures.size, c.report.result.deliveries.ok.0);
        waited = omega (arith, c.report.ensures.waited, c.give.ensures.size, c.in_ok-world.ensures.size, c.report.result.waits.ok.0);
        shapes = c.report.ensures.shapes ∙ c.give.ensures.shapes ∙ c.in_ok-world.ensures.shapes;
        reports = c.report.ensures.reports b.wirings start _ g.0 g.3;
      };
      own = g.1;
      left = took.left;
      answered = took.split ∙ ap (λ (l : List ℕ). l ++ took.left) (sym g.2);
      stops = subst (λ (k : List Kept). Stops (b.wirings queue) start (events_of queue g.0) k took.left) turns
          (stops (b.wirings queue) start (events_of queue g.0) (kept_in world.turns.items queue) q took.left (sofar_of world b.wirings start _ g.0 g.3 queue d there) (took.rests d));
    }
