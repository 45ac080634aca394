use Rattle.std.proofs.Common.{◌≡◌, ◌<◌, ◌∙◌, ℕ, List, ap, length, refl, arith}
use Rattle.xen_turns.specs.declared.wiring.Wiring.{Wiring}
use Rattle.xdp_world.specs.Frames.{owners_of}
use Rattle.xdp_world.specs.declared.doing.Doing.TheVariants as doing
use Rattle.honest_pair.specs.Events.{events_in}
use Rattle.honest_pair.proofs.RunLemmas.{is_run}
use Rattle.honest_pair.proofs.pair.Pair.run.Goals as goal

pub returns : goal.returns
returns c =
    let new = c.steps.new.self in
    is_run c.args.program.now c.args.start (events_in c.args.events.now) _ _ new c.in_ok-world.ensures.begins c.instructions.ensures.consistent c.ranges.start.fits c.in_ok-front.ensures c.in_ok-memory.ensures refl refl c.new.ensures.items c.in_ok-world.ensures.shapes c.in_ok-steps.ensures
    refl (omega (arith, c.report.ensures.count, new.one, c.report.result.turns.ok.0)) (omega (arith, c.report.ensures.delivered, new.one, c.report.result.deliveries.ok.0))
    (omega (arith, c.report.ensures.waited, new.one, c.report.result.waits.ok.0)) c.report.ensures.turns c.report.ensures.deliveries c.report.ensures.waits c.report.ensures.shapes c.report.ensures.reports c.report.ensures.tells c.reads_are_faithful.ensures c.pair_law.ensures

pub invariant_of-pair-clause-back_frames : goal.invariant_of-pair-clause-back_frames
invariant_of-pair-clause-back_frames c = λ d.
    let b = c.in_ok-world.ensures.begins in
    let w = c.in_ok-world.world in
    let l : 0 < length w.queues.items = omega (arith, c.in_ok-world.ensures.size, w.queues.ok.0) in
    let all : length (owners_of 1) ≡ 531 = refl in
    ap (λ (x : Wiring). length x.vif.owners.now) (b.stands.each 0 d doing.Between l).wired ∙ ap (λ (o : List ℕ). length o) (b.wired 0 (omega arith)).owners ∙ all
