use Rattle.std.proofs.Common.{◌<◌, ◌∙◌, length, refl, arith}
use Rattle.xdp_host.specs.Batch.{Shared, none}
use Rattle.xdp_host.proofs.BatchLemmas.{one_more_ran, one_less_left}
use Rattle.xdp_host.proofs.batch.run_each.Goals as goal

pub loop-number-init : goal.loop-number-init
loop-number-init c = record { kept = refl; ran = none; rest = refl }

pub loop-number-preserved : goal.loop-number-preserved
loop-number-preserved c =
    let l = c.loop-number in
    let first : Shared = record { bytes = c.args.bytes.now; words = c.args.counters.now } in
    let before : Shared = record { bytes = l.bytes; words = l.counters } in
    let after : Shared = record { bytes = c.run_one.new.bytes; words = c.run_one.new.counters } in
    let fewest = c.min-count.ensures in
    let kept = l.auto.results in
    let here : l.number < length c.args.packets.now = omega (arith, c.loop-number-test.true, fewest) in
    let room : l.number < length l.results = omega (arith, c.loop-number-test.true, fewest, kept) in
    record {
      kept = c.run_one.ensures.kept ∙ l.invariant.kept;
      ran = one_more_ran c.args.held.now l.held c.args.ifindex c.args.queue first before after c.args.packets.now l.results l.number _ c.run_one.result l.invariant.kept here room l.invariant.ran c.run_one.ensures.ran;
      rest = one_less_left l.results c.args.results.now l.number c.run_one.result l.invariant.rest;
    }
