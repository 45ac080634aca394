use Rattle.std.proofs.Common.{◌∙◌, arith}
use Rattle.xdp_load.specs.SetupSeen.{packet_view}
use Rattle.xdp_commands.proofs.FilterLemmas.{goes_on, replicate_more}
use Rattle.xdp_commands.proofs.filtering.run_times.Goals as goal

pub loop-time-preserved : goal.loop-time-preserved
loop-time-preserved c =
    let a = c.args in
    let i = c.loop-time._time in
    let more = replicate_more (packet_view a.packet.now) i a.packet.now.times (omega (arith, c.loop-time-test.true)) in
    record {
      width = c.run_once.ensures.words ∙ c.loop-time.invariant.width;
      goes = λ words lines g. c.loop-time.invariant.goes words lines (rw more (goes_on _ _ _ _ _ _ _ _ _ _ _ c.in_ok-run_once.ensures.goes g));
    }
