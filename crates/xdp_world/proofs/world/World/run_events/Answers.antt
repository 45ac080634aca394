use Rattle.std.proofs.Common.{[], ◌∙◌, arith}
use Rattle.xdp_world.proofs.world.World.run_events.Goals as goal

pub returns : goal.returns
returns c =
    let b = c.in_ok-world.ensures.begins in
    let g = c.in_ok-happen_all.ensures.goes b.wirings c.args.start _ [] b.stands in
    record {
      wirings = b.wirings;
      wired = b.wired;
      calls = g.0;
      made = g.1;
      count = omega (arith, c.report.ensures.count, c.happen_all.ensures.size, c.in_ok-world.ensures.size, c.report.result.turns.ok.0);
      delivered = omega (arith, c.report.ensures.delivered, c.happen_all.ensures.size, c.in_ok-world.ensures.size, c.report.result.deliveries.ok.0);
      waited = omega (arith, c.report.ensures.waited, c.happen_all.ensures.size, c.in_ok-world.ensures.size, c.report.result.waits.ok.0);
      shapes = c.report.ensures.shapes ∙ c.happen_all.ensures.shapes ∙ c.in_ok-world.ensures.shapes;
      tells = c.report.ensures.tells b.wirings c.args.start _ g.0 g.2;
    }
