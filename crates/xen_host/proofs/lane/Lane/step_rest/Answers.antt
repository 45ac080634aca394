use Rattle.std.proofs.Common.{◌∙◌, [], length, refl, sym, arith}
use Rattle.xdp_program.specs.Tallies.{Went}
use Rattle.xen_host.specs.LaneSteps.{lane_at}
use Rattle.xen_host.specs.LentWords.{lent_words}
use Rattle.xen_host.specs.Wired.{wiring_of}
use Rattle.xen_host.proofs.LaneStepLemmas.{behind_none, goes_rest, stayed}
use Rattle.xen_host.proofs.lane.Lane.step_rest.Goals as goal

pub returns-then-not-goes : goal.returns-then-not-goes
returns-then-not-goes g c =
    let w = wiring_of c.args.wires.now in
    let q = lane_at w c.args.self.now in
    let x = c.args.rx_index.now in
    let n = c.args.counters.now in
    let went = Went (g.T.Tallies.did w.program.now.shapes) n n in
    let rests = sym c.goes.ensures ∙ c.if-not-goes.true in
    record {
      fits = c.requires.fits;
      went = ([], refl);
      stands = λ st. st;
      stepped = record { by = λ next st. stayed went next x c.args.own (length c.args.ops.now) q c.args.ops.now c.args.count (lent_words c.args.words.now) refl (goes_rest next q.stage q.work c.requires.other ∙ rests) (behind_none x q.stage q.state rests) };
      most = omega (arith, c.requires.room);
      room = refl;
      width = refl;
    }
