use Rattle.std.proofs.Common.{◌≡◌, refl, sym, ap, subst, arith}
use Rattle.xdp_program.specs.Tallies.{Went}
use Rattle.xen_host.specs.EarlySteps.{StepKeeps}
use Rattle.xen_host.specs.EngineAt.{engine_at}
use Rattle.xen_host.specs.HostLed.{GoesOnAt}
use Rattle.xen_host.specs.LaneHosts.{HasLaneGiven, IsLaneFull, IsLanePut}
use Rattle.xen_host.specs.LaneSteps.{indexed, indexed_at, lane_at}
use Rattle.xen_host.specs.Rest.{is_stepping}
use Rattle.xen_host.specs.Wired.{wiring_of}
use Rattle.xen_host.specs.declared.stage.Stage.{Stage}
use Rattle.xen_host.proofs.LaneStepLemmas.{took}
use Rattle.xen_host.proofs.lane.Lane.take_page.Goals as goal

pub returns : goal.returns
returns g c =
    let w = wiring_of c.args.wires.now in
    let x = c.args.rx_index in
    let q = lane_at w c.args.self.now in
    let start = record q { state = record q.state { rx_index = x } } in
    let r = c.step_page in
    let new = engine_at w r.new.packet r.new.self in
    let host = record c.args.host.now { base = c.args.host.now.count } in
    let went = Went (g.T.Tallies.did w.program.now.shapes) c.args.counters.now r.new.counters in
    let at = c.requires.at in
    let is : start ≡ indexed x q = ap (λ (s : Stage). record q { state = indexed_at x s q.state }) (sym at) in
    let led = subst (λ (s : Stage). GoesOnAt IsLanePut IsLaneFull HasLaneGiven s start new went host r.new.host) (sym at) r.ensures.led in
    let keeps = subst (λ (s : Stage). StepKeeps HasLaneGiven s start new host) (sym at) r.ensures.keeps in
    let t = took x q start new went host r.new.host is c.requires.fits c.requires.tx refl (omega (arith, c.requires.room)) c.requires.limit refl (ap is_stepping at) led keeps in
    record {
      fits = t.fits;
      went = (t.labels, t.history);
      stands = t.stands;
      goes = t.goes;
      most = omega (arith, t.within.room, t.within.beside.limit);
      ahead = t.within.beside.ahead;
      limit = t.within.beside.limit;
      keeps = record { own = t.within.beside.own; tx = t.within.beside.tx; room = t.within.beside.room; width = t.within.beside.width; ops = t.within.beside.ops; words = t.within.beside.words };
    }
