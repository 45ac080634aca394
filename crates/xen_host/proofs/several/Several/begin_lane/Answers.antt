use Rattle.std.proofs.Common.{ℕ, ◌+◌, ◌-◌, None, refl, subst, sym}
use Rattle.xdp_program.specs.Tallies.{Went}
use Rattle.xen_steps.specs.Places.{add32}
use Rattle.xen_host.specs.LaneSteps.{LaneBegins, lane_at}
use Rattle.xen_host.specs.Lanes.{own}
use Rattle.xen_host.specs.LentWords.{lent_words}
use Rattle.xen_host.specs.Wired.{wiring_of}
use Rattle.xen_host.proofs.TogetherLemmas.{fit_set}
use Rattle.xen_host.proofs.several.Several.begin_lane.Goals as goal

pub returns-clause-fits : goal.returns-clause-fits
returns-clause-fits g c = fit_set c.args.self.now.lanes c.requires.fits c.args.k c.begin.new.self c.begin.ensures.stands.fits

pub returns-clause-begun : goal.returns-clause-begun
returns-clause-begun g c = λ s start rx.
    let w = wiring_of c.args.wires.now in
    let h = c.args.host.now in
    let n = c.begin.new in
    record {
      lane_after = n.self;
      lanes = refl;
      rx = refl;
      answered = refl;
      stands = c.begin.ensures.stands;
      begins = subst (λ (t : ℕ). LaneBegins (Went (g.T.Tallies.did w.program.now.shapes) c.args.counters.now n.counters) (record { tx_index = add32 t h.ahead.taken; rx_index = c.args.self.now.rx_index; halt = None })
          (c.args.self.now.shown - h.ahead.taken) h.ahead.taken h.ahead.count n.host.ahead.taken (own c.args.k) (h.count + 1) (lane_at w n.self) h.ops.now n.host.ops.now h.count n.host.count (lent_words h.words.now) (lent_words n.host.words.now))
          (sym start) c.begin.ensures.begun;
    }
