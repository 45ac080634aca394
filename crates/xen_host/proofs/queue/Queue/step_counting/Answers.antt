use Rattle.std.proofs.Common.{◌≡◌, refl, sym}
use Rattle.xen_host.specs.EngineAt.{engine_at}
use Rattle.xdp_program.specs.Tallies.{Went}
use Rattle.xen_host.specs.Queues.{seen, wired_to, wiring}
use Rattle.xen_host.proofs.EngineLemmas.{step_stands}
use Rattle.xen_host.proofs.QueueLemmas.{stands, stepped}
use Rattle.xen_host.proofs.queue.Queue.step_counting.Goals as goal

pub invariant_of-self : goal.invariant_of-self
invariant_of-self g c =
    let r = c.step in
    let q = c.args.self.now in
    let s = step_stands g.H.Host.was_asked g.H.Host.is_full g.H.Host.has_given _ _ (seen q) (stands q) (engine_at (wiring q) r.new.packet r.new.self) (Went (g.T.Tallies.did (wired_to q).program.shapes) c.args.counters.now r.new.counters) refl r.ensures.led in
    record { fits = s.fits; wired = s.wired; turns = s.turns; seated = q.seated; apart = q.apart; side = q.side; left = s.left }

pub returns : goal.returns
returns g c =
    let r = c.step in
    let q = c.args.self.now in
    record { stepped = stepped q _ (Went (g.T.Tallies.did (wired_to q).program.shapes) c.args.counters.now r.new.counters) (r.new.counters ≡ c.args.counters.now) (λ e. sym e) refl r.ensures.led c.requires.busy; share = refl }
