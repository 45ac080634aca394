use Rattle.std.proofs.Common.{◌≢◌, ap, refl, subst, sym}
use Rattle.std.specs.Prelude.{IsSome}
use Rattle.xen_rx_fill.specs.Wired.{IsWired}
use Rattle.xen_host.specs.Completing.{TaskCompletes}
use Rattle.xen_host.specs.UnderWay.{between}
use Rattle.xen_host.specs.EngineAt.{work_at}
use Rattle.xen_host.specs.Wired.{wiring_of}
use Rattle.xen_host.specs.declared.engine.Engine.{Engine}
use Rattle.xen_host.specs.declared.stage.Stage.{Stage}
use Rattle.xen_host.specs.declared.wires.OwnedWiring.{OwnedWiring}
use Rattle.xen_host.proofs.ShareLemmas.{passed}
use Rattle.xen_host.proofs.queue.Queue.offer.Goals as goal

pub set_offers-requires : goal.set_offers-requires
set_offers-requires c = c.args.self.now.wired

pub invariant_of-self : goal.invariant_of-self
invariant_of-self c =
    let q = c.args.self.now in
    let e = q.engine in
    let s = c.set_offers in
    record {
      fits = q.fits;
      wired = subst (λ (w : OwnedWiring). IsWired (wiring_of w).vif) (sym s.ensures.offers) q.wired;
      turns = s.ensures.turns;
      seated = passed q.wires s.new.self q.share (ap (λ (w : OwnedWiring). w.program.shapes) s.ensures.offers) q.seated;
      apart = subst (λ (w : OwnedWiring). w.tx ≢ w.rx) (sym s.ensures.offers) q.apart;
      side = q.side;
      left = subst (λ (g : Stage). TaskCompletes (wiring_of s.new.self) e.state g (work_at q.packet e.work)) (sym c.in-Ready.is) tt;
    }

pub returns-in-Ready : goal.returns-in-Ready
returns-in-Ready c =
    let e : Engine = c.args.self.now.engine in
    (subst (λ (g : Stage). IsSome (between e.state g)) (sym c.in-Ready.is) refl, record { wires = c.set_offers.ensures.offers; engine = refl; packet = refl; share = refl })
