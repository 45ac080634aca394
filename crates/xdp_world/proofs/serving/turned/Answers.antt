use Rattle.std.proofs.Common.{Option, Some, None, refl, sym, subst}
use Rattle.xen_back.specs.Queues.{rest}
use Rattle.xen_back.specs.declared.queue.Queue.{Queue}
use Rattle.xdp_world.specs.Carries.{after_turn}
use Rattle.xdp_world.specs.Doings.{Fits}
use Rattle.xdp_world.specs.Happens.{Settles}
use Rattle.xdp_world.specs.declared.doing.Doing.{Doing}
use Rattle.xdp_world.specs.declared.kept.Kept.{Kept}
use Rattle.xdp_world.proofs.Fitting.{ready_true}
use Rattle.xdp_world.proofs.Worlds.{comes_of}
use Rattle.xdp_world.proofs.serving.turned.Goals as goal

fits_after : (q q' : Queue) (k : Option Kept) → Settles q q' k → Fits (after_turn k) q'
fits_after q q' None s = tt
fits_after q q' (Some k) s = ready_true q' s.3

pub returns-clause-fits : goal.returns-clause-fits
returns-clause-fits c =
    subst (λ (d : Doing). Fits d c.ended-kept.new.queue) (sym c.after_turn-after.ensures) (fits_after c.event-op.new.queue c.ended-kept.new.queue c.ended-kept.result c.ended-kept.ensures.settles)

pub returns-clause-moves : goal.returns-clause-moves
returns-clause-moves c =
    let q = c.args.queue.now in
    let b = c.event-op.new.queue in
    let v = c.event-op.ensures.event in (
      record {
        event = v.0;
        mid = rest b;
        goes = v.1;
        serves = v.2;
        label = v.3;
        counts = c.event-op.ensures.counts;
        comes = comes_of q b c.ended-kept.new.queue c.ended-kept.result c.ended-kept.ensures.settles c.event-op.ensures.state;
      },
      c.after_turn-after.ensures,
      refl,
      refl,
    )
