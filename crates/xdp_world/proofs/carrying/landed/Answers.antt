use Rattle.std.proofs.Common.{◌≢◌, refl, ◌∙◌}
use Rattle.xen_steps.specs.Steps.{want_of}
use Rattle.xen_steps.specs.declared.want.Want.TheVariants as want
use Rattle.xen_back.specs.ByEvent.{left_of}
use Rattle.xdp_world.proofs.Fitting.{ready_true}
use Rattle.xdp_world.proofs.carrying.landed.Goals as goal

pub returns-in_default : goal.returns-in_default
returns-in_default c =
    let d = c.args.delivering in
    let over : want_of (left_of d) ≢ want.Done = λ e. c.in_default.not-Done (c.want.ensures.want ∙ e) in
    record {
      same = refl;
      fits = (ready_true c.args.queue.now c.requires.ready, c.requires.own.vif, c.requires.own.state, over);
      lands = (d, refl, refl, over, refl);
    }
