use Rattle.std.proofs.Common.{◌≢◌, refl, ◌∙◌}
use Rattle.xen_steps.specs.Steps.{want_of}
use Rattle.xen_steps.specs.declared.want.Want.TheVariants as want
use Rattle.xen_back.specs.WaitsByEvent.{left_of_wait}
use Rattle.xdp_world.proofs.Fitting.{ready_true}
use Rattle.xdp_world.proofs.wait_event.resumed.Goals as goal

pub returns-in_default : goal.returns-in_default
returns-in_default c =
    let a = c.args.awaiting in
    let over : want_of (left_of_wait a) ≢ want.Done = λ e. c.in_default.not-Done (c.want.ensures.want ∙ e) in
    record {
      same = refl;
      fits = (ready_true c.args.queue.now c.requires.ready, c.requires.own.rx, c.requires.own.state, over);
      resumes = (a, refl, refl, over, refl);
    }
