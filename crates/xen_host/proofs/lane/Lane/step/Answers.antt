use Rattle.std.proofs.Common.{refl}
use Rattle.xen_host.proofs.lane.Lane.step.Goals as goal

pub returns-in_default-stage : goal.returns-in_default-stage
returns-in_default-stage g c =
    let r = c.step_rest-host in
    record {
      fits = r.ensures.fits;
      went = r.ensures.went;
      stands = r.ensures.stands;
      stepped = λ st. r.ensures.stepped.by c.args.is_next st;
      most = r.ensures.most;
      ahead = refl;
      limit = refl;
      keeps = record { own = refl; tx = refl; room = r.ensures.room; width = r.ensures.width; ops = refl; words = refl };
    }
