use Rattle.std.proofs.Common.{◌<◌, ap, get_or, length, refl, arith}
use Rattle.std.proofs.lemmas.Option.{slice_get-get_or}
use Rattle.xen_host.specs.declared.lane_host.Ahead.{Ahead}
use Rattle.xen_host.proofs.TogetherLemmas.{fit_at, fit_set}
use Rattle.xen_host.proofs.several.Several.step_lane.Goals as goal

pub step-requires-clause-fits : goal.step-requires-clause-fits
step-requires-clause-fits g c =
    let lanes = c.args.self.now.lanes in
    let inside : c.args.k < length lanes = omega (arith, c.requires.lane) in
    fit_at lanes c.requires.fits c.args.k (get_or lanes c.args.k c.index-self-k.result) (slice_get-get_or lanes c.args.k c.index-self-k.result inside)

pub returns-clause-fits : goal.returns-clause-fits
returns-clause-fits g c = fit_set c.args.self.now.lanes c.requires.fits c.args.k c.step.new.self c.step.ensures.fits

pub returns-clause-stepped : goal.returns-clause-stepped
returns-clause-stepped g c =
    let lanes = c.args.self.now.lanes in
    let inside : c.args.k < length lanes = omega (arith, c.requires.lane) in
    let there = slice_get-get_or lanes c.args.k c.index-self-k.result inside in
    record {
      lane = get_or lanes c.args.k c.index-self-k.result;
      there = there;
      lane_after = c.step.new.self;
      lanes = refl;
      taken = ap (λ (a : Ahead). a.taken) c.step.ensures.ahead;
      answered = c.next.ensures c.args.k c.args.answered refl;
      stands = c.step.ensures.stands;
      steps = c.step.ensures.stepped;
    }
