use Rattle.std.proofs.Common.{[], Option, subst, sym}
use Rattle.xen_host.specs.EngineAt.{engine_at}
use Rattle.xen_back.proofs.InOneGoLemmas.{rests_in}
use Rattle.xen_back.specs.Rest.{rest_of_stage}
use Rattle.xen_turns.specs.Within.{Completes}
use Rattle.xen_back.specs.declared.by_event.stage.Stage.{Stage}
use Rattle.xen_back.proofs.queue.Queue.end_delivery.Goals as goal

pub invariant_of-self : goal.invariant_of-self
invariant_of-self c =
    let q = c.args.self.now in
    let after = c.outcome_of-delivery.result.0 in
    let r = c.resume.new.self in
    record {
      here = q.here;
      rests = rests_in (engine_at q.wiring [] r) after (c.resume.ensures.rests q.wiring []);
      wired = q.wired;
      turns = q.turns;
      left = subst (λ (s : Option Stage). Completes q.wiring (rest_of_stage q.wiring r.state s)) (sym c.requires.ready.1) (q.turns r.state);
    }
