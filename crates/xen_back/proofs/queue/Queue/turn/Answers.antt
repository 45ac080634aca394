use Rattle.std.proofs.Common.{[], Option, Some, refl, sym, subst, ap, ◌∙◌}
use Rattle.xen_steps.specs.Steps.{done}
use Rattle.xen_host.specs.EngineAt.{engine_at}
use Rattle.xen_back.specs.Rest.{packet_at, packet_of_stage, rest_in, rest_of_stage}
use Rattle.xen_turns.specs.Turned.{Shows, turned}
use Rattle.xen_back.specs.declared.by_event.stage.Stage.{Stage}
use Rattle.xen_turns.specs.Within.{Completes}
use Rattle.xen_turns.specs.declared.state.State.{State}
use Rattle.xen_back.proofs.InOneGoLemmas.{rests_in}
use Rattle.xen_back.proofs.queue.Queue.turn.Goals as goal

pub invariant_of-self : goal.invariant_of-self
invariant_of-self c =
    let q = c.args.self.now in
    let o = c.over in
    let r = c.resume.new.self in
    record {
      here = refl;
      rests = rests_in (engine_at q.wiring [] r) o.result.0 (c.resume.ensures.rests q.wiring []);
      wired = q.wired;
      turns = q.turns;
      left = subst (λ (g : Stage). Completes q.wiring (rest_in q.wiring r.state g)) (sym o.ensures.ready.1) (q.turns r.state);
    }

pub returns : goal.returns
returns c =
    let q = c.args.self.now in
    let o = c.over in
    let r = c.resume.new.self in
    let kind = o.result.1 in (
      (
        refl,
        λ v. tt,
        record {
          turned = turned kind (packet_at o.new.stage);
          over = ap (λ (g : Option Stage). rest_of_stage q.wiring q.engine.state g) c.in-Some.is
              ∙ ap (λ (s : State). rest_in q.wiring s c.in-Some.stage) (sym c.state.ensures)
              ∙ o.ensures.over q.wiring
              ∙ ap (λ (s : State). done (s, turned kind (packet_at o.new.stage))) (sym c.resume.ensures.state);
          ready = (o.ensures.ready.0, ap Some o.ensures.ready.1);
          same = record { wiring = refl; tx_ring = refl; rx_ring = refl };
          shows = subst (λ (g : Option Stage). Shows (turned kind (packet_of_stage g)) c.shown.result) (sym c.in-Some-stage.is) c.shown.ensures.shows;
          short = c.shown.ensures.short;
        },
      ),
      record { after = tt },
    )
