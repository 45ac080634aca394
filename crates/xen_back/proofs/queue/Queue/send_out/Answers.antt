use Rattle.std.proofs.Common.{◌≡◌, refl, sym, subst, ◌∙◌}
use Rattle.xen_host.specs.EngineAt.{engine_at}
use Rattle.xen_host.proofs.EngineLemmas.{rest_stands}
use Rattle.xen_back.proofs.InOneGoLemmas.{rests_in}
use Rattle.xen_back.specs.Rest.{rest_at}
use Rattle.xen_back.specs.declared.by_event.phase.Phase.{Phase}
use Rattle.xen_back.specs.declared.by_event.phase.Phase.TheVariants as phase
use Rattle.xen_turns.specs.Within.{Completes}
use Rattle.xen_back.proofs.queue.Queue.send_out.Goals as goal

pub deliver-requires-clause-rests : goal.deliver-requires-clause-rests
deliver-requires-clause-rests g c =
    let q = c.args.self.now in
    q.rests

pub deliver-requires-clause-stands : goal.deliver-requires-clause-stands
deliver-requires-clause-stands g c =
    let q = c.args.self.now in
    let e = engine_at q.wiring c.in-Some-At.room q.engine in
    rest_stands e q.rests q.wired q.turns

pub invariant_of-self : goal.invariant_of-self
invariant_of-self g c =
    let q = c.args.self.now in
    let k = c.deliver in
    let new = k.new.self in
    let ready : c.in-Some-At.field-0-1 ≡ phase.Ready = cc (sym c.in-Some-At.is ∙ c.requires.ready.1) in
    record {
      here = refl;
      rests = rests_in (engine_at q.wiring k.new.room new) new.state k.ensures.delivered.rests;
      wired = q.wired;
      turns = q.turns;
      left = subst (λ (x : Phase). Completes q.wiring (rest_at q.wiring new.state k.new.room x)) (sym ready) (q.turns new.state);
    }
