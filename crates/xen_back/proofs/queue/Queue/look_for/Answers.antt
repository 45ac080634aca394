use Rattle.std.proofs.Common.{◌≡◌, refl, sym, subst, ◌∙◌}
use Rattle.xen_host.specs.EngineAt.{engine_at}
use Rattle.xen_host.proofs.EngineLemmas.{rest_stands}
use Rattle.xen_back.proofs.InOneGoLemmas.{rests_in}
use Rattle.xen_back.specs.Rest.{rest_at}
use Rattle.xen_back.specs.declared.by_event.phase.Phase.{Phase}
use Rattle.xen_back.specs.declared.by_event.phase.Phase.TheVariants as phase
use Rattle.xen_turns.specs.Within.{Completes}
use Rattle.xen_back.proofs.queue.Queue.look_for.Goals as goal

pub await_slots-requires-clause-rests : goal.await_slots-requires-clause-rests
await_slots-requires-clause-rests g c =
    let q = c.args.self.now in
    q.rests

pub await_slots-requires-clause-stands : goal.await_slots-requires-clause-stands
await_slots-requires-clause-stands g c =
    let q = c.args.self.now in
    let e = engine_at q.wiring c.in-Some-At.packet q.engine in
    rest_stands e q.rests q.wired q.turns

pub invariant_of-self : goal.invariant_of-self
invariant_of-self g c =
    let q = c.args.self.now in
    let k = c.await_slots in
    let new = k.new.self in
    let ready : c.in-Some-At.field-0-1 ≡ phase.Ready = cc (sym c.in-Some-At.is ∙ c.requires.ready.1) in
    record {
      here = refl;
      rests = rests_in (engine_at q.wiring k.new.packet new) new.state k.ensures.awaited.rests;
      wired = q.wired;
      turns = q.turns;
      left = subst (λ (x : Phase). Completes q.wiring (rest_at q.wiring new.state k.new.packet x)) (sym ready) (q.turns new.state);
    }
