use Rattle.std.proofs.Common.{rules, ◌≡◌, ℕ, ◌<◌, sym, ap, ◌∙◌}
use Rattle.std.specs.Prelude.{Option, Some}
use Rattle.xen_host.proofs.HostLedLemmas.{asked_from}
use Rattle.xen_steps.specs.Places.{available}
use Rattle.xen_turns.specs.Tree.{after_look}
use Rattle.xen_turns.proofs.RestLemmas.{after_look_some}
use Rattle.xen_host.specs.EngineAt.{engine_at}
use Rattle.xen_host.proofs.engine.Engine.looked_again.Goals as goal

pub returns-then-producer-self : goal.returns-then-producer-self
returns-then-producer-self g c =
    let q = engine_at (g.W.Wires.wiring c.args.wires.now) (g.R.Room.held c.args.packet.now) c.args.self.now in
    let w = q.wires in
    let none : available q.state.tx_index c.args.producer ≡ Some 0 = search rules in
    let shown = ap (λ (o : Option ℕ). after_look w q.state o) none in
    record { led = asked_from _ _ _ _ _ _ _ _ _ (sym shown) (c.end.ensures.led q.wires) }

pub returns-in-None : goal.returns-in-None
returns-in-None g c =
    let q = engine_at (g.W.Wires.wiring c.args.wires.now) (g.R.Room.held c.args.packet.now) c.args.self.now in
    let w = q.wires in
    let shown = ap (λ (o : Option ℕ). after_look w q.state o) (sym c.requests_shown.ensures ∙ c.in-None.is) in
    record { led = asked_from _ _ _ _ _ _ _ _ _ (sym shown) (c.halt.ensures.led q.wires) }

pub returns-in-Some : goal.returns-in-Some
returns-in-Some g c =
    let q = engine_at (g.W.Wires.wiring c.args.wires.now) (g.R.Room.held c.args.packet.now) c.args.self.now in
    let w = q.wires in
    let some : 0 < c.in-Some.n = search rules in
    let shown = ap (λ (o : Option ℕ). after_look w q.state o) (sym c.requests_shown.ensures ∙ c.in-Some.is) in
    record { led = asked_from _ _ _ _ _ _ _ _ _ (sym (shown ∙ after_look_some w q.state c.in-Some.n some)) (c.first_slot.ensures.led q.work.packet) }
