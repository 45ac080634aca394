use Rattle.std.proofs.Common.{rules, ◌≡◌, ℕ, ◌<◌, sym, ap, ◌∙◌}
use Rattle.std.specs.Prelude.{Option, Some}
use Rattle.xen_steps.specs.Places.{available}
use Rattle.xen_steps.specs.Steps.{bind, next}
use Rattle.xen_host.proofs.HostLedLemmas.{asked_from, asked_with}
use Rattle.xen_turns.specs.Tree.{after_look, seen, unless_halted}
use Rattle.xen_turns.specs.declared.turn.Halt.{Halt}
use Rattle.xen_turns.proofs.RestLemmas.{after_look_some, seen_some}
use Rattle.xen_host.specs.EngineAt.{engine_at}
use Rattle.xen_host.proofs.engine.Engine.begin.Goals as goal

pub returns-in-Some : goal.returns-in-Some
returns-in-Some g c =
    let q = engine_at (g.W.Wires.wiring c.args.wires.now) (g.R.Room.held c.args.packet.now) c.args.self.now in
    let w = q.wires in
    let same = sym (ap (λ (o : Option Halt). next (unless_halted w q.state o) c.args.producer) c.in-Some.is) in
    record { led = asked_with _ _ _ _ _ _ _ _ _ c.none-self.ensures (asked_from _ _ _ _ _ _ _ _ _ same (c.end.ensures.led q.wires)) }

pub returns-then-producer-self : goal.returns-then-producer-self
returns-then-producer-self g c =
    let q = engine_at (g.W.Wires.wiring c.args.wires.now) (g.R.Room.held c.args.packet.now) c.args.self.now in
    let w = q.wires in
    let none : available q.state.tx_index c.args.producer ≡ Some 0 = search rules in
    let live = ap (λ (o : Option Halt). next (unless_halted w q.state o) c.args.producer) c.in_default.is in
    let shown = ap (λ (o : Option ℕ). bind (seen w q.state.tx_index o) (after_look w q.state)) none in
    record { led = asked_with _ _ _ _ _ _ _ _ _ c.none-self-2.ensures (asked_from _ _ _ _ _ _ _ _ _ (sym (live ∙ shown)) (c.announce.ensures.led q.work.packet)) }

pub returns-in-None : goal.returns-in-None
returns-in-None g c =
    let q = engine_at (g.W.Wires.wiring c.args.wires.now) (g.R.Room.held c.args.packet.now) c.args.self.now in
    let w = q.wires in
    let live = ap (λ (o : Option Halt). next (unless_halted w q.state o) c.args.producer) c.in_default.is in
    let shown = ap (λ (o : Option ℕ). bind (seen w q.state.tx_index o) (after_look w q.state)) (sym c.requests_shown.ensures ∙ c.in-None.is) in
    record { led = asked_with _ _ _ _ _ _ _ _ _ c.none-self-2.ensures (asked_from _ _ _ _ _ _ _ _ _ (sym (live ∙ shown)) (c.halt.ensures.led q.wires)) }

pub returns-in-Some-requests_shown : goal.returns-in-Some-requests_shown
returns-in-Some-requests_shown g c =
    let q = engine_at (g.W.Wires.wiring c.args.wires.now) (g.R.Room.held c.args.packet.now) c.args.self.now in
    let w = q.wires in
    let n = c.in-Some-requests_shown.n in
    let some : 0 < n = search rules in
    let live = ap (λ (o : Option Halt). next (unless_halted w q.state o) c.args.producer) c.in_default.is in
    let shown = ap (λ (o : Option ℕ). bind (seen w q.state.tx_index o) (after_look w q.state)) (sym c.requests_shown.ensures ∙ c.in-Some-requests_shown.is) in
    let more = ap (λ x. bind x (after_look w q.state)) (seen_some w q.state.tx_index n some) ∙ after_look_some w q.state n some in
    record { led = asked_with _ _ _ _ _ _ _ _ _ c.none-self-2.ensures (asked_from _ _ _ _ _ _ _ _ _ (sym (live ∙ shown ∙ more)) (c.first_slot.ensures.led q.work.packet)) }
