use Rattle.std.proofs.Common.{◌≡◌, length, sym, ap, ◌∙◌, true, false}
use Rattle.xen_host.proofs.HostLedLemmas.{asked_from}
use Rattle.xen_ring.specs.Index.{is_due}
use Rattle.xen_steps.specs.Places.{add32}
use Rattle.xen_turns.specs.Tree.{notice}
use Rattle.xen_host.specs.Rest.{ended_at}
use Rattle.xen_host.specs.EngineAt.{engine_at}
use Rattle.xen_host.proofs.engine.Engine.after_event.Goals as goal

pub returns-then-due : goal.returns-then-due
returns-then-due g c =
    let q = engine_at (g.W.Wires.wiring c.args.wires.now) (g.R.Room.held c.args.packet.now) c.args.self.now in
    let w = q.wires in
    let t = q.state.tx_index in
    let due : true ≡ is_due t (add32 t (length q.work.chain)) c.args.event = sym c.if-due.true ∙ c.due.ensures ∙ ap (λ k. is_due t (add32 t k) c.args.event) c.len.ensures.len in
    record { led = asked_from _ _ _ _ _ _ _ _ _ (ap (λ b. notice w b (ended_at q.state q.work)) due) c.give_notice.ensures.led }

pub returns-else-due : goal.returns-else-due
returns-else-due g c =
    let q = engine_at (g.W.Wires.wiring c.args.wires.now) (g.R.Room.held c.args.packet.now) c.args.self.now in
    let w = q.wires in
    let t = q.state.tx_index in
    let due : false ≡ is_due t (add32 t (length q.work.chain)) c.args.event = sym c.if-due.false ∙ c.due.ensures ∙ ap (λ k. is_due t (add32 t k) c.args.event) c.len.ensures.len in
    record { led = asked_from _ _ _ _ _ _ _ _ _ (ap (λ b. notice w b (ended_at q.state q.work)) due) (c.answered.ensures.led q.wires) }
