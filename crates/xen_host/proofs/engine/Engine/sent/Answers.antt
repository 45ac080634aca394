use Rattle.std.proofs.Common.{sym, ap, ◌∙◌}
use Rattle.std.specs.Prelude.{Result}
use Rattle.xen_host.proofs.HostLedLemmas.{asked_from}
use Rattle.xen_turns.specs.Rest.{after_reply}
use Rattle.xen_turns.specs.declared.decisions.Reply.{Reply}
use Rattle.xen_turns.specs.declared.turn.Halt.{Halt}
use Rattle.xen_host.specs.EngineAt.{engine_at}
use Rattle.xen_host.proofs.engine.Engine.sent.Goals as goal

pub returns-in-Err-clause-led : goal.returns-in-Err-clause-led
returns-in-Err-clause-led g c =
    let q = engine_at (g.W.Wires.wiring c.args.wires.now) (g.R.Room.held c.args.packet.now) c.args.self.now in
    let w = q.wires in
    let b = q.work in
    let same = c.after_sending.ensures w b.chain b.packet (sym c.len-slots.ensures.len) ∙ ap (λ (r : Result Reply Halt). after_reply w q.state b.chain b.packet r) c.in-Err.is in
    asked_from _ _ _ _ _ _ _ _ _ (sym same) (c.halt.ensures.led q.wires)

pub returns-in-Ok-clause-led : goal.returns-in-Ok-clause-led
returns-in-Ok-clause-led g c =
    let q = engine_at (g.W.Wires.wiring c.args.wires.now) (g.R.Room.held c.args.packet.now) c.args.self.now in
    let w = q.wires in
    let b = q.work in
    let r = c.in-Ok in
    let same = c.after_sending.ensures w b.chain b.packet (sym c.len-slots.ensures.len) ∙ ap (λ (x : Result Reply Halt). after_reply w q.state b.chain b.packet x) r.is in
    asked_from _ _ _ _ _ _ _ _ _ (sym same) (c.respond.ensures.led q.work.packet)
