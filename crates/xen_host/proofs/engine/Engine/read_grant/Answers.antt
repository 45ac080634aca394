use Rattle.std.proofs.Common.{refl, sym, ap, ◌∙◌}
use Rattle.std.specs.Prelude.{Option, Some}
use Rattle.xen_steps.specs.Steps.{bind}
use Rattle.xen_host.specs.Asks as ask
use Rattle.xen_host.specs.Led.{beside}
use Rattle.xen_host.proofs.HostLedLemmas.{asks_one}
use Rattle.xen_page.specs.declared.place.Place.{Place}
use Rattle.xen_rx_fill.specs.Entries.{entry_at}
use Rattle.xen_rx_fill.specs.Transmit.{after_targets, read_targets, targeted}
use Rattle.xen_host.specs.declared.stage.Fill.TheVariants as fill
use Rattle.xen_host.proofs.FillLemmas.{IsFillOn, fill_same, lift_fill}
use Rattle.xen_page.specs.declared.entry.Rights.TheVariants.{ReadWrite}
use Rattle.xen_host.specs.EngineAt.{engine_at}
use Rattle.xen_host.specs.Rest.{rx_offload}
use Rattle.xen_host.proofs.engine.Engine.read_grant.Goals as goal

pub returns-in-None-clause-led : goal.returns-in-None-clause-led
returns-in-None-clause-led g c =
    let q = engine_at (g.W.Wires.wiring c.args.wires.now) (g.R.Room.held c.args.packet.now) c.args.self.now in
    let w = q.wires.vif in
    let x = q.state.rx_index in
    let ts = q.work.targets in
    let o = rx_offload c.args.purpose q.work.offload in
    let r = c.args.request in
    let go = targeted ts (read_targets w x o c.args.left) in
    let after = after_targets w x o q.work.packet in
    let there = ap (λ (m : Option Place). bind (bind (entry_at w ReadWrite m) (go r.id)) after) (sym c.place.ensures ∙ c.in-None.is) in
    fill_same _ _ c.args.purpose (beside q) _ _ _ _ _ (sym there) c.refuse_post.ensures.led

pub returns-in-Some-clause-led : goal.returns-in-Some-clause-led
returns-in-Some-clause-led g c =
    let q = engine_at (g.W.Wires.wiring c.args.wires.now) (g.R.Room.held c.args.packet.now) c.args.self.now in
    let w = q.wires.vif in
    let x = q.state.rx_index in
    let ts = q.work.targets in
    let o = rx_offload c.args.purpose q.work.offload in
    let r = c.args.request in
    let at = c.in-Some.at in
    let go = targeted ts (read_targets w x o c.args.left) in
    let after = after_targets w x o q.work.packet in
    let there = ap (λ (m : Option Place). bind (bind (entry_at w ReadWrite m) (go r.id)) after) (sym c.place.ensures ∙ c.in-Some.is) in
    let left = bind (bind (entry_at w ReadWrite (Some at)) (go r.id)) after in
    let f = fill.Grant c.args.left r.id at in
    lift_fill _ _ c.args.purpose q ts f _ _ _
    (asks_one _ _ (IsFillOn q ts o f) _ _ left _ _ _ (ask.Entry at r.gref ReadWrite) _ c.read_entry.ensures refl refl tt there (refl, (sym c.place.ensures ∙ c.in-Some.is, refl), (refl, (refl, λ a. (refl, λ b. tt)))) refl c.requires.few)
