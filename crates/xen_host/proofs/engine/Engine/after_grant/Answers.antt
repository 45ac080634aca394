use Rattle.std.proofs.Common.{ℕ, sym, ap, ◌∙◌}
use Rattle.std.specs.Prelude.{Result}
use Rattle.xen_steps.specs.Steps.{bind}
use Rattle.xen_host.specs.Led.{beside}
use Rattle.xen_rx_fill.specs.Transmit.{after_targets, read_targets, targeted}
use Rattle.xen_host.proofs.FillLemmas.{fill_same}
use Rattle.xen_page.specs.Grant.{checked}
use Rattle.xen_page.specs.declared.entry.Entry.{Entry}
use Rattle.xen_page.specs.declared.fault.GrantFault.{GrantFault}
use Rattle.xen_page.specs.declared.entry.Rights.TheVariants.{ReadWrite}
use Rattle.xen_host.specs.EngineAt.{engine_at}
use Rattle.xen_host.specs.Rest.{rx_offload}
use Rattle.xen_host.proofs.engine.Engine.after_grant.Goals as goal

pub returns-in-Err-clause-led : goal.returns-in-Err-clause-led
returns-in-Err-clause-led g c =
    let q = engine_at (g.W.Wires.wiring c.args.wires.now) (g.R.Room.held c.args.packet.now) c.args.self.now in
    let w = q.wires.vif in
    let x = q.state.rx_index in
    let ts = q.work.targets in
    let o = rx_offload c.args.purpose q.work.offload in
    let after = after_targets w x o q.work.packet in
    let is = ap (λ (e : Entry). checked q.wires.vif.owners.now q.wires.vif.granter q.wires.vif.user e ReadWrite) (sym c.of_words-entry.ensures.entry) ∙ sym c.granted.ensures ∙ c.in-Err.is in
    let same = ap (λ (r : Result ℕ GrantFault). bind (targeted ts (read_targets w x o c.args.left) c.args.id r) after) is in
    fill_same _ _ c.args.purpose (beside q) _ _ _ _ _ (sym same) c.refuse_post.ensures.led

pub returns-in-Ok-clause-led : goal.returns-in-Ok-clause-led
returns-in-Ok-clause-led g c =
    let q = engine_at (g.W.Wires.wiring c.args.wires.now) (g.R.Room.held c.args.packet.now) c.args.self.now in
    let w = q.wires.vif in
    let x = q.state.rx_index in
    let ts = q.work.targets in
    let o = rx_offload c.args.purpose q.work.offload in
    let after = after_targets w x o q.work.packet in
    let is = ap (λ (e : Entry). checked q.wires.vif.owners.now q.wires.vif.granter q.wires.vif.user e ReadWrite) (sym c.of_words-entry.ensures.entry) ∙ sym c.granted.ensures ∙ c.in-Ok.is in
    let same = ap (λ (r : Result ℕ GrantFault). bind (targeted ts (read_targets w x o c.args.left) c.args.id r) after) is in
    fill_same _ _ c.args.purpose (beside q) _ _ _ _ _ (sym same) c.passed.ensures.led
