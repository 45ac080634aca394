use Rattle.std.proofs.Common.{ℕ, ◌+◌, ◌/◌, drop, sym, ap, ◌∙◌, refl}
use Rattle.std.specs.Prelude.{Result}
use Rattle.xen_steps.specs.Steps.{bind}
use Rattle.xdp_program.specs.Tallies.{Went}
use Rattle.xen_host.proofs.RanLedLemmas.{ran_from_same, ran_led}
use Rattle.xen_netif.specs.declared.fragment.Fragment.{Fragment}
use Rattle.xen_page.specs.Grant.{checked}
use Rattle.xen_page.specs.declared.entry.Entry.{Entry}
use Rattle.xen_page.specs.declared.fault.GrantFault.{GrantFault}
use Rattle.xen_page.specs.declared.entry.Rights.TheVariants.{ReadOnly}
use Rattle.xen_steps.specs.Pages.{copy_words, covered}
use Rattle.xen_turns.specs.Rest.{fragment_at}
use Rattle.xen_turns.specs.Tree.{after_copy, copy, entered}
use Rattle.xen_host.specs.EngineAt.{engine_at}
use Rattle.xen_host.proofs.EarlyLemmas.{early_as, late_early}
use Rattle.xen_turns.specs.declared.state.State.{State}
use Rattle.xen_host.proofs.engine.Engine.after_entry.Goals as goal

pub returns-in-Err-clause-led : goal.returns-in-Err-clause-led
returns-in-Err-clause-led g c =
    let q = engine_at (g.W.Wires.wiring c.args.wires.now) (g.R.Room.held c.args.packet.now) c.args.self.now in
    let w = q.wires in
    let b = q.work in
    let f = fragment_at b.fragments c.args.i in
    let is = ap (λ (e : Entry). checked q.wires.vif.owners.now q.wires.vif.granter q.wires.vif.user e ReadOnly) (sym c.of_words-entry.ensures.entry) ∙ sym c.granted.ensures ∙ c.in-Err.is in
    let same = ap (λ (r : Result ℕ GrantFault). bind (entered f (copy w (drop (c.args.i + 1) b.fragments)) b.packet r) (after_copy w q.state b.chain)) is in
    ran_led _ _ _ _ _ _ (Went (g.T.Tallies.did q.wires.program.now.shapes) c.args.counters.now c.args.counters.now) _ _ refl (sym same) (c.refuse.ensures.led q.work.packet)

pub returns-in-Ok-clause-led : goal.returns-in-Ok-clause-led
returns-in-Ok-clause-led g c =
    let q = engine_at (g.W.Wires.wiring c.args.wires.now) (g.R.Room.held c.args.packet.now) c.args.self.now in
    let w = q.wires in
    let b = q.work in
    let f = fragment_at b.fragments c.args.i in
    let rest = copy w (drop (c.args.i + 1) b.fragments) in
    let is = ap (λ (e : Entry). checked q.wires.vif.owners.now q.wires.vif.granter q.wires.vif.user e ReadOnly) (sym c.of_words-entry.ensures.entry) ∙ sym c.granted.ensures ∙ c.in-Ok.is in
    let same = ap (λ (r : Result ℕ GrantFault). bind (entered f rest b.packet r) (after_copy w q.state b.chain)) is in
    let page = ap (λ (g : Fragment). bind (bind (copy_words g c.in-Ok.frame (g.offset / 4) (covered g) b.packet) rest) (after_copy w q.state b.chain)) c.fragment-fragment.ensures in
    ran_from_same _ _ _ _ _ _ _ _ _ (page ∙ sym same) c.begin_page.ensures.led

pub returns-in-Err-clause-early : goal.returns-in-Err-clause-early
returns-in-Err-clause-early g c = late_early _ _ _ c.refuse.ensures.late

pub returns-in-Ok-clause-early : goal.returns-in-Ok-clause-early
returns-in-Ok-clause-early g c =
    let q = engine_at (g.W.Wires.wiring c.args.wires.now) (g.R.Room.held c.args.packet.now) c.args.self.now in
    let w = q.wires in
    let b = q.work in
    let f = fragment_at b.fragments c.args.i in
    let rest = copy w (drop (c.args.i + 1) b.fragments) in
    let is = ap (λ (e : Entry). checked q.wires.vif.owners.now q.wires.vif.granter q.wires.vif.user e ReadOnly) (sym c.of_words-entry.ensures.entry) ∙ sym c.granted.ensures ∙ c.in-Ok.is in
    early_as _ _ _ _
    (λ (t : State). ap (λ (g : Fragment). bind (bind (copy_words g c.in-Ok.frame (g.offset / 4) (covered g) b.packet) rest) (after_copy w t b.chain)) c.fragment-fragment.ensures
    ∙ sym (ap (λ (r : Result ℕ GrantFault). bind (entered f rest b.packet r) (after_copy w t b.chain)) is))
    c.begin_page.ensures.early
