use Rattle.std.proofs.Common.{ℕ, List, [], length, sym, ap, ◌∙◌, refl}
use Rattle.std.specs.Prelude.{Result}
use Rattle.xen_steps.specs.Steps.{bind}
use Rattle.xdp_program.specs.Tallies.{Went}
use Rattle.xen_host.proofs.RanLedLemmas.{ran_from_same, ran_led}
use Rattle.xen_netif.specs.Chain.{Slot}
use Rattle.xen_netif.specs.Segments.{offered_fragments}
use Rattle.xen_netif.specs.declared.segments.Offers.{Offers}
use Rattle.xen_netif.specs.declared.fault.SizeFault.{SizeFault}
use Rattle.xen_netif.specs.declared.fragment.Fragment.{Fragment}
use Rattle.xen_netif.specs.declared.status.Status.TheVariants.{Error}
use Rattle.xen_turns.specs.Tree.{after_chain, after_copy, copy, respond}
use Rattle.xen_turns.specs.Turned.{Refused}
use Rattle.xen_turns.specs.declared.turn.PacketRefusal.TheVariants as refusal
use Rattle.xen_host.specs.EngineAt.{engine_at}
use Rattle.xen_host.proofs.EarlyLemmas.{early_as, late_early}
use Rattle.xen_turns.specs.declared.state.State.{State}
use Rattle.xen_host.proofs.engine.Engine.begin_copy.Goals as goal

pub returns-in-Err-clause-led : goal.returns-in-Err-clause-led
returns-in-Err-clause-led g c =
    let q = engine_at (g.W.Wires.wiring c.args.wires.now) (g.R.Room.held c.args.packet.now) c.args.self.now in
    let w = q.wires in
    let chain = q.work.chain in
    let fault = c.in-Err.fault in
    let refused = ap (λ (o : Offers). offered_fragments o chain) (sym c.offers.ensures) ∙ c.in-Err.ensures.answer in
    let kept = ap (λ (l : List Slot). respond w q.state l Error (Refused (refusal.Size fault) 0 (length l))) c.place_fragments.ensures.chain in
    ran_led _ _ _ _ _ _ (Went (g.T.Tallies.did q.wires.program.now.shapes) c.args.counters.now c.args.counters.now) _ _ refl (kept ∙ sym (ap (λ (r : Result (List Fragment) SizeFault). after_chain w q.state chain r) refused)) (c.refuse.ensures.led q.work.packet)

pub returns-in-Ok-clause-led : goal.returns-in-Ok-clause-led
returns-in-Ok-clause-led g c =
    let q = engine_at (g.W.Wires.wiring c.args.wires.now) (g.R.Room.held c.args.packet.now) c.args.self.now in
    let w = q.wires in
    let chain = q.work.chain in
    let new = c.place_fragments.new.self in
    let fs = new.fragments.items in
    let taken = ap (λ (o : Offers). offered_fragments o chain) (sym c.offers.ensures) ∙ c.in-Ok.ensures.answer in
    let none = ap (λ (l : List ℕ). bind (copy w fs l) (after_copy w q.state new.chain)) c.clear.ensures in
    let kept = ap (λ (l : List Slot). bind (copy w fs []) (after_copy w q.state l)) c.place_fragments.ensures.chain in
    ran_from_same _ _ _ _ _ _ _ _ _ (none ∙ kept ∙ sym (ap (λ (r : Result (List Fragment) SizeFault). after_chain w q.state chain r) taken)) c.next_fragment.ensures.led

pub returns-in-Err-clause-early : goal.returns-in-Err-clause-early
returns-in-Err-clause-early g c = late_early _ _ _ c.refuse.ensures.late

pub returns-in-Ok-clause-early : goal.returns-in-Ok-clause-early
returns-in-Ok-clause-early g c =
    let q = engine_at (g.W.Wires.wiring c.args.wires.now) (g.R.Room.held c.args.packet.now) c.args.self.now in
    let w = q.wires in
    let chain = q.work.chain in
    let new = c.place_fragments.new.self in
    let fs = new.fragments.items in
    let taken = ap (λ (o : Offers). offered_fragments o chain) (sym c.offers.ensures) ∙ c.in-Ok.ensures.answer in
    early_as _ _ _ _
    (λ (t : State). ap (λ (l : List ℕ). bind (copy w fs l) (after_copy w t new.chain)) c.clear.ensures ∙ ap (λ (l : List Slot). bind (copy w fs []) (after_copy w t l)) c.place_fragments.ensures.chain
    ∙ sym (ap (λ (r : Result (List Fragment) SizeFault). after_chain w t chain r) taken))
    c.next_fragment.ensures.early
