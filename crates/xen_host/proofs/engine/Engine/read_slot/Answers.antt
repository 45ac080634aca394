use Rattle.std.proofs.Common.{[], ◌∷◌, ◌++◌, length, refl, ap, arith}
use Rattle.xen_host.specs.Asks as ask
use Rattle.xen_host.proofs.HostLedLemmas.{asks_one}
use Rattle.xen_page.specs.declared.place.Place.{Place}
use Rattle.xen_steps.specs.Places.{add32}
use Rattle.xen_rx_fill.specs.Places.{tx_slot}
use Rattle.xen_turns.specs.Rest.{rest_of_slot}
use Rattle.xen_turns.specs.Tree.{after_scan, judged, read_slot, read_slots}
use Rattle.xen_netif.specs.Chain.{Slot}
use Rattle.xen_netif.specs.Standing.{standing}
use Rattle.xen_host.proofs.AskLemmas.{asks_slot}
use Rattle.xen_host.specs.EngineAt.{engine_at}
use Rattle.xen_host.proofs.engine.Engine.read_slot.Goals as goal

pub returns-clause-led : goal.returns-clause-led
returns-clause-led g c =
    λ packet.
    let q = engine_at (g.W.Wires.wiring c.args.wires.now) packet c.args.self.now in
    let w = q.wires in
    let i = add32 q.state.tx_index (length q.work.chain) in
    let left = rest_of_slot w q.state c.args.left q.work.chain (read_slot w i) in
    let judge = λ (slot : Slot). judged (q.work.chain ++ slot ∷ []) (standing (q.work.chain ++ slot ∷ [])) (read_slots w q.state.tx_index c.args.left (q.work.chain ++ slot ∷ [])) in
    asks_one _ _ _ _ _ left _ _ _ (ask.Read (tx_slot w.vif i 0) 3) _ c.read.ensures (ap (λ (p : Place). ask.Read p 3) c.slot_place.ensures) refl (omega arith, omega arith)
    refl (record { is_rest = refl; waits = (refl, asks_slot w i judge (after_scan w q.state)); is_here = refl; told = tt }) refl c.requires.wants

pub returns-clause-early : goal.returns-clause-early
returns-clause-early g c = λ packet early. record { state = refl; left = λ x. refl }
