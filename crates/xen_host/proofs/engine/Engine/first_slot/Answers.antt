use Rattle.std.proofs.Common.{suc, List, ap}
use Rattle.xen_steps.specs.Steps.{bind}
use Rattle.xen_host.proofs.HostLedLemmas.{asked_from}
use Rattle.xen_netif.specs.Chain.{Slot}
use Rattle.xen_turns.specs.Tree.{after_scan, read_slots}
use Rattle.xen_host.specs.EngineAt.{engine_at}
use Rattle.xen_host.proofs.engine.Engine.first_slot.Goals as goal

pub returns : goal.returns
returns g c =
    record {
      led = λ packet.
          let q = engine_at (g.W.Wires.wiring c.args.wires.now) packet c.args.self.now in
          let w = q.wires in
          let same = ap (λ (l : List Slot). bind (read_slots w q.state.tx_index (suc c.args.left) l) (after_scan w q.state)) c.clear.ensures in
          asked_from _ _ _ _ _ _ _ _ _ same (c.read_slot.ensures.led q.work.packet);
    }
