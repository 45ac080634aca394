use Rattle.std.proofs.Common.{refl, ap, ◌∙◌}
use Rattle.xen_steps.specs.Steps.{bind}
use Rattle.xen_host.specs.Asks as ask
use Rattle.xen_host.proofs.HostLedLemmas.{asks_one}
use Rattle.xen_page.specs.declared.place.Place.{Place}
use Rattle.xen_steps.specs.Places.{add32, page_word}
use Rattle.xen_rx_fill.specs.Places.{tx_word}
use Rattle.xen_turns.specs.Tree.{after_look, check_again}
use Rattle.xen_host.specs.EngineAt.{engine_at}
use Rattle.xen_host.proofs.engine.Engine.announce.Goals as goal

pub returns : goal.returns
returns g c =
    record {
      led = λ packet.
          let q = engine_at (g.W.Wires.wiring c.args.wires.now) packet c.args.self.now in
          let w = q.wires in
          let left = bind (check_again w q.state.tx_index) (after_look w q.state) in
          let v = add32 q.state.tx_index 1 in
          asks_one _ _ _ _ _ left _ _ _ (ask.Push (tx_word w.vif 1) v 0) _ c.push.ensures (ap (λ (p : Place). ask.Push p v 0) (c.header.ensures ∙ ap (λ k. page_word k 1) c.tx.ensures)) refl tt
          (left, (0, (refl, refl), refl), refl) (record { is_rest = refl; waits = (refl, (refl, λ a. tt)); is_here = refl; told = refl }) refl tt;
    }
