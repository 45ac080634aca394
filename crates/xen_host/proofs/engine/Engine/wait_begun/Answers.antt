use Rattle.std.proofs.Common.{refl, sym, ap, ◌∙◌}
use Rattle.std.specs.Prelude.{Option}
use Rattle.xen_host.specs.Asks as ask
use Rattle.xen_host.proofs.HostLedLemmas.{asked_from, asks_one}
use Rattle.xen_page.specs.declared.place.Place.{Place}
use Rattle.xen_steps.specs.Places.{add32, page_word}
use Rattle.xen_turns.specs.Waits.{check_unless, last_read}
use Rattle.xen_turns.specs.declared.turn.Halt.{Halt}
use Rattle.xen_host.specs.EngineAt.{engine_at}
use Rattle.xen_host.proofs.engine.Engine.wait_begun.Goals as goal

pub returns-in-Some : goal.returns-in-Some
returns-in-Some g c =
    record {
      led = λ packet.
          let q = engine_at (g.W.Wires.wiring c.args.wires.now) packet c.args.self.now in
          let same = ap (λ (o : Option Halt). check_unless q.wires.vif.rx q.state c.args.pages o) c.in-Some.is in
          asked_from _ _ _ _ _ _ _ _ _ (sym same) (c.end_wait.ensures.led q.wires q.work.packet);
    }

pub returns : goal.returns
returns g c =
    record {
      led = λ packet.
          let q = engine_at (g.W.Wires.wiring c.args.wires.now) packet c.args.self.now in
          let rx = q.wires.vif.rx in
          let v = add32 q.state.rx_index c.args.pages in
          let left = last_read rx q.state c.args.pages in
          let live = ap (λ (o : Option Halt). check_unless rx q.state c.args.pages o) c.in_default.is in
          asked_from _ _ _ _ _ _ _ _ _ (sym live) (asks_one _ _ _ _ _ left _ _ _ (ask.Push (page_word rx 1) v 0) _ c.push.ensures (ap (λ (p : Place). ask.Push p v 0) (c.header.ensures ∙ ap (λ k. page_word k 1) c.rx.ensures)) refl tt
          (left, (0, (refl, refl), refl), refl) (record { is_rest = refl; waits = (refl, (refl, λ a. tt)); is_here = refl; told = refl }, refl) refl tt);
    }
