use Rattle.std.proofs.Common.{ap, ◌∙◌}
use Rattle.xen_steps.specs.Steps.{done}
use Rattle.xen_host.specs.Led.{beside}
use Rattle.xen_rx_fill.specs.Transmit.{outcome_of}
use Rattle.xen_rx_fill.specs.declared.by_event.phase.TransmitOutcome.{TransmitOutcome}
use Rattle.xen_host.proofs.FillLemmas.{fill_same}
use Rattle.xen_host.specs.EngineAt.{engine_at}
use Rattle.xen_host.proofs.engine.Engine.replied.Goals as goal

pub returns-clause-led : goal.returns-clause-led
returns-clause-led g c =
    let q = engine_at (g.W.Wires.wiring c.args.wires.now) (g.R.Room.held c.args.packet.now) c.args.self.now in
    let same = ap (λ (o : TransmitOutcome). done o) (c.outcome_of-outcome.ensures ∙ ap (λ k. outcome_of c.args.grants k) c.len.ensures.value) in
    fill_same _ _ c.args.purpose (beside q) _ _ _ _ _ same c.filled.ensures.led
