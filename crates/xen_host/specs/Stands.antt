-- Stated: claims rest on this file.
-- What holds of an engine between two calls.
use Rattle.xen_rx_fill.specs.Wired.{IsWired}
use Rattle.xen_turns.specs.Within.{TurnsComplete}
use Rattle.xen_host.specs.Completing.{TaskCompletes}
use Rattle.xen_host.specs.EngineAt.{EngineAt}
use Rattle.xen_host.specs.Fits.{Fits}

pub record Stands (e : EngineAt) : Type 0 where
  pub fits : Fits e.stage e.work
  pub wired : IsWired e.wires.vif
  pub turns : TurnsComplete e.wires
  pub left : TaskCompletes e.wires e.state e.stage e.work
