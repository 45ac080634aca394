-- Stated: claims rest on this file.
-- A transmit that hasn't come to its outcome.
use Rattle.std.specs.Prelude.{Bool, true, false}
use Rattle.xen_rx_fill.specs.declared.by_event.phase.Phase.{Phase}
use Rattle.xen_rx_fill.specs.declared.by_event.phase.Phase.TheVariants as phase

abbrev pub is_going : Phase → Bool
is_going (phase.Over o) = false
is_going s = true
