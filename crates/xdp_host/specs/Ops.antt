-- Stated: claims rest on this file.
-- Where a queue stands, in the numbers of include/laxonje.h.
use Rattle.std.specs.Prelude.{Option, None, Some}
use Rattle.xen_turns.specs.Causes.{halt_number}
use Rattle.xen_turns.specs.declared.state.State.{State}
use Rattle.xen_turns.specs.declared.turn.Halt.{Halt}
use Rattle.xdp_host.specs.declared.queue_abi.XdpQueueState.{XdpQueueState}

-- no queue, or one inside a turn
abbrev pub no_state : XdpQueueState
no_state = record { kind = 0; tx_index = 0; rx_index = 0; halt = 0 }

abbrev pub standing_of : State → Option Halt → XdpQueueState
standing_of s None = record { kind = 1; tx_index = s.tx_index; rx_index = s.rx_index; halt = 0 }
standing_of s (Some cause) = record { kind = 2; tx_index = s.tx_index; rx_index = s.rx_index; halt = halt_number cause }

abbrev pub state_of : State → XdpQueueState
state_of s = standing_of s s.halt

abbrev pub state_or : Option State → XdpQueueState
state_or None = no_state
state_or (Some s) = state_of s
