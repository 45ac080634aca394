-- Stated: claims rest on this file.
-- A queue that was made, new or from where another one ended.
use Rattle.std.specs.Prelude.{◌≡◌, List, Option, None}
use Rattle.bpf_lists.specs.declared.list.MapList.{MapList}
use Rattle.bpf_verify.specs.Consistent.{Accepted}
use Rattle.xen_back.specs.Queues.{IsReady, rx_ring_of, state_of, tx_ring_of, wiring_of}
use Rattle.xen_back.specs.declared.desc.QueueDesc.{QueueDesc}
use Rattle.xen_back.specs.declared.queue.Queue.{Queue}
use Rattle.xen_turns.specs.declared.state.State.{State}
use Rattle.xen_rx_fill.specs.Wired.{IsWired}

-- It is of the description, but for the index at which that has both rings begin, and is between turns in this state.
pub record IsResumed (program : Accepted) (lists : List (Option MapList)) (desc : QueueDesc) (s : State) (q : Queue) : Type 0 where
  pub tx_ring : tx_ring_of q ≡ desc.tx
  pub rx_ring : rx_ring_of q ≡ desc.rx
  pub tx : (wiring_of q).vif.tx ≡ desc.tx.frame
  pub rx : (wiring_of q).vif.rx ≡ desc.rx.frame
  pub table : (wiring_of q).vif.table.now ≡ desc.table.now
  pub owners : (wiring_of q).vif.owners.now ≡ desc.owners.now
  pub granter : (wiring_of q).vif.granter ≡ desc.granter
  pub user : (wiring_of q).vif.user ≡ desc.user
  pub port : (wiring_of q).vif.port ≡ desc.port
  pub offers : (wiring_of q).offers ≡ desc.offers
  pub accepts : (wiring_of q).accepts ≡ desc.accepts
  pub accepted : (wiring_of q).program.now ≡ program
  pub lists_are : (wiring_of q).lists.now ≡ lists
  pub ifindex : (wiring_of q).ifindex ≡ desc.ifindex
  pub queue : (wiring_of q).queue ≡ desc.queue
  pub state : state_of q ≡ s
  pub ready : IsReady q
  pub wired : IsWired (wiring_of q).vif

-- Both rings begin at the description's index.
abbrev pub IsMade : Accepted → List (Option MapList) → QueueDesc → Queue → Type 0
IsMade program lists desc q = IsResumed program lists desc (record { tx_index = desc.start; rx_index = desc.start; halt = None }) q
