-- Stated: claims rest on this file.
-- What a turn is: its trace is the joining of parts.
use Rattle.std.specs.Prelude.{ℕ, ◌≡◌, ◌≢◌, List, [], ◌++◌, Some, None, Ok, Err, length}
use Rattle.xen_netif.specs.Chain.{HasFault, IsChain, Slot}
use Rattle.xen_netif.specs.Segments.{offered_fragments}
use Rattle.xen_netif.specs.declared.fault.ChainFault.{ChainFault}
use Rattle.xen_netif.specs.declared.fault.SizeFault.{SizeFault}
use Rattle.xen_netif.specs.declared.fragment.Fragment.{Fragment}
use Rattle.xen_netif.specs.declared.status.Status.TheVariants.{Okay, Error}
use Rattle.xen_steps.specs.Event.{Event}
use Rattle.xen_turns.specs.Parts.{IsLook, IsBeginning, HasRead, IsCopy, IsRespond}
use Rattle.xen_turns.specs.Program.{IsProgram}
use Rattle.xen_netif.specs.declared.offload.RxOffload.TheVariants.{Whole}
use Rattle.xen_rx_fill.specs.Sending.{IsTransmit}
use Rattle.xen_turns.specs.Responses.{Left, answered, after_slots, status_of}
use Rattle.xen_turns.specs.Turned.{Turned, Idle, Ran, Refused, Halted}
use Rattle.xen_rx_fill.specs.declared.by_event.phase.TransmitOutcome.TheVariants as outcome
use Rattle.xen_turns.specs.declared.state.State.{State}
use Rattle.xen_turns.specs.declared.turn.Halt.{Halt}
use Rattle.xen_turns.specs.declared.turn.Halt.TheVariants as halt
use Rattle.xen_turns.specs.declared.turn.PacketRefusal.TheVariants as refusal
use Rattle.xen_turns.specs.declared.wiring.Wiring.{Wiring}

-- A packet was copied, and the program ran on it.
pub record HasRun (w : Wiring) (s : State) (p : List Event) (slots : List Slot) (out : Left) : Type 0 where
  pub looks : List Event
  pub reads : List Event
  pub copies : List Event
  pub runs : List Event
  pub joined : p ≡ looks ++ (reads ++ (copies ++ runs))
  pub n : ℕ
  pub fragments : List Fragment
  pub packet : List ℕ
  pub read : HasRead w s n looks reads slots
  pub whole : IsChain slots
  pub sizes : offered_fragments w.offers slots ≡ Ok fragments
  pub copied : IsCopy w fragments copies (Some packet)
  pub ran : IsProgram w packet runs out

-- A turn, a row for each kind of it.
pub data IsTurn (w : Wiring) (s : State) : List Event → State → Turned → Type 0 where
  still_halted : (cause : Halt) → s.halt ≡ Some cause → IsTurn w s [] s (Halted cause)
  idle : (looks : List Event) → s.halt ≡ None → IsLook w s.tx_index looks (Some 0) → IsTurn w s looks s Idle
  overflown : (looks : List Event) → s.halt ≡ None → IsLook w s.tx_index looks None →
      IsTurn w s looks (record s { halt = Some halt.TxProducer }) (Halted halt.TxProducer)
  short : (looks reads : List Event) (n : ℕ) (slots : List Slot) → HasRead w s n looks reads slots → length slots ≡ n → IsBeginning slots →
      IsTurn w s (looks ++ reads) (record s { halt = Some halt.ShortChain }) (Halted halt.ShortChain)
  broken : (looks reads : List Event) (n : ℕ) (slots : List Slot) (fault : ChainFault) → HasRead w s n looks reads slots → HasFault fault slots →
      IsTurn w s (looks ++ reads) (record s { halt = Some (halt.Chain fault) }) (Halted (halt.Chain fault))
  refused_sizes : (looks reads answers : List Event) (n : ℕ) (slots : List Slot) (fault : SizeFault) → HasRead w s n looks reads slots → IsChain slots →
      offered_fragments w.offers slots ≡ Err fault → IsRespond w s.tx_index slots Error answers →
      IsTurn w s (looks ++ (reads ++ answers)) (answered s (length slots)) (Refused (refusal.Size fault) 0 (length slots))
  refused_grant : (looks reads copies answers : List Event) (n : ℕ) (slots : List Slot) (fragments : List Fragment) → HasRead w s n looks reads slots →
      IsChain slots →
      offered_fragments w.offers slots ≡ Ok fragments → IsCopy w fragments copies None → IsRespond w s.tx_index slots Error answers →
      IsTurn w s (looks ++ (reads ++ (copies ++ answers))) (answered s (length slots)) (Refused refusal.Grant 0 (length slots))
  ran : (p answers : List Event) (slots : List Slot) (out : Left) → HasRun w s p slots out → out.number ≢ 3 →
      IsRespond w s.tx_index slots (status_of out.number) answers →
      IsTurn w s (p ++ answers) (answered s (length slots)) (Ran out.number out.packet out.ops (length slots))
  halted_rx : (p sends : List Event) (slots : List Slot) (out : Left) → HasRun w s p slots out → out.number ≡ 3 →
      IsTransmit w.vif s.rx_index Whole out.packet sends outcome.Overflow →
      IsTurn w s (p ++ sends) (record s { halt = Some halt.RxProducer }) (Halted halt.RxProducer)
  refused_few : (p sends answers : List Event) (slots : List Slot) (out : Left) → HasRun w s p slots out → out.number ≡ 3 →
      IsTransmit w.vif s.rx_index Whole out.packet sends outcome.TooFew → IsRespond w s.tx_index slots Error answers →
      IsTurn w s (p ++ (sends ++ answers)) (answered s (length slots)) (Refused refusal.FewSlots out.ops (length slots))
  refused_rx : (p sends answers : List Event) (used : ℕ) (slots : List Slot) (out : Left) → HasRun w s p slots out → out.number ≡ 3 →
      IsTransmit w.vif s.rx_index Whole out.packet sends (outcome.Refused used) →
      IsRespond w s.tx_index slots Error answers → IsTurn w s (p ++ (sends ++ answers)) (answered (after_slots s used) (length slots))
      (Refused refusal.RxGrant out.ops (length slots))
  ran_tx : (p sends answers : List Event) (used : ℕ) (slots : List Slot) (out : Left) → HasRun w s p slots out → out.number ≡ 3 →
      IsTransmit w.vif s.rx_index Whole out.packet sends (outcome.Sent used) →
      IsRespond w s.tx_index slots Okay answers → IsTurn w s (p ++ (sends ++ answers)) (answered (after_slots s used) (length slots))
      (Ran 3 out.packet out.ops (length slots))
