-- Stated: claims rest on this file.
-- The numbers of causes, which are this project's own.
use Rattle.std.specs.Prelude.{ℕ}
use Rattle.xen_netif.specs.Faults.{chain_fault_number, size_fault_number}
use Rattle.xen_turns.specs.declared.turn.Halt.{Halt}
use Rattle.xen_turns.specs.declared.turn.Halt.TheVariants as halt
use Rattle.xen_turns.specs.declared.turn.PacketRefusal.{PacketRefusal}
use Rattle.xen_turns.specs.declared.turn.PacketRefusal.TheVariants as refusal

abbrev pub halt_number : Halt → ℕ
halt_number halt.TxProducer = 1
halt_number halt.ShortChain = 2
halt_number (halt.Chain fault) = chain_fault_number fault
halt_number halt.RxProducer = 6

abbrev pub refusal_number : PacketRefusal → ℕ
refusal_number (refusal.Size fault) = size_fault_number fault
refusal_number refusal.Grant = 4
refusal_number refusal.FewSlots = 6
refusal_number refusal.RxGrant = 7
