-- Stated: claims rest on this file.
-- What a host is asked by one of several turns, whose ops stand among those of the others, and the slots that it has read ahead.
use Rattle.std.specs.Prelude.{ℕ, zero, suc, ◌+◌, ◌*◌, Bool, true, false, not, List, [], ◌∷◌, ◌++◌, ◌==◌, ◌&&◌, if◌then◌else◌, take, drop}
use Rattle.xen_netif.specs.Chain.{Slot}
use Rattle.xen_steps.specs.Event.{Event}
use Rattle.xen_steps.specs.Places.{add32}
use Rattle.xen_rx_fill.specs.Places.{tx_slot}
use Rattle.xen_turns.specs.declared.wiring.Wiring.{Wiring}
use Rattle.xen_host.specs.Asks.{Ask, DeliveryOver, Entry, Push, Read, TurnOver, WaitOver, Write, op_of, reads_at}
use Rattle.xen_host.specs.declared.op.HostOp.{HostOp}

-- What C gets of an ask whose words are from this one on among the lent ones.
abbrev pub lane_op_at : ℕ → Ask → HostOp
lane_op_at lent (Read at count) = record (op_of (Read at count)) { lent = lent }
lane_op_at lent (Entry at reference rights) = record (op_of (Entry at reference rights)) { lent = lent }
lane_op_at lent (Write at count) = record (op_of (Write at count)) { lent = lent }
lane_op_at lent (Push at word read) = record (op_of (Push at word read)) { lent = lent }
lane_op_at lent a = op_of a

-- It is said: all but the push of the tx ring's responses, and that something is over.
abbrev pub is_said : ℕ → Ask → Bool
is_said tx (Push at word read) = not ((at.frame == tx) && (at.word == 2))
is_said tx (TurnOver kind) = false
is_said tx (DeliveryOver what) = false
is_said tx (WaitOver what) = false
is_said tx a = true

-- Those of these asks that are.
abbrev pub said_by : ℕ → List Ask → List Ask
said_by tx [] = []
said_by tx (a ∷ more) = if is_said tx a then a ∷ said_by tx more else said_by tx more

-- The slot of this number, of those that were read ahead, and the reads of n of them, from an index on.
abbrev pub slot_at : List ℕ → ℕ → Slot
slot_at lent i = take 3 (drop (3 * i) lent)

abbrev pub slot_reads : Wiring → ℕ → List ℕ → ℕ → ℕ → List Event
slot_reads w t lent i zero = []
slot_reads w t lent i (suc n) = slot_reads w t lent i n ++ reads_at (tx_slot w.vif (add32 t n) 0) (slot_at lent (i + n))
