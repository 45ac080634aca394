-- Stated: claims rest on this file.
-- What a program leaves, the responses to a chain, and the state after them.
use Rattle.std.specs.Prelude.{ℕ, ◌==◌, List, map, Option, None, Some, if◌then◌else◌}
use Rattle.std.specs.Int.{w16, cast_unsigned}
use Rattle.xen_netif.specs.Chain.{Slot, requests_of}
use Rattle.xen_netif.specs.Slots.{status_code}
use Rattle.xen_netif.specs.Words.{joined}
use Rattle.xen_netif.specs.declared.status.Status.{Status}
use Rattle.xen_netif.specs.declared.status.Status.TheVariants as status
use Rattle.xen_netif.specs.declared.tx.TxReq.{TxReq}
use Rattle.xen_steps.specs.Places.{add32}
use Rattle.xen_turns.specs.declared.state.State.{State}

-- what a program left: r0's low half, the packet, and how many counter operations it did
pub record Left : Type 0 where
  pub number : ℕ
  pub packet : List ℕ
  pub ops : ℕ

-- PASS is OKAY, DROP is DROPPED, all else that isn't TX is ERROR
abbrev pub status_of : ℕ → Status
status_of n = if n == 2 then status.Okay else if n == 1 then status.Dropped else status.Error

-- the response to a request: its id and the status; to an extra, id 0 and NULL
abbrev pub response : Status → Option TxReq → ℕ
response s None = joined 0 (cast_unsigned w16 (status_code status.Null))
response s (Some req) = joined req.id (cast_unsigned w16 (status_code s))

abbrev pub responses : Status → List Slot → List ℕ
responses s slots = map (response s) (requests_of slots)

-- n tx slots are answered
abbrev pub answered : State → ℕ → State
answered s n = record s { tx_index = add32 s.tx_index n }

-- n rx slots are answered
abbrev pub after_slots : State → ℕ → State
after_slots s n = record s { rx_index = add32 s.rx_index n }
