-- Stated: claims rest on this file.
-- A host waits for rx slots: a row for each answer.
-- It is the end of ring.h's RING_FINAL_CHECK_FOR_REQUESTS, for as many requests as a packet takes slots: req_event is stored,
-- and then req_prod is read.
use Rattle.std.specs.Prelude.{ℕ, ◌≡◌, ◌<◌, ◌≤◌, ◌^◌, List, [], ◌∷◌, Some, None}
use Rattle.xen_steps.specs.Event.{Event, Read, Write}
use Rattle.xen_steps.specs.Places.{add32, available}
use Rattle.xen_rx_fill.specs.Places.{rx_word}
use Rattle.xen_rx_fill.specs.declared.vif.Vif.{Vif}
use Rattle.xen_turns.specs.declared.delivery.wait.Awaited.{Awaited}
use Rattle.xen_turns.specs.declared.delivery.wait.Awaited.TheVariants as awaited
use Rattle.xen_turns.specs.declared.state.State.{State}
use Rattle.xen_turns.specs.declared.turn.Halt.{Halt}
use Rattle.xen_turns.specs.declared.turn.Halt.TheVariants as halt
use Rattle.xen_turns.specs.declared.wiring.Wiring.{Wiring}

-- The event index is stored, `wanted` slots past the last that was answered, and only then the producer is read.
abbrev pub last_look : Vif → ℕ → ℕ → ℕ → List Event
last_look w x wanted p = Write (rx_word w 1) (add32 x wanted) ∷ Read (rx_word w 0) p ∷ []

-- The trace, the state after it, and the answer.
pub data IsAwaiting (w : Wiring) (s : State) (wanted : ℕ) : List Event → State → Awaited → Type 0 where
  still_halted : (cause : Halt) → s.halt ≡ Some cause → IsAwaiting w s wanted [] s (awaited.Halted cause)
  overflown : (p : ℕ) → s.halt ≡ None → p < 2 ^ 32 → available s.rx_index p ≡ None →
      IsAwaiting w s wanted (last_look w.vif s.rx_index wanted p) (record s { halt = Some halt.RxProducer }) (awaited.Halted halt.RxProducer)
  posted : (p m : ℕ) → s.halt ≡ None → p < 2 ^ 32 → available s.rx_index p ≡ Some m → wanted ≤ m →
      IsAwaiting w s wanted (last_look w.vif s.rx_index wanted p) s awaited.Posted
  waiting : (p m : ℕ) → s.halt ≡ None → p < 2 ^ 32 → available s.rx_index p ≡ Some m → m < wanted →
      IsAwaiting w s wanted (last_look w.vif s.rx_index wanted p) s awaited.Waiting
