-- Stated: claims rest on this file.
-- A wait for rx slots as a computation that asks, for a host that serves each event itself.
use Rattle.std.specs.Prelude.{ℕ, if◌then◌else◌, nat_lt, Option, Some, None}
use Rattle.xen_steps.specs.Drive.{IsPageWant}
use Rattle.xen_steps.specs.Finish.{Finishes}
use Rattle.xen_steps.specs.Places.{add32, available, page_word}
use Rattle.xen_steps.specs.Steps.{Steps, ask, done}
use Rattle.xen_steps.specs.declared.want.Want.TheVariants as wants
use Rattle.xen_turns.specs.declared.delivery.wait.Awaited.{Awaited}
use Rattle.xen_turns.specs.declared.delivery.wait.Awaited.TheVariants as awaited
use Rattle.xen_turns.specs.declared.state.State.{State}
use Rattle.xen_turns.specs.declared.turn.Halt.{Halt}
use Rattle.xen_turns.specs.declared.turn.Halt.TheVariants as halt

-- The state after a wait, and its answer.
abbrev pub Wait : Type 0
Wait = State × Awaited

-- The end of a wait for `wanted` slots, by the number of slots that the producer shows.
abbrev pub wait_end : State → ℕ → Option ℕ → Wait
wait_end s wanted None = (record s { halt = Some halt.RxProducer }, awaited.Halted halt.RxProducer)
wait_end s wanted (Some m) = (s, if nat_lt m wanted then awaited.Waiting else awaited.Posted)

-- The producer is read, word 0 of the rx ring's page.
abbrev pub last_read : ℕ → State → ℕ → Steps Wait
last_read rx s wanted = ask (wants.Read (page_word rx 0)) (λ p. done (wait_end s wanted (available s.rx_index p)))

-- The event index is stored before it, word 1.
abbrev pub final_check : ℕ → State → ℕ → Steps Wait
final_check rx s wanted = ask (wants.Write (page_word rx 1) (add32 s.rx_index wanted)) (λ _. last_read rx s wanted)

abbrev pub check_unless : ℕ → State → ℕ → Option Halt → Steps Wait
check_unless rx s wanted (Some cause) = done (s, awaited.Halted cause)
check_unless rx s wanted None = final_check rx s wanted

-- A wait over the rx ring's page in this frame.
abbrev pub whole_wait : ℕ → State → ℕ → Steps Wait
whole_wait rx s wanted = check_unless rx s wanted s.halt

-- It ends, whatever it is answered, and until then wants nothing outside the first `frames` frames.
abbrev pub WaitEnds : ℕ → Steps Wait → Type 0
WaitEnds frames s = Finishes (IsPageWant frames) s
