-- For proofs: no claim rests on this file.
-- What a computation makes before it has had so many reads.
use Rattle.std.specs.Prelude.{ℕ, zero, suc, ◌≡◌, ◌⊎◌, true}
use Rattle.xen_steps.specs.Steps.{Steps, ask, done, never}
use Rattle.xen_steps.specs.declared.want.Want.TheVariants as want
use Rattle.xen_rx_fill.specs.Places.{tx_word}
use Rattle.xen_turns.specs.Tree.{read_event}
use Rattle.xen_turns.specs.Turned.{Ending, Turned, Idle, Ran, Refused, Halted}
use Rattle.xen_turns.specs.Woven.{is_in_slot}
use Rattle.xen_turns.specs.declared.wiring.Wiring.{Wiring}

-- ---- reads, responses, and their push

-- Where the event index is read.
abbrev pub IsEventRead : Wiring → Steps Ending → Type 0
IsEventRead w s = (t : ℕ) × (n : ℕ) × (e : Ending) × (s ≡ read_event w t n e)

-- With n reads at most, a computation makes responses besides, and then their push, behind which the event index is read.
abbrev pub Calm : Wiring → ℕ → Steps Ending → Type 0
Calm w n (done r) = Unit {0}
Calm w zero (ask (want.Read at) k) = Unit {0}
Calm w (suc n) (ask (want.Read at) k) = (a : ℕ) → Calm w n (k a)
Calm w n (ask (want.Write at v) k) = ((is_in_slot w at ≡ true) × ((a : ℕ) → Calm w n (k a))) ⊎ ((at ≡ tx_word w.vif 2) × (n ≡ 0) × ((a : ℕ) → IsEventRead w (k a)))
Calm w n (ask want.Instr k) = ⊥
Calm w n (ask (want.Load m j i) k) = ⊥
Calm w n (ask (want.Add m j i delta) k) = ⊥
Calm w n (ask (want.Notify port) k) = ⊥
Calm w n (ask want.Done k) = Unit {0}
Calm w n never = Unit {0}

-- ---- runs with no more than n reads

-- Q of what each gives, with the number of reads that it has left.
abbrev pub Within : {A : Type 0} → (ℕ → A → Type 0) → ℕ → Steps A → Type 0
Within Q n (done x) = Q n x
Within Q zero (ask (want.Read at) k) = Unit {0}
Within Q (suc n) (ask (want.Read at) k) = (a : ℕ) → Within Q n (k a)
Within Q n (ask (want.Write at v) k) = (a : ℕ) → Within Q n (k a)
Within Q n (ask want.Instr k) = (a : ℕ) → Within Q n (k a)
Within Q n (ask (want.Load m j i) k) = (a : ℕ) → Within Q n (k a)
Within Q n (ask (want.Add m j i delta) k) = (a : ℕ) → Within Q n (k a)
Within Q n (ask (want.Notify port) k) = (a : ℕ) → Within Q n (k a)
Within Q n (ask want.Done k) = Unit {0}
Within Q n never = Unit {0}

abbrev pub IsHalted : Turned → Type 0
IsHalted Idle = ⊥
IsHalted (Ran number packet ops slots) = ⊥
IsHalted (Refused cause ops slots) = ⊥
IsHalted (Halted cause) = Unit {0}

abbrev pub Halts : ℕ → Ending → Type 0
Halts j r = IsHalted r.1
