-- A wait ends, within the frames; and its runs are the rows of its table.
use Rattle.std.proofs.Common.{◌≡◌, ℕ, ◌<◌, ◌^◌, Bool, true, false, List, [], ◌∷◌, Option, Some, None, refl, sym, ap, ◌∙◌, subst, arith}
use Rattle.std.specs.Prelude.{if◌then◌else◌, nat_lt}
use Rattle.std.proofs.lemmas.Bool.{le-ltb, lt-ltb, ltb-false, ltb-true}
use Rattle.xen_steps.specs.Event.{Event, Read}
use Rattle.xen_steps.specs.Places.{available}
use Rattle.xen_steps.specs.Steps.{Runs}
use Rattle.xen_rx_fill.specs.Places.{rx_word}
use Rattle.xen_turns.specs.Awaited.{IsAwaiting, last_look, overflown, posted, still_halted, waiting}
use Rattle.xen_turns.specs.Waits.{Wait, WaitEnds, check_unless, wait_end, whole_wait}
use Rattle.xen_turns.specs.declared.delivery.wait.Awaited.{Awaited}
use Rattle.xen_turns.specs.declared.delivery.wait.Awaited.TheVariants as awaited
use Rattle.xen_turns.specs.declared.state.State.{State}
use Rattle.xen_turns.specs.declared.turn.Halt.{Halt}
use Rattle.xen_turns.specs.declared.wiring.Wiring.{Wiring}

checks : (frames rx : ℕ) (s : State) (wanted : ℕ) (h : Option Halt) → rx < frames → WaitEnds frames (check_unless rx s wanted h)
checks frames rx s wanted (Some cause) inside = tt
checks frames rx s wanted None inside = ((inside, omega arith), (tt, λ a e o. ((inside, omega arith), (tt, λ b f q. tt))))

pub wait_ends : (frames rx : ℕ) (s : State) (wanted : ℕ) → rx < frames → WaitEnds frames (whole_wait rx s wanted)
wait_ends frames rx s wanted inside = checks frames rx s wanted s.halt inside

of_count : (w : Wiring) (s : State) (wanted p m : ℕ) (b : Bool) → s.halt ≡ None → p < 2 ^ 32 → available s.rx_index p ≡ Some m → nat_lt m wanted ≡ b →
    IsAwaiting w s wanted (last_look w.vif s.rx_index wanted p) s (if b then awaited.Waiting else awaited.Posted)
of_count w s wanted p m true h small e less = waiting p m h small e (ltb-true m wanted less)
of_count w s wanted p m false h small e less = posted p m h small e (ltb-false m wanted less)

of_shown : (w : Wiring) (s : State) (wanted p : ℕ) (shown : Option ℕ) → s.halt ≡ None → p < 2 ^ 32 → available s.rx_index p ≡ shown →
    IsAwaiting w s wanted (last_look w.vif s.rx_index wanted p) (wait_end s wanted shown).0 (wait_end s wanted shown).1
of_shown w s wanted p None h small e = overflown p h small e
of_shown w s wanted p (Some m) h small e = of_count w s wanted p m (nat_lt m wanted) h small e refl

-- a wait's end is a row
pub wait_row : (w : Wiring) (s : State) (wanted p : ℕ) → s.halt ≡ None → p < 2 ^ 32 →
    IsAwaiting w s wanted (last_look w.vif s.rx_index wanted p) (wait_end s wanted (available s.rx_index p)).0 (wait_end s wanted (available s.rx_index p)).1
wait_row w s wanted p h small = of_shown w s wanted p (available s.rx_index p) h small refl

of_halt : (w : Wiring) (s : State) (wanted : ℕ) (h : Option Halt) (p : List Event) (r : Wait) → s.halt ≡ h →
    Runs (check_unless w.vif.rx s wanted h) p r → IsAwaiting w s wanted p r.0 r.1
of_halt w s wanted (Some cause) [] r h runs = subst (λ (x : Wait). IsAwaiting w s wanted [] x.0 x.1) runs (still_halted cause h)
of_halt w s wanted (Some cause) (x ∷ p) r h runs = absurd runs
of_halt w s wanted None [] r h runs = absurd runs
of_halt w s wanted None (x ∷ []) r h runs = absurd runs.2
of_halt w s wanted None (x ∷ y ∷ z ∷ p) r h runs = absurd runs.2.2
of_halt w s wanted None (x ∷ y ∷ []) r h runs =
    let b = runs.2.0 in
    let row = wait_row w s wanted b h runs.2.1.0 in
    let ends = subst (λ (q : Wait). IsAwaiting w s wanted (last_look w.vif s.rx_index wanted b) q.0 q.1) runs.2.2 row in
    let stored = subst (λ (f : Event). IsAwaiting w s wanted (f ∷ Read (rx_word w.vif 0) b ∷ []) r.0 r.1) (sym runs.1.1) ends in
    subst (λ (f : Event). IsAwaiting w s wanted (x ∷ f ∷ []) r.0 r.1) (sym runs.2.1.1) stored

-- each run is a row
pub wait_rows : (w : Wiring) (s : State) (wanted : ℕ) (p : List Event) (after : State) (what : Awaited) →
    Runs (whole_wait w.vif.rx s wanted) p (after, what) → IsAwaiting w s wanted p after what
wait_rows w s wanted p after what runs = of_halt w s wanted s.halt p (after, what) refl runs

checked : (w : Wiring) (s : State) (wanted p : ℕ) (r : Wait) → s.halt ≡ None → p < 2 ^ 32 → wait_end s wanted (available s.rx_index p) ≡ r →
    Runs (whole_wait w.vif.rx s wanted) (last_look w.vif s.rx_index wanted p) r
checked w s wanted p r h small e =
    subst (λ (o : Option Halt). Runs (check_unless w.vif.rx s wanted o) (last_look w.vif s.rx_index wanted p) r) (sym h) (0, (refl, refl), (p, (small, refl), e))

counted : (s : State) (wanted m : ℕ) (b : Bool) → nat_lt m wanted ≡ b → wait_end s wanted (Some m) ≡ (s, if b then awaited.Waiting else awaited.Posted)
counted s wanted m b e = ap (λ (x : Bool). (s, if x then awaited.Waiting else awaited.Posted)) e

-- each row is a run
pub rows_wait : (w : Wiring) (s : State) (wanted : ℕ) (p : List Event) (after : State) (what : Awaited) →
    IsAwaiting w s wanted p after what → Runs (whole_wait w.vif.rx s wanted) p (after, what)
rows_wait w s wanted _ _ _ (still_halted cause h) = subst (λ (o : Option Halt). Runs (check_unless w.vif.rx s wanted o) [] (s, awaited.Halted cause)) (sym h) refl
rows_wait w s wanted _ _ _ (overflown p h small e) = checked w s wanted p _ h small (ap (wait_end s wanted) e)
rows_wait w s wanted _ _ _ (posted p m h small e enough) = checked w s wanted p _ h small (ap (wait_end s wanted) e ∙ counted s wanted m false (le-ltb m wanted enough))
rows_wait w s wanted _ _ _ (waiting p m h small e less) = checked w s wanted p _ h small (ap (wait_end s wanted) e ∙ counted s wanted m true (lt-ltb m wanted less))
