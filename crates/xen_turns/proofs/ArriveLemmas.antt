-- A delivery ends, within the frames; and its runs are the rows of its table.
use Rattle.std.proofs.Common.{◌≡◌, ℕ, ◌<◌, ◌^◌, Bool, true, false, List, [], ◌∷◌, ◌++◌, length, Option, Some, None, refl, sym, subst, append-nil, arith}
use Rattle.xen_netif.specs.Offloads.{is_taken}
use Rattle.xen_netif.specs.declared.offload.Accepts.{Accepts}
use Rattle.xen_netif.specs.declared.offload.RxOffload.{RxOffload}
use Rattle.xen_steps.specs.Drive.{Any, IsPageWant}
use Rattle.xen_steps.specs.Answers.{Fits, number, word_in}
use Rattle.xen_steps.specs.Event.{Event, Notify, Occurs, Read, Write}
use Rattle.xen_steps.specs.declared.want.Answer.{Answer}
use Rattle.xen_steps.specs.declared.want.Answer.TheVariants as answers
use Rattle.xen_steps.specs.declared.want.Want.{Want}
use Rattle.xen_steps.specs.declared.want.Want.TheVariants as want
use Rattle.xen_steps.specs.Steps.{Runs, bind}
use Rattle.xen_steps.proofs.DriveLemmas.{bounded_bind}
use Rattle.xen_steps.proofs.FinishLemmas.{ends_bind, finishes}
use Rattle.xen_steps.proofs.StepsLemmas.{join, split}
use Rattle.xen_rx_fill.specs.Sending.{IsTransmit}
use Rattle.xen_rx_fill.specs.Transmit.{transmit}
use Rattle.xen_rx_fill.specs.Wired.{IsWired}
use Rattle.xen_rx_fill.specs.declared.by_event.phase.TransmitOutcome.{TransmitOutcome}
use Rattle.xen_rx_fill.specs.declared.vif.Vif.{Vif}
use Rattle.xen_rx_fill.specs.declared.by_event.phase.TransmitOutcome.TheVariants as outcome
use Rattle.xen_rx_fill.proofs.Bounds.{bounded_transmit}
use Rattle.xen_rx_fill.proofs.EndLemmas.{ends_transmit}
use Rattle.xen_rx_fill.proofs.SendParts.{runs_transmit, transmit_parts}
use Rattle.xen_turns.specs.Delivered.{IsDeliverable, IsDelivery, few, is_frame, no_frame, not_accepted, overflown, refused, sent, still_halted}
use Rattle.xen_turns.specs.Deliveries.{Arrival, Arrives, arrival, arrived, if_frame, if_taken, unless_halted, whole_delivery}
use Rattle.xen_turns.specs.declared.delivery.delivering.Delivery.{Delivery}
use Rattle.xen_turns.specs.declared.delivery.delivering.Delivery.TheVariants as delivery
use Rattle.xen_turns.specs.declared.state.State.{State}
use Rattle.xen_turns.specs.declared.turn.Halt.{Halt}
use Rattle.xen_turns.specs.declared.wiring.Wiring.{Wiring}

halting : (w : Vif) (s : State) (g : RxOffload) (packet : List ℕ) (h : Option Halt) → IsWired w → Arrives w (unless_halted w s g packet h)
halting w s g packet (Some cause) wired = tt
halting w s g packet None wired =
    let start = transmit w s.rx_index g packet in
    let within = IsPageWant (length w.owners.now) in
    finishes within Any Any (bind start (arrived s)) 263684
    (bounded_bind within Any Any start (arrived s) 263684 0 263684 (bounded_transmit w wired s.rx_index g packet) (λ o t. tt) (omega arith))
    (ends_bind Any Any start (arrived s) (ends_transmit w s.rx_index g packet) (λ o t. tt))

accepted : (w : Vif) (s : State) (g : RxOffload) (packet : List ℕ) (b : Bool) → IsWired w → Arrives w (if_taken w s g packet b)
accepted w s g packet false wired = tt
accepted w s g packet true wired = halting w s g packet s.halt wired

framed : (w : Vif) (accepts : Accepts) (s : State) (g : RxOffload) (packet : List ℕ) (b : Bool) → IsWired w → Arrives w (if_frame w accepts s g packet b)
framed w accepts s g packet false wired = tt
framed w accepts s g packet true wired = accepted w s g packet (is_taken accepts (length packet) g) wired

pub arrives : (w : Vif) (accepts : Accepts) (s : State) (g : RxOffload) (packet : List ℕ) → IsWired w → Arrives w (whole_delivery w accepts s g packet)
arrives w accepts s g packet wired = framed w accepts s g packet (is_frame packet) wired

-- after its transmit a delivery is over
of_transmit : (w : Wiring) (s : State) (g : RxOffload) (packet : List ℕ) (p q : List Event) (o : TransmitOutcome) (r : Arrival) → IsDeliverable w.accepts g packet → s.halt ≡ None →
    IsTransmit w.vif s.rx_index g packet p o → Runs (arrived s o) q r → IsDelivery w s g packet (p ++ q) r.0 r.1
of_transmit w s g packet p (e ∷ q) o r f h t runs = absurd runs
of_transmit w s g packet p [] outcome.Overflow r f h t runs =
    rw append-nil (subst (λ (a : Arrival). IsDelivery w s g packet p a.0 a.1) runs (overflown p f h t))
of_transmit w s g packet p [] outcome.TooFew r f h t runs =
    rw append-nil (subst (λ (a : Arrival). IsDelivery w s g packet p a.0 a.1) runs (few p f h t))
of_transmit w s g packet p [] (outcome.Refused used) r f h t runs =
    rw append-nil (subst (λ (a : Arrival). IsDelivery w s g packet p a.0 a.1) runs (refused p used f h t))
of_transmit w s g packet p [] (outcome.Sent used) r f h t runs =
    rw append-nil (subst (λ (a : Arrival). IsDelivery w s g packet p a.0 a.1) runs (sent p used f h t))

of_halt : (w : Wiring) (s : State) (g : RxOffload) (packet : List ℕ) (h : Option Halt) (p : List Event) (r : Arrival) → IsDeliverable w.accepts g packet → s.halt ≡ h →
    Runs (unless_halted w.vif s g packet h) p r → IsDelivery w s g packet p r.0 r.1
of_halt w s g packet (Some cause) [] r f e runs = subst (λ (a : Arrival). IsDelivery w s g packet [] a.0 a.1) runs (still_halted cause f e)
of_halt w s g packet (Some cause) (x ∷ p) r f e runs = absurd runs
of_halt w s g packet None p r f e runs =
    let i = split (transmit w.vif s.rx_index g packet) (arrived s) p r runs in
    rw i.joined (of_transmit w s g packet i.front i.back i.mid r f e (transmit_parts w.vif s.rx_index g packet i.front i.mid i.first) i.later)

of_taken : (w : Wiring) (s : State) (g : RxOffload) (packet : List ℕ) (b : Bool) (p : List Event) (r : Arrival) → is_frame packet ≡ true → is_taken w.accepts (length packet) g ≡ b →
    Runs (if_taken w.vif s g packet b) p r → IsDelivery w s g packet p r.0 r.1
of_taken w s g packet false [] r f t runs = subst (λ (a : Arrival). IsDelivery w s g packet [] a.0 a.1) runs (not_accepted f t)
of_taken w s g packet false (x ∷ p) r f t runs = absurd runs
of_taken w s g packet true p r f t runs = of_halt w s g packet s.halt p r (f, t) refl runs

of_frame : (w : Wiring) (s : State) (g : RxOffload) (packet : List ℕ) (b : Bool) (p : List Event) (r : Arrival) → is_frame packet ≡ b →
    Runs (if_frame w.vif w.accepts s g packet b) p r → IsDelivery w s g packet p r.0 r.1
of_frame w s g packet false [] r f runs = subst (λ (a : Arrival). IsDelivery w s g packet [] a.0 a.1) runs (no_frame f)
of_frame w s g packet false (x ∷ p) r f runs = absurd runs
of_frame w s g packet true p r f runs = of_taken w s g packet (is_taken w.accepts (length packet) g) p r f refl runs

-- each run is a row
pub delivery_rows : (w : Wiring) (s : State) (g : RxOffload) (packet : List ℕ) (p : List Event) (after : State) (what : Delivery) → Runs (whole_delivery w.vif w.accepts s g packet) p (after, what) → IsDelivery w s g packet p after what
delivery_rows w s g packet p after what runs = of_frame w s g packet (is_frame packet) p (after, what) refl runs

sends : (w : Wiring) (s : State) (g : RxOffload) (packet : List ℕ) (p : List Event) (o : TransmitOutcome) → IsDeliverable w.accepts g packet → s.halt ≡ None → IsTransmit w.vif s.rx_index g packet p o →
    Runs (whole_delivery w.vif w.accepts s g packet) p (arrival s o)
sends w s g packet p o f h t =
    let start = transmit w.vif s.rx_index g packet in
    let runs = join start (arrived s) p [] o (arrival s o) (runs_transmit w.vif s.rx_index g packet p o t) refl in
    let runs' = rw append-nil at runs in
    subst (λ (b : Bool). Runs (if_frame w.vif w.accepts s g packet b) p (arrival s o)) (sym f.0)
    (subst (λ (b : Bool). Runs (if_taken w.vif s g packet b) p (arrival s o)) (sym f.1) (subst (λ (c : Option Halt). Runs (unless_halted w.vif s g packet c) p (arrival s o)) (sym h) runs'))

-- each row is a run
pub rows_run : (w : Wiring) (s : State) (g : RxOffload) (packet : List ℕ) (p : List Event) (after : State) (what : Delivery) → IsDelivery w s g packet p after what → Runs (whole_delivery w.vif w.accepts s g packet) p (after, what)
rows_run w s g packet _ _ _ (no_frame f) = subst (λ (b : Bool). Runs (if_frame w.vif w.accepts s g packet b) [] (s, delivery.NoFrame)) (sym f) refl
rows_run w s g packet _ _ _ (not_accepted f t) =
    subst (λ (b : Bool). Runs (if_frame w.vif w.accepts s g packet b) [] (s, delivery.NotAccepted)) (sym f)
    (subst (λ (b : Bool). Runs (if_taken w.vif s g packet b) [] (s, delivery.NotAccepted)) (sym t) refl)
rows_run w s g packet _ _ _ (still_halted cause f h) =
    subst (λ (b : Bool). Runs (if_frame w.vif w.accepts s g packet b) [] (s, delivery.Halted cause)) (sym f.0)
    (subst (λ (b : Bool). Runs (if_taken w.vif s g packet b) [] (s, delivery.Halted cause)) (sym f.1)
    (subst (λ (c : Option Halt). Runs (unless_halted w.vif s g packet c) [] (s, delivery.Halted cause)) (sym h) refl))
rows_run w s g packet _ _ _ (overflown p f h t) = sends w s g packet p outcome.Overflow f h t
rows_run w s g packet _ _ _ (few p f h t) = sends w s g packet p outcome.TooFew f h t
rows_run w s g packet _ _ _ (refused p used f h t) = sends w s g packet p (outcome.Refused used) f h t
rows_run w s g packet _ _ _ (sent p used f h t) = sends w s g packet p (outcome.Sent used) f h t

-- what is answered to a want of a page's word, or of a notice, is an event
pub page_event : (frames : ℕ) (w : Want) (a : Answer) → ((w ≡ want.Done → ⊥) → IsPageWant frames w) → Fits w a → word_in a < 2 ^ 32 → (e : Event) × Occurs w (number a) e
page_event frames (want.Read at) (answers.Word v) p f h = (Read at v, (h, refl))
page_event frames (want.Read at) (answers.Counter v) p f h = absurd f
page_event frames (want.Read at) answers.Nothing p f h = absurd f
page_event frames (want.Write at v) (answers.Word u) p f h = absurd f
page_event frames (want.Write at v) (answers.Counter u) p f h = absurd f
page_event frames (want.Write at v) answers.Nothing p f h = (Write at v, (refl, refl))
page_event frames want.Instr a p f h = absurd (p (λ (e : want.Instr ≡ want.Done). cc))
page_event frames (want.Load m k j) a p f h = absurd (p (λ (e : want.Load m k j ≡ want.Done). cc))
page_event frames (want.Add m k j d) a p f h = absurd (p (λ (e : want.Add m k j d ≡ want.Done). cc))
page_event frames (want.Notify port) (answers.Word v) p f h = absurd f
page_event frames (want.Notify port) (answers.Counter v) p f h = absurd f
page_event frames (want.Notify port) answers.Nothing p f h = (Notify port, (refl, refl))
page_event frames want.Done (answers.Word v) p f h = absurd f
page_event frames want.Done (answers.Counter v) p f h = absurd f
page_event frames want.Done answers.Nothing p f h = absurd f
