-- A host's loop ends: each step makes an access or gives a notice, or is the last.
use Rattle.std.proofs.Common.{◌≡◌, ℕ, zero, suc, ◌+◌, ◌*◌, ◌≤◌, Bool, true, false, List, [], ◌∷◌, ◌++◌, length, map, refl, sym, ap, ◌∙◌, subst, arith}
use Rattle.std.specs.Prelude.{Option, None, Some, IsSome, replicate}
use Rattle.std.proofs.lemmas.List.{length-replicate}
use Rattle.std.proofs.lemmas.Bool.Decides.{nat_tests}
use Rattle.xen_netif.specs.Offloads.{has_extra}
use Rattle.xen_netif.specs.declared.offload.RxOffload.{RxOffload}
use Rattle.xen_steps.specs.Drive.{Goes, IsPageWant, LedBy}
use Rattle.xen_steps.specs.Event.{Event, Read, Write}
use Rattle.xen_steps.specs.Places.{add32, page_word}
use Rattle.xen_steps.specs.Steps.{Runs, Steps, done, want_of}
use Rattle.xen_steps.specs.declared.want.Want.TheVariants as want
use Rattle.xen_steps.proofs.FinishLemmas.{finishes_gone, runs_gone, some_run}
use Rattle.xen_rx_fill.specs.Places.{rx_word, tx_word}
use Rattle.xen_rx_fill.specs.Sending.{IsTransmit}
use Rattle.xen_rx_fill.specs.declared.by_event.phase.TransmitOutcome.{TransmitOutcome}
use Rattle.xen_rx_fill.specs.declared.by_event.phase.TransmitOutcome.TheVariants as outcome
use Rattle.xen_rx_fill.proofs.Figures.{extras, most_transmit, n_transmit}
use Rattle.xen_rx_fill.proofs.Bounds.{frame_inside}
use Rattle.xen_turns.specs.Awaited.{IsAwaiting}
use Rattle.xen_turns.specs.Awaited as awaited
use Rattle.xen_turns.specs.Delivered.{IsDeliverable, IsDelivery, is_frame}
use Rattle.xen_turns.specs.Delivered as delivered
use Rattle.xen_turns.specs.Deliveries.{whole_delivery}
use Rattle.xen_turns.specs.Program.{event_of}
use Rattle.xen_turns.specs.Tree.{unless_halted as turn_by, whole_turn}
use Rattle.xen_turns.specs.Turned.{Turned}
use Rattle.xen_turns.specs.Turns.{IsTurn}
use Rattle.xen_turns.specs.Waits.{Wait, check_unless, whole_wait}
use Rattle.xen_turns.specs.Within.{may_want}
use Rattle.xen_turns.specs.declared.delivery.wait.Awaited.{Awaited}
use Rattle.xen_turns.specs.declared.delivery.delivering.Delivery.{Delivery}
use Rattle.xen_turns.specs.declared.state.State.{State}
use Rattle.xen_turns.specs.declared.turn.Halt.{Halt}
use Rattle.xen_turns.specs.declared.wiring.Wiring.{Wiring}
use Rattle.xen_turns.proofs.ArriveLemmas.{arrives, delivery_rows}
use Rattle.xen_turns.proofs.Figures.{FewSlots, turn_accesses, turn_most}
use Rattle.xen_turns.proofs.TurnParts.{turn_parts}
use Rattle.xen_turns.proofs.TurnRuns.{runs_turn}
use Rattle.xen_turns.proofs.WaitLemmas.{wait_ends, wait_rows}
use Rattle.xen_host.specs.Asks.{Ask, IsSized, did_all, did_by, read_by}
use Rattle.xen_host.specs.Asks as ask
use Rattle.xen_host.specs.Fed.{WaitsFor}
use Rattle.xen_host.specs.Loops.{AreSteps, IsStep}
use Rattle.xen_host.specs.Queues.{BegunBy, DeliveryGoesOn, HasBegun, IsBegun, IsDelivering, IsTurning, IsWaitBegun, IsWaiting, TurnGoesOn, WaitGoesOn, seen}
use Rattle.xen_host.specs.Queues.{packet_of, resting, wiring}
use Rattle.xen_host.specs.Wired.{wiring_of}
use Rattle.xen_host.specs.UnderWay.{first_read, read_by_some}
use Rattle.xen_host.specs.Rest.{is_waiting, reads_in, rest_in, rest_of_delivery, rest_of_wait}
use Rattle.xen_host.specs.Told.{IsPush, IsToldAt}
use Rattle.xen_host.specs.declared.op.HostOp.{HostOp}
use Rattle.xen_host.specs.declared.queue.Queue.{Queue}
use Rattle.xen_host.specs.declared.stage.Stage.{Stage}
use Rattle.xen_host.specs.declared.stage.Stage.TheVariants as stage
use Rattle.xen_host.proofs.WeightLemmas.{After, over, goes, IsAsked, IsSizedSome, weight, weight_append, owed, owed_some, paid, paid_some, asked_weighs, last_sized, step_few, few}

-- words that a host lends
blank : List ℕ
blank = replicate 1024 0

blank_length : length blank ≡ 1024
unfolding blank
blank_length = length-replicate {A = ℕ} 1024 0

-- ---- a turn

-- a turn whose chain has at most k slots more than eighteen
abbrev pub turn_weighs : ℕ → Option Halt → ℕ
turn_weighs k None = 33028 + 4 * k
turn_weighs k (Some cause) = 0

ended_light : {A : Type 0} (x r : A) (p : List Event) → Runs (done x) p r → weight p ≤ 0
ended_light x r [] h = omega arith
ended_light x r (e ∷ p) h = absurd h

turn_light : (k : ℕ) (w : Wiring) → FewSlots w.offers k → (s : State) (p : List Event) (new : State) (u : Turned) → IsTurn w s p new u → weight p ≤ turn_weighs k s.halt
turn_light k w most s p new u t = by s.halt (runs_turn w s p new u t)
  where
    by : (o : Option Halt) → Runs (turn_by w s o) p (new, u) → weight p ≤ turn_weighs k o
    by None r = omega (arith, turn_accesses w k most s p new u t, (turn_most w s p new u t).told)
    by (Some cause) r = ended_light _ _ p r

begins : (t p : List Event) (m : ℕ) → weight (t ++ p) ≤ m → weight t ≤ m
begins t p m l = omega (arith, weight_append t p, l)

abbrev pub OnTurn : ℕ → State → Queue → List Event → Option Ask → Type 0
OnTurn k s q t None = ⊥
OnTurn k s q t (Some a) = FewSlots (wiring q).offers k × IsTurning q s t a

on_turn_light : (k : ℕ) (s : State) (q : Queue) (t : List Event) (o : Option Ask) → OnTurn k s q t o → weight t ≤ turn_weighs k s.halt
on_turn_light k s q t None h = absurd h
on_turn_light k s q t (Some a) h =
    let w = wiring q in
    let e = seen q in
    let whole = whole_turn w s in
    let rest = rest_in w e.state e.stage e.work in
    let r = some_run (may_want w) rest (finishes_gone (may_want w) whole rest t (q.turns s) h.1.gone) in
    begins t r.0 _ (turn_light k w h.0 s (t ++ r.0) r.1.0 r.1.1 (turn_parts w s (t ++ r.0) r.1.0 r.1.1 (runs_gone whole rest t r.0 (r.1.0, r.1.1) h.1.gone r.2)))

-- the events of a step, behind those before it
abbrev traced : (q next : Queue) → IsStep q next → List Event → List Event → List Event → List Event
traced q next c t reads labels = t ++ (reads ++ (labels ++ (did_all c.stepped.first c.lent_after ++ did_by c.stepped.last c.lent_after)))

some : (q next : Queue) (c : IsStep q next) → 1 ≤ length c.lent
some q next c = omega (arith, c.enough.page)

sized : (q next : Queue) (c : IsStep q next) → IsSized c.stepped.last
sized q next c = last_sized c.stepped.first c.stepped.last c.stepped.said.sized

-- What is asked weighs more than was owed.
adds : (q next : Queue) (c : IsStep q next) (t reads labels : List Event) (owes : ℕ) → owes ≤ weight reads → IsAsked c.stepped.last →
    weight t + owes + 1 ≤ weight (traced q next c t reads labels) + owed c.stepped.last
adds q next c t reads labels owes paid i =
    let first = did_all c.stepped.first c.lent_after in
    let last = did_by c.stepped.last c.lent_after in
    let some_after : 1 ≤ length c.lent_after = omega (arith, c.enough.page, c.words) in
    omega (
      arith,
      weight_append t (reads ++ (labels ++ (first ++ last))),
      weight_append reads (labels ++ (first ++ last)),
      weight_append labels (first ++ last),
      weight_append first last,
      paid,
      asked_weighs c.stepped.last c.lent_after some_after (sized q next c) i,
    )

ends : (t reads rest : List Event) (owes most : ℕ) → owes ≤ weight reads → weight (t ++ (reads ++ rest)) ≤ most → weight t + owes ≤ most
ends t reads rest owes most paid l = omega (arith, weight_append t (reads ++ rest), weight_append reads rest, paid, l)

is_some : {A : Type 0} (o : Option A) (x : A) → o ≡ Some x → IsSome o
is_some {A = A} o x e = subst (λ (y : Option A). IsSome y) (sym e) refl

-- where a turn has come to, by what was asked last
on_turn : (k : ℕ) (s : State) (q : Queue) → FewSlots (wiring q).offers k → (a : Ask) (t : List Event) → TurnGoesOn q a s t → (most v : ℕ) → (weight t ≤ turn_weighs k s.halt → v ≤ most) →
    IsSized a → (IsAsked a → v + 1 ≤ weight t + owed a) → After (OnTurn k s) most v q
on_turn k s q f (ask.TurnOver kind) t h most v l z more = over (is_some (resting q) q.engine.state h.1) (l (turn_light k (wiring q) f s t _ _ h.0))
on_turn k s q f (ask.DeliveryOver what) t h most v l z more = absurd h.waits
on_turn k s q f (ask.WaitOver what) t h most v l z more = absurd h.waits
on_turn k s q f (ask.Read at count) t h most v l z more = goes t (ask.Read at count) (f, h) z (more tt)
on_turn k s q f (ask.Entry at reference rights) t h most v l z more = goes t (ask.Entry at reference rights) (f, h) z (more tt)
on_turn k s q f (ask.Write at count) t h most v l z more = goes t (ask.Write at count) (f, h) z (more tt)
on_turn k s q f (ask.Store at word) t h most v l z more = goes t (ask.Store at word) (f, h) z (more tt)
on_turn k s q f (ask.StoreTwo at one two) t h most v l z more = goes t (ask.StoreTwo at one two) (f, h) z (more tt)
on_turn k s q f (ask.Push at word read) t h most v l z more = goes t (ask.Push at word read) (f, h) z (more tt)
on_turn k s q f (ask.Notify port) t h most v l z more = goes t (ask.Notify port) (f, h) z (more tt)

pub turn_step : (k : ℕ) (s : State) (q next : Queue) (c : IsStep q next) (t : List Event) (o : Option Ask) → OnTurn k s q t o → IsSizedSome o →
    After (OnTurn k s) (turn_weighs k s.halt) (weight t + owed_some o) next
turn_step k s q next c t None p z = absurd p
turn_step k s q next c t (Some a) p z =
    let reads = read_by a c.lent in
    let labels = map event_of c.stepped.labels in
    let pays = paid a c.lent (some q next c) z in
    let few = subst (λ w. FewSlots (wiring_of w).offers k) (sym c.stepped.wires) p.0 in
    let rest = labels ++ (did_all c.stepped.first c.lent_after ++ did_by c.stepped.last c.lent_after) in
    on_turn k s next few c.stepped.last (traced q next c t reads labels) (c.stepped.turn s t a p.1) (turn_weighs k s.halt) (weight t + owed a) (ends t reads rest (owed a) (turn_weighs k s.halt) pays)
    (sized q next c) (adds q next c t reads labels (owed a) pays)

-- ---- a delivery

abbrev pub delivery_weighs : RxOffload → Option Halt → ℕ
delivery_weighs o None = 16484 + 4 * extras (has_extra o)
delivery_weighs o (Some cause) = 0

is_short : (packet : List ℕ) → is_frame packet ≡ true → length packet ≤ 65535
is_short packet f = grind (arith, nat_tests)

sent_light : (w : Wiring) (s : State) (o : RxOffload) (packet : List ℕ) (p : List Event) (out : TransmitOutcome) → IsDeliverable w.accepts o packet → s.halt ≡ None → IsTransmit w.vif s.rx_index o packet p out →
    weight p ≤ delivery_weighs o s.halt
sent_light w s o packet p out f h t =
    let l : weight p ≤ 16484 + 4 * extras (has_extra o) = omega (arith, n_transmit w.vif s.rx_index o packet p out (is_short packet f.0) t, (most_transmit w.vif s.rx_index o packet p out t).told) in
    subst (λ (x : Option Halt). weight p ≤ delivery_weighs o x) (sym h) l

delivery_light : (w : Wiring) (s : State) (o : RxOffload) (packet : List ℕ) (p : List Event) (after : State) (what : Delivery) → IsDelivery w s o packet p after what → weight p ≤ delivery_weighs o s.halt
delivery_light w s o packet _ _ _ (delivered.no_frame f) = omega arith
delivery_light w s o packet _ _ _ (delivered.not_accepted f t) = omega arith
delivery_light w s o packet _ _ _ (delivered.still_halted cause f h) = omega arith
delivery_light w s o packet _ _ _ (delivered.overflown p f h t) = sent_light w s o packet p outcome.Overflow f h t
delivery_light w s o packet _ _ _ (delivered.few p f h t) = sent_light w s o packet p outcome.TooFew f h t
delivery_light w s o packet _ _ _ (delivered.refused p used f h t) = sent_light w s o packet p (outcome.Refused used) f h t
delivery_light w s o packet _ _ _ (delivered.sent p used f h t) = sent_light w s o packet p (outcome.Sent used) f h t

abbrev pub OnDelivery : State → RxOffload → List ℕ → Queue → List Event → Option Ask → Type 0
OnDelivery s o packet q t a = IsDelivering q s o packet t a

on_delivery_light : (s : State) (o : RxOffload) (packet : List ℕ) (q : Queue) (t : List Event) (a : Option Ask) → IsDelivering q s o packet t a → weight t ≤ delivery_weighs o s.halt
on_delivery_light s o packet q t a h =
    let w = (seen q).wires.vif in
    let e = seen q in
    let within = IsPageWant (length e.wires.vif.owners.now) in
    let accepts = (seen q).wires.accepts in
    let whole = whole_delivery w accepts s o packet in
    let rest = rest_of_delivery w e.state e.stage e.work in
    let r = some_run within rest (finishes_gone within whole rest t (arrives w accepts s o packet q.wired) h.0.gone) in
    begins t r.0 _ (delivery_light (wiring q) s o packet (t ++ r.0) r.1.0 r.1.1 (delivery_rows (wiring q) s o packet (t ++ r.0) r.1.0 r.1.1 (runs_gone whole rest t r.0 (r.1.0, r.1.1) h.0.gone r.2)))

on_delivery : (s : State) (o : RxOffload) (packet : List ℕ) (q : Queue) (a : Ask) (t : List Event) → DeliveryGoesOn q a s o packet t → (most v : ℕ) → (weight t ≤ delivery_weighs o s.halt → v ≤ most) →
    IsSized a → (IsAsked a → v + 1 ≤ weight t + owed a) → After (OnDelivery s o packet) most v q
on_delivery s o packet q (ask.DeliveryOver what) t h most v l z more = over (is_some (resting q) q.engine.state h.1) (l (delivery_light (wiring q) s o packet t _ _ h.0))
on_delivery s o packet q (ask.TurnOver kind) t h most v l z more = absurd h.0.waits
on_delivery s o packet q (ask.WaitOver what) t h most v l z more = absurd h.0.waits
on_delivery s o packet q (ask.Read at count) t h most v l z more = goes t (ask.Read at count) h z (more tt)
on_delivery s o packet q (ask.Entry at reference rights) t h most v l z more = goes t (ask.Entry at reference rights) h z (more tt)
on_delivery s o packet q (ask.Write at count) t h most v l z more = goes t (ask.Write at count) h z (more tt)
on_delivery s o packet q (ask.Store at word) t h most v l z more = goes t (ask.Store at word) h z (more tt)
on_delivery s o packet q (ask.StoreTwo at one two) t h most v l z more = goes t (ask.StoreTwo at one two) h z (more tt)
on_delivery s o packet q (ask.Push at word read) t h most v l z more = goes t (ask.Push at word read) h z (more tt)
on_delivery s o packet q (ask.Notify port) t h most v l z more = goes t (ask.Notify port) h z (more tt)

delivery_step : (s : State) (o : RxOffload) (packet : List ℕ) (q next : Queue) (c : IsStep q next) (t : List Event) (a : Option Ask) → OnDelivery s o packet q t a → IsSizedSome a →
    After (OnDelivery s o packet) (delivery_weighs o s.halt) (weight t + owed_some a) next
delivery_step s o packet q next c t a p z =
    let reads = read_by_some a c.lent in
    let pays = paid_some a c.lent (some q next c) z in
    let rest = did_all c.stepped.first c.lent_after ++ did_by c.stepped.last c.lent_after in
    on_delivery s o packet next c.stepped.last (traced q next c t reads []) (c.stepped.delivery s o packet t a p).0 (delivery_weighs o s.halt) (weight t + owed_some a)
    (ends t reads rest (owed_some a) (delivery_weighs o s.halt) pays) (sized q next c) (adds q next c t reads [] (owed_some a) pays)

-- ---- a wait

wait_light : (w : Wiring) (s : State) (pages : ℕ) (p : List Event) (after : State) (what : Awaited) → IsAwaiting w s pages p after what → weight p ≤ 2
wait_light w s pages _ _ _ (awaited.still_halted cause h) = omega arith
wait_light w s pages _ _ _ (awaited.overflown p h l e) = omega arith
wait_light w s pages _ _ _ (awaited.posted p m h l e f) = omega arith
wait_light w s pages _ _ _ (awaited.waiting p m h l e f) = omega arith

abbrev pub OnWait : State → ℕ → List ℕ → Queue → List Event → Option Ask → Type 0
OnWait s pages packet q t o = IsWaiting q s pages packet t o

on_wait_light : (s : State) (pages : ℕ) (packet : List ℕ) (q : Queue) (t : List Event) (o : Option Ask) → IsWaiting q s pages packet t o → weight t ≤ 2
on_wait_light s pages packet q t o h =
    let e = seen q in
    let rx = e.wires.vif.rx in
    let within = IsPageWant (length e.wires.vif.owners.now) in
    let whole = whole_wait rx s pages in
    let rest = rest_of_wait rx e.state e.stage in
    let r = some_run within rest (finishes_gone within whole rest t (wait_ends (length e.wires.vif.owners.now) rx s pages (frame_inside e.wires.vif rx q.wired.rx)) h.0.gone) in
    begins t r.0 2 (wait_light (wiring q) s pages (t ++ r.0) r.1.0 r.1.1 (wait_rows (wiring q) s pages (t ++ r.0) r.1.0 r.1.1 (runs_gone whole rest t r.0 (r.1.0, r.1.1) h.0.gone r.2)))

on_wait : (s : State) (pages : ℕ) (packet : List ℕ) (q : Queue) (a : Ask) (t : List Event) → WaitGoesOn q a s pages packet t → (v : ℕ) → (weight t ≤ 2 → v ≤ 2) →
    IsSized a → (IsAsked a → IsWaiting q s pages packet t (Some a) → v + 1 ≤ weight t + owed a) → After (OnWait s pages packet) 2 v q
on_wait s pages packet q (ask.WaitOver what) t h v l z more = over (is_some (resting q) q.engine.state h.1) (l (wait_light (wiring q) s pages t _ _ h.0))
on_wait s pages packet q (ask.TurnOver kind) t h v l z more = absurd h.0.waits
on_wait s pages packet q (ask.DeliveryOver what) t h v l z more = absurd h.0.waits
on_wait s pages packet q (ask.Read at count) t h v l z more = goes t (ask.Read at count) h z (more tt h)
on_wait s pages packet q (ask.Entry at reference rights) t h v l z more = goes t (ask.Entry at reference rights) h z (more tt h)
on_wait s pages packet q (ask.Write at count) t h v l z more = goes t (ask.Write at count) h z (more tt h)
on_wait s pages packet q (ask.Store at word) t h v l z more = goes t (ask.Store at word) h z (more tt h)
on_wait s pages packet q (ask.StoreTwo at one two) t h v l z more = goes t (ask.StoreTwo at one two) h z (more tt h)
on_wait s pages packet q (ask.Push at word read) t h v l z more = goes t (ask.Push at word read) h z (more tt h)
on_wait s pages packet q (ask.Notify port) t h v l z more = goes t (ask.Notify port) h z (more tt h)

wait_step : (s : State) (pages : ℕ) (packet : List ℕ) (q next : Queue) (c : IsStep q next) (t : List Event) (o : Option Ask) → OnWait s pages packet q t o → IsSizedSome o →
    After (OnWait s pages packet) 2 (weight t + owed_some o) next
wait_step s pages packet q next c t o p z =
    let reads = read_by_some o c.lent in
    let pays = paid_some o c.lent (some q next c) z in
    let rest = did_all c.stepped.first c.lent_after ++ did_by c.stepped.last c.lent_after in
    on_wait s pages packet next c.stepped.last (traced q next c t reads []) (c.stepped.wait s pages packet t o p).0 (weight t + owed_some o)
    (ends t reads rest (owed_some o) 2 pays) (sized q next c) (λ i h. adds q next c t reads [] (owed_some o) pays i)

-- Its first step makes both accesses, or ends: a PUSH leads to the second stage, and nothing was made in the first.
pushed : (a : Ask) (lent : List ℕ) (t : List Event) → IsPush 1 a → weight (did_by a lent) ≤ weight t → 2 ≤ weight t + owed a
pushed (ask.Push at word read) lent t p l = omega (arith, l)
pushed (ask.Read at count) lent t p l = absurd p
pushed (ask.Entry at reference rights) lent t p l = absurd p
pushed (ask.Write at count) lent t p l = absurd p
pushed (ask.Store at word) lent t p l = absurd p
pushed (ask.StoreTwo at one two) lent t p l = absurd p
pushed (ask.Notify port) lent t p l = absurd p
pushed (ask.TurnOver kind) lent t p l = absurd p
pushed (ask.DeliveryOver what) lent t p l = absurd p
pushed (ask.WaitOver what) lent t p l = absurd p

no_read : (a : Ask) → IsSized a → {A : Type 0} → (s : Steps A) → WaitsFor a 0 s → owed a ≡ 0
no_read (ask.Read at count) z s h = absurd (omega (arith, z.0, h.0))
no_read (ask.Entry at reference rights) z s h = absurd (omega (arith, h.0))
no_read (ask.Push at word read) z s h = absurd (omega (arith, h.0))
no_read (ask.Write at count) z s h = refl
no_read (ask.Store at word) z s h = refl
no_read (ask.StoreTwo at one two) z s h = refl
no_read (ask.Notify port) z s h = refl
no_read (ask.TurnOver kind) z s h = refl
no_read (ask.DeliveryOver what) z s h = refl
no_read (ask.WaitOver what) z s h = refl

reads_next : (rx : ℕ) (s : State) (pages : ℕ) (o : Option Halt) → want_of (check_unless rx s pages o) ≡ want.Read (page_word rx 0) → ⊥
reads_next rx s pages None e = cc e
reads_next rx s pages (Some cause) e = cc e

both_made : (rx : ℕ) (s after : State) (pages left : ℕ) (o : Option Halt) (t : List Event) → 1 ≤ weight t → LedBy (check_unless rx s pages o) t (whole_wait rx after left) → 2 ≤ weight t
both_made rx s after pages left o [] l g = absurd (omega (arith, l))
both_made rx s after pages left (Some cause) (e ∷ t) l g = absurd g.1.1
both_made rx s after pages left None (e ∷ []) l g =
    absurd (reads_next rx after left after.halt (sym (ap (λ (x : Steps Wait). want_of x) (sym g.1.2 ∙ g.2))))
both_made rx s after pages left None (e ∷ f ∷ t) l g =
    let made = subst (λ (x : Steps Wait). Goes x f g.2.0) g.1.2 g.2.1 in
    let two : weight (Write (page_word rx 1) (add32 s.rx_index pages) ∷ Read (page_word rx 0) made.0 ∷ t) ≡ 2 + weight t = omega arith in
    let same : weight (e ∷ f ∷ t) ≡ 2 + weight t = ap (λ x. weight (x ∷ f ∷ t)) g.1.1.1 ∙ ap (λ x. weight (Write (page_word rx 1) (add32 s.rx_index pages) ∷ x ∷ t)) made.1.1 ∙ two in
    omega (arith, same)

first_waits : (table lent : List ℕ) (rx : ℕ) (s after : State) (pages : ℕ) (g : Stage) (a : Ask) (t : List Event) → is_waiting g ≡ true → IsToldAt table g a →
    WaitsFor a (reads_in g) (rest_of_wait rx after g) → LedBy (whole_wait rx s pages) t (rest_of_wait rx after g) → IsSized a → weight (did_by a lent) ≤ weight t →
    1 ≤ weight t + owed a → 2 ≤ weight t + owed a
first_waits table lent rx s after pages stage.Ready a t i told waits gone z did one = cc i
first_waits table lent rx s after pages stage.Announce a t i told waits gone z did one = cc i
first_waits table lent rx s after pages (stage.Slot left) a t i told waits gone z did one = cc i
first_waits table lent rx s after pages (stage.Entry k at) a t i told waits gone z did one = cc i
first_waits table lent rx s after pages (stage.Page k f frame) a t i told waits gone z did one = cc i
first_waits table lent rx s after pages (stage.Fill f p) a t i told waits gone z did one = cc i
first_waits table lent rx s after pages (stage.Respond k) a t i told waits gone z did one = cc i
first_waits table lent rx s after pages stage.Push a t i told waits gone z did one = cc i
first_waits table lent rx s after pages stage.Notice a t i told waits gone z did one = cc i
first_waits table lent rx s after pages (stage.Deliver producer) a t i told waits gone z did one = cc i
first_waits table lent rx s after pages (stage.Wait left) a t i told waits gone z did one =
    let none = no_read a z (whole_wait rx after left) waits in
    let some : 1 ≤ weight t = omega (arith, one, none) in
    omega (arith, both_made rx s after pages left s.halt t some gone)
first_waits table lent rx s after pages (stage.WaitLook left) a t i told waits gone z did one = pushed a lent t told did
first_waits table lent rx s after pages stage.Several a t i told waits gone z did one = cc i

-- ---- a host's loop

-- After what begins it, what was asked is on its way, or over.
turn_begun : (k : ℕ) (old begun : Queue) → FewSlots (wiring old).offers k → (producer : ℕ) (lent : List ℕ) (ops ops_after : List HostOp) (count : ℕ) → 1024 ≤ length lent → (b : BegunBy old begun producer ops ops_after count lent) →
    After (OnTurn k old.engine.state) (turn_weighs k old.engine.state.halt) (weight (first_read old.engine.state.halt (Read (tx_word (wiring old).vif 0) producer))) begun
turn_begun k old begun most producer lent ops ops_after count long b =
    let s = old.engine.state in
    let reads = first_read s.halt (Read (tx_word (wiring old).vif 0) producer) in
    let first = did_all b.first lent in
    let last = did_by b.last lent in
    let z = last_sized b.first b.last b.said.sized in
    on_turn k s begun (subst (λ w. FewSlots (wiring_of w).offers k) (sym b.wires) most) b.last (reads ++ (first ++ last)) b.turn (turn_weighs k s.halt) (weight reads) (begins reads (first ++ last) (turn_weighs k s.halt)) z
    (λ i. omega (arith, weight_append reads (first ++ last), weight_append first last, asked_weighs b.last lent (omega (arith, long)) z i))

pub turns_few : (k : ℕ) (old begun new : Queue) → FewSlots (wiring old).offers k → (producer : ℕ) (ops ops_after : List HostOp) (count n : ℕ) → HasBegun old begun producer ops ops_after count → AreSteps n begun new → n ≤ 33027 + 4 * k
turns_few k old begun new most producer ops ops_after count n h steps =
    let s = old.engine.state in
    let long : 1024 ≤ length blank = omega (arith, blank_length) in
    let b = turn_begun k old begun most producer blank ops ops_after count long (h blank long) in
    by s.halt (step_few n _ begun new steps (λ t a p z. few (OnTurn k s) (turn_weighs k s.halt) (on_turn_light k s) (turn_step k s) n begun new steps t (Some a) p z) b)
  where
    by : (o : Option Halt) → suc n + weight (first_read o (Read (tx_word (wiring old).vif 0) producer)) ≤ turn_weighs k o + 1 → n ≤ 33027 + 4 * k
    by None l = omega (arith, l)
    by (Some cause) l = omega (arith, l)

pub deliveries_few : (old begun new : Queue) (producer : ℕ) (o : RxOffload) (packet : List ℕ) (n : ℕ) → IsBegun old begun producer o packet → AreSteps n begun new → n ≤ 16484 + 4 * extras (has_extra o)
deliveries_few old begun new producer o packet n h steps =
    let s = old.engine.state in
    let reads = first_read s.halt (Read (rx_word (wiring old).vif 0) producer) in
    by s.halt (few (OnDelivery s o packet) (delivery_weighs o s.halt) (on_delivery_light s o packet) (delivery_step s o packet) n begun new steps reads None h.delivering tt)
  where
    by : (x : Option Halt) → n + (weight (first_read x (Read (rx_word (wiring old).vif 0) producer)) + 0) ≤ delivery_weighs o x + 1 → n ≤ 16484 + 4 * extras (has_extra o)
    by None l = omega (arith, l)
    by (Some cause) l = omega (arith, l)

-- with an extra or not
pub extra_steps : (b : Bool) (n : ℕ) → n ≤ 16484 + 4 * extras b → n ≤ 16488
extra_steps true n h = omega (arith, h)
extra_steps false n h = omega (arith, h)

pub plain_steps : (b : Bool) (n : ℕ) → b ≡ false → n ≤ 16484 + 4 * extras b → n ≤ 16484
plain_steps true n e h = cc
plain_steps false n e h = omega (arith, h)

first_wait : (old next : Queue) (c : IsStep old next) (s : State) (pages : ℕ) (packet : List ℕ) → IsWaiting old s pages packet [] None → After (OnWait s pages packet) 2 1 next
first_wait old next c s pages packet p =
    let first = did_all c.stepped.first c.lent_after in
    let last = did_by c.stepped.last c.lent_after in
    let t = first ++ last in
    let z = sized old next c in
    on_wait s pages packet next c.stepped.last t (c.stepped.wait s pages packet [] None p).0 1 (λ l. omega arith) z
    (λ i h. first_waits (seen old).wires.vif.table.now c.lent_after (seen next).wires.vif.rx s next.engine.state pages next.engine.stage c.stepped.last t h.0.is_here c.stepped.told h.0.waits h.0.gone z
    (omega (arith, weight_append first last)) (adds old next c [] [] [] 0 (omega arith) i))

pub waits_few : (old begun new : Queue) (pages n : ℕ) → IsWaitBegun old begun pages → AreSteps n begun new → n ≤ 2
waits_few old begun new pages zero h steps = omega arith
waits_few old begun new pages (suc n) h steps =
    let s = old.engine.state in
    let packet = packet_of old in
    let rest = step_few n 1 steps.0 new steps.2 (λ t a p z. few (OnWait s pages packet) 2 (on_wait_light s pages packet) (wait_step s pages packet) n steps.0 new steps.2 t (Some a) p z)
    (first_wait begun steps.0 steps.1 s pages packet h.waiting) in
    omega (arith, rest)
