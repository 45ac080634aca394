-- Each event of the pair adds to what its back's queue has.
use Rattle.std.proofs.Common.{◌≡◌, ℕ, refl, sym, ◌∙◌, ap, subst, Bool, true, false, List, [], ◌∷◌, ◌++◌, Option, Some, None, Result, Ok, Err, append_assoc}
use Rattle.std.proofs.lemmas.List.{append-nil}
use Rattle.xen_netif.specs.declared.offload.RxOffload.TheVariants.{Whole}
use Rattle.xen_netif.specs.Chain.{Slot}
use Rattle.xen_steps.specs.Drive.{LedBy}
use Rattle.xen_steps.specs.Event.{Event}
use Rattle.xen_steps.specs.Steps.{Runs, Steps, done, ask, never, bind}
use Rattle.xen_steps.specs.declared.want.Want.{Want}
use Rattle.xen_steps.proofs.DriveLemmas.{gone_more, runs_of_gone}
use Rattle.xen_steps.proofs.StepsLemmas.{join}
use Rattle.xen_turns.specs.Awaited.{IsAwaiting}
use Rattle.xen_turns.specs.Delivered.{IsDelivery}
use Rattle.xen_turns.specs.Deliveries.{Arrival, whole_delivery}
use Rattle.xen_turns.specs.Tree.{Left, after_run, whole_turn}
use Rattle.xen_turns.specs.Turned.{Ending, Turned, Idle, Ran, Refused, Halted}
use Rattle.xen_turns.specs.Turns.{IsTurn}
use Rattle.xen_turns.specs.Waits.{Wait, whole_wait}
use Rattle.xen_turns.specs.declared.delivery.wait.Awaited.{Awaited}
use Rattle.xen_turns.specs.declared.delivery.delivering.Delivery.{Delivery}
use Rattle.xen_turns.specs.declared.state.State.{State}
use Rattle.xen_turns.specs.declared.turn.Halt.{Halt}
use Rattle.xen_turns.specs.declared.wiring.Wiring.{Wiring}
use Rattle.xen_turns.proofs.ArriveLemmas.{delivery_rows}
use Rattle.xen_turns.proofs.TurnParts.{turn_parts}
use Rattle.xen_turns.proofs.WaitLemmas.{wait_rows}
use Rattle.xdp_world.specs.Activities.{Came, Given, Item, SlotsAwaited, all_came}
use Rattle.xdp_world.proofs.Acts.{came_append}
use Rattle.xen_buffers.specs.declared.wiring.FrontWiring.{FrontWiring}
use Rattle.xen_front.specs.Given.{Ending as FrontEnding}
use Rattle.xen_front.specs.Tree.{poll}
use Rattle.xen_front.specs.declared.turn.PollRefusal.{PollRefusal}
use Rattle.xen_front.specs.declared.turn.PostRefusal.{PostRefusal}
use Rattle.xen_front.specs.declared.turn.SendRefusal.{SendRefusal}
use Rattle.honest_pair.specs.Machine.Halves.{Half, Over, HasRun, half_turn, half_unless, second_half}
use Rattle.honest_pair.specs.Machine.Log.{back_asks, begun_at}
use Rattle.honest_pair.specs.Machine.Memory.{after, answer}
use Rattle.honest_pair.specs.Machine.Pair.{Activity, Free, Sending, Posting, Polling, BackAt, Asleep, First, Second, Delivering, Waiting, Deed, OfTurn, OfDelivery, OfWait, Pair, Send, Post, Poll, FrontStep, BackStep, Deliver, Await, Past, asking, begin_delivery, begin_wait, begin_poll, begin_post, begin_send, delivering, first, new_back, next_at, on_back, on_await, on_deliver, on_front, on_poll, on_post, on_send, poll_result, polling, post_result, post_tree, posting, rested, second, send_result, send_tree, sending, turned, waiting, wake}
use Rattle.honest_pair.specs.Machine.Traces.{BackIsAnswered, Follows, HasCopy, HaveDeeds, IsAt, IsCopied, Traced, TraceLaw}
use Rattle.honest_pair.specs.Machine.Traces as traces
use Rattle.honest_pair.proofs.Machine.CopyLemmas.{has_copy}
use Rattle.honest_pair.proofs.Machine.HalfLemmas.{halves}

deeds_more : (w : Wiring) (s : State) (items : List Item) (ds : List Deed) (end : State) (front e : List Item) → HaveDeeds w s items ds end front → HaveDeeds w s (items ++ e) ds end (front ++ e)
deeds_more w _ _ _ _ _ e (traces.begun s front) = traces.begun s (front ++ e)
deeds_more w _ _ _ _ _ e (traces.turned s mid end t more front p ds n i c h) =
    subst (λ l. HaveDeeds w s l (OfTurn p ∷ ds) end (front ++ e)) (sym (append_assoc (all_came t) more e)) (traces.turned s mid end t (more ++ e) (front ++ e) p ds n i c (deeds_more w mid more ds end front e h))
deeds_more w _ _ _ _ _ e (traces.delivered s mid end packet t more front what ds i h) =
    subst (λ l. HaveDeeds w s (Given packet ∷ l) (OfDelivery packet what ∷ ds) end (front ++ e)) (sym (append_assoc (all_came t) more e))
    (traces.delivered s mid end packet t (more ++ e) (front ++ e) what ds i (deeds_more w mid more ds end front e h))
deeds_more w _ _ _ _ _ e (traces.waited s mid end pages t more front answer ds i h) =
    subst (λ l. HaveDeeds w s (SlotsAwaited pages ∷ l) (OfWait pages answer ∷ ds) end (front ++ e)) (sym (append_assoc (all_came t) more e))
    (traces.waited s mid end pages t (more ++ e) (front ++ e) answer ds i (deeds_more w mid more ds end front e h))

deeds_turn : (w : Wiring) (s : State) (items : List Item) (ds : List Deed) (end : State) (front : List Item) (f : List Event) (new : State) (v : Past) → front ≡ all_came f →
    end.halt ≡ None → IsTurn w end f new v.turn → IsCopied w end f v.copy → HaveDeeds w s items ds end front → HaveDeeds w s items (ds ++ OfTurn v ∷ []) new []
deeds_turn w _ _ _ _ _ f new v q n j d (traces.begun s front) =
    subst (λ l. HaveDeeds w s l (OfTurn v ∷ []) new []) (append-nil (all_came f) ∙ sym q) (traces.turned s new new f [] [] v [] n j d (traces.begun new []))
deeds_turn w _ _ _ _ _ f new v q n j d (traces.turned s mid end t more front p ds m i c h) =
    traces.turned s mid new t more [] p (ds ++ OfTurn v ∷ []) m i c (deeds_turn w mid more ds end front f new v q n j d h)
deeds_turn w _ _ _ _ _ f new v q n j d (traces.delivered s mid end packet t more front what ds i h) =
    traces.delivered s mid new packet t more [] what (ds ++ OfTurn v ∷ []) i (deeds_turn w mid more ds end front f new v q n j d h)
deeds_turn w _ _ _ _ _ f new v q n j d (traces.waited s mid end pages t more front answer ds i h) =
    traces.waited s mid new pages t more [] answer (ds ++ OfTurn v ∷ []) i (deeds_turn w mid more ds end front f new v q n j d h)

deeds_delivery : (w : Wiring) (s : State) (items : List Item) (ds : List Deed) (end : State) (front : List Item) (p : List ℕ) (f : List Event) (new : State) (o : Delivery) → front ≡ Given p ∷ all_came f →
    IsDelivery w end Whole p f new o → HaveDeeds w s items ds end front → HaveDeeds w s items (ds ++ OfDelivery p o ∷ []) new []
deeds_delivery w _ _ _ _ _ p f new o q j (traces.begun s front) =
    subst (λ l. HaveDeeds w s l (OfDelivery p o ∷ []) new []) (ap (λ l. Given p ∷ l) (append-nil (all_came f)) ∙ sym q) (traces.delivered s new new p f [] [] o [] j (traces.begun new []))
deeds_delivery w _ _ _ _ _ p f new o q j (traces.turned s mid end t more front x ds m i c h) =
    traces.turned s mid new t more [] x (ds ++ OfDelivery p o ∷ []) m i c (deeds_delivery w mid more ds end front p f new o q j h)
deeds_delivery w _ _ _ _ _ p f new o q j (traces.delivered s mid end packet t more front what ds i h) =
    traces.delivered s mid new packet t more [] what (ds ++ OfDelivery p o ∷ []) i (deeds_delivery w mid more ds end front p f new o q j h)
deeds_delivery w _ _ _ _ _ p f new o q j (traces.waited s mid end pages t more front answer ds i h) =
    traces.waited s mid new pages t more [] answer (ds ++ OfDelivery p o ∷ []) i (deeds_delivery w mid more ds end front p f new o q j h)

deeds_wait : (w : Wiring) (s : State) (items : List Item) (ds : List Deed) (end : State) (front : List Item) (n : ℕ) (f : List Event) (new : State) (o : Awaited) → front ≡ SlotsAwaited n ∷ all_came f →
    IsAwaiting w end n f new o → HaveDeeds w s items ds end front → HaveDeeds w s items (ds ++ OfWait n o ∷ []) new []
deeds_wait w _ _ _ _ _ n f new o q j (traces.begun s front) =
    subst (λ l. HaveDeeds w s l (OfWait n o ∷ []) new []) (ap (λ l. SlotsAwaited n ∷ l) (append-nil (all_came f)) ∙ sym q) (traces.waited s new new n f [] [] o [] j (traces.begun new []))
deeds_wait w _ _ _ _ _ n f new o q j (traces.turned s mid end t more front x ds m i c h) =
    traces.turned s mid new t more [] x (ds ++ OfWait n o ∷ []) m i c (deeds_wait w mid more ds end front n f new o q j h)
deeds_wait w _ _ _ _ _ n f new o q j (traces.delivered s mid end packet t more front what ds i h) =
    traces.delivered s mid new packet t more [] what (ds ++ OfWait n o ∷ []) i (deeds_wait w mid more ds end front n f new o q j h)
deeds_wait w _ _ _ _ _ n f new o q j (traces.waited s mid end pages t more front answer ds i h) =
    traces.waited s mid new pages t more [] answer (ds ++ OfWait n o ∷ []) i (deeds_wait w mid more ds end front n f new o q j h)

begins_at : (w : Wiring) (s : State) (u : Turned) → IsAt w s (next_at w s u) []
begins_at w s Idle = refl
begins_at w s (Ran number packet ops slots) = (refl, refl)
begins_at w s (Refused cause ops slots) = (refl, refl)
begins_at w s (Halted cause) = (refl, refl)

rested_at : (w : Wiring) (s : State) (asleep : Bool) → IsAt w s (rested w asleep s) []
rested_at w s true = refl
rested_at w s false = (refl, refl)

-- a turn's first half, begun or not
half_at : (w : Wiring) (s : State) (b : Bool) (t : Steps Half) (front : List Item) → IsAt w s (First b t) front → (f : List Event) × (front ≡ all_came f) × LedBy (half_turn w s) f t
half_at w s true t front h = h
half_at w s false t front h = ([], h.0, sym h.1)

-- one event more
came_more : (front : List Item) (f : List Event) (e : Event) → front ≡ all_came f → front ++ Came e ∷ [] ≡ all_came (f ++ e ∷ [])
came_more front f e q = ap (λ l. l ++ Came e ∷ []) q ∙ sym (came_append f (e ∷ []))

begun_more : (front : List Item) (item : Item) (f : List Event) (e : Event) → front ≡ item ∷ all_came f → front ++ Came e ∷ [] ≡ item ∷ all_came (f ++ e ∷ [])
begun_more front item f e q = ap (λ l. l ++ Came e ∷ []) q ∙ ap (λ l. item ∷ l) (sym (came_append f (e ∷ [])))

half_running : (w : Wiring) (s : State) (o : Option Halt) (front : List Event) (v : Want) (k : ℕ → Steps Half) → LedBy (half_unless w s o) front (ask v k) → o ≡ None
half_running w s None front v k h = refl
half_running w s (Some cause) [] v k h = absurd (cc)
half_running w s (Some cause) (x ∷ front) v k h = absurd h.1.1

module _ (w : Wiring) (start : ℕ) (items : List Item) where
  -- the turn is over
  turn_over : (p : Pair) (e : Ending) (c : Option (List ℕ)) (f : List Event) → HaveDeeds w (new_back start) items p.deeds p.back (all_came f) → p.back.halt ≡ None → Runs (whole_turn w p.back) f e →
      IsCopied w p.back f c → Traced w start items (turned w p e c)
  turn_over p e c f h n r k = record {
    front = [];
    deeds = deeds_turn w (new_back start) items p.deeds p.back (all_came f) f e.0 (record { turn = e.1; copy = c }) refl n (turn_parts w p.back f e.0 e.1 r) k h;
    at = begins_at w e.0 e.1;
  }

  -- the second half goes on, or is over
  second_at : (p : Pair) (packet : List ℕ) (left : Left) (slots : List Slot) (a b : List Event) (t : Steps Ending) → HaveDeeds w (new_back start) items p.deeds p.back (all_came (a ++ b)) →
      Runs (half_turn w p.back) a (HasRun slots packet left) → LedBy (after_run w p.back slots left) b t → Traced w start items (second w p packet left t)
  second_at p packet left slots a b (done e) h r g =
      let x = has_copy w p.back slots packet left a r in
      turn_over p e (Some packet) (a ++ b) h x.0.read.running
      (subst (λ z. Runs z (a ++ b) e) (halves w p.back) (join (half_turn w p.back) (second_half w p.back) a b (HasRun slots packet left) e r (runs_of_gone (after_run w p.back slots left) (done e) b e g refl)))
      (left, record { slots = slots; front = a; rest = b; joined = refl; ran = x.0; is = x.1 })
  second_at p packet left slots a b (ask v k) h r g = record { front = all_came (a ++ b); deeds = h; at = (a ++ b, refl, record { slots = slots; first = a; rest = b; joined = refl; ran = r; gone = g }) }
  second_at p packet left slots a b never h r g = record { front = all_came (a ++ b); deeds = h; at = (a ++ b, refl, record { slots = slots; first = a; rest = b; joined = refl; ran = r; gone = g }) }

  -- and the first
  first_at : (p : Pair) (f : List Event) (t : Steps Half) → HaveDeeds w (new_back start) items p.deeds p.back (all_came f) → p.back.halt ≡ None → LedBy (half_turn w p.back) f t → Traced w start items (first w p t)
  first_at p f (done (Over e)) h n g =
      let r = join (half_turn w p.back) (second_half w p.back) f [] (Over e) e (runs_of_gone (half_turn w p.back) (done (Over e)) f (Over e) g refl) refl in
      turn_over p e None f h n (subst (λ z. Runs z f e) (halves w p.back) (subst (λ l. Runs (bind (half_turn w p.back) (second_half w p.back)) l e) (append-nil f) r)) tt
  first_at p f (done (HasRun slots packet left)) h n g =
      second_at p packet left slots f [] (after_run w p.back slots left) (subst (λ l. HaveDeeds w (new_back start) items p.deeds p.back (all_came l)) (sym (append-nil f)) h)
      (runs_of_gone (half_turn w p.back) (done (HasRun slots packet left)) f (HasRun slots packet left) g refl) refl
  first_at p f (ask v k) h n g = record { front = all_came f; deeds = h; at = (f, refl, g) }
  first_at p f never h n g = record { front = all_came f; deeds = h; at = (f, refl, g) }

  -- the delivery goes on, or is over
  delivering_at : (p : Pair) (asleep : Bool) (packet : List ℕ) (f : List Event) (t : Steps Arrival) → HaveDeeds w (new_back start) items p.deeds p.back (Given packet ∷ all_came f) →
      LedBy (whole_delivery w.vif w.accepts p.back Whole packet) f t → Traced w start items (delivering w p asleep packet t)
  delivering_at p asleep packet f (done a) h g = record {
    front = [];
    deeds = deeds_delivery w (new_back start) items p.deeds p.back (Given packet ∷ all_came f) packet f a.0 a.1 refl
        (delivery_rows w p.back Whole packet f a.0 a.1 (runs_of_gone (whole_delivery w.vif w.accepts p.back Whole packet) (done a) f a g refl)) h;
    at = rested_at w a.0 asleep;
  }
  delivering_at p asleep packet f (ask v k) h g = record { front = Given packet ∷ all_came f; deeds = h; at = (f, refl, g) }
  delivering_at p asleep packet f never h g = record { front = Given packet ∷ all_came f; deeds = h; at = (f, refl, g) }

  -- the wait goes on, or is over
  waiting_at : (p : Pair) (asleep : Bool) (pages : ℕ) (f : List Event) (t : Steps Wait) → HaveDeeds w (new_back start) items p.deeds p.back (SlotsAwaited pages ∷ all_came f) →
      LedBy (whole_wait w.vif.rx p.back pages) f t → Traced w start items (waiting w p asleep pages t)
  waiting_at p asleep pages f (done a) h g = record {
    front = [];
    deeds = deeds_wait w (new_back start) items p.deeds p.back (SlotsAwaited pages ∷ all_came f) pages f a.0 a.1 refl
        (wait_rows w p.back pages f a.0 a.1 (runs_of_gone (whole_wait w.vif.rx p.back pages) (done a) f a g refl)) h;
    at = rested_at w a.0 asleep;
  }
  waiting_at p asleep pages f (ask v k) h g = record { front = SlotsAwaited pages ∷ all_came f; deeds = h; at = (f, refl, g) }
  waiting_at p asleep pages f never h g = record { front = SlotsAwaited pages ∷ all_came f; deeds = h; at = (f, refl, g) }

pub follows_none : (w : Wiring) (p : Pair) → Follows w p p []
follows_none w p start past t = subst (λ l. Traced w start l p) (sym (append-nil past)) t

-- what leaves the back as it was
abbrev Same : Pair → Pair → Type 0
Same p p' = (p'.at ≡ p.at) × (p'.back ≡ p.back) × (p'.deeds ≡ p.deeds)

same : (w : Wiring) (p p' : Pair) → Same p p' → Follows w p p' []
same w p p' s start past t = follows_none w p' start past (record {
  front = t.front;
  deeds = subst (λ x. HaveDeeds w (new_back start) past x p'.back t.front) (sym s.2) (subst (λ x. HaveDeeds w (new_back start) past p.deeds x t.front) (sym s.1) t.deeds);
  at = subst (λ x. IsAt w p'.back x t.front) (sym s.0) (subst (λ x. IsAt w x p.at t.front) (sym s.1) t.at);
})

wake_follows : (w : Wiring) (p : Pair) (b : Bool) → p.at ≡ Asleep → Follows w p (wake w b p) []
wake_follows w p false i = follows_none w p
wake_follows w p true i = λ start past t.
    let none : t.front ≡ [] = subst (λ x. IsAt w p.back x t.front) i t.at in
    follows_none w (wake w true p) start past
    (record { front = t.front; deeds = t.deeds; at = (none, refl) })

-- A step of the back.
pub back_follows : (w : Wiring) (p : Pair) (at : BackAt) (n : ℕ) → p.at ≡ at → BackIsAnswered at p.memory n → Follows w p (on_back w at p n) (all_came (back_asks at p.memory n))
back_follows w p Asleep n i h = wake_follows w p p.memory.pending i
back_follows w p (First b (done x)) n i h = follows_none w p
back_follows w p (First b never) n i h = follows_none w p
back_follows w p (First b (ask v k)) n i h = λ start past t.
    let a : ℕ = answer v p.memory n in
    let e : Event = h.0 in
    let z = half_at w p.back b (ask v k) t.front (subst (λ x. IsAt w p.back x t.front) i t.at) in
    let more : LedBy (half_turn w p.back) (z.0 ++ e ∷ []) (k a) = gone_more (half_turn w p.back) (ask v k) (k a) z.0 e z.2 (a, h.2, refl) in
    subst (λ l. Traced w start (past ++ all_came l) (first w (record p { memory = after v p.memory }) (k a))) (sym h.1)
    (first_at w start (past ++ Came e ∷ []) (record p { memory = after v p.memory }) (z.0 ++ e ∷ []) (k a)
    (subst (HaveDeeds w (new_back start) (past ++ Came e ∷ []) p.deeds p.back) (came_more t.front z.0 e z.1) (deeds_more w (new_back start) past p.deeds p.back t.front (Came e ∷ []) t.deeds))
    (half_running w p.back p.back.halt z.0 v k z.2) more)
back_follows w p (Second packet left (done x)) n i h = follows_none w p
back_follows w p (Second packet left never) n i h = follows_none w p
back_follows w p (Second packet left (ask v k)) n i h = λ start past t.
    let a : ℕ = answer v p.memory n in
    let e : Event = h.0 in
    let x : (f : List Event) × (t.front ≡ all_came f) × traces.IsSecond w p.back packet left (ask v k) f = subst (λ y. IsAt w p.back y t.front) i t.at in
    let z = x.2 in
    let more : LedBy (after_run w p.back z.slots left) (z.rest ++ e ∷ []) (k a) = gone_more (after_run w p.back z.slots left) (ask v k) (k a) z.rest e z.gone (a, h.2, refl) in
    subst (λ l. Traced w start (past ++ all_came l) (second w (record p { memory = after v p.memory }) packet left (k a))) (sym h.1)
    (second_at w start (past ++ Came e ∷ []) (record p { memory = after v p.memory }) packet left z.slots z.first (z.rest ++ e ∷ []) (k a)
    (subst (HaveDeeds w (new_back start) (past ++ Came e ∷ []) p.deeds p.back) (came_more t.front x.0 e x.1 ∙ ap all_came (ap (λ l. l ++ e ∷ []) z.joined ∙ append_assoc z.first z.rest (e ∷ [])))
    (deeds_more w (new_back start) past p.deeds p.back t.front (Came e ∷ []) t.deeds)) z.ran more)
back_follows w p (Delivering asleep packet (done x)) n i h = follows_none w p
back_follows w p (Delivering asleep packet never) n i h = follows_none w p
back_follows w p (Delivering asleep packet (ask v k)) n i h = λ start past t.
    let a : ℕ = answer v p.memory n in
    let e : Event = h.0 in
    let z : (f : List Event) × (t.front ≡ Given packet ∷ all_came f) × LedBy (whole_delivery w.vif w.accepts p.back Whole packet) f (ask v k) = subst (λ x. IsAt w p.back x t.front) i t.at in
    let more : LedBy (whole_delivery w.vif w.accepts p.back Whole packet) (z.0 ++ e ∷ []) (k a) = gone_more (whole_delivery w.vif w.accepts p.back Whole packet) (ask v k) (k a) z.0 e z.2 (a, h.2, refl) in
    subst (λ l. Traced w start (past ++ all_came l) (delivering w (record p { memory = after v p.memory }) asleep packet (k a))) (sym h.1)
    (delivering_at w start (past ++ Came e ∷ []) (record p { memory = after v p.memory }) asleep packet (z.0 ++ e ∷ []) (k a)
    (subst (HaveDeeds w (new_back start) (past ++ Came e ∷ []) p.deeds p.back) (begun_more t.front (Given packet) z.0 e z.1) (deeds_more w (new_back start) past p.deeds p.back t.front (Came e ∷ []) t.deeds)) more)
back_follows w p (Waiting asleep pages (done x)) n i h = follows_none w p
back_follows w p (Waiting asleep pages never) n i h = follows_none w p
back_follows w p (Waiting asleep pages (ask v k)) n i h = λ start past t.
    let a : ℕ = answer v p.memory n in
    let e : Event = h.0 in
    let z : (f : List Event) × (t.front ≡ SlotsAwaited pages ∷ all_came f) × LedBy (whole_wait w.vif.rx p.back pages) f (ask v k) = subst (λ x. IsAt w p.back x t.front) i t.at in
    let more : LedBy (whole_wait w.vif.rx p.back pages) (z.0 ++ e ∷ []) (k a) = gone_more (whole_wait w.vif.rx p.back pages) (ask v k) (k a) z.0 e z.2 (a, h.2, refl) in
    subst (λ l. Traced w start (past ++ all_came l) (waiting w (record p { memory = asking p pages (after v p.memory) }) asleep pages (k a))) (sym h.1)
    (waiting_at w start (past ++ Came e ∷ []) (record p { memory = asking p pages (after v p.memory) }) asleep pages (z.0 ++ e ∷ []) (k a)
    (subst (HaveDeeds w (new_back start) (past ++ Came e ∷ []) p.deeds p.back) (begun_more t.front (SlotsAwaited pages) z.0 e z.1) (deeds_more w (new_back start) past p.deeds p.back t.front (Came e ∷ []) t.deeds)) more)

-- A delivery begins.
begun_follows : (w : Wiring) (p : Pair) (asleep : Bool) (packet : List ℕ) → ((front : List Item) → IsAt w p.back p.at front → front ≡ []) → Follows w p (begin_delivery w p asleep packet) (Given packet ∷ [])
begun_follows w p asleep packet i = λ start past t.
    delivering_at w start (past ++ Given packet ∷ []) p asleep packet [] (whole_delivery w.vif w.accepts p.back Whole packet)
    (subst (HaveDeeds w (new_back start) (past ++ Given packet ∷ []) p.deeds p.back) (ap (λ l. l ++ Given packet ∷ []) (i t.front t.at)) (deeds_more w (new_back start) past p.deeds p.back t.front (Given packet ∷ []) t.deeds)) refl

pub deliver_follows : (w : Wiring) (p : Pair) (packet : List ℕ) (at : BackAt) → p.at ≡ at → Follows w p (on_deliver w at p packet) (begun_at at (Given packet))
deliver_follows w p packet Asleep i = begun_follows w p true packet (λ front h. subst (λ x. IsAt w p.back x front) i h)
deliver_follows w p packet (First false t) i = begun_follows w p false packet (λ front h. let z : IsAt w p.back (First false t) front = subst (λ x. IsAt w p.back x front) i h in z.0)
deliver_follows w p packet (First true t) i = follows_none w p
deliver_follows w p packet (Second copy left t) i = follows_none w p
deliver_follows w p packet (Delivering asleep other t) i = follows_none w p
deliver_follows w p packet (Waiting asleep pages t) i = follows_none w p

-- A wait begins.
wait_follows : (w : Wiring) (p : Pair) (asleep : Bool) (pages : ℕ) → ((front : List Item) → IsAt w p.back p.at front → front ≡ []) → Follows w p (begin_wait w p asleep pages) (SlotsAwaited pages ∷ [])
wait_follows w p asleep pages i = λ start past t.
    waiting_at w start (past ++ SlotsAwaited pages ∷ []) p asleep pages [] (whole_wait w.vif.rx p.back pages)
    (subst (HaveDeeds w (new_back start) (past ++ SlotsAwaited pages ∷ []) p.deeds p.back) (ap (λ l. l ++ SlotsAwaited pages ∷ []) (i t.front t.at)) (deeds_more w (new_back start) past p.deeds p.back t.front (SlotsAwaited pages ∷ []) t.deeds)) refl

pub await_follows : (w : Wiring) (p : Pair) (pages : ℕ) (at : BackAt) → p.at ≡ at → Follows w p (on_await w at p pages) (begun_at at (SlotsAwaited pages))
await_follows w p pages Asleep i = wait_follows w p true pages (λ front h. subst (λ x. IsAt w p.back x front) i h)
await_follows w p pages (First false t) i = wait_follows w p false pages (λ front h. let z : IsAt w p.back (First false t) front = subst (λ x. IsAt w p.back x front) i h in z.0)
await_follows w p pages (First true t) i = follows_none w p
await_follows w p pages (Second copy left t) i = follows_none w p
await_follows w p pages (Delivering asleep packet t) i = follows_none w p
await_follows w p pages (Waiting asleep other t) i = follows_none w p

-- The front's steps and calls.
sending_same : (p : Pair) (t : Steps FrontEnding) → Same p (sending p t)
sending_same p (done e) = (refl, refl, refl)
sending_same p (ask w k) = (refl, refl, refl)
sending_same p never = (refl, refl, refl)

posting_same : (p : Pair) (t : Steps FrontEnding) → Same p (posting p t)
posting_same p (done e) = (refl, refl, refl)
posting_same p (ask w k) = (refl, refl, refl)
posting_same p never = (refl, refl, refl)

polling_same : (p : Pair) (t : Steps FrontEnding) → Same p (polling p t)
polling_same p (done e) = (refl, refl, refl)
polling_same p (ask w k) = (refl, refl, refl)
polling_same p never = (refl, refl, refl)

front_same : (p : Pair) (a : Activity) (n : ℕ) → Same p (on_front a p n)
front_same p Free n = (refl, refl, refl)
front_same p (Sending (ask w k)) n = sending_same (record p { memory = after w p.memory }) (k (answer w p.memory n))
front_same p (Sending (done e)) n = (refl, refl, refl)
front_same p (Sending never) n = (refl, refl, refl)
front_same p (Posting (ask w k)) n = posting_same (record p { memory = after w p.memory }) (k (answer w p.memory n))
front_same p (Posting (done e)) n = (refl, refl, refl)
front_same p (Posting never) n = (refl, refl, refl)
front_same p (Polling (ask w k)) n = polling_same (record p { memory = after w p.memory }) (k (answer w p.memory n))
front_same p (Polling (done e)) n = (refl, refl, refl)
front_same p (Polling never) n = (refl, refl, refl)

send_same : (w : FrontWiring) (p : Pair) (bytes : List ℕ) (r : Result (Unit {0}) SendRefusal) → Same p (begin_send w r p bytes)
send_same w p bytes (Ok u) = sending_same (record p { sent = p.sent ++ bytes ∷ [] }) (send_tree w p.front bytes)
send_same w p bytes (Err refusal) = (refl, refl, refl)

post_same : (w : FrontWiring) (p : Pair) (r : Result (Unit {0}) PostRefusal) → Same p (begin_post w r p)
post_same w p (Ok u) = posting_same p (post_tree w p.front)
post_same w p (Err refusal) = (refl, refl, refl)

poll_same : (w : FrontWiring) (p : Pair) (r : Result (Unit {0}) PollRefusal) → Same p (begin_poll w r p)
poll_same w p (Ok u) = polling_same p (poll w p.front)
poll_same w p (Err refusal) = (refl, refl, refl)

pub front_follows : (w : Wiring) (p : Pair) (a : Activity) (n : ℕ) → Follows w p (on_front a p n) []
front_follows w p a n = same w p (on_front a p n) (front_same p a n)

pub send_follows : (w : Wiring) (fw : FrontWiring) (p : Pair) (bytes : List ℕ) (a : Activity) → Follows w p (on_send fw a p bytes) []
send_follows w fw p bytes Free = same w p (begin_send fw (send_result p.front bytes) p bytes) (send_same fw p bytes (send_result p.front bytes))
send_follows w fw p bytes (Sending t) = follows_none w p
send_follows w fw p bytes (Posting t) = follows_none w p
send_follows w fw p bytes (Polling t) = follows_none w p

pub post_follows : (w : Wiring) (fw : FrontWiring) (p : Pair) (a : Activity) → Follows w p (on_post fw a p) []
post_follows w fw p Free = same w p (begin_post fw (post_result p.front) p) (post_same fw p (post_result p.front))
post_follows w fw p (Sending t) = follows_none w p
post_follows w fw p (Posting t) = follows_none w p
post_follows w fw p (Polling t) = follows_none w p

pub poll_follows : (w : Wiring) (fw : FrontWiring) (p : Pair) (a : Activity) → Follows w p (on_poll fw a p) []
poll_follows w fw p Free = same w p (begin_poll fw (poll_result p.front) p) (poll_same fw p (poll_result p.front))
poll_follows w fw p (Sending t) = follows_none w p
poll_follows w fw p (Posting t) = follows_none w p
poll_follows w fw p (Polling t) = follows_none w p

-- one run of items after another
pub follows_more : (w : Wiring) (p q r : Pair) (l m : List Item) → Follows w p q l → Follows w q r m → Follows w p r (l ++ m)
follows_more w p q r l m f g = λ start past t. subst (λ x. Traced w start x r) (append_assoc past l m) (g start (past ++ l) (f start past t))

pub opened_traced : (w : Wiring) (start : ℕ) (p : Pair) → p.deeds ≡ [] → p.back ≡ new_back start → p.at ≡ Asleep → Traced w start [] p
opened_traced w start p t b a = record {
  front = [];
  deeds = subst (λ x. HaveDeeds w (new_back start) [] x p.back []) (sym t) (subst (λ x. HaveDeeds w (new_back start) [] [] x []) (sym b) (traces.begun (new_back start) []));
  at = subst (λ x. IsAt w p.back x []) (sym a) refl;
}

pub step_follows : TraceLaw
step_follows bw fw p (Send packet) n h = send_follows bw fw p packet p.activity
step_follows bw fw p Post n h = post_follows bw fw p p.activity
step_follows bw fw p Poll n h = poll_follows bw fw p p.activity
step_follows bw fw p FrontStep n h = front_follows bw p p.activity n
step_follows bw fw p BackStep n h = back_follows bw p p.at n refl h
step_follows bw fw p (Deliver packet) n h = deliver_follows bw p packet p.at refl
step_follows bw fw p (Await pages) n h = await_follows bw p pages p.at refl
