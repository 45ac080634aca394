-- Each event of the pair adds to what its front has.
use Rattle.std.proofs.Common.{◌≡◌, ℕ, refl, sym, ◌∙◌, ap, subst, Bool, true, false, List, [], ◌∷◌, ◌++◌, Result, Ok, Err, append_assoc}
use Rattle.std.proofs.lemmas.List.{append-nil}
use Rattle.xen_netif.specs.declared.offload.RxOffload.TheVariants.{Whole}
use Rattle.xen_steps.specs.Drive.{LedBy}
use Rattle.xen_steps.specs.Event.{Event}
use Rattle.xen_steps.specs.Steps.{Runs, Steps, done, ask, never}
use Rattle.xen_steps.proofs.DriveLemmas.{gone_more, runs_of_gone}
use Rattle.xen_turns.specs.Deliveries.{Arrival, whole_delivery}
use Rattle.xen_turns.specs.Tree.{Left, after_run}
use Rattle.xen_turns.specs.Turned.{Ending as BackEnding}
use Rattle.xen_turns.specs.Waits.{Wait, whole_wait}
use Rattle.xen_turns.specs.declared.wiring.Wiring.{Wiring as BackWiring}
use Rattle.xen_buffers.specs.declared.wiring.FrontWiring.{FrontWiring}
use Rattle.xen_front.specs.Given.{Ending, Given}
use Rattle.xen_front.specs.Tree.{poll}
use Rattle.xen_front.specs.declared.state.FrontState.{FrontState}
use Rattle.xen_front.specs.declared.turn.PollRefusal.{PollRefusal}
use Rattle.xen_front.specs.declared.turn.PostRefusal.{PostRefusal}
use Rattle.xen_front.specs.declared.turn.SendRefusal.{SendRefusal}
use Rattle.xen_front.specs.Fronts.{all_free, chosen}
use Rattle.xen_front.specs.Slots.{pieces_of}
use Rattle.xen_front.proofs.ActivityLemmas.{poll_parts, post_parts, send_parts}
use Rattle.std.specs.Prelude.{get_or, length}
use Rattle.honest_pair.specs.Machine.Acts.{Act, ActIsAnswered, ActLaw, ActsOn, FrontIsAnswered, HasActed, HaveActs, IsAct, IsActing, OfPoll, OfPost, OfSend, begun, front_of, given_in, over, taken_in}
use Rattle.honest_pair.specs.Machine.Halves.{Half, Over, HasRun}
use Rattle.honest_pair.specs.Machine.Log.{Logged, OfFront, OfBack, Woke, front_asks, log, logged, logged_back, of_back, of_front, woke, asked_of}
use Rattle.honest_pair.specs.Machine.Memory.{Memory, after, answer}
use Rattle.honest_pair.specs.Machine.Pair.{Activity, Free, Sending, Posting, Polling, BackAt, Asleep, First, Second, Delivering, Waiting, Pair, PairEvent, Send, Post, Poll, FrontStep, BackStep, Deliver, Await, asking, begin_poll, begin_post, begin_send, delivering, ended, first, halved, on_await, on_back, on_deliver, on_front, on_poll, on_post, on_send, packets_of, poll_result, polling, post_result, post_tree, posting, run, second, send_result, send_tree, sending, step, waiting, wake}

acts_more : (w : FrontWiring) (s : FrontState) (events : List Event) (xs : List Act) (end : FrontState) (front e : List Event) → HaveActs w s events xs end front → HaveActs w s (events ++ e) xs end (front ++ e)
acts_more w _ _ _ _ _ e (begun s front) = begun s (front ++ e)
acts_more w _ _ _ _ _ e (over s mid end t more front a xs i h) =
    subst (λ l. HaveActs w s l (a ∷ xs) end (front ++ e)) (sym (append_assoc t more e)) (over s mid end t (more ++ e) (front ++ e) a xs i (acts_more w mid more xs end front e h))

acts_over : (w : FrontWiring) (s : FrontState) (events : List Event) (xs : List Act) (end : FrontState) (front : List Event) (new : FrontState) (a : Act) → IsAct w end front new a → HaveActs w s events xs end front →
    HaveActs w s events (xs ++ a ∷ []) new []
acts_over w _ _ _ _ _ new a i (begun s front) = subst (λ l. HaveActs w s l (a ∷ []) new []) (append-nil front) (over s new new front [] [] a [] i (begun new []))
acts_over w _ _ _ _ _ new a i (over s mid end t more front b bs j h) = over s mid new t more [] b (bs ++ a ∷ []) j (acts_over w mid more bs end front new a i h)

taken_more : (xs : List Act) (a : Act) → taken_in (xs ++ a ∷ []) ≡ taken_in xs ++ taken_in (a ∷ [])
taken_more [] a = refl
taken_more (OfSend packet gives ∷ xs) a = ap (λ l. packet ∷ l) (taken_more xs a)
taken_more (OfPost gives ∷ xs) a = taken_more xs a
taken_more (OfPoll gives ∷ xs) a = taken_more xs a

given_more : (xs : List Act) (a : Act) → given_in (xs ++ a ∷ []) ≡ given_in xs ++ given_in (a ∷ [])
given_more [] a = refl
given_more (OfSend packet gives ∷ xs) a = ap (λ l. packets_of gives ++ l) (given_more xs a) ∙ sym (append_assoc (packets_of gives) (given_in xs) (given_in (a ∷ [])))
given_more (OfPost gives ∷ xs) a = ap (λ l. packets_of gives ++ l) (given_more xs a) ∙ sym (append_assoc (packets_of gives) (given_in xs) (given_in (a ∷ [])))
given_more (OfPoll gives ∷ xs) a = ap (λ l. packets_of gives ++ l) (given_more xs a) ∙ sym (append_assoc (packets_of gives) (given_in xs) (given_in (a ∷ [])))

module _ (w : FrontWiring) (start : FrontState) (events : List Event) where
  -- the activity is over
  ended_at : (p : Pair) (e : Ending) (a : Act) (xs : List Act) (f : List Event) → HaveActs w start events xs p.front f → IsAct w p.front f e.0 a → p.sent ≡ taken_in xs ++ taken_in (a ∷ []) →
      p.received ≡ given_in xs → packets_of e.1 ≡ given_in (a ∷ []) → HasActed w start events (ended p e)
  ended_at p e a xs f h i s r g = record {
    front = [];
    acts = xs ++ a ∷ [];
    taken = [];
    acted = acts_over w start events xs p.front f e.0 a i h;
    acting = (refl, refl);
    sent = s ∙ sym (taken_more xs a) ∙ sym (append-nil (taken_in (xs ++ a ∷ [])));
    received = ap (λ l. l ++ packets_of e.1) r ∙ ap (λ l. given_in xs ++ l) g ∙ sym (given_more xs a);
  }

  -- it goes on, or is over
  sending_at : (p : Pair) (packet : List ℕ) (xs : List Act) (f : List Event) (t : Steps Ending) → HaveActs w start events xs p.front f → p.sent ≡ taken_in xs ++ packet ∷ [] → p.received ≡ given_in xs →
      send_result p.front packet ≡ Ok tt → LedBy (send_tree w p.front packet) f t → HasActed w start events (sending p t)
  sending_at p packet xs f (done e) h s r b g =
      ended_at p e (OfSend packet e.1) xs f h (b, send_parts w p.front packet (chosen (pieces_of (length packet)) p.front.tx.out) f e.0 e.1 (runs_of_gone (send_tree w p.front packet) (done e) f e g refl))
      s r (sym (append-nil (packets_of e.1)))
  sending_at p packet xs f (ask v k) h s r b g = record { front = f; acts = xs; taken = packet ∷ []; acted = h; acting = (packet, refl, b, g); sent = s; received = r }
  sending_at p packet xs f never h s r b g = record { front = f; acts = xs; taken = packet ∷ []; acted = h; acting = (packet, refl, b, g); sent = s; received = r }

  posting_at : (p : Pair) (xs : List Act) (f : List Event) (t : Steps Ending) → HaveActs w start events xs p.front f → p.sent ≡ taken_in xs ++ [] → p.received ≡ given_in xs →
      post_result p.front ≡ Ok tt → LedBy (post_tree w p.front) f t → HasActed w start events (posting p t)
  posting_at p xs f (done e) h s r b g =
      ended_at p e (OfPost e.1) xs f h (b, post_parts w p.front (get_or (all_free p.front.rx.out) 0 0) f e.0 e.1 (runs_of_gone (post_tree w p.front) (done e) f e g refl))
      s r (sym (append-nil (packets_of e.1)))
  posting_at p xs f (ask v k) h s r b g = record { front = f; acts = xs; taken = []; acted = h; acting = (refl, b, g); sent = s; received = r }
  posting_at p xs f never h s r b g = record { front = f; acts = xs; taken = []; acted = h; acting = (refl, b, g); sent = s; received = r }

  polling_at : (p : Pair) (xs : List Act) (f : List Event) (t : Steps Ending) → HaveActs w start events xs p.front f → p.sent ≡ taken_in xs ++ [] → p.received ≡ given_in xs →
      poll_result p.front ≡ Ok tt → LedBy (poll w p.front) f t → HasActed w start events (polling p t)
  polling_at p xs f (done e) h s r b g =
      ended_at p e (OfPoll e.1) xs f h (b, poll_parts w p.front f e.0 e.1 (runs_of_gone (poll w p.front) (done e) f e g refl)) s r (sym (append-nil (packets_of e.1)))
  polling_at p xs f (ask v k) h s r b g = record { front = f; acts = xs; taken = []; acted = h; acting = (refl, b, g); sent = s; received = r }
  polling_at p xs f never h s r b g = record { front = f; acts = xs; taken = []; acted = h; acting = (refl, b, g); sent = s; received = r }

pub acts_none : (w : FrontWiring) (p : Pair) → ActsOn w p p []
acts_none w p start past t = subst (λ l. HasActed w start l p) (sym (append-nil past)) t

-- one run of events after another
pub acts_then : (w : FrontWiring) (p q r : Pair) (l m : List Event) → ActsOn w p q l → ActsOn w q r m → ActsOn w p r (l ++ m)
acts_then w p q r l m f g = λ start past t. subst (λ x. HasActed w start x r) (append_assoc past l m) (g start (past ++ l) (f start past t))

-- A step of the front.
front_acts : (w : FrontWiring) (p : Pair) (a : Activity) (n : ℕ) → p.activity ≡ a → FrontIsAnswered a p.memory n → ActsOn w p (on_front a p n) (front_asks a p.memory n)
front_acts w p Free n i h = acts_none w p
front_acts w p (Sending (done x)) n i h = acts_none w p
front_acts w p (Sending never) n i h = acts_none w p
front_acts w p (Sending (ask v k)) n i h = λ start past t.
    let a : ℕ = answer v p.memory n in
    let e : Event = h.0 in
    let p1 : Pair = record p { memory = after v p.memory } in
    let z : IsActing w p.front (Sending (ask v k)) t.front t.taken = subst (λ x. IsActing w p.front x t.front t.taken) i t.acting in
    let more : LedBy (send_tree w p.front z.0) (t.front ++ e ∷ []) (k a) = gone_more (send_tree w p.front z.0) (ask v k) (k a) t.front e z.3 (a, h.2, refl) in
    subst (λ l. HasActed w start (past ++ l) (sending p1 (k a))) (sym h.1)
    (sending_at w start (past ++ e ∷ []) p1 z.0 t.acts (t.front ++ e ∷ []) (k a) (acts_more w start past t.acts p.front t.front (e ∷ []) t.acted) (t.sent ∙ ap (λ l. taken_in t.acts ++ l) z.1) t.received z.2 more)
front_acts w p (Posting (done x)) n i h = acts_none w p
front_acts w p (Posting never) n i h = acts_none w p
front_acts w p (Posting (ask v k)) n i h = λ start past t.
    let a : ℕ = answer v p.memory n in
    let e : Event = h.0 in
    let p1 : Pair = record p { memory = after v p.memory } in
    let z : IsActing w p.front (Posting (ask v k)) t.front t.taken = subst (λ x. IsActing w p.front x t.front t.taken) i t.acting in
    let more : LedBy (post_tree w p.front) (t.front ++ e ∷ []) (k a) = gone_more (post_tree w p.front) (ask v k) (k a) t.front e z.2 (a, h.2, refl) in
    subst (λ l. HasActed w start (past ++ l) (posting p1 (k a))) (sym h.1)
    (posting_at w start (past ++ e ∷ []) p1 t.acts (t.front ++ e ∷ []) (k a) (acts_more w start past t.acts p.front t.front (e ∷ []) t.acted) (t.sent ∙ ap (λ l. taken_in t.acts ++ l) z.0) t.received z.1 more)
front_acts w p (Polling (done x)) n i h = acts_none w p
front_acts w p (Polling never) n i h = acts_none w p
front_acts w p (Polling (ask v k)) n i h = λ start past t.
    let a : ℕ = answer v p.memory n in
    let e : Event = h.0 in
    let p1 : Pair = record p { memory = after v p.memory } in
    let z : IsActing w p.front (Polling (ask v k)) t.front t.taken = subst (λ x. IsActing w p.front x t.front t.taken) i t.acting in
    let more : LedBy (poll w p.front) (t.front ++ e ∷ []) (k a) = gone_more (poll w p.front) (ask v k) (k a) t.front e z.2 (a, h.2, refl) in
    subst (λ l. HasActed w start (past ++ l) (polling p1 (k a))) (sym h.1)
    (polling_at w start (past ++ e ∷ []) p1 t.acts (t.front ++ e ∷ []) (k a) (acts_more w start past t.acts p.front t.front (e ∷ []) t.acted) (t.sent ∙ ap (λ l. taken_in t.acts ++ l) z.0) t.received z.1 more)

-- The calls of a front that is free.
module _ (w : FrontWiring) (p : Pair) (i : p.activity ≡ Free) (start : FrontState) (past : List Event) (t : HasActed w start past p) where
  at_rest : IsActing w p.front Free t.front t.taken
  at_rest = subst (λ x. IsActing w p.front x t.front t.taken) i t.acting

  since : HaveActs w start (past ++ []) t.acts p.front []
  since = subst (λ l. HaveActs w start l t.acts p.front []) (sym (append-nil past)) (subst (HaveActs w start past t.acts p.front) at_rest.0 t.acted)

  all_sent : p.sent ≡ taken_in t.acts
  all_sent = t.sent ∙ ap (λ l. taken_in t.acts ++ l) at_rest.1 ∙ append-nil (taken_in t.acts)

  begins_send : (bytes : List ℕ) → send_result p.front bytes ≡ Ok tt → HasActed w start (past ++ []) (sending (record p { sent = p.sent ++ bytes ∷ [] }) (send_tree w p.front bytes))
  begins_send bytes b =
      sending_at w start (past ++ []) (record p { sent = p.sent ++ bytes ∷ [] }) bytes t.acts [] (send_tree w p.front bytes) since (ap (λ l. l ++ bytes ∷ []) all_sent) t.received b refl

  begins_post : post_result p.front ≡ Ok tt → HasActed w start (past ++ []) (posting p (post_tree w p.front))
  begins_post b = posting_at w start (past ++ []) p t.acts [] (post_tree w p.front) since (all_sent ∙ sym (append-nil (taken_in t.acts))) t.received b refl

  begins_poll : poll_result p.front ≡ Ok tt → HasActed w start (past ++ []) (polling p (poll w p.front))
  begins_poll b = polling_at w start (past ++ []) p t.acts [] (poll w p.front) since (all_sent ∙ sym (append-nil (taken_in t.acts))) t.received b refl

send_acts : (w : FrontWiring) (p : Pair) (bytes : List ℕ) (a : Activity) → p.activity ≡ a → ActsOn w p (on_send w a p bytes) []
send_acts w p bytes (Sending t) i = acts_none w p
send_acts w p bytes (Posting t) i = acts_none w p
send_acts w p bytes (Polling t) i = acts_none w p
send_acts w p bytes Free i = by (send_result p.front bytes) refl
  where
    by : (r : Result (Unit {0}) SendRefusal) → send_result p.front bytes ≡ r → ActsOn w p (begin_send w r p bytes) []
    by (Ok u) e = λ start past t. begins_send w p i start past t bytes e
    by (Err refusal) e = acts_none w p

post_acts : (w : FrontWiring) (p : Pair) (a : Activity) → p.activity ≡ a → ActsOn w p (on_post w a p) []
post_acts w p (Sending t) i = acts_none w p
post_acts w p (Posting t) i = acts_none w p
post_acts w p (Polling t) i = acts_none w p
post_acts w p Free i = by (post_result p.front) refl
  where
    by : (r : Result (Unit {0}) PostRefusal) → post_result p.front ≡ r → ActsOn w p (begin_post w r p) []
    by (Ok u) e = λ start past t. begins_post w p i start past t e
    by (Err refusal) e = acts_none w p

poll_acts : (w : FrontWiring) (p : Pair) (a : Activity) → p.activity ≡ a → ActsOn w p (on_poll w a p) []
poll_acts w p (Sending t) i = acts_none w p
poll_acts w p (Posting t) i = acts_none w p
poll_acts w p (Polling t) i = acts_none w p
poll_acts w p Free i = by (poll_result p.front) refl
  where
    by : (r : Result (Unit {0}) PollRefusal) → poll_result p.front ≡ r → ActsOn w p (begin_poll w r p) []
    by (Ok u) e = λ start past t. begins_poll w p i start past t e
    by (Err refusal) e = acts_none w p

-- What leaves the front as it was.
record Keeps (p p' : Pair) : Type 0 where
  front : p'.front ≡ p.front
  activity : p'.activity ≡ p.activity
  sent : p'.sent ≡ p.sent
  received : p'.received ≡ p.received

as_it_was : (p : Pair) → Keeps p p
as_it_was p = record { front = refl; activity = refl; sent = refl; received = refl }

kept : (w : FrontWiring) (p p' : Pair) → Keeps p p' → ActsOn w p p' []
kept w p p' k start past t = acts_none w p' start past (record {
  front = t.front;
  acts = t.acts;
  taken = t.taken;
  acted = subst (λ x. HaveActs w start past t.acts x t.front) (sym k.front) t.acted;
  acting = subst (λ x. IsActing w p'.front x t.front t.taken) (sym k.activity) (subst (λ x. IsActing w x p.activity t.front t.taken) (sym k.front) t.acting);
  sent = k.sent ∙ t.sent;
  received = k.received ∙ t.received;
})

second_keeps : (w : BackWiring) (p : Pair) (packet : List ℕ) (left : Left) (t : Steps BackEnding) → Keeps p (second w p packet left t)
second_keeps w p packet left (done e) = record { front = refl; activity = refl; sent = refl; received = refl }
second_keeps w p packet left (ask v k) = record { front = refl; activity = refl; sent = refl; received = refl }
second_keeps w p packet left never = record { front = refl; activity = refl; sent = refl; received = refl }

halved_keeps : (w : BackWiring) (p : Pair) (h : Half) → Keeps p (halved w p h)
halved_keeps w p (Over e) = record { front = refl; activity = refl; sent = refl; received = refl }
halved_keeps w p (HasRun slots packet left) = second_keeps w p packet left (after_run w p.back slots left)

first_keeps : (w : BackWiring) (p : Pair) (t : Steps Half) → Keeps p (first w p t)
first_keeps w p (done h) = halved_keeps w p h
first_keeps w p (ask v k) = record { front = refl; activity = refl; sent = refl; received = refl }
first_keeps w p never = record { front = refl; activity = refl; sent = refl; received = refl }

delivering_keeps : (w : BackWiring) (p : Pair) (asleep : Bool) (packet : List ℕ) (t : Steps Arrival) → Keeps p (delivering w p asleep packet t)
delivering_keeps w p asleep packet (done a) = record { front = refl; activity = refl; sent = refl; received = refl }
delivering_keeps w p asleep packet (ask v k) = record { front = refl; activity = refl; sent = refl; received = refl }
delivering_keeps w p asleep packet never = record { front = refl; activity = refl; sent = refl; received = refl }

waiting_keeps : (w : BackWiring) (p : Pair) (asleep : Bool) (pages : ℕ) (t : Steps Wait) → Keeps p (waiting w p asleep pages t)
waiting_keeps w p asleep pages (done e) = record { front = refl; activity = refl; sent = refl; received = refl }
waiting_keeps w p asleep pages (ask v k) = record { front = refl; activity = refl; sent = refl; received = refl }
waiting_keeps w p asleep pages never = record { front = refl; activity = refl; sent = refl; received = refl }

wake_keeps : (w : BackWiring) (p : Pair) (b : Bool) → Keeps p (wake w b p)
wake_keeps w p true = record { front = refl; activity = refl; sent = refl; received = refl }
wake_keeps w p false = as_it_was p

-- with other words, a front is the same
with_memory : (p p' : Pair) (m : Memory) → Keeps (record p { memory = m }) p' → Keeps p p'
with_memory p p' m k = record { front = k.front; activity = k.activity; sent = k.sent; received = k.received }

back_keeps : (w : BackWiring) (at : BackAt) (p : Pair) (n : ℕ) → Keeps p (on_back w at p n)
back_keeps w Asleep p n = wake_keeps w p p.memory.pending
back_keeps w (First b (ask v k)) p n = with_memory p _ (after v p.memory) (first_keeps w (record p { memory = after v p.memory }) (k (answer v p.memory n)))
back_keeps w (First b (done h)) p n = as_it_was p
back_keeps w (First b never) p n = as_it_was p
back_keeps w (Second packet left (ask v k)) p n = with_memory p _ (after v p.memory) (second_keeps w (record p { memory = after v p.memory }) packet left (k (answer v p.memory n)))
back_keeps w (Second packet left (done e)) p n = as_it_was p
back_keeps w (Second packet left never) p n = as_it_was p
back_keeps w (Delivering asleep packet (ask v k)) p n = with_memory p _ (after v p.memory) (delivering_keeps w (record p { memory = after v p.memory }) asleep packet (k (answer v p.memory n)))
back_keeps w (Delivering asleep packet (done a)) p n = as_it_was p
back_keeps w (Delivering asleep packet never) p n = as_it_was p
back_keeps w (Waiting asleep pages (ask v k)) p n =
    with_memory p _ (asking p pages (after v p.memory)) (waiting_keeps w (record p { memory = asking p pages (after v p.memory) }) asleep pages (k (answer v p.memory n)))
back_keeps w (Waiting asleep pages (done e)) p n = as_it_was p
back_keeps w (Waiting asleep pages never) p n = as_it_was p

deliver_keeps : (w : BackWiring) (at : BackAt) (p : Pair) (packet : List ℕ) → Keeps p (on_deliver w at p packet)
deliver_keeps w Asleep p packet = delivering_keeps w p true packet (whole_delivery w.vif w.accepts p.back Whole packet)
deliver_keeps w (First false t) p packet = delivering_keeps w p false packet (whole_delivery w.vif w.accepts p.back Whole packet)
deliver_keeps w (First true t) p packet = as_it_was p
deliver_keeps w (Second copy left t) p packet = as_it_was p
deliver_keeps w (Delivering asleep other t) p packet = as_it_was p
deliver_keeps w (Waiting asleep pages t) p packet = as_it_was p

await_keeps : (w : BackWiring) (at : BackAt) (p : Pair) (pages : ℕ) → Keeps p (on_await w at p pages)
await_keeps w Asleep p pages = waiting_keeps w p true pages (whole_wait w.vif.rx p.back pages)
await_keeps w (First false t) p pages = waiting_keeps w p false pages (whole_wait w.vif.rx p.back pages)
await_keeps w (First true t) p pages = as_it_was p
await_keeps w (Second copy left t) p pages = as_it_was p
await_keeps w (Delivering asleep packet t) p pages = as_it_was p
await_keeps w (Waiting asleep other t) p pages = as_it_was p

-- Which events of the log are the front's.
front_of-front : (l : List Event) → front_of (of_front l) ≡ l
front_of-front [] = refl
front_of-front (e ∷ l) = ap (λ x. e ∷ x) (front_of-front l)

front_of-back : (l : List Event) → front_of (of_back l) ≡ []
front_of-back [] = refl
front_of-back (e ∷ l) = front_of-back l

front_of-woke : (b : Bool) → front_of (woke b) ≡ []
front_of-woke true = refl
front_of-woke false = refl

front_of-logged_back : (at : BackAt) (m : Memory) (n : ℕ) → front_of (logged_back at m n) ≡ []
front_of-logged_back Asleep m n = front_of-woke m.pending
front_of-logged_back (First b t) m n = front_of-back (asked_of t m n)
front_of-logged_back (Second packet left t) m n = front_of-back (asked_of t m n)
front_of-logged_back (Delivering asleep packet t) m n = front_of-back (asked_of t m n)
front_of-logged_back (Waiting asleep pages t) m n = front_of-back (asked_of t m n)

front_of-append : (a b : List Logged) → front_of (a ++ b) ≡ front_of a ++ front_of b
front_of-append [] b = refl
front_of-append (OfFront e ∷ a) b = ap (λ x. e ∷ x) (front_of-append a b)
front_of-append (OfBack e ∷ a) b = front_of-append a b
front_of-append (Woke ∷ a) b = front_of-append a b

pub step_acts : ActLaw
step_acts bw fw p (Send packet) n h = send_acts fw p packet p.activity refl
step_acts bw fw p Post n h = post_acts fw p p.activity refl
step_acts bw fw p Poll n h = poll_acts fw p p.activity refl
step_acts bw fw p FrontStep n h =
    subst (ActsOn fw p (on_front p.activity p n)) (sym (front_of-front (front_asks p.activity p.memory n))) (front_acts fw p p.activity n refl h)
step_acts bw fw p BackStep n h = subst (ActsOn fw p (on_back bw p.at p n)) (sym (front_of-logged_back p.at p.memory n)) (kept fw p (on_back bw p.at p n) (back_keeps bw p.at p n))
step_acts bw fw p (Deliver packet) n h = kept fw p (on_deliver bw p.at p packet) (deliver_keeps bw p.at p packet)
step_acts bw fw p (Await pages) n h = kept fw p (on_await bw p.at p pages) (await_keeps bw p.at p pages)

-- the front's events of one event more
pub front_log-more : (bw : BackWiring) (fw : FrontWiring) (p : Pair) (es : List (PairEvent × ℕ)) (x : PairEvent × ℕ) →
    front_of (log bw fw p (es ++ x ∷ [])) ≡ front_of (log bw fw p es) ++ front_of (logged (run bw fw p es) x.0 x.1)
front_log-more bw fw p [] x = ap front_of (append-nil (logged p x.0 x.1))
front_log-more bw fw p (e ∷ es) x =
    let q = step bw fw p e.0 e.1 in
    let a = logged p e.0 e.1 in
    front_of-append a (log bw fw q (es ++ x ∷ [])) ∙ ap (λ l. front_of a ++ l) (front_log-more bw fw q es x)
    ∙ sym (append_assoc (front_of a) (front_of (log bw fw q es)) (front_of (logged (run bw fw q es) x.0 x.1)))
    ∙ ap (λ l. l ++ front_of (logged (run bw fw q es) x.0 x.1)) (sym (front_of-append a (log bw fw q es)))

-- before the first event
pub opened_acts : (w : FrontWiring) (p : Pair) → p.activity ≡ Free → p.sent ≡ [] → p.received ≡ [] → HasActed w p.front [] p
opened_acts w p i s r = record {
  front = [];
  acts = [];
  taken = [];
  acted = begun p.front [];
  acting = subst (λ x. IsActing w p.front x [] []) (sym i) (refl, refl);
  sent = s;
  received = r;
}
