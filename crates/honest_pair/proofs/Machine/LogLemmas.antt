-- What the memory answers is what was last written.
use Rattle.std.proofs.Common.{◌≡◌, ℕ, refl, subst, Bool, true, false, List, [], ◌∷◌, ◌++◌, Result, Ok, Err}
use Rattle.xen_netif.specs.declared.offload.RxOffload.TheVariants.{Whole}
use Rattle.xen_page.specs.declared.place.Place.{Place}
use Rattle.xen_steps.specs.Steps.{Steps, done, ask, never}
use Rattle.xen_steps.specs.declared.want.Want.{Want}
use Rattle.xen_steps.specs.declared.want.Want.TheVariants as want
use Rattle.xen_turns.specs.Deliveries.{Arrival, whole_delivery}
use Rattle.xen_turns.specs.Tree.{Left, after_run}
use Rattle.xen_turns.specs.Turned.{Ending}
use Rattle.xen_turns.specs.Waits.{Wait, whole_wait}
use Rattle.xen_turns.specs.declared.wiring.Wiring.{Wiring as BackWiring}
use Rattle.xen_buffers.specs.declared.wiring.FrontWiring.{FrontWiring}
use Rattle.xen_front.specs.Given.{Ending as FrontEnding}
use Rattle.xen_front.specs.declared.turn.PollRefusal.{PollRefusal}
use Rattle.xen_front.specs.declared.turn.PostRefusal.{PostRefusal}
use Rattle.xen_front.specs.declared.turn.SendRefusal.{SendRefusal}
use Rattle.honest_pair.specs.Machine.Halves.{Half, Over, HasRun}
use Rattle.honest_pair.specs.Machine.Memory.{Memory, after, answer}
use Rattle.honest_pair.specs.Machine.Pair.{Activity, Free, Sending, Posting, Polling, BackAt, Asleep, First, Second, Delivering, Waiting, Pair, PairEvent, Send, Post, Poll, FrontStep, BackStep, Deliver, Await, step, sending, posting, polling, send_result, post_result, poll_result, send_tree, post_tree, begin_send, begin_post, begin_poll, on_send, on_post, on_poll, on_front, on_back, second, halved, first, wake, delivering, on_deliver, asking, waiting, on_await}
use Rattle.xen_front.specs.Tree.{poll}
use Rattle.honest_pair.specs.Machine.Log.{Logged, event_by, front_asks, of_front, of_back, woke, logged_back, logged, log, IsFaithful}

-- the words do not change where an activity or a turn goes on
sending_words : (p : Pair) (t : Steps FrontEnding) → (sending p t).memory ≡ p.memory
sending_words p (done e) = refl
sending_words p (ask w k) = refl
sending_words p never = refl

posting_words : (p : Pair) (t : Steps FrontEnding) → (posting p t).memory ≡ p.memory
posting_words p (done e) = refl
posting_words p (ask w k) = refl
posting_words p never = refl

polling_words : (p : Pair) (t : Steps FrontEnding) → (polling p t).memory ≡ p.memory
polling_words p (done e) = refl
polling_words p (ask w k) = refl
polling_words p never = refl

second_words : (w : BackWiring) (p : Pair) (packet : List ℕ) (left : Left) (t : Steps Ending) → (second w p packet left t).memory ≡ p.memory
second_words w p packet left (done e) = refl
second_words w p packet left (ask v k) = refl
second_words w p packet left never = refl

halved_words : (w : BackWiring) (p : Pair) (h : Half) → (halved w p h).memory ≡ p.memory
halved_words w p (Over e) = refl
halved_words w p (HasRun slots packet left) = second_words w p packet left (after_run w p.back slots left)

first_words : (w : BackWiring) (p : Pair) (t : Steps Half) → (first w p t).memory ≡ p.memory
first_words w p (done h) = halved_words w p h
first_words w p (ask v k) = refl
first_words w p never = refl

delivering_words : (w : BackWiring) (p : Pair) (asleep : Bool) (packet : List ℕ) (t : Steps Arrival) → (delivering w p asleep packet t).memory ≡ p.memory
delivering_words w p asleep packet (done a) = refl
delivering_words w p asleep packet (ask v k) = refl
delivering_words w p asleep packet never = refl

deliver_words : (w : BackWiring) (at : BackAt) (p : Pair) (packet : List ℕ) → (on_deliver w at p packet).memory ≡ p.memory
deliver_words w Asleep p packet = delivering_words w p true packet (whole_delivery w.vif w.accepts p.back Whole packet)
deliver_words w (First false t) p packet = delivering_words w p false packet (whole_delivery w.vif w.accepts p.back Whole packet)
deliver_words w (First true t) p packet = refl
deliver_words w (Second copy left t) p packet = refl
deliver_words w (Delivering asleep other t) p packet = refl
deliver_words w (Waiting asleep pages t) p packet = refl

waiting_words : (w : BackWiring) (p : Pair) (asleep : Bool) (pages : ℕ) (t : Steps Wait) → (waiting w p asleep pages t).memory.word ≡ p.memory.word
waiting_words w p asleep pages (done e) = refl
waiting_words w p asleep pages (ask v k) = refl
waiting_words w p asleep pages never = refl

await_words : (w : BackWiring) (at : BackAt) (p : Pair) (pages : ℕ) → (on_await w at p pages).memory.word ≡ p.memory.word
await_words w Asleep p pages = waiting_words w p true pages (whole_wait w.vif.rx p.back pages)
await_words w (First false t) p pages = waiting_words w p false pages (whole_wait w.vif.rx p.back pages)
await_words w (First true t) p pages = refl
await_words w (Second copy left t) p pages = refl
await_words w (Delivering asleep packet t) p pages = refl
await_words w (Waiting asleep other t) p pages = refl

-- what follows an event is faithful by the words after it
asked_front : (w : Want) (m : Memory) (n : ℕ) (l : List Logged) → IsFaithful (after w m).word l → IsFaithful m.word (of_front (event_by w (answer w m n)) ++ l)
asked_front (want.Read at) m n l h = (refl, h)
asked_front (want.Write at v) m n l h = (tt, h)
asked_front want.Instr m n l h = (tt, h)
asked_front (want.Load i k j) m n l h = (tt, h)
asked_front (want.Add i k j delta) m n l h = (tt, h)
asked_front (want.Notify port) m n l h = (tt, h)
asked_front want.Done m n l h = h

asked_back : (w : Want) (m : Memory) (n : ℕ) (l : List Logged) → IsFaithful (after w m).word l → IsFaithful m.word (of_back (event_by w (answer w m n)) ++ l)
asked_back (want.Read at) m n l h = (refl, h)
asked_back (want.Write at v) m n l h = (tt, h)
asked_back want.Instr m n l h = (tt, h)
asked_back (want.Load i k j) m n l h = (tt, h)
asked_back (want.Add i k j delta) m n l h = (tt, h)
asked_back (want.Notify port) m n l h = (tt, h)
asked_back want.Done m n l h = h

by_words : (m m' : Memory) (l : List Logged) → m' ≡ m → IsFaithful m'.word l → IsFaithful m.word l
by_words m m' l e h = subst (λ (x : Memory). IsFaithful x.word l) e h

same_words : (x y : Place → ℕ) (l : List Logged) → y ≡ x → IsFaithful y l → IsFaithful x l
same_words x y l e h = subst (λ (z : Place → ℕ). IsFaithful z l) e h

begun_send : (w : FrontWiring) (r : Result (Unit {0}) SendRefusal) (p : Pair) (bytes : List ℕ) → (begin_send w r p bytes).memory ≡ p.memory
begun_send w (Ok u) p bytes = sending_words (record p { sent = p.sent ++ bytes ∷ [] }) (send_tree w p.front bytes)
begun_send w (Err refusal) p bytes = refl

begun_post : (w : FrontWiring) (r : Result (Unit {0}) PostRefusal) (p : Pair) → (begin_post w r p).memory ≡ p.memory
begun_post w (Ok u) p = posting_words p (post_tree w p.front)
begun_post w (Err refusal) p = refl

begun_poll : (w : FrontWiring) (r : Result (Unit {0}) PollRefusal) (p : Pair) → (begin_poll w r p).memory ≡ p.memory
begun_poll w (Ok u) p = polling_words p (poll w p.front)
begun_poll w (Err refusal) p = refl

send_words : (w : FrontWiring) (a : Activity) (p : Pair) (bytes : List ℕ) → (on_send w a p bytes).memory ≡ p.memory
send_words w Free p bytes = begun_send w (send_result p.front bytes) p bytes
send_words w (Sending t) p bytes = refl
send_words w (Posting t) p bytes = refl
send_words w (Polling t) p bytes = refl

post_words : (w : FrontWiring) (a : Activity) (p : Pair) → (on_post w a p).memory ≡ p.memory
post_words w Free p = begun_post w (post_result p.front) p
post_words w (Sending t) p = refl
post_words w (Posting t) p = refl
post_words w (Polling t) p = refl

poll_words : (w : FrontWiring) (a : Activity) (p : Pair) → (on_poll w a p).memory ≡ p.memory
poll_words w Free p = begun_poll w (poll_result p.front) p
poll_words w (Sending t) p = refl
poll_words w (Posting t) p = refl
poll_words w (Polling t) p = refl

front_faithful : (a : Activity) (p : Pair) (n : ℕ) (l : List Logged) → IsFaithful (on_front a p n).memory.word l → IsFaithful p.memory.word (of_front (front_asks a p.memory n) ++ l)
front_faithful Free p n l h = h
front_faithful (Sending (ask w k)) p n l h =
    asked_front w p.memory n l (by_words (after w p.memory) _ l (sending_words (record p { memory = after w p.memory }) (k (answer w p.memory n))) h)
front_faithful (Sending (done e)) p n l h = h
front_faithful (Sending never) p n l h = h
front_faithful (Posting (ask w k)) p n l h =
    asked_front w p.memory n l (by_words (after w p.memory) _ l (posting_words (record p { memory = after w p.memory }) (k (answer w p.memory n))) h)
front_faithful (Posting (done e)) p n l h = h
front_faithful (Posting never) p n l h = h
front_faithful (Polling (ask w k)) p n l h =
    asked_front w p.memory n l (by_words (after w p.memory) _ l (polling_words (record p { memory = after w p.memory }) (k (answer w p.memory n))) h)
front_faithful (Polling (done e)) p n l h = h
front_faithful (Polling never) p n l h = h

wake_faithful : (w : BackWiring) (b : Bool) (p : Pair) (l : List Logged) → IsFaithful (wake w b p).memory.word l → IsFaithful p.memory.word (woke b ++ l)
wake_faithful w true p l h = h
wake_faithful w false p l h = h

back_faithful : (w : BackWiring) (a : BackAt) (p : Pair) (n : ℕ) (l : List Logged) → IsFaithful (on_back w a p n).memory.word l → IsFaithful p.memory.word (logged_back a p.memory n ++ l)
back_faithful w Asleep p n l h = wake_faithful w p.memory.pending p l h
back_faithful w (First b (ask v k)) p n l h =
    asked_back v p.memory n l (by_words (after v p.memory) _ l (first_words w (record p { memory = after v p.memory }) (k (answer v p.memory n))) h)
back_faithful w (First b (done x)) p n l h = h
back_faithful w (First b never) p n l h = h
back_faithful w (Second packet left (ask v k)) p n l h =
    asked_back v p.memory n l (by_words (after v p.memory) _ l (second_words w (record p { memory = after v p.memory }) packet left (k (answer v p.memory n))) h)
back_faithful w (Second packet left (done x)) p n l h = h
back_faithful w (Second packet left never) p n l h = h
back_faithful w (Delivering asleep packet (ask v k)) p n l h =
    asked_back v p.memory n l (by_words (after v p.memory) _ l (delivering_words w (record p { memory = after v p.memory }) asleep packet (k (answer v p.memory n))) h)
back_faithful w (Delivering asleep packet (done x)) p n l h = h
back_faithful w (Delivering asleep packet never) p n l h = h
back_faithful w (Waiting asleep pages (ask v k)) p n l h =
    asked_back v p.memory n l (same_words (after v p.memory).word _ l
    (waiting_words w (record p { memory = asking p pages (after v p.memory) }) asleep pages (k (answer v p.memory n))) h)
back_faithful w (Waiting asleep pages (done x)) p n l h = h
back_faithful w (Waiting asleep pages never) p n l h = h

step_faithful : (bw : BackWiring) (fw : FrontWiring) (p : Pair) (e : PairEvent) (n : ℕ) (l : List Logged) → IsFaithful (step bw fw p e n).memory.word l → IsFaithful p.memory.word (logged p e n ++ l)
step_faithful bw fw p (Send packet) n l h = by_words p.memory _ l (send_words fw p.activity p packet) h
step_faithful bw fw p Post n l h = by_words p.memory _ l (post_words fw p.activity p) h
step_faithful bw fw p Poll n l h = by_words p.memory _ l (poll_words fw p.activity p) h
step_faithful bw fw p FrontStep n l h = front_faithful p.activity p n l h
step_faithful bw fw p BackStep n l h = back_faithful bw p.at p n l h
step_faithful bw fw p (Deliver packet) n l h = by_words p.memory _ l (deliver_words bw p.at p packet) h
step_faithful bw fw p (Await pages) n l h = same_words p.memory.word _ l (await_words bw p.at p pages) h

pub faithful : (bw : BackWiring) (fw : FrontWiring) (p : Pair) (es : List (PairEvent × ℕ)) → IsFaithful p.memory.word (log bw fw p es)
faithful bw fw p [] = tt
faithful bw fw p (e ∷ es) = step_faithful bw fw p e.0 e.1 (log bw fw (step bw fw p e.0 e.1) es) (faithful bw fw (step bw fw p e.0 e.1) es)
