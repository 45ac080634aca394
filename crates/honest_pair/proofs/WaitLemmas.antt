-- One event of a wait, and its beginning.
use Rattle.std.proofs.Common.{◌≡◌, ℕ, suc, ◌+◌, ◌<◌, ◌^◌, refl, sym, ◌∙◌, ap, subst, arith, Bool, true, false, List, [], ◌∷◌, ◌++◌, length, map, Option, Some, None, zero-add}
use Rattle.std.specs.Prelude.{slice_get, slice_index_or}
use Rattle.std.proofs.lemmas.List.{append-nil}
use Rattle.xen_steps.specs.Event.{Event, Occurs}
use Rattle.xen_steps.specs.Steps.{Steps, done, ask, never, next, want_of}
use Rattle.xen_steps.specs.declared.want.Want.{Want}
use Rattle.xen_steps.specs.declared.want.Want.TheVariants as want
use Rattle.xen_back.proofs.RestLemmas.{ready_rest as back_rest}
use Rattle.xen_back.specs.Queues.{state_of, wiring_of}
use Rattle.xen_turns.specs.Waits.{Wait, check_unless, whole_wait}
use Rattle.xen_turns.specs.declared.delivery.wait.Awaited.{Awaited}
use Rattle.xen_turns.specs.declared.delivery.wait.Awaited.TheVariants as awaited
use Rattle.xen_turns.specs.declared.delivery.delivering.Delivery.{Delivery}
use Rattle.xen_back.specs.declared.delivery.wait_stage.Awaiting.{Awaiting}
use Rattle.xen_back.specs.declared.queue.Queue.{Queue}
use Rattle.xen_turns.specs.declared.state.State.{State}
use Rattle.xen_turns.specs.declared.turn.Halt.{Halt}
use Rattle.xen_turns.specs.declared.wiring.Wiring.{Wiring}
use Rattle.xen_front.specs.Fronts.{wiring_of as front_wiring}
use Rattle.honest_pair.specs.Machine.Log.{back_asks, begun_at}
use Rattle.honest_pair.specs.Machine.Memory.{Memory, after, answer}
use Rattle.honest_pair.specs.Machine.Pair.{BackAt, Asleep, First, Second, Delivering, Waiting, Await, BackStep, Deed, OfTurn, OfDelivery, OfWait, Pair, answered, asking, begin_wait, on_await, on_back, turns_of, waiting}
use Rattle.honest_pair.specs.declared.awaits.Awaits.{Awaits}
use Rattle.honest_pair.specs.declared.awaits.Awaits.TheVariants as awaits
use Rattle.honest_pair.proofs.Machine.Deeds.{turns_wait}
use Rattle.honest_pair.proofs.Machine.TraceLemmas.{await_follows, back_follows}
use Rattle.honest_pair.specs.Machine.Traces.{BackIsAnswered}
use Rattle.xdp_world.specs.Activities.{SlotsAwaited, all_came}
use Rattle.xdp_world.specs.Calls.{Awaits as AwaitsCall, Stepped}
use Rattle.xdp_world.specs.Carries.{Looks, Resumes, delivered_list, waited_list}
use Rattle.xdp_world.specs.Doings.{is_between, want_at}
use Rattle.xdp_world.specs.Entries.{Entry, Serves, listed}
use Rattle.xdp_world.specs.Happens.{kept_list}
use Rattle.xdp_world.specs.Stands.{HasBegunWait, IsAwait, IsSame, IsStep, StandsFor, delivered_in, doing_in, kept_in}
use Rattle.xdp_world.specs.declared.awaiting.WaitBegun.{WaitBegun}
use Rattle.xdp_world.specs.declared.awaiting.WaitBegun.TheVariants as wait_begun
use Rattle.xdp_world.specs.declared.doing.Doing.{Doing}
use Rattle.xdp_world.specs.declared.doing.Doing.TheVariants as doing
use Rattle.xdp_world.specs.declared.kept.Kept.{Kept}
use Rattle.xdp_world.specs.declared.report.Delivered.{Delivered}
use Rattle.xdp_world.specs.declared.report.Waited.{Waited}
use Rattle.xdp_world.proofs.Events.{same_stands}
use Rattle.xdp_world.proofs.Fitting.{between_is}
use Rattle.honest_pair.specs.Held.{memory_in}
use Rattle.honest_pair.specs.declared.calling.Calling.{Calling}
use Rattle.honest_pair.specs.declared.calling.Calling.TheVariants as calling
use Rattle.honest_pair.specs.declared.pair.Pair.{Pair as Held}
use Rattle.honest_pair.specs.Deeds.{AllKept, bytes_in, deliveries_of, waits_of}
use Rattle.honest_pair.specs.Shows.{BackShows, Does, FrontShows, Shows, answer_of, awaits_after, calls_while, doing_at, is_none, queue_in}
use Rattle.honest_pair.proofs.BackLemmas.{one_queue, served, world_doing}
use Rattle.honest_pair.proofs.DeliveryLemmas.{kept_count, rested_shows}

-- the answer that was added
pub last_answer : (l l' : List Waited) (n m : ℕ) (o : Option Awaited) → l' ≡ l ++ waited_list n m o → answer_of (slice_get l' (length l)) ≡ o
last_answer l l' n m o e = ap (λ (x : List Waited). answer_of (slice_get x (length l))) e ∙ by l o
  where
    by : (k : List Waited) (o2 : Option Awaited) → answer_of (slice_get (k ++ waited_list n m o2) (length k)) ≡ o2
    by [] None = refl
    by [] (Some a) = refl
    by (x ∷ k) o2 = by k o2

deliveries_wait : (n : ℕ) (ds : List Deed) (pages : ℕ) (a : Awaited) → deliveries_of n (ds ++ OfWait pages a ∷ []) ≡ deliveries_of n ds
deliveries_wait n [] pages a = refl
deliveries_wait n (OfTurn p ∷ ds) pages a = deliveries_wait (n + 1) ds pages a
deliveries_wait n (OfDelivery p w ∷ ds) pages a = ap (λ (l : List Delivered). record { turns = n; delivery = w } ∷ l) (deliveries_wait n ds pages a)
deliveries_wait n (OfWait k b ∷ ds) pages a = deliveries_wait n ds pages a

waits_more : (n m k : ℕ) (ds : List Deed) (pages : ℕ) (a : Awaited) → waits_of n m (ds ++ OfWait pages a ∷ []) ≡ waits_of n m ds ++ waited_list (n + length (turns_of ds)) (m + length (deliveries_of k ds)) (Some a)
waits_more n m k [] pages a = let e : n ≡ n + 0 = omega arith in let f : m ≡ m + 0 = omega arith in (λ i. waited_list (e i) (f i) (Some a))
waits_more n m k (OfTurn p ∷ ds) pages a =
    let e : n + 1 + length (turns_of ds) ≡ n + suc (length (turns_of ds)) = omega arith in
    waits_more (n + 1) m (k + 1) ds pages a ∙ ap (λ z. waits_of (n + 1) m ds ++ waited_list z (m + length (deliveries_of (k + 1) ds)) (Some a)) e
waits_more n m k (OfDelivery p w ∷ ds) pages a =
    let e : m + 1 + length (deliveries_of k ds) ≡ m + suc (length (deliveries_of k ds)) = omega arith in
    waits_more n (m + 1) k ds pages a ∙ ap (λ z. waits_of n (m + 1) ds ++ waited_list (n + length (turns_of ds)) z (Some a)) e
waits_more n m k (OfWait q b ∷ ds) pages a = ap (λ (l : List Waited). record { turns = n; deliveries = m; awaited = b } ∷ l) (waits_more n m k ds pages a)

-- What a wait comes to that goes on, or is over.
record After (w : Wiring) (p p' : Pair) (q' : Queue) (e' : Doing) (sl : Bool) (pages : ℕ) (o : Option Awaited) (a : Awaits) : Type 0 where
  pub back : BackShows w q' e' sl (calls_while (calling.Wait pages) (is_none o)) p'.at p'.back
  pub turns : turns_of p'.deeds ≡ turns_of p.deeds
  pub deliveries : deliveries_of 0 p'.deeds ≡ deliveries_of 0 p.deeds
  pub waits : waits_of 0 0 p'.deeds ≡ waits_of 0 0 p.deeds ++ waited_list (length (turns_of p.deeds)) (length (deliveries_of 0 p.deeds)) o
  pub memory : p'.memory ≡ record p.memory { awaits = a }
  pub front : p'.front ≡ p.front
  pub activity : p'.activity ≡ p.activity
  pub received : p'.received ≡ p.received

abbrev wait_of : Steps Wait → Wait → Wait
wait_of (done a) d = a
wait_of (ask v k) d = d
wait_of never d = d

-- what is awaited once a wait is over, where it was asked for, or isn't
abbrev told_of : Awaits → (index pages : ℕ) → Option Awaited → Awaits
told_of a index pages None = a
told_of a index pages (Some awaited.Posted) = awaits.Nothing
told_of a index pages (Some awaited.Waiting) = awaits.Fewer index pages
told_of a index pages (Some (awaited.Halted cause)) = a

told_as : (p : Pair) (pages : ℕ) (a : Awaited) → answered p pages a ≡ told_of p.memory.awaits p.back.rx_index pages (Some a)
told_as p pages awaited.Posted = refl
told_as p pages awaited.Waiting = refl
told_as p pages (awaited.Halted cause) = refl

resumes_shows : (w : Wiring) (p : Pair) (sl : Bool) (pages : ℕ) (t : Steps Wait) (q q' : Queue) (e' : Doing) (o : Option Awaited) → Resumes q t q' e' o → wiring_of q' ≡ w → state_of q ≡ p.back →
    After w p (waiting w p sl pages t) q' e' sl pages o (told_of p.memory.awaits p.back.rx_index pages o)
resumes_shows w p sl pages (done a) q q' e' None h wi s = absurd (h.3 refl)
resumes_shows w p sl pages never q q' e' None h wi s = absurd (h.3 refl)
resumes_shows w p sl pages (ask v k) q q' e' None h wi s = record {
  back = (refl, refl, h.0, h.1, h.2, tt, h.4 ∙ s);
  turns = refl;
  deliveries = refl;
  waits = sym (append-nil (waits_of 0 0 p.deeds));
  memory = refl;
  front = refl;
  activity = refl;
  received = refl;
}
resumes_shows w p sl pages (ask v k) q q' e' (Some what) h wi s = let e = h.1 in absurd (cc)
resumes_shows w p sl pages never q q' e' (Some what) h wi s = let e = h.1 in absurd (cc)
resumes_shows w p sl pages (done a) q q' e' (Some what) h wi s =
    let is : a ≡ (state_of q', what) = ap (λ (x : Steps Wait). wait_of x a) h.1 in
    let said : a.1 ≡ what = ap (λ (x : Wait). x.1) is in
    record {
      back = rested_shows w q' e' sl a.0 h.0 (back_rest q' h.2) wi (sym (ap (λ (x : Wait). x.0) is));
      turns = turns_wait p.deeds pages a.1;
      deliveries = deliveries_wait 0 p.deeds pages a.1;
      waits = waits_more 0 0 0 p.deeds pages a.1
          ∙ (λ i. waits_of 0 0 p.deeds ++ waited_list (zero-add (length (turns_of p.deeds)) i) (zero-add (length (deliveries_of 0 p.deeds)) i) (Some (said i)));
      memory = ap (λ (x : Awaits). record p.memory { awaits = x }) (told_as p pages a.1 ∙ ap (λ (x : Awaited). told_of p.memory.awaits p.back.rx_index pages (Some x)) said);
      front = refl;
      activity = refl;
      received = refl;
    }

-- after an event it has asked
asked_of : (index pages : ℕ) (o : Option Awaited) → told_of (awaits.Asked index pages) index pages o ≡ awaits_after index pages o
asked_of index pages None = refl
asked_of index pages (Some awaited.Posted) = refl
asked_of index pages (Some awaited.Waiting) = refl
asked_of index pages (Some (awaited.Halted cause)) = refl

-- What a step of a back that waits comes to.
abbrev Comes_to : Wiring → Pair → BackAt → Want → Queue → Doing → Bool → ℕ → Option Awaited → Option Event → Type 0
Comes_to w p at v q' e' sl pages o event =
    (n : ℕ) × (n < 2 ^ 64) × (listed event ≡ back_asks at p.memory n)
    × After w (record p { memory = after v p.memory }) (on_back w at p n) q' e' sl pages o (awaits_after p.back.rx_index pages o) × BackIsAnswered at p.memory n

asked_after : (w : Wiring) (p p' : Pair) (q' : Queue) (e' : Doing) (sl : Bool) (pages : ℕ) (o : Option Awaited) → After w (record p { memory = asking p pages p.memory }) p' q' e' sl pages o (told_of (awaits.Asked p.back.rx_index pages) p.back.rx_index pages o) →
    After w p p' q' e' sl pages o (awaits_after p.back.rx_index pages o)
asked_after w p p' q' e' sl pages o f = record {
  back = f.back;
  turns = f.turns;
  deliveries = f.deliveries;
  waits = f.waits;
  memory = f.memory ∙ ap (λ (x : Awaits). record p.memory { awaits = x }) (asked_of p.back.rx_index pages o);
  front = f.front;
  activity = f.activity;
  received = f.received;
}

looked_step : (w : Wiring) (p : Pair) (at : BackAt) (v : Want) (a pages : ℕ) (q q' : Queue) (x e' : Doing) (sl : Bool) (o : Option Awaited) (event : Option Event) → v ≡ want_at q (Some x) → a ≡ answer v p.memory 0 →
    ((d : Awaiting) → x ≡ doing.Wait d → (c : Looks q d q' e' a o) × (event ≡ Some c.event)) → wiring_of q' ≡ w → BackShows w q x sl (calling.Wait pages) at p.back → Comes_to w p at v q' e' sl pages o event
looked_step w p Asleep v a pages q q' x e' sl o event y m c wi b = let e = b.1 in absurd (cc)
looked_step w p (First n t) v a pages q q' x e' sl o event y m c wi b = let e = b.1 in absurd (cc)
looked_step w p (Second packet left t) v a pages q q' x e' sl o event y m c wi b = let e = b.1 in absurd (cc)
looked_step w p (Delivering sleeps packet t) v a pages q q' x e' sl o event y m c wi b = let e = b.1 in absurd (cc)
looked_step w p (Waiting sleeps n (done z)) v a pages q q' x e' sl o event y m c wi b = absurd b.5
looked_step w p (Waiting sleeps n never) v a pages q q' x e' sl o event y m c wi b =
    let d : Awaiting = b.2 in
    let g = (c d b.3).0.goes in
    let bad : Occurs want.Done g.0 (c d b.3).0.event = subst (λ (t : Steps Wait). Occurs (want_of t) g.0 (c d b.3).0.event) b.4 g.1 in
    absurd bad
looked_step w p (Waiting sleeps n (ask u k)) v a pages q q' x e' sl o event y m c wi b =
    let d : Awaiting = b.2 in
    let r = c d b.3 in
    let g = r.0.goes in
    let e : Event = r.0.event in
    let many : pages ≡ n = pages_of b.1 in
    let is : v ≡ u = y ∙ ap (λ (z : Doing). want_at q (Some z)) b.3 ∙ ap want_of b.4 in
    let occurs : Occurs u g.0 e = subst (λ (t : Steps Wait). Occurs (want_of t) g.0 e) b.4 g.1 in
    let z = served u g.0 e p.memory occurs (subst (λ i. Serves e i) (m ∙ ap (λ i. answer i p.memory 0) is) r.0.serves) in
    let mid : r.0.mid ≡ k (answer u p.memory g.0) = g.2 ∙ ap (λ (t : Steps Wait). next t g.0) b.4 ∙ ap k z.0 in
    let p1 : Pair = record p { memory = after u p.memory } in
    let p2 : Pair = record p { memory = asking p n (after u p.memory) } in
    let f = asked_after w p1 (on_back w (Waiting sleeps n (ask u k)) p g.0) q' e' sleeps n o
    (resumes_shows w p2 sleeps n (k (answer u p.memory g.0)) q q' e' o (subst (λ (t : Steps Wait). Resumes q t q' e' o) mid r.0.resumes) wi b.6) in
    subst (λ i. Comes_to w p (Waiting sleeps n (ask u k)) i q' e' sl pages o event) (sym is)
    (subst (λ i. Comes_to w p (Waiting sleeps n (ask u k)) u q' e' i pages o event) (sym b.0)
    (subst (λ i. Comes_to w p (Waiting sleeps n (ask u k)) u q' e' sleeps i o event) (sym many)
    (g.0, z.2, ap listed r.1 ∙ sym z.1, f, (e, z.1, subst (λ i. Occurs u i e) z.0 occurs))))
  where
    pages_of : {i j : ℕ} → calling.Wait i ≡ calling.Wait j → i ≡ j
    pages_of {i = i} {j = j} h = cc

-- A world's step is the back's, in a wait.
pub looks_on : (old new : Held) (a index pages : ℕ) (v : Want) → old.calling ≡ calling.Wait pages → new.asleep ≡ old.asleep → new.front ≡ old.front → new.received ≡ old.received →
    ((d : Queue) → index ≡ (state_of (queue_in old.world d)).rx_index) → ((d : Queue) → v ≡ want_at (queue_in old.world d) (doing_in old.world 0)) → a ≡ answer v (memory_in old.memory) 0 →
    (i : IsStep old.world new.world 0 a) → memory_in new.memory ≡ record (after v (memory_in old.memory)) { awaits = awaits_after index pages i.awaited } →
    new.calling ≡ calls_while (calling.Wait pages) (is_none i.awaited) → new.world.counters.shapes ≡ old.world.counters.shapes → Does old new BackStep
looks_on old new a index pages v dl aw f r ix vw an i mem dn sh = record {
  bytes = tt;
  does = λ bw fw p s.
      let ol = one_queue old.world.queues.items (omega (arith, old.one, old.world.queues.ok.0)) in
      let ne = one_queue new.world.queues.items (omega (arith, new.one, new.world.queues.ok.0)) in
      let q : Queue = ol.0 in
      let q' : Queue = ne.0 in
      let y = world_doing old in
      let y' = world_doing new in
      let x : Doing = y.0 in
      let shows : BackShows bw q x old.asleep (calling.Wait pages) p.at p.back =
      subst (λ (b : Calling). BackShows bw q x old.asleep b p.at p.back) dl
      (subst (λ (z : Doing). BackShows bw q z old.asleep old.calling p.at p.back) (y.1 x) (subst (λ (z : Queue). BackShows bw z (doing_at old.world x) old.asleep old.calling p.at p.back) (ol.1 q) (s.back q x))) in
      let under = waits_as bw q x old.asleep pages p.at p.back shows in
      let looked : (d : Awaiting) → x ≡ doing.Wait d → (c : Looks q d q' y'.0 a i.awaited) × (i.event ≡ Some c.event) =
      λ d e. let z = i.looked d (y.2 ∙ ap (λ (n : Doing). Some n) e) q x in
      same_looks (queue_in old.world q) q (queue_in new.world q) q' (doing_at new.world x) y'.0 d a i.awaited i.event (ol.1 q) (ne.1 q) (y'.1 x) z.0 z.1 in
      let over = i.looked under.0 (y.2 ∙ ap (λ (n : Doing). Some n) under.1) q x in
      let want : v ≡ want_at q (Some x) = vw q ∙ ap (λ (z : Queue). want_at z (doing_in old.world 0)) (ol.1 q) ∙ ap (want_at q) y.2 in
      let ans : a ≡ answer v p.memory 0 = an ∙ ap (λ (m : Memory). answer v m 0) s.memory in
      let wired : wiring_of q' ≡ bw = ap (λ (z : Queue). wiring_of z) (sym (ne.1 q)) ∙ i.wired q ∙ s.back_wired q in
      let at : index ≡ p.back.rx_index = ix q ∙ ap (λ (z : Queue). (state_of z).rx_index) (ol.1 q) ∙ ap (λ (z : State). z.rx_index) under.2 in
      let g = looked_step bw p p.at v a pages q q' x y'.0 old.asleep i.awaited i.event want ans looked wired shows in
      let p' : Pair = on_back bw p.at p g.0 in
      let t = g.3 in
      let kept : kept_in new.world.turns.items 0 ≡ kept_in old.world.turns.items 0 =
      i.turns ∙ ap (λ (z : Option Kept). kept_in old.world.turns.items 0 ++ kept_list z) over.2 ∙ append-nil (kept_in old.world.turns.items 0) in
      let sent : delivered_in new.world.deliveries.items 0 ≡ delivered_in old.world.deliveries.items 0 =
      i.deliveries ∙ ap (λ (z : Option Delivery). delivered_in old.world.deliveries.items 0 ++ delivered_list (length (kept_in old.world.turns.items 0)) z) over.3 ∙ append-nil (delivered_in old.world.deliveries.items 0) in
      let count : length (kept_in old.world.turns.items 0) ≡ length (turns_of p.deeds) = kept_count (turns_of p.deeds) (kept_in old.world.turns.items 0) s.turns in
      let many : length (delivered_in old.world.deliveries.items 0) ≡ length (deliveries_of 0 p.deeds) = ap length s.deliveries in (
        g.0,
        g.1,
        record {
          memory = mem ∙ (λ j. record (after v (s.memory j)) { awaits = awaits_after (at j) pages i.awaited }) ∙ sym t.memory;
          front_wired = ap front_wiring f ∙ s.front_wired;
          front = subst (λ z. FrontShows z p'.activity p'.front) (sym f) (subst (λ z. FrontShows old.front z p'.front) (sym t.activity) (subst (λ z. FrontShows old.front p.activity z) (sym t.front) s.front));
          back_wired = λ d. i.wired d ∙ s.back_wired d;
          back = λ d e. subst (λ (z : Queue). BackShows bw z (doing_at new.world e) new.asleep new.calling p'.at p'.back) (sym (ne.1 d))
              (subst (λ (z : Doing). BackShows bw q' z new.asleep new.calling p'.at p'.back) (sym (y'.1 e))
              (subst (λ (b : Bool). BackShows bw q' y'.0 b new.calling p'.at p'.back) (sym aw)
              (subst (λ (b : Calling). BackShows bw q' y'.0 old.asleep b p'.at p'.back) (sym dn) t.back)));
          received = ap (λ z. map bytes_in z.items) r ∙ s.received ∙ sym t.received;
          turns = subst (λ z. AllKept z (kept_in new.world.turns.items 0)) (sym t.turns) (subst (AllKept (turns_of p.deeds)) (sym kept) s.turns);
          deliveries = sent ∙ s.deliveries ∙ sym t.deliveries;
          waits = i.waits ∙ (λ j. s.waits j ++ waited_list (count j) (many j) i.awaited) ∙ sym t.waits;
        },
        record {
          shapes = sh;
          stands = λ wirings start begin cs h.
              let e : Entry = record { queue = 0; answer = a; event = i.event } in
              (Stepped e ∷ [], i.stands_for wirings start begin cs h, (refl, tt), append-nil (all_came (listed i.event)) ∙ ap all_came g.2);
        },
        back_follows bw p p.at g.0 refl g.4,
        tt,
      );
}
  where
    same_looks : (q1 q2 q1' q2' : Queue) (e1 e2 : Doing) (d : Awaiting) (n : ℕ) (o : Option Awaited) (event : Option Event) → q1 ≡ q2 → q1' ≡ q2' → e1 ≡ e2 → (c : Looks q1 d q1' e1 n o) → event ≡ Some c.event →
        (c : Looks q2 d q2' e2 n o) × (event ≡ Some c.event)
    same_looks q1 q2 q1' q2' e1 e2 d n o event h1 h2 h3 c e =
        subst (λ (z : Queue). (c2 : Looks z d q2' e2 n o) × (event ≡ Some c2.event)) h1
        (subst (λ (z : Queue). (c2 : Looks q1 d z e2 n o) × (event ≡ Some c2.event)) h2
        (subst (λ (z : Doing). (c2 : Looks q1 d q1' z n o) × (event ≡ Some c2.event)) h3 (c, e)))

    waits_as : (w : Wiring) (q : Queue) (x : Doing) (sl : Bool) (n : ℕ) (at : BackAt) (s : State) → BackShows w q x sl (calling.Wait n) at s → (d : Awaiting) × (x ≡ doing.Wait d) × (state_of q ≡ s)
    waits_as w q x sl n Asleep s b = let e = b.1 in absurd (cc)
    waits_as w q x sl n (First k t) s b = let e = b.1 in absurd (cc)
    waits_as w q x sl n (Second packet left t) s b = let e = b.1 in absurd (cc)
    waits_as w q x sl n (Delivering asleep packet t) s b = let e = b.1 in absurd (cc)
    waits_as w q x sl n (Waiting asleep k t) s b = (b.2, b.3, b.6)

-- a back that is between turns begins
begins_at : (w : Wiring) (q : Queue) (x : Doing) (sl : Bool) (dl : Calling) (p : Pair) (pages : ℕ) (at : BackAt) → x ≡ doing.Between → BackShows w q x sl dl at p.back →
    (on_await w at p pages ≡ begin_wait w p sl pages) × (begun_at at (SlotsAwaited pages) ≡ begun_at Asleep (SlotsAwaited pages)) × (dl ≡ calling.Nothing) × (state_of q ≡ p.back)
begins_at w q x sl dl p pages Asleep e b = (ap (λ z. begin_wait w p z pages) (sym b.0), refl, b.1, b.4)
begins_at w q x sl dl p pages (First false t) e b = (ap (λ z. begin_wait w p z pages) (sym b.0), refl, b.1, b.5)
begins_at w q x sl dl p pages (First true t) e b = let z : doing.Turn ≡ doing.Between = sym b.2 ∙ e in absurd (cc)
begins_at w q x sl dl p pages (Second copy left t) e b = let z : doing.Turn ≡ doing.Between = sym b.2 ∙ e in absurd (cc)
begins_at w q x sl dl p pages (Delivering asleep packet t) e b = let z : doing.Delivery b.2 ≡ doing.Between = sym b.3 ∙ e in absurd (cc)
begins_at w q x sl dl p pages (Waiting asleep other t) e b = let z : doing.Wait b.2 ≡ doing.Between = sym b.3 ∙ e in absurd (cc)

-- one that isn't does nothing
busy_at : (w : Wiring) (q : Queue) (x : Doing) (sl : Bool) (dl : Calling) (p : Pair) (pages : ℕ) (at : BackAt) → is_between (Some x) ≡ false → BackShows w q x sl dl at p.back → (on_await w at p pages ≡ p) × (begun_at at (SlotsAwaited pages) ≡ [])
busy_at w q x sl dl p pages Asleep e b = let z : true ≡ false = ap (λ (y : Doing). is_between (Some y)) (sym b.2) ∙ e in absurd (cc)
busy_at w q x sl dl p pages (First false t) e b = let z : true ≡ false = ap (λ (y : Doing). is_between (Some y)) (sym b.2) ∙ e in absurd (cc)
busy_at w q x sl dl p pages (First true t) e b = (refl, refl)
busy_at w q x sl dl p pages (Second copy left t) e b = (refl, refl)
busy_at w q x sl dl p pages (Delivering asleep packet t) e b = (refl, refl)
busy_at w q x sl dl p pages (Waiting asleep other t) e b = (refl, refl)

-- A wait that is over as it begins is a halted queue's.
halts_at_once : (rx : ℕ) (s : State) (pages : ℕ) (h : Option Halt) (q q' : Queue) (x : Doing) (a : Awaits) (o : Option Awaited) → Resumes q (check_unless rx s pages h) q' x o → told_of a s.rx_index pages o ≡ a
halts_at_once rx s pages h q q' x a None r = refl
halts_at_once rx s pages None q q' x a (Some what) r = let e = r.1 in absurd (cc)
halts_at_once rx s pages (Some cause) q q' x a (Some what) r =
    let is : awaited.Halted cause ≡ what = ap (λ (y : Steps Wait). (wait_of y (s, awaited.Halted cause)).1) r.1 in
    ap (λ (y : Awaited). told_of a s.rx_index pages (Some y)) (sym is)

module _ (old new : Held) (pages : ℕ) (aw : new.asleep ≡ old.asleep) (f : new.front ≡ old.front) (r : new.received ≡ old.received) (mem : new.memory ≡ old.memory) (sh : new.world.counters.shapes ≡ old.world.counters.shapes) where
  begins : (o : Option Awaited) → (old.calling ≡ calling.Nothing → new.calling ≡ calls_while (calling.Wait pages) (is_none o)) → HasBegunWait old.world new.world 0 pages o → Does old new (Await pages)
  begins o dn i = record {
    bytes = tt;
    does = λ bw fw p s.
        let ol = one_queue old.world.queues.items (omega (arith, old.one, old.world.queues.ok.0)) in
        let ne = one_queue new.world.queues.items (omega (arith, new.one, new.world.queues.ok.0)) in
        let q : Queue = ol.0 in
        let q' : Queue = ne.0 in
        let y = world_doing old in
        let y' = world_doing new in
        let x : Doing = y.0 in
        let shows : BackShows bw q x old.asleep old.calling p.at p.back =
        subst (λ (z : Doing). BackShows bw q z old.asleep old.calling p.at p.back) (y.1 x) (subst (λ (z : Queue). BackShows bw z (doing_at old.world x) old.asleep old.calling p.at p.back) (ol.1 q) (s.back q x)) in
        let between : x ≡ doing.Between = between_is x (ap is_between (sym y.2) ∙ i.between) in
        let z = begins_at bw q x old.asleep old.calling p pages p.at between shows in
        let wired : wiring_of q ≡ bw = subst (λ (n : Queue). wiring_of n ≡ bw) (ol.1 q) (s.back_wired q) in
        let wired' : wiring_of q' ≡ bw = ap (λ (n : Queue). wiring_of n) (sym (ne.1 q)) ∙ i.wired q ∙ s.back_wired q in
        let resumes : Resumes q (whole_wait bw.vif.rx p.back pages) q' y'.0 o =
        subst (λ (w : Wiring). Resumes q (whole_wait w.vif.rx p.back pages) q' y'.0 o) wired
        (subst (λ (t : State). Resumes q (whole_wait (wiring_of q).vif.rx t pages) q' y'.0 o) z.3
        (subst (λ (n : Queue). Resumes n (whole_wait (wiring_of n).vif.rx (state_of n) pages) q' y'.0 o) (ol.1 q)
        (subst (λ (n : Queue). Resumes (queue_in old.world q) (whole_wait (wiring_of (queue_in old.world q)).vif.rx (state_of (queue_in old.world q)) pages) n y'.0 o) (ne.1 q)
        (subst (λ (n : Doing). Resumes (queue_in old.world q) (whole_wait (wiring_of (queue_in old.world q)).vif.rx (state_of (queue_in old.world q)) pages) (queue_in new.world q) n o) (y'.1 x) (i.resumes q x))))) in
        let p' : Pair = begin_wait bw p old.asleep pages in
        let t = resumes_shows bw p old.asleep pages (whole_wait bw.vif.rx p.back pages) q q' y'.0 o resumes wired' z.3 in
        let same : p'.memory ≡ p.memory = t.memory ∙ ap (λ (a : Awaits). record p.memory { awaits = a }) (halts_at_once bw.vif.rx p.back pages p.back.halt q q' y'.0 p.memory.awaits o resumes) in
        let count : length (kept_in old.world.turns.items 0) ≡ length (turns_of p.deeds) = kept_count (turns_of p.deeds) (kept_in old.world.turns.items 0) s.turns in
        let many : length (delivered_in old.world.deliveries.items 0) ≡ length (deliveries_of 0 p.deeds) = ap length s.deliveries in
        let after_it : Shows bw fw new p' = record {
          memory = ap memory_in mem ∙ s.memory ∙ sym same;
          front_wired = ap front_wiring f ∙ s.front_wired;
          front = subst (λ n. FrontShows n p'.activity p'.front) (sym f) (subst (λ n. FrontShows old.front n p'.front) (sym t.activity) (subst (λ n. FrontShows old.front p.activity n) (sym t.front) s.front));
          back_wired = λ d. i.wired d ∙ s.back_wired d;
          back = λ d e. subst (λ (n : Queue). BackShows bw n (doing_at new.world e) new.asleep new.calling p'.at p'.back) (sym (ne.1 d))
              (subst (λ (n : Doing). BackShows bw q' n new.asleep new.calling p'.at p'.back) (sym (y'.1 e))
              (subst (λ (b : Bool). BackShows bw q' y'.0 b new.calling p'.at p'.back) (sym aw)
              (subst (λ (b : Calling). BackShows bw q' y'.0 old.asleep b p'.at p'.back) (sym (dn z.2)) t.back)));
          received = ap (λ n. map bytes_in n.items) r ∙ s.received ∙ sym t.received;
          turns = subst (λ n. AllKept n (kept_in new.world.turns.items 0)) (sym t.turns) (subst (AllKept (turns_of p.deeds)) (sym i.turns) s.turns);
          deliveries = i.deliveries ∙ s.deliveries ∙ sym t.deliveries;
          waits = i.waits ∙ (λ j. s.waits j ++ waited_list (count j) (many j) o) ∙ sym t.waits;
        } in (
          0,
          omega arith,
          subst (Shows bw fw new) (sym z.0) after_it,
          record { shapes = sh; stands = λ wirings start begin cs h. (AwaitsCall 0 pages ∷ [], i.stands_for wirings start begin cs h, (refl, tt), sym z.1) },
          await_follows bw p pages p.at refl,
          tt,
        );
  }

  stays_busy : new.calling ≡ old.calling → is_between (doing_in old.world 0) ≡ false → IsSame old.world new.world → Does old new (Await pages)
  stays_busy dn n i = record {
    bytes = tt;
    does = λ bw fw p s.
        let ol = one_queue old.world.queues.items (omega (arith, old.one, old.world.queues.ok.0)) in
        let q : Queue = ol.0 in
        let y = world_doing old in
        let x : Doing = y.0 in
        let shows : BackShows bw q x old.asleep old.calling p.at p.back =
        subst (λ (z : Doing). BackShows bw q z old.asleep old.calling p.at p.back) (y.1 x) (subst (λ (z : Queue). BackShows bw z (doing_at old.world x) old.asleep old.calling p.at p.back) (ol.1 q) (s.back q x)) in
        let z = busy_at bw q x old.asleep old.calling p pages p.at (ap is_between (sym y.2) ∙ n) shows in
        let same_queue : (d : Queue) → queue_in new.world d ≡ queue_in old.world d = λ d. ap (λ (l : List Queue). slice_index_or l 0 d) i.queues in
        let same_doing : (e : Doing) → doing_at new.world e ≡ doing_at old.world e = λ e. ap (λ (l : List Doing). slice_index_or l 0 e) i.doing in
        let after_it : Shows bw fw new p = record {
          memory = ap memory_in mem ∙ s.memory;
          front_wired = ap front_wiring f ∙ s.front_wired;
          front = subst (λ m. FrontShows m p.activity p.front) (sym f) s.front;
          back_wired = λ d. ap (λ (m : Queue). wiring_of m) (same_queue d) ∙ s.back_wired d;
          back = λ d e. subst (λ (m : Queue). BackShows bw m (doing_at new.world e) new.asleep new.calling p.at p.back) (sym (same_queue d))
              (subst (λ (m : Doing). BackShows bw (queue_in old.world d) m new.asleep new.calling p.at p.back) (sym (same_doing e))
              (subst (λ (b : Bool). BackShows bw (queue_in old.world d) (doing_at old.world e) b new.calling p.at p.back) (sym aw)
              (subst (λ (b : Calling). BackShows bw (queue_in old.world d) (doing_at old.world e) old.asleep b p.at p.back) (sym dn) (s.back d e))));
          received = ap (λ m. map bytes_in m.items) r ∙ s.received;
          turns = subst (AllKept (turns_of p.deeds)) (sym (i.turns 0)) s.turns;
          deliveries = i.deliveries 0 ∙ s.deliveries;
          waits = i.waits 0 ∙ s.waits;
        } in (
          0,
          omega arith,
          subst (Shows bw fw new) (sym z.0) after_it,
          record { shapes = sh; stands = λ wirings start begin cs h. ([], subst (StandsFor new.world wirings start begin) (sym (append-nil cs)) (same_stands old.world new.world wirings start begin cs i h), tt, sym z.1) },
          await_follows bw p pages p.at refl,
          tt,
        );
  }

  pub await_does : (b : WaitBegun) → IsAwait old.world new.world 0 pages b → (b ≡ wait_begun.Underway → new.calling ≡ calling.Wait pages) → ((b ≡ wait_begun.Underway → ⊥) → new.calling ≡ old.calling) → Does old new (Await pages)
  await_does wait_begun.Busy i u n = stays_busy (n (λ e. cc)) i.0 i.1
  await_does wait_begun.Underway i u n = begins None (λ e. u refl) i
  await_does (wait_begun.Over answer) i u n = begins (Some answer) (λ e. n (λ e2. cc) ∙ e) i
