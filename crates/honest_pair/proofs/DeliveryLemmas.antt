-- One event of a delivery, and its beginning.
use Rattle.std.proofs.Common.{◌≡◌, ℕ, suc, ◌+◌, ◌<◌, ◌^◌, refl, sym, ◌∙◌, ap, subst, arith, All, Bool, true, false, List, [], ◌∷◌, ◌++◌, length, length-append, map, Option, Some, None, zero-add}
use Rattle.std.specs.Prelude.{◌==◌, slice_index_or}
use Rattle.std.proofs.lemmas.Bool.Decides.{nat_tests}
use Rattle.std.proofs.lemmas.List.{append-nil}
use Rattle.xen_netif.specs.declared.offload.RxOffload.TheVariants.{Whole}
use Rattle.xen_steps.specs.Event.{Event, Occurs}
use Rattle.xen_steps.specs.Steps.{Steps, done, ask, never, next, want_of}
use Rattle.xen_steps.specs.declared.want.Want.{Want}
use Rattle.xen_steps.specs.declared.want.Want.TheVariants as want
use Rattle.xen_back.proofs.RestLemmas.{ready_rest as back_rest}
use Rattle.xen_turns.specs.Deliveries.{Arrival, whole_delivery}
use Rattle.xen_back.specs.Queues.{rest, state_of, wiring_of}
use Rattle.xen_turns.specs.Tree.{whole_turn}
use Rattle.xen_turns.specs.declared.delivery.delivering.Delivery.{Delivery}
use Rattle.xen_back.specs.declared.delivery.underway.Delivering.{Delivering as Carried}
use Rattle.xen_back.specs.declared.queue.Queue.{Queue}
use Rattle.xen_turns.specs.declared.state.State.{State}
use Rattle.xen_turns.specs.declared.wiring.Wiring.{Wiring}
use Rattle.xen_front.specs.Fronts.{wiring_of as front_wiring}
use Rattle.honest_pair.specs.Machine.Law.{IsByte}
use Rattle.honest_pair.specs.Machine.Log.{back_asks, begun_at}
use Rattle.honest_pair.specs.Machine.Memory.{Memory, after, answer}
use Rattle.honest_pair.specs.Machine.Pair.{BackAt, Asleep, First, Second, Delivering, Waiting, BackStep, Deed, Deliver, OfTurn, OfDelivery, OfWait, Pair, Past, begin_delivery, delivering, on_back, on_deliver, rested, turns_of}
use Rattle.honest_pair.proofs.Machine.Deeds.{turns_delivery}
use Rattle.honest_pair.proofs.Machine.TraceLemmas.{back_follows, deliver_follows}
use Rattle.honest_pair.specs.Machine.Traces.{BackIsAnswered}
use Rattle.xdp_world.specs.Activities.{Given, all_came}
use Rattle.xdp_world.specs.Calls.{Delivers, Stepped}
use Rattle.xdp_world.specs.Carries.{Carries, Lands, delivered_list, waited_list}
use Rattle.xdp_world.specs.Doings.{is_between, want_at}
use Rattle.xdp_world.specs.Entries.{Entry, Serves, listed}
use Rattle.xdp_world.specs.Happens.{kept_list}
use Rattle.xdp_world.specs.Stands.{HasBegun, IsDeliver, IsSame, IsStep, StandsFor, delivered_in, doing_in, kept_in, waited_in}
use Rattle.xdp_world.specs.declared.delivering.Begun.{Begun}
use Rattle.xdp_world.specs.declared.delivering.Begun.TheVariants as begun
use Rattle.xdp_world.specs.declared.doing.Doing.{Doing}
use Rattle.xdp_world.specs.declared.doing.Doing.TheVariants as doing
use Rattle.xdp_world.specs.declared.kept.Kept.{Kept}
use Rattle.xdp_world.specs.declared.report.Delivered.{Delivered}
use Rattle.xdp_world.specs.declared.report.Waited.{Waited}
use Rattle.xen_turns.specs.declared.delivery.wait.Awaited.{Awaited}
use Rattle.xen_back.specs.declared.delivery.wait_stage.Awaiting.{Awaiting}
use Rattle.xdp_world.proofs.Events.{same_stands}
use Rattle.xdp_world.proofs.Fitting.{between_is}
use Rattle.honest_pair.specs.Held.{memory_in}
use Rattle.honest_pair.specs.declared.calling.Calling.{Calling}
use Rattle.honest_pair.specs.declared.calling.Calling.TheVariants as calling
use Rattle.honest_pair.specs.declared.pair.Pair.{Pair as Held}
use Rattle.honest_pair.specs.Deeds.{AllKept, bytes_in, deliveries_of, waits_of}
use Rattle.honest_pair.specs.Shows.{BackShows, Does, FrontShows, Shows, calls_while, doing_at, is_none, queue_in}
use Rattle.honest_pair.proofs.BackLemmas.{half_going, one_queue, ready_rest, served, world_doing}

same_number : (a b : ℕ) → a ≡ b → (a == b) ≡ true
same_number a b e = grind (arith, nat_tests)

one_more : (a b : ℕ) → a ≡ b + 1 → (a == b) ≡ false
one_more a b e = grind (arith, nat_tests)

-- the list is as long as before where nothing was added
pub same_count : (l l' : List Delivered) (n : ℕ) (o : Option Delivery) → l' ≡ l ++ delivered_list n o → (length l' == length l) ≡ is_none o
same_count l l' n o e = ap (λ (x : List Delivered). length x == length l) e ∙ by o
  where
    by : (o2 : Option Delivery) → (length (l ++ delivered_list n o2) == length l) ≡ is_none o2
    by None = same_number (length (l ++ [])) (length l) (ap length (append-nil l))
    by (Some what) = let c = length-append l (delivered_list n (Some what)) in one_more (length (l ++ delivered_list n (Some what))) (length l) c

pub kept_count : (ps : List Past) (ks : List Kept) → AllKept ps ks → length ks ≡ length ps
kept_count [] [] a = refl
kept_count [] (k ∷ ks) a = absurd a
kept_count (p ∷ ps) [] a = absurd a
kept_count (p ∷ ps) (k ∷ ks) a = ap (λ n. suc n) (kept_count ps ks a.1)

deliveries_more : (n : ℕ) (ds : List Deed) (packet : List ℕ) (what : Delivery) → deliveries_of n (ds ++ OfDelivery packet what ∷ []) ≡ deliveries_of n ds ++ delivered_list (n + length (turns_of ds)) (Some what)
deliveries_more n [] packet what = let e : n ≡ n + 0 = omega arith in ap (λ m. delivered_list m (Some what)) e
deliveries_more n (OfTurn p ∷ ds) packet what =
    let e : n + 1 + length (turns_of ds) ≡ n + suc (length (turns_of ds)) = omega arith in
    deliveries_more (n + 1) ds packet what ∙ ap (λ m. deliveries_of (n + 1) ds ++ delivered_list m (Some what)) e
deliveries_more n (OfDelivery p w ∷ ds) packet what = ap (λ (l : List Delivered). record { turns = n; delivery = w } ∷ l) (deliveries_more n ds packet what)
deliveries_more n (OfWait pages answer ∷ ds) packet what = deliveries_more n ds packet what

waits_delivery : (n m : ℕ) (ds : List Deed) (packet : List ℕ) (what : Delivery) → waits_of n m (ds ++ OfDelivery packet what ∷ []) ≡ waits_of n m ds
waits_delivery n m [] packet what = refl
waits_delivery n m (OfTurn p ∷ ds) packet what = waits_delivery (n + 1) m ds packet what
waits_delivery n m (OfDelivery p w ∷ ds) packet what = waits_delivery n (m + 1) ds packet what
waits_delivery n m (OfWait pages answer ∷ ds) packet what = ap (λ (l : List Waited). record { turns = n; deliveries = m; awaited = answer } ∷ l) (waits_delivery n m ds packet what)

-- What a delivery comes to that goes on, or is over.
record After (w : Wiring) (p p' : Pair) (q' : Queue) (e' : Doing) (sl : Bool) (o : Option Delivery) : Type 0 where
  pub back : BackShows w q' e' sl (calls_while calling.Delivery (is_none o)) p'.at p'.back
  pub turns : turns_of p'.deeds ≡ turns_of p.deeds
  pub deliveries : deliveries_of 0 p'.deeds ≡ deliveries_of 0 p.deeds ++ delivered_list (length (turns_of p.deeds)) o
  pub waits : waits_of 0 0 p'.deeds ≡ waits_of 0 0 p.deeds
  pub memory : p'.memory ≡ p.memory
  pub front : p'.front ≡ p.front
  pub activity : p'.activity ≡ p.activity
  pub received : p'.received ≡ p.received

abbrev arrival_of : Steps Arrival → Arrival → Arrival
arrival_of (done a) d = a
arrival_of (ask v k) d = d
arrival_of never d = d

pub rested_shows : (w : Wiring) (q' : Queue) (e' : Doing) (sl : Bool) (s : State) → e' ≡ doing.Between → rest q' ≡ whole_turn (wiring_of q') (state_of q') → wiring_of q' ≡ w → state_of q' ≡ s → BackShows w q' e' sl calling.Nothing (rested w sl s) s
rested_shows w q' e' true s e r wi st = (refl, refl, e, r, st)
rested_shows w q' e' false s e r wi st = (refl, refl, e, ready_rest w q' s r wi st, half_going w s, st)

lands_shows : (w : Wiring) (p : Pair) (sl : Bool) (packet : List ℕ) (t : Steps Arrival) (q q' : Queue) (e' : Doing) (o : Option Delivery) → Lands q t q' e' o → wiring_of q' ≡ w → state_of q ≡ p.back →
    After w p (delivering w p sl packet t) q' e' sl o
lands_shows w p sl packet (done a) q q' e' None h wi s = absurd (h.3 refl)
lands_shows w p sl packet never q q' e' None h wi s = absurd (h.3 refl)
lands_shows w p sl packet (ask v k) q q' e' None h wi s = record {
  back = (refl, refl, h.0, h.1, h.2, tt, h.4 ∙ s);
  turns = refl;
  deliveries = sym (append-nil (deliveries_of 0 p.deeds));
  waits = refl;
  memory = refl;
  front = refl;
  activity = refl;
  received = refl;
}
lands_shows w p sl packet (ask v k) q q' e' (Some what) h wi s = let e = h.1 in absurd (cc)
lands_shows w p sl packet never q q' e' (Some what) h wi s = let e = h.1 in absurd (cc)
lands_shows w p sl packet (done a) q q' e' (Some what) h wi s =
    let is : a ≡ (state_of q', what) = ap (λ (x : Steps Arrival). arrival_of x a) h.1 in
    record {
      back = rested_shows w q' e' sl a.0 h.0 (back_rest q' h.2) wi (sym (ap (λ (x : Arrival). x.0) is));
      turns = turns_delivery p.deeds packet a.1;
      deliveries = deliveries_more 0 p.deeds packet a.1 ∙ ap (λ m. deliveries_of 0 p.deeds ++ delivered_list m (Some a.1)) (zero-add (length (turns_of p.deeds))) ∙ ap (λ (x : Delivery). deliveries_of 0 p.deeds ++ delivered_list (length (turns_of p.deeds)) (Some x)) (ap (λ (x : Arrival). x.1) is);
      waits = waits_delivery 0 0 p.deeds packet a.1;
      memory = refl;
      front = refl;
      activity = refl;
      received = refl;
    }

-- What a step of a back that delivers comes to.
abbrev Comes_to : Wiring → Pair → BackAt → Want → Queue → Doing → Bool → Option Delivery → Option Event → Type 0
Comes_to w p at v q' e' sl o event =
    (n : ℕ) × (n < 2 ^ 64) × (listed event ≡ back_asks at p.memory n) × ((on_back w at p n).memory ≡ after v p.memory)
    × After w (record p { memory = after v p.memory }) (on_back w at p n) q' e' sl o × BackIsAnswered at p.memory n

carried_step : (w : Wiring) (p : Pair) (at : BackAt) (v : Want) (a : ℕ) (q q' : Queue) (x e' : Doing) (sl : Bool) (o : Option Delivery) (event : Option Event) → v ≡ want_at q (Some x) → a ≡ answer v p.memory 0 →
    ((d : Carried) → x ≡ doing.Delivery d → (c : Carries q d q' e' a o) × (event ≡ Some c.event)) → wiring_of q' ≡ w → BackShows w q x sl calling.Delivery at p.back → Comes_to w p at v q' e' sl o event
carried_step w p Asleep v a q q' x e' sl o event y m c wi b = let e = b.1 in absurd (cc)
carried_step w p (First n t) v a q q' x e' sl o event y m c wi b = let e = b.1 in absurd (cc)
carried_step w p (Second packet left t) v a q q' x e' sl o event y m c wi b = let e = b.1 in absurd (cc)
carried_step w p (Waiting sleeps pages t) v a q q' x e' sl o event y m c wi b = let e = b.1 in absurd (cc)
carried_step w p (Delivering sleeps packet (done z)) v a q q' x e' sl o event y m c wi b = absurd b.5
carried_step w p (Delivering sleeps packet never) v a q q' x e' sl o event y m c wi b =
    let d : Carried = b.2 in
    let g = (c d b.3).0.goes in
    let bad : Occurs want.Done g.0 (c d b.3).0.event = subst (λ (t : Steps Arrival). Occurs (want_of t) g.0 (c d b.3).0.event) b.4 g.1 in
    absurd bad
carried_step w p (Delivering sleeps packet (ask u k)) v a q q' x e' sl o event y m c wi b =
    let d : Carried = b.2 in
    let r = c d b.3 in
    let g = r.0.goes in
    let e : Event = r.0.event in
    let is : v ≡ u = y ∙ ap (λ (z : Doing). want_at q (Some z)) b.3 ∙ ap want_of b.4 in
    let occurs : Occurs u g.0 e = subst (λ (t : Steps Arrival). Occurs (want_of t) g.0 e) b.4 g.1 in
    let z = served u g.0 e p.memory occurs (subst (λ n. Serves e n) (m ∙ ap (λ n. answer n p.memory 0) is) r.0.serves) in
    let mid : r.0.mid ≡ k (answer u p.memory g.0) = g.2 ∙ ap (λ (t : Steps Arrival). next t g.0) b.4 ∙ ap k z.0 in
    let p1 : Pair = record p { memory = after u p.memory } in
    let f = lands_shows w p1 sleeps packet (k (answer u p.memory g.0)) q q' e' o (subst (λ (t : Steps Arrival). Lands q t q' e' o) mid r.0.lands) wi b.6 in
    subst (λ n. Comes_to w p (Delivering sleeps packet (ask u k)) n q' e' sl o event) (sym is)
    (subst (λ n. Comes_to w p (Delivering sleeps packet (ask u k)) u q' e' n o event) (sym b.0)
    (g.0, z.2, ap listed r.1 ∙ sym z.1, f.memory, f, (e, z.1, subst (λ n. Occurs u n e) z.0 occurs)))

-- A world's step is the back's, in a delivery.
pub carries_on : (old new : Held) (a : ℕ) (v : Want) → old.calling ≡ calling.Delivery → new.asleep ≡ old.asleep → new.front ≡ old.front → new.received ≡ old.received →
    ((d : Queue) → v ≡ want_at (queue_in old.world d) (doing_in old.world 0)) → memory_in new.memory ≡ after v (memory_in old.memory) → a ≡ answer v (memory_in old.memory) 0 →
    (i : IsStep old.world new.world 0 a) → new.calling ≡ calls_while calling.Delivery (is_none i.delivery) → new.world.counters.shapes ≡ old.world.counters.shapes → Does old new BackStep
carries_on old new a v dl aw f r vw mem an i dn sh = record {
  bytes = tt;
  does = λ bw fw p s.
      let ol = one_queue old.world.queues.items (omega (arith, old.one, old.world.queues.ok.0)) in
      let ne = one_queue new.world.queues.items (omega (arith, new.one, new.world.queues.ok.0)) in
      let q : Queue = ol.0 in
      let q' : Queue = ne.0 in
      let y = world_doing old in
      let y' = world_doing new in
      let x : Doing = y.0 in
      let shows : BackShows bw q x old.asleep calling.Delivery p.at p.back =
      subst (λ (b : Calling). BackShows bw q x old.asleep b p.at p.back) dl
      (subst (λ (z : Doing). BackShows bw q z old.asleep old.calling p.at p.back) (y.1 x) (subst (λ (z : Queue). BackShows bw z (doing_at old.world x) old.asleep old.calling p.at p.back) (ol.1 q) (s.back q x))) in
      let carried : (d : Carried) → x ≡ doing.Delivery d → (c : Carries q d q' y'.0 a i.delivery) × (i.event ≡ Some c.event) =
      λ d e. let z = i.carried d (y.2 ∙ ap (λ (n : Doing). Some n) e) q x in
      same_carries (queue_in old.world q) q (queue_in new.world q) q' (doing_at new.world x) y'.0 d a i.delivery i.event (ol.1 q) (ne.1 q) (y'.1 x) z.0 z.1 in
      let want : v ≡ want_at q (Some x) = vw q ∙ ap (λ (z : Queue). want_at z (doing_in old.world 0)) (ol.1 q) ∙ ap (want_at q) y.2 in
      let ans : a ≡ answer v p.memory 0 = an ∙ ap (λ (m : Memory). answer v m 0) s.memory in
      let wired : wiring_of q' ≡ bw = ap (λ (z : Queue). wiring_of z) (sym (ne.1 q)) ∙ i.wired q ∙ s.back_wired q in
      let g = carried_step bw p p.at v a q q' x y'.0 old.asleep i.delivery i.event want ans carried wired shows in
      let p' : Pair = on_back bw p.at p g.0 in
      let t = g.4 in
      let kept : kept_in new.world.turns.items 0 ≡ kept_in old.world.turns.items 0 =
      i.turns ∙ ap (λ (z : Option Kept). kept_in old.world.turns.items 0 ++ kept_list z) (i.carried (under bw q x old.asleep p.at p.back shows).0 (y.2 ∙ ap (λ (n : Doing). Some n) (under bw q x old.asleep p.at p.back shows).1) q x).2
      ∙ append-nil (kept_in old.world.turns.items 0) in
      let no_wait : waited_in new.world.waits.items 0 ≡ waited_in old.world.waits.items 0 =
      i.waits ∙ ap (λ (z : Option Awaited). waited_in old.world.waits.items 0 ++ waited_list (length (kept_in old.world.turns.items 0)) (length (delivered_in old.world.deliveries.items 0)) z)
      (i.no_wait (λ (n : Awaiting) e. let is : Some (doing.Delivery (under bw q x old.asleep p.at p.back shows).0) ≡ Some (doing.Wait n) = sym (y.2 ∙ ap (λ (z : Doing). Some z) (under bw q x old.asleep p.at p.back shows).1) ∙ e in absurd (cc)))
      ∙ append-nil (waited_in old.world.waits.items 0) in
      let count : length (kept_in old.world.turns.items 0) ≡ length (turns_of p.deeds) = kept_count (turns_of p.deeds) (kept_in old.world.turns.items 0) s.turns in (
        g.0,
        g.1,
        record {
          memory = mem ∙ ap (after v) s.memory ∙ sym g.3;
          front_wired = ap front_wiring f ∙ s.front_wired;
          front = subst (λ z. FrontShows z p'.activity p'.front) (sym f) (subst (λ z. FrontShows old.front z p'.front) (sym t.activity) (subst (λ z. FrontShows old.front p.activity z) (sym t.front) s.front));
          back_wired = λ d. i.wired d ∙ s.back_wired d;
          back = λ d e. subst (λ (z : Queue). BackShows bw z (doing_at new.world e) new.asleep new.calling p'.at p'.back) (sym (ne.1 d))
              (subst (λ (z : Doing). BackShows bw q' z new.asleep new.calling p'.at p'.back) (sym (y'.1 e))
              (subst (λ (b : Bool). BackShows bw q' y'.0 b new.calling p'.at p'.back) (sym aw)
              (subst (λ (b : Calling). BackShows bw q' y'.0 old.asleep b p'.at p'.back) (sym dn) t.back)));
          received = ap (λ z. map bytes_in z.items) r ∙ s.received ∙ sym t.received;
          turns = subst (λ z. AllKept z (kept_in new.world.turns.items 0)) (sym t.turns) (subst (AllKept (turns_of p.deeds)) (sym kept) s.turns);
          deliveries = i.deliveries ∙ (λ j. s.deliveries j ++ delivered_list (count j) i.delivery) ∙ sym t.deliveries;
          waits = no_wait ∙ s.waits ∙ sym t.waits;
        },
        record {
          shapes = sh;
          stands = λ wirings start begin cs h.
              let e : Entry = record { queue = 0; answer = a; event = i.event } in
              (Stepped e ∷ [], i.stands_for wirings start begin cs h, (refl, tt), append-nil (all_came (listed i.event)) ∙ ap all_came g.2);
        },
        back_follows bw p p.at g.0 refl g.5,
        tt,
      );
}
  where
    same_carries : (q1 q2 q1' q2' : Queue) (e1 e2 : Doing) (d : Carried) (n : ℕ) (o : Option Delivery) (event : Option Event) → q1 ≡ q2 → q1' ≡ q2' → e1 ≡ e2 → (c : Carries q1 d q1' e1 n o) → event ≡ Some c.event →
        (c : Carries q2 d q2' e2 n o) × (event ≡ Some c.event)
    same_carries q1 q2 q1' q2' e1 e2 d n o event h1 h2 h3 c e =
        subst (λ (z : Queue). (c2 : Carries z d q2' e2 n o) × (event ≡ Some c2.event)) h1
        (subst (λ (z : Queue). (c2 : Carries q1 d z e2 n o) × (event ≡ Some c2.event)) h2
        (subst (λ (z : Doing). (c2 : Carries q1 d q1' z n o) × (event ≡ Some c2.event)) h3 (c, e)))

    under : (w : Wiring) (q : Queue) (x : Doing) (sl : Bool) (at : BackAt) (s : State) → BackShows w q x sl calling.Delivery at s → (d : Carried) × (x ≡ doing.Delivery d)
    under w q x sl Asleep s b = let e = b.1 in absurd (cc)
    under w q x sl (First n t) s b = let e = b.1 in absurd (cc)
    under w q x sl (Second packet left t) s b = let e = b.1 in absurd (cc)
    under w q x sl (Delivering asleep packet t) s b = (b.2, b.3)
    under w q x sl (Waiting asleep pages t) s b = let e = b.1 in absurd (cc)

-- a back that is between turns begins
begins_at : (w : Wiring) (q : Queue) (x : Doing) (sl : Bool) (dl : Calling) (p : Pair) (packet : List ℕ) (at : BackAt) → x ≡ doing.Between → BackShows w q x sl dl at p.back →
    (on_deliver w at p packet ≡ begin_delivery w p sl packet) × (begun_at at (Given packet) ≡ begun_at Asleep (Given packet)) × (dl ≡ calling.Nothing) × (state_of q ≡ p.back)
begins_at w q x sl dl p packet Asleep e b = (ap (λ z. begin_delivery w p z packet) (sym b.0), refl, b.1, b.4)
begins_at w q x sl dl p packet (First false t) e b = (ap (λ z. begin_delivery w p z packet) (sym b.0), refl, b.1, b.5)
begins_at w q x sl dl p packet (First true t) e b = let z : doing.Turn ≡ doing.Between = sym b.2 ∙ e in absurd (cc)
begins_at w q x sl dl p packet (Second copy left t) e b = let z : doing.Turn ≡ doing.Between = sym b.2 ∙ e in absurd (cc)
begins_at w q x sl dl p packet (Delivering asleep other t) e b = let z : doing.Delivery b.2 ≡ doing.Between = sym b.3 ∙ e in absurd (cc)
begins_at w q x sl dl p packet (Waiting asleep pages t) e b = let z : doing.Wait b.2 ≡ doing.Between = sym b.3 ∙ e in absurd (cc)

-- one that isn't does nothing
busy_at : (w : Wiring) (q : Queue) (x : Doing) (sl : Bool) (dl : Calling) (p : Pair) (packet : List ℕ) (at : BackAt) → is_between (Some x) ≡ false → BackShows w q x sl dl at p.back → (on_deliver w at p packet ≡ p) × (begun_at at (Given packet) ≡ [])
busy_at w q x sl dl p packet Asleep e b = let z : true ≡ false = ap (λ (y : Doing). is_between (Some y)) (sym b.2) ∙ e in absurd (cc)
busy_at w q x sl dl p packet (First false t) e b = let z : true ≡ false = ap (λ (y : Doing). is_between (Some y)) (sym b.2) ∙ e in absurd (cc)
busy_at w q x sl dl p packet (First true t) e b = (refl, refl)
busy_at w q x sl dl p packet (Second copy left t) e b = (refl, refl)
busy_at w q x sl dl p packet (Delivering asleep other t) e b = (refl, refl)
busy_at w q x sl dl p packet (Waiting asleep pages t) e b = (refl, refl)

module _ (old new : Held) (packet : List ℕ) (all : All IsByte packet) (aw : new.asleep ≡ old.asleep) (f : new.front ≡ old.front) (r : new.received ≡ old.received) (mem : new.memory ≡ old.memory) (sh : new.world.counters.shapes ≡ old.world.counters.shapes) where
  begins : (o : Option Delivery) → (old.calling ≡ calling.Nothing → new.calling ≡ calls_while calling.Delivery (is_none o)) → HasBegun old.world new.world 0 packet o → Does old new (Deliver packet)
  begins o dn i = record {
    bytes = all;
    does = λ bw fw p s.
        let ol = one_queue old.world.queues.items (omega (arith, old.one, old.world.queues.ok.0)) in
        let ne = one_queue new.world.queues.items (omega (arith, new.one, new.world.queues.ok.0)) in
        let q : Queue = ol.0 in
        let q' : Queue = ne.0 in
        let y = world_doing old in
        let y' = world_doing new in
        let x : Doing = y.0 in
        let shows : BackShows bw q x old.asleep old.calling p.at p.back =
        subst (λ (z : Doing). BackShows bw q z old.asleep old.calling p.at p.back) (y.1 x) (subst (λ (z : Queue). BackShows bw z (doing_at old.world x) old.asleep old.calling p.at p.back) (ol.1 q) (s.back q x)) in
        let between : x ≡ doing.Between = between_is x (ap is_between (sym y.2) ∙ i.between) in
        let z = begins_at bw q x old.asleep old.calling p packet p.at between shows in
        let wired : wiring_of q ≡ bw = subst (λ (n : Queue). wiring_of n ≡ bw) (ol.1 q) (s.back_wired q) in
        let wired' : wiring_of q' ≡ bw = ap (λ (n : Queue). wiring_of n) (sym (ne.1 q)) ∙ i.wired q ∙ s.back_wired q in
        let lands : Lands q (whole_delivery bw.vif bw.accepts p.back Whole packet) q' y'.0 o =
        subst (λ (w : Wiring). Lands q (whole_delivery w.vif w.accepts p.back Whole packet) q' y'.0 o) wired
        (subst (λ (t : State). Lands q (whole_delivery (wiring_of q).vif (wiring_of q).accepts t Whole packet) q' y'.0 o) z.3
        (subst (λ (n : Queue). Lands n (whole_delivery (wiring_of n).vif (wiring_of n).accepts (state_of n) Whole packet) q' y'.0 o) (ol.1 q)
        (subst (λ (n : Queue). Lands (queue_in old.world q) (whole_delivery (wiring_of (queue_in old.world q)).vif (wiring_of (queue_in old.world q)).accepts (state_of (queue_in old.world q)) Whole packet) n y'.0 o) (ne.1 q)
        (subst (λ (n : Doing). Lands (queue_in old.world q) (whole_delivery (wiring_of (queue_in old.world q)).vif (wiring_of (queue_in old.world q)).accepts (state_of (queue_in old.world q)) Whole packet) (queue_in new.world q) n o) (y'.1 x) (i.lands q x))))) in
        let p' : Pair = begin_delivery bw p old.asleep packet in
        let t = lands_shows bw p old.asleep packet (whole_delivery bw.vif bw.accepts p.back Whole packet) q q' y'.0 o lands wired' z.3 in
        let count : length (kept_in old.world.turns.items 0) ≡ length (turns_of p.deeds) = kept_count (turns_of p.deeds) (kept_in old.world.turns.items 0) s.turns in
        let after_it : Shows bw fw new p' = record {
          memory = ap memory_in mem ∙ s.memory ∙ sym t.memory;
          front_wired = ap front_wiring f ∙ s.front_wired;
          front = subst (λ n. FrontShows n p'.activity p'.front) (sym f) (subst (λ n. FrontShows old.front n p'.front) (sym t.activity) (subst (λ n. FrontShows old.front p.activity n) (sym t.front) s.front));
          back_wired = λ d. i.wired d ∙ s.back_wired d;
          back = λ d e. subst (λ (n : Queue). BackShows bw n (doing_at new.world e) new.asleep new.calling p'.at p'.back) (sym (ne.1 d))
              (subst (λ (n : Doing). BackShows bw q' n new.asleep new.calling p'.at p'.back) (sym (y'.1 e))
              (subst (λ (b : Bool). BackShows bw q' y'.0 b new.calling p'.at p'.back) (sym aw)
              (subst (λ (b : Calling). BackShows bw q' y'.0 old.asleep b p'.at p'.back) (sym (dn z.2)) t.back)));
          received = ap (λ n. map bytes_in n.items) r ∙ s.received ∙ sym t.received;
          turns = subst (λ n. AllKept n (kept_in new.world.turns.items 0)) (sym t.turns) (subst (AllKept (turns_of p.deeds)) (sym i.turns) s.turns);
          deliveries = i.deliveries ∙ (λ j. s.deliveries j ++ delivered_list (count j) o) ∙ sym t.deliveries;
          waits = i.waits ∙ s.waits ∙ sym t.waits;
        } in (
          0,
          omega arith,
          subst (Shows bw fw new) (sym z.0) after_it,
          record { shapes = sh; stands = λ wirings start begin cs h. (Delivers 0 packet ∷ [], i.stands_for wirings start begin cs h, (refl, tt), sym z.1) },
          deliver_follows bw p packet p.at refl,
          tt,
        );
  }

  stays_busy : new.calling ≡ old.calling → is_between (doing_in old.world 0) ≡ false → IsSame old.world new.world → Does old new (Deliver packet)
  stays_busy dn n i = record {
    bytes = all;
    does = λ bw fw p s.
        let ol = one_queue old.world.queues.items (omega (arith, old.one, old.world.queues.ok.0)) in
        let q : Queue = ol.0 in
        let y = world_doing old in
        let x : Doing = y.0 in
        let shows : BackShows bw q x old.asleep old.calling p.at p.back =
        subst (λ (z : Doing). BackShows bw q z old.asleep old.calling p.at p.back) (y.1 x) (subst (λ (z : Queue). BackShows bw z (doing_at old.world x) old.asleep old.calling p.at p.back) (ol.1 q) (s.back q x)) in
        let z = busy_at bw q x old.asleep old.calling p packet p.at (ap is_between (sym y.2) ∙ n) shows in
        let same_queue : (d : Queue) → queue_in new.world d ≡ queue_in old.world d = λ d. ap (λ (l : List Queue). slice_index_or l 0 d) i.queues in
        let same_doing : (e : Doing) → doing_at new.world e ≡ doing_at old.world e = λ e. ap (λ (l : List Doing). slice_index_or l 0 e) i.doing in
        let after_it : Shows bw fw new p = record {
          memory = ap memory_in mem ∙ s.memory;
          front_wired = ap front_wiring f ∙ s.front_wired;
          front = subst (λ m. FrontShows m p.activity p.front) (sym f) s.front;
          back_wired = λ d. ap (λ (m : Queue). wiring_of m) (same_queue d) ∙ s.back_wired d;
          back = λ d e. subst (λ (m : Queue). BackShows bw m (doing_at new.world e) new.asleep new.calling p.at p.back) (sym (same_queue d))
              (subst (λ (m : Doing). BackShows bw (queue_in old.world d) m new.asleep new.calling p.at p.back) (sym (same_doing e))
              (subst (λ (b : Bool). BackShows bw (queue_in old.world d) (doing_at old.world e) b new.calling p.at p.back) (sym aw)
              (subst (λ (b : Calling). BackShows bw (queue_in old.world d) (doing_at old.world e) old.asleep b p.at p.back) (sym dn) (s.back d e))));
          received = ap (λ m. map bytes_in m.items) r ∙ s.received;
          turns = subst (AllKept (turns_of p.deeds)) (sym (i.turns 0)) s.turns;
          deliveries = i.deliveries 0 ∙ s.deliveries;
          waits = i.waits 0 ∙ s.waits;
        } in (
          0,
          omega arith,
          subst (Shows bw fw new) (sym z.0) after_it,
          record { shapes = sh; stands = λ wirings start begin cs h. ([], subst (StandsFor new.world wirings start begin) (sym (append-nil cs)) (same_stands old.world new.world wirings start begin cs i h), tt, sym z.1) },
          deliver_follows bw p packet p.at refl,
          tt,
        );
  }

  pub deliver_does : (b : Begun) → IsDeliver old.world new.world 0 packet b → (b ≡ begun.Underway → new.calling ≡ calling.Delivery) → ((b ≡ begun.Underway → ⊥) → new.calling ≡ old.calling) → Does old new (Deliver packet)
  deliver_does begun.Busy i u n = stays_busy (n (λ e. cc)) i.0 i.1
  deliver_does begun.Underway i u n = begins None (λ e. u refl) i
  deliver_does (begun.Over what) i u n = begins (Some what) (λ e. n (λ e2. cc) ∙ e) i
