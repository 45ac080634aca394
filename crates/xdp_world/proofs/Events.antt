-- A world goes on by events.
use Rattle.bpf_maps.specs.Beginning.{Beginning}
use Rattle.std.proofs.Common.{◌≡◌, ℕ, ◌<◌, false, List, [], ◌∷◌, ◌++◌, Some, length, get_or, slice_get, refl, sym, ◌∙◌, ap, subst, arith, append_assoc}
use Rattle.std.proofs.lemmas.List.{append-nil}
use Rattle.std.specs.Global.{Vec}
use Rattle.xen_steps.specs.Event.{Event}
use Rattle.xen_back.specs.Queues.{state_of}
use Rattle.xen_back.specs.declared.queue.Queue.{Queue}
use Rattle.xen_turns.specs.declared.wiring.Wiring.{Wiring}
use Rattle.xdp_world.specs.Activities.{Given, Item, SlotsAwaited, all_came}
use Rattle.xdp_world.specs.Asked.{GoesBy, IsInside, Makes, await, await_busy, busy, deliver, none, step}
use Rattle.xdp_world.specs.Calls.{Awaits, Call, Delivers, Stepped, items_of}
use Rattle.xdp_world.specs.Doings.{IsAt, is_between}
use Rattle.xdp_world.specs.Entries.{Entry}
use Rattle.xdp_world.specs.Stands.{HasCome, IsAwait, IsDeliver, IsSame, IsStep, StandsFor}
use Rattle.xdp_world.specs.declared.awaiting.WaitBegun.{WaitBegun}
use Rattle.xdp_world.specs.declared.awaiting.WaitBegun.TheVariants as wait_begun
use Rattle.xdp_world.specs.declared.delivering.Begun.{Begun}
use Rattle.xdp_world.specs.declared.delivering.Begun.TheVariants as begun
use Rattle.xdp_world.specs.declared.doing.Doing.{Doing}
use Rattle.xdp_world.specs.declared.doing.Doing.TheVariants as doing
use Rattle.xdp_world.specs.declared.happening.WorldEvent.{WorldEvent}
use Rattle.xdp_world.specs.declared.happening.WorldEvent.TheVariants as event
use Rattle.xdp_world.specs.declared.kept.Kept.{Kept}
use Rattle.xdp_world.specs.declared.report.Delivered.{Delivered}
use Rattle.xdp_world.specs.declared.report.Waited.{Waited}
use Rattle.xdp_world.specs.declared.world.World.{World}
use Rattle.xdp_world.proofs.Begins.{any_or, queue_at}
use Rattle.xdp_world.proofs.Comes.{left_at}
use Rattle.xdp_world.proofs.Worlds.{get_some}

pub makes_append : (wirings : ℕ → Wiring) (start : ℕ) (before : List Call) (a b : List WorldEvent) (x y : List Call) → Makes wirings start before a x → Makes wirings start (before ++ x) b y →
    Makes wirings start before (a ++ b) (x ++ y)
makes_append wirings start _ _ b _ y (none before) h = subst (λ (l : List Call). Makes wirings start l b y) (append-nil before) h
makes_append wirings start _ _ b _ y (step before q a came es cs m) h =
    step before q a came (es ++ b) (cs ++ y) (makes_append wirings start (before ++ Stepped (record { queue = q; answer = a; event = came }) ∷ []) es b cs y m
    (subst (λ (l : List Call). Makes wirings start l b y) (sym (append_assoc before (Stepped (record { queue = q; answer = a; event = came }) ∷ []) cs)) h))
makes_append wirings start _ _ b _ y (deliver before q p es cs m) h =
    deliver before q p (es ++ b) (cs ++ y) (makes_append wirings start (before ++ Delivers q p.items ∷ []) es b cs y m
    (subst (λ (l : List Call). Makes wirings start l b y) (sym (append_assoc before (Delivers q p.items ∷ []) cs)) h))
makes_append wirings start _ _ b _ y (busy before q p es cs i m) h = busy before q p (es ++ b) (cs ++ y) i (makes_append wirings start before es b cs y m h)
makes_append wirings start _ _ b _ y (await before q n es cs m) h =
    await before q n (es ++ b) (cs ++ y) (makes_append wirings start (before ++ Awaits q n ∷ []) es b cs y m
    (subst (λ (l : List Call). Makes wirings start l b y) (sym (append_assoc before (Awaits q n ∷ []) cs)) h))
makes_append wirings start _ _ b _ y (await_busy before q n es cs i m) h = await_busy before q n (es ++ b) (cs ++ y) i (makes_append wirings start before es b cs y m h)

pub by_none : (a : World) → GoesBy a a []
by_none a wirings start begin cs h = ([], none cs, subst (λ (l : List Call). StandsFor a wirings start begin l) (sym (append-nil cs)) h)

pub by_then : (a b c : World) (x y : List WorldEvent) → GoesBy a b x → GoesBy b c y → GoesBy a c (x ++ y)
by_then a b c x y g k wirings start begin cs h =
    let m = g wirings start begin cs h in
    let n = k wirings start begin (cs ++ m.0) m.2 in
    (m.0 ++ n.0, makes_append wirings start cs x y m.0 n.0 m.1 n.1, subst (λ (l : List Call). StandsFor c wirings start begin l) (append_assoc cs m.0 n.0) n.2)

pub by_step : (a b : World) (q n : ℕ) → IsStep a b q n → GoesBy a b (event.Step q n ∷ [])
by_step a b q n s wirings start begin cs h =
    let e : Entry = record { queue = q; answer = n; event = s.event } in
    (Stepped e ∷ [], step cs q n s.event [] [] (none (cs ++ Stepped e ∷ [])), s.stands_for wirings start begin cs h)

cons_not : (f : List Event) → (f ≡ [] → ⊥) → all_came f ≡ [] → ⊥
cons_not [] n e = n refl
cons_not (x ∷ f) n e = cc

given_nil : (p : List ℕ) (l : List Item) → Given p ∷ l ≡ [] → ⊥
given_nil p l e = cc

slots_nil : (n : ℕ) (l : List Item) → SlotsAwaited n ∷ l ≡ [] → ⊥
slots_nil n l e = cc

front_not : (w : Wiring) (q : Queue) (at : Doing) (front : List Item) → is_between (Some at) ≡ false → IsAt w q at front → front ≡ [] → ⊥
front_not w q doing.Between front n h e = absurd (cc)
front_not w q doing.Turn front n h e = cons_not h.0 h.2 (sym h.1 ∙ e)
front_not w q (doing.Delivery d) front n h e = given_nil h.0 (all_came h.1) (sym h.2 ∙ e)
front_not w q (doing.Wait a) front n h e = slots_nil h.0 (all_came h.1) (sym h.2 ∙ e)

inside : (w : Wiring) (start : ℕ) (items : List Item) (ks : List Kept) (dl : List Delivered) (wl : List Waited) (q : Queue) (at : Doing) → is_between (Some at) ≡ false → HasCome w start items ks dl wl q at → IsInside w start items
inside w start items ks dl wl q at n h = record {
  deeds = h.deeds;
  end = state_of q;
  front = h.front;
  joined = h.joined;
  begun = front_not w q at h.front n h.stands_at;
  left = left_at w q at h.front h.stands_at;
}

pub same_stands : (a b : World) (wirings : ℕ → Wiring) (start : ℕ) (begin : Beginning) (cs : List Call) → IsSame a b → StandsFor a wirings start begin cs → StandsFor b wirings start begin cs
same_stands a b wirings start begin cs s h = record {
  each = λ i d e l. rw (s.queues, s.doing, s.turns i, s.deliveries i, s.waits i) (h.each i d e (omega (arith, l, ap (λ (x : List Queue). length x) s.queues)));
  come = h.come;
  serve = h.serve;
  past = s.history ∙ h.past;
  legal = h.legal;
  leaves = rw s.counters h.leaves;
}

-- a queue that is not between turns is inside something
busy_at : (a : World) (q : ℕ) (wirings : ℕ → Wiring) (start : ℕ) (begin : Beginning) (cs : List Call) → q < length a.queues.items → is_between (slice_get a.doing.items q) ≡ false → StandsFor a wirings start begin cs →
    IsInside (wirings q) start (items_of q cs)
busy_at a q wirings start begin cs l between h =
    let la : q < length a.doing.items = omega (arith, l, a.queues.ok.0, a.doing.ok.0, a.all_doing) in
    let d = queue_at a.queues.items q l in
    let e = queue_at a.doing.items q la in
    let at = get_or a.doing.items q e in
    let is : slice_get a.doing.items q ≡ Some at = get_some a.doing.items q at la (λ x. any_or a.doing.items q x e la) in
    let n : is_between (Some at) ≡ false = ap is_between (sym is) ∙ between in
    inside (wirings q) start (items_of q cs) _ _ _ (get_or a.queues.items q d) at n (h.each q d e l)

pub by_deliver : (a b : World) (q : ℕ) (p : Vec ℕ) (o : Begun) → q < length a.queues.items → IsDeliver a b q p.items o → GoesBy a b (event.Deliver q p ∷ [])
by_deliver a b q p begun.Busy l s wirings start begin cs h =
    ([], busy cs q p [] [] (busy_at a q wirings start begin cs l s.0 h) (none cs), subst (λ (x : List Call). StandsFor b wirings start begin x) (sym (append-nil cs)) (same_stands a b wirings start begin cs s.1 h))
by_deliver a b q p begun.Underway l s wirings start begin cs h = (Delivers q p.items ∷ [], deliver cs q p [] [] (none (cs ++ Delivers q p.items ∷ [])), s.stands_for wirings start begin cs h)
by_deliver a b q p (begun.Over what) l s wirings start begin cs h = (Delivers q p.items ∷ [], deliver cs q p [] [] (none (cs ++ Delivers q p.items ∷ [])), s.stands_for wirings start begin cs h)

pub by_await : (a b : World) (q n : ℕ) (o : WaitBegun) → q < length a.queues.items → IsAwait a b q n o → GoesBy a b (event.Await q n ∷ [])
by_await a b q n wait_begun.Busy l s wirings start begin cs h =
    ([], await_busy cs q n [] [] (busy_at a q wirings start begin cs l s.0 h) (none cs), subst (λ (x : List Call). StandsFor b wirings start begin x) (sym (append-nil cs)) (same_stands a b wirings start begin cs s.1 h))
by_await a b q n wait_begun.Underway l s wirings start begin cs h = (Awaits q n ∷ [], await cs q n [] [] (none (cs ++ Awaits q n ∷ [])), s.stands_for wirings start begin cs h)
by_await a b q n (wait_begun.Over answer) l s wirings start begin cs h = (Awaits q n ∷ [], await cs q n [] [] (none (cs ++ Awaits q n ∷ [])), s.stands_for wirings start begin cs h)
