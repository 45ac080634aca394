-- One event of the front.
use Rattle.std.proofs.Common.{◌≡◌, ◌≢◌, ℕ, ◌⊎◌, inl, inr, refl, sym, ◌∙◌, ap, subst, arith, Bool, true, false, List, [], ◌∷◌, ◌++◌, length, map, get_or, OnOk, OnErr, All, Option, Some, None, Result, Ok, Err}
use Rattle.std.proofs.lemmas.List.{append-nil}
use Rattle.std.specs.Prelude.{nat_lt}
use Rattle.xen_steps.specs.Steps.{Steps, done, ask, never, next, want_of}
use Rattle.xen_steps.specs.Event.{Event, Occurs}
use Rattle.xen_steps.specs.declared.want.Want.{Want}
use Rattle.xen_steps.specs.declared.want.Want.TheVariants as want
use Rattle.xen_turns.specs.declared.wiring.Wiring.{Wiring as BackWiring}
use Rattle.xen_back.specs.Queues.{wiring_of as back_wiring}
use Rattle.xen_back.specs.declared.queue.Queue.{Queue}
use Rattle.xen_buffers.specs.declared.wiring.FrontWiring.{FrontWiring}
use Rattle.xen_front.specs.Fronts.{HasBegun, IsSame, all_free, busy, chosen, poll_answer, poll_tests, post_answer, post_tests, rest, send_answer, send_tests, state_of, wiring_of}
use Rattle.xen_front.specs.Given.{Ending, Given}
use Rattle.xen_front.specs.Slots.{pieces_of, post_writes, send_writes}
use Rattle.xen_front.specs.Tree.{flown, flown_post, poll, post, publish, send}
use Rattle.xen_steps.specs.Places.{add32}
use Rattle.xen_front.specs.declared.front.Front.{Front}
use Rattle.xen_front.specs.declared.state.FrontState.{FrontState}
use Rattle.xen_front.specs.declared.turn.FrontHalt.{FrontHalt}
use Rattle.xen_front.specs.declared.turn.PollRefusal.{PollRefusal}
use Rattle.xen_front.specs.declared.turn.PostRefusal.{PostRefusal}
use Rattle.xen_front.specs.declared.turn.SendRefusal.{SendRefusal}
use Rattle.xen_steps.specs.Pages.{PageWrite, write_all}
use Rattle.honest_pair.specs.Machine.Law.{IsByte}
use Rattle.honest_pair.specs.Machine.Acts.{FrontIsAnswered}
use Rattle.honest_pair.specs.Machine.Log.{event_by}
use Rattle.honest_pair.specs.Machine.Memory.{Memory, after, answer}
use Rattle.honest_pair.specs.Machine.Pair.{Activity, Free, Sending, Posting, Polling, Pair, PairEvent, FrontStep, Post, Poll, Send, begin_poll, begin_post, begin_send, on_front, on_poll, on_post, on_send, packets_of, poll_result, polling, post_result, post_tree, posting, send_result, send_tree, sending, turns_of}
use Rattle.honest_pair.proofs.Machine.TraceLemmas.{front_follows, poll_follows, post_follows, send_follows}
use Rattle.xdp_world.specs.Stands.{StandsFor, delivered_in, kept_in, waited_in}
use Rattle.xdp_world.specs.declared.world.World.{World}
use Rattle.honest_pair.specs.Held.{memory_in}
use Rattle.honest_pair.specs.Deeds.{AllKept, bytes_in, deliveries_of, waits_of}
use Rattle.honest_pair.specs.Shows.{BackShows, Does, FrontShows, GoesOn, IsGoing, Shows, doing_at, queue_in}
use Rattle.honest_pair.specs.declared.pair.Pair.{Pair as Held}
use Rattle.honest_pair.proofs.IdleLemmas.{asks_on, is_busy, nothing_left}

-- the pair where the front alone moves
module _ (old new : Held) (world : new.world ≡ old.world) (asleep : new.asleep ≡ old.asleep) (calls : new.calling ≡ old.calling) where
  -- the rest of what a pair shows
  carried : (bw : BackWiring) (fw : FrontWiring) (p p' : Pair) → Shows bw fw old p → memory_in new.memory ≡ p'.memory → wiring_of new.front ≡ fw → FrontShows new.front p'.activity p'.front →
      map bytes_in new.received.items ≡ p'.received → p'.at ≡ p.at → p'.back ≡ p.back → p'.deeds ≡ p.deeds → Shows bw fw new p'
  carried bw fw p p' s m w f r a b t = record {
    memory = m;
    front_wired = w;
    front = f;
    received = r;
    back_wired = subst (λ (x : World). (d : Queue) → back_wiring (queue_in x d) ≡ bw) (sym world) s.back_wired;
    back = λ d e. subst (λ (x : World). BackShows bw (queue_in x d) (doing_at x e) new.asleep new.calling p'.at p'.back) (sym world)
        (subst (λ x. BackShows bw (queue_in old.world d) (doing_at old.world e) x new.calling p'.at p'.back) (sym asleep)
        (subst (λ x. BackShows bw (queue_in old.world d) (doing_at old.world e) old.asleep x p'.at p'.back) (sym calls)
        (subst (λ x. BackShows bw (queue_in old.world d) (doing_at old.world e) old.asleep old.calling x p'.back) (sym a)
        (subst (λ x. BackShows bw (queue_in old.world d) (doing_at old.world e) old.asleep old.calling p.at x) (sym b) (s.back d e)))));
    turns = subst (λ (x : World). AllKept (turns_of p'.deeds) (kept_in x.turns.items 0)) (sym world) (subst (λ x. AllKept (turns_of x) (kept_in old.world.turns.items 0)) (sym t) s.turns);
    deliveries = ap (λ (x : World). delivered_in x.deliveries.items 0) world ∙ s.deliveries ∙ ap (deliveries_of 0) (sym t);
    waits = ap (λ (x : World). waited_in x.waits.items 0) world ∙ s.waits ∙ ap (waits_of 0 0) (sym t);
  }

  stays : GoesOn old.world new.world []
  stays = record { shapes = ap (λ (x : World). x.counters.shapes) world; stands = λ wirings start begin cs h. ([], subst (λ (x : World). StandsFor x wirings start begin (cs ++ [])) (sym world) (subst (StandsFor old.world wirings start begin) (sym (append-nil cs)) h), tt, refl) }

-- inside a send
going_sending : (p : Pair) (f : Front) (t : Steps Ending) → rest f ≡ t → IsGoing t →
    FrontShows f (sending p t).activity (sending p t).front × ((sending p t).received ≡ p.received) × ((sending p t).memory ≡ p.memory) × ((sending p t).at ≡ p.at) × ((sending p t).back ≡ p.back) × ((sending p t).deeds ≡ p.deeds)
going_sending p f (done e) r h = absurd h
going_sending p f (ask v c) r h = ((r, tt), refl, refl, refl, refl, refl)
going_sending p f never r h = ((r, tt), refl, refl, refl, refl, refl)

over_sending : (p : Pair) (f : Front) (t : Steps Ending) (s : FrontState) (g : Given) → t ≡ done (s, g) → state_of f ≡ s → busy f ≡ false →
    FrontShows f (sending p t).activity (sending p t).front × ((sending p t).received ≡ p.received ++ packets_of g) × ((sending p t).memory ≡ p.memory) × ((sending p t).at ≡ p.at) × ((sending p t).back ≡ p.back) × ((sending p t).deeds ≡ p.deeds)
over_sending p f t s g e h b =
    subst (λ (x : Steps Ending). FrontShows f (sending p x).activity (sending p x).front × ((sending p x).received ≡ p.received ++ packets_of g) × ((sending p x).memory ≡ p.memory) × ((sending p x).at ≡ p.at) × ((sending p x).back ≡ p.back) × ((sending p x).deeds ≡ p.deeds))
    (sym e) ((h, b), refl, refl, refl, refl, refl)

-- inside a post
going_posting : (p : Pair) (f : Front) (t : Steps Ending) → rest f ≡ t → IsGoing t →
    FrontShows f (posting p t).activity (posting p t).front × ((posting p t).received ≡ p.received) × ((posting p t).memory ≡ p.memory) × ((posting p t).at ≡ p.at) × ((posting p t).back ≡ p.back) × ((posting p t).deeds ≡ p.deeds)
going_posting p f (done e) r h = absurd h
going_posting p f (ask v c) r h = ((r, tt), refl, refl, refl, refl, refl)
going_posting p f never r h = ((r, tt), refl, refl, refl, refl, refl)

over_posting : (p : Pair) (f : Front) (t : Steps Ending) (s : FrontState) (g : Given) → t ≡ done (s, g) → state_of f ≡ s → busy f ≡ false →
    FrontShows f (posting p t).activity (posting p t).front × ((posting p t).received ≡ p.received ++ packets_of g) × ((posting p t).memory ≡ p.memory) × ((posting p t).at ≡ p.at) × ((posting p t).back ≡ p.back) × ((posting p t).deeds ≡ p.deeds)
over_posting p f t s g e h b =
    subst (λ (x : Steps Ending). FrontShows f (posting p x).activity (posting p x).front × ((posting p x).received ≡ p.received ++ packets_of g) × ((posting p x).memory ≡ p.memory) × ((posting p x).at ≡ p.at) × ((posting p x).back ≡ p.back) × ((posting p x).deeds ≡ p.deeds))
    (sym e) ((h, b), refl, refl, refl, refl, refl)

-- inside a poll
going_polling : (p : Pair) (f : Front) (t : Steps Ending) → rest f ≡ t → IsGoing t →
    FrontShows f (polling p t).activity (polling p t).front × ((polling p t).received ≡ p.received) × ((polling p t).memory ≡ p.memory) × ((polling p t).at ≡ p.at) × ((polling p t).back ≡ p.back) × ((polling p t).deeds ≡ p.deeds)
going_polling p f (done e) r h = absurd h
going_polling p f (ask v c) r h = ((r, tt), refl, refl, refl, refl, refl)
going_polling p f never r h = ((r, tt), refl, refl, refl, refl, refl)

over_polling : (p : Pair) (f : Front) (t : Steps Ending) (s : FrontState) (g : Given) → t ≡ done (s, g) → state_of f ≡ s → busy f ≡ false →
    FrontShows f (polling p t).activity (polling p t).front × ((polling p t).received ≡ p.received ++ packets_of g) × ((polling p t).memory ≡ p.memory) × ((polling p t).at ≡ p.at) × ((polling p t).back ≡ p.back) × ((polling p t).deeds ≡ p.deeds)
over_polling p f t s g e h b =
    subst (λ (x : Steps Ending). FrontShows f (polling p x).activity (polling p x).front × ((polling p x).received ≡ p.received ++ packets_of g) × ((polling p x).memory ≡ p.memory) × ((polling p x).at ≡ p.at) × ((polling p x).back ≡ p.back) × ((polling p x).deeds ≡ p.deeds))
    (sym e) ((h, b), refl, refl, refl, refl, refl)

writes_go : (ns : List PageWrite) (t : Steps Ending) → IsGoing t → IsGoing (write_all ns t)
writes_go [] t h = h
writes_go (n ∷ ns) t h = tt

send_goes : (w : FrontWiring) (s : FrontState) (p ids : List ℕ) → IsGoing (send w s p ids)
send_goes w s p ids = writes_go (send_writes w s.tx.prod p (length ids) 0 ids) (publish w w.tx_frame s.tx.prod (add32 s.tx.prod (length ids)) (record s { tx = flown s.tx ids })) tt

post_goes : (w : FrontWiring) (s : FrontState) (id : ℕ) → IsGoing (post w s id)
post_goes w s id = writes_go (post_writes w s.rx.prod id) (publish w w.rx_frame s.rx.prod (add32 s.rx.prod 1) (flown_post s id)) tt

-- The front goes on by this tree, or has ended it and was asked what it received.
abbrev pub Ended_as : Held → Held → Steps Ending → Type 0
Ended_as old new t = ((rest new.front ≡ t) × IsGoing t × (new.received ≡ old.received))
    ⊎ ((g : Given) × (t ≡ done (state_of new.front, g)) × (busy new.front ≡ false) × (map bytes_in new.received.items ≡ map bytes_in old.received.items ++ packets_of g))

send_busy : (h : Option FrontHalt) (a b c : Bool) {u : Unit {0}} → Ok u ≡ send_tests h true a b c → ⊥
send_busy None a b c e = absurd (cc)
send_busy (Some x) a b c e = absurd (cc)

post_busy : (h : Option FrontHalt) (ids : List ℕ) {u : Unit {0}} → Ok u ≡ post_tests h true ids → ⊥
post_busy None ids e = absurd (cc)
post_busy (Some x) ids e = absurd (cc)

poll_busy : (h : Option FrontHalt) {u : Unit {0}} → Ok u ≡ poll_tests h true → ⊥
poll_busy None e = absurd (cc)
poll_busy (Some x) e = absurd (cc)

-- The event of a want that is answered.
occurs_event : (w : Want) (a : ℕ) (e : Event) → Occurs w a e → event_by w a ≡ e ∷ []
occurs_event (want.Read at) a e h = ap (λ x. x ∷ []) (sym h.1)
occurs_event (want.Write at v) a e h = ap (λ x. x ∷ []) (sym h.1)
occurs_event want.Instr a e h = ap (λ x. x ∷ []) (sym h.1)
occurs_event (want.Load m k j) a e h = ap (λ x. x ∷ []) (sym h.1)
occurs_event (want.Add m k j delta) a e h = ap (λ x. x ∷ []) (sym h.1)
occurs_event (want.Notify port) a e h = ap (λ x. x ∷ []) (sym h.1)
occurs_event want.Done a e h = absurd h

answered_by : (v u : Want) (m m' : Memory) → v ≡ u → m ≡ m' → (e : Event) × Occurs v (answer v m 0) e → (e : Event) × (event_by u (answer u m' 0) ≡ e ∷ []) × Occurs u (answer u m' 0) e
answered_by v u m m' i j o =
    let said : Occurs u (answer u m' 0) o.0 = subst (λ x. Occurs u (answer u x 0) o.0) j (subst (λ x. Occurs x (answer x m 0) o.0) i o.1) in
    (o.0, occurs_event u (answer u m' 0) o.0 said, said)

-- a front's step comes to this pair
abbrev Comes_to : Held → Held → BackWiring → FrontWiring → Pair → Pair → Type 0
Comes_to old new bw fw p p' = Shows bw fw new p' × GoesOn old.world new.world []

module _ (old new : Held) (world : new.world ≡ old.world) (asleep : new.asleep ≡ old.asleep) (calls : new.calling ≡ old.calling) where
  same_pair : (bw : BackWiring) (fw : FrontWiring) (p : Pair) → Shows bw fw old p → new.front ≡ old.front → new.memory ≡ old.memory → new.received ≡ old.received → Comes_to old new bw fw p p
  same_pair bw fw p s f m r = (
    carried old new world asleep calls bw fw p p s (ap memory_in m ∙ s.memory) (ap wiring_of f ∙ s.front_wired) (subst (λ x. FrontShows x p.activity p.front) (sym f) s.front)
        (ap (λ x. map bytes_in x.items) r ∙ s.received) refl refl refl,
    stays old new world asleep calls,
  )

  -- nothing was left
  rested : (bw : BackWiring) (fw : FrontWiring) (p : Pair) (a : Activity) → p.activity ≡ a → Shows bw fw old p → new.front ≡ old.front → new.memory ≡ old.memory → new.received ≡ old.received →
      want_of (rest old.front) ≡ want.Done → FrontShows old.front a p.front → Comes_to old new bw fw p (on_front a p 0)
  rested bw fw p Free i s f m r d h = same_pair bw fw p s f m r
  rested bw fw p (Sending (done e)) i s f m r d h = absurd h.1
  rested bw fw p (Sending (ask v c)) i s f m r d h = absurd (asks_on old.front v c h.0 (sym (ap want_of h.0) ∙ d))
  rested bw fw p (Sending never) i s f m r d h = same_pair bw fw p s f m r
  rested bw fw p (Posting (done e)) i s f m r d h = absurd h.1
  rested bw fw p (Posting (ask v c)) i s f m r d h = absurd (asks_on old.front v c h.0 (sym (ap want_of h.0) ∙ d))
  rested bw fw p (Posting never) i s f m r d h = same_pair bw fw p s f m r
  rested bw fw p (Polling (done e)) i s f m r d h = absurd h.1
  rested bw fw p (Polling (ask v c)) i s f m r d h = absurd (asks_on old.front v c h.0 (sym (ap want_of h.0) ∙ d))
  rested bw fw p (Polling never) i s f m r d h = same_pair bw fw p s f m r

  -- so nothing is answered
  nothing_asked : (a : Activity) (f : FrontState) → want_of (rest old.front) ≡ want.Done → FrontShows old.front a f → (m : Memory) → FrontIsAnswered a m 0
  nothing_asked Free f d h m = tt
  nothing_asked (Sending (done e)) f d h m = tt
  nothing_asked (Sending (ask v c)) f d h m = absurd (asks_on old.front v c h.0 (sym (ap want_of h.0) ∙ d))
  nothing_asked (Sending never) f d h m = tt
  nothing_asked (Posting (done e)) f d h m = tt
  nothing_asked (Posting (ask v c)) f d h m = absurd (asks_on old.front v c h.0 (sym (ap want_of h.0) ∙ d))
  nothing_asked (Posting never) f d h m = tt
  nothing_asked (Polling (done e)) f d h m = tt
  nothing_asked (Polling (ask v c)) f d h m = absurd (asks_on old.front v c h.0 (sym (ap want_of h.0) ∙ d))
  nothing_asked (Polling never) f d h m = tt

  pub rests_front : new.front ≡ old.front → new.memory ≡ old.memory → new.received ≡ old.received → want_of (rest old.front) ≡ want.Done → Does old new FrontStep
  rests_front f m r d = record { bytes = tt; does = λ bw fw p s. let z = rested bw fw p p.activity refl s f m r d s.front in (0, omega arith, z.0, z.1, front_follows bw p p.activity 0, nothing_asked p.activity p.front d s.front p.memory) }

  by_sending : (bw : BackWiring) (fw : FrontWiring) (p p1 : Pair) (t : Steps Ending) → Shows bw fw old p → memory_in new.memory ≡ p1.memory → wiring_of new.front ≡ fw → p1.received ≡ p.received → p1.at ≡ p.at → p1.back ≡ p.back → p1.deeds ≡ p.deeds →
      Ended_as old new t → Comes_to old new bw fw p (sending p1 t)
  by_sending bw fw p p1 t s m w pr pa pb pt (inl h) =
      let g = going_sending p1 new.front t h.0 h.1 in
      (carried old new world asleep calls bw fw p (sending p1 t) s (m ∙ sym g.2) w g.0 (ap (λ x. map bytes_in x.items) h.2 ∙ s.received ∙ sym pr ∙ sym g.1) (g.3 ∙ pa) (g.4 ∙ pb) (g.5 ∙ pt), stays old new world asleep calls)
  by_sending bw fw p p1 t s m w pr pa pb pt (inr h) =
      let g = over_sending p1 new.front t (state_of new.front) h.0 h.1 refl h.2 in
      (carried old new world asleep calls bw fw p (sending p1 t) s (m ∙ sym g.2) w g.0 (h.3 ∙ ap (λ x. x ++ packets_of h.0) (s.received ∙ sym pr) ∙ sym g.1) (g.3 ∙ pa) (g.4 ∙ pb) (g.5 ∙ pt), stays old new world asleep calls)

  goes_sending : (bw : BackWiring) (fw : FrontWiring) (p : Pair) (u : Want) (c : ℕ → Steps Ending) (v : Want) → Shows bw fw old p → rest old.front ≡ ask u c → v ≡ want_of (rest old.front) →
      memory_in new.memory ≡ after v (memory_in old.memory) → wiring_of new.front ≡ wiring_of old.front → Ended_as old new (next (rest old.front) (answer v (memory_in old.memory) 0)) → Comes_to old new bw fw p (on_front (Sending (ask u c)) p 0)
  goes_sending bw fw p u c v s r e m w h =
      let is : v ≡ u = e ∙ ap want_of r in
      let mem : after v (memory_in old.memory) ≡ after u p.memory = ap (λ x. after x (memory_in old.memory)) is ∙ ap (after u) s.memory in
      let said : answer v (memory_in old.memory) 0 ≡ answer u p.memory 0 = ap (λ x. answer x (memory_in old.memory) 0) is ∙ ap (λ x. answer u x 0) s.memory in
      let tree : next (rest old.front) (answer v (memory_in old.memory) 0) ≡ c (answer u p.memory 0) = ap (λ x. next x (answer v (memory_in old.memory) 0)) r ∙ ap c said in
      by_sending bw fw p (record p { memory = after u p.memory }) (c (answer u p.memory 0)) s (m ∙ mem) (w ∙ s.front_wired) refl refl refl refl (subst (Ended_as old new) tree h)

  by_posting : (bw : BackWiring) (fw : FrontWiring) (p p1 : Pair) (t : Steps Ending) → Shows bw fw old p → memory_in new.memory ≡ p1.memory → wiring_of new.front ≡ fw → p1.received ≡ p.received → p1.at ≡ p.at → p1.back ≡ p.back → p1.deeds ≡ p.deeds →
      Ended_as old new t → Comes_to old new bw fw p (posting p1 t)
  by_posting bw fw p p1 t s m w pr pa pb pt (inl h) =
      let g = going_posting p1 new.front t h.0 h.1 in
      (carried old new world asleep calls bw fw p (posting p1 t) s (m ∙ sym g.2) w g.0 (ap (λ x. map bytes_in x.items) h.2 ∙ s.received ∙ sym pr ∙ sym g.1) (g.3 ∙ pa) (g.4 ∙ pb) (g.5 ∙ pt), stays old new world asleep calls)
  by_posting bw fw p p1 t s m w pr pa pb pt (inr h) =
      let g = over_posting p1 new.front t (state_of new.front) h.0 h.1 refl h.2 in
      (carried old new world asleep calls bw fw p (posting p1 t) s (m ∙ sym g.2) w g.0 (h.3 ∙ ap (λ x. x ++ packets_of h.0) (s.received ∙ sym pr) ∙ sym g.1) (g.3 ∙ pa) (g.4 ∙ pb) (g.5 ∙ pt), stays old new world asleep calls)

  goes_posting : (bw : BackWiring) (fw : FrontWiring) (p : Pair) (u : Want) (c : ℕ → Steps Ending) (v : Want) → Shows bw fw old p → rest old.front ≡ ask u c → v ≡ want_of (rest old.front) →
      memory_in new.memory ≡ after v (memory_in old.memory) → wiring_of new.front ≡ wiring_of old.front → Ended_as old new (next (rest old.front) (answer v (memory_in old.memory) 0)) → Comes_to old new bw fw p (on_front (Posting (ask u c)) p 0)
  goes_posting bw fw p u c v s r e m w h =
      let is : v ≡ u = e ∙ ap want_of r in
      let mem : after v (memory_in old.memory) ≡ after u p.memory = ap (λ x. after x (memory_in old.memory)) is ∙ ap (after u) s.memory in
      let said : answer v (memory_in old.memory) 0 ≡ answer u p.memory 0 = ap (λ x. answer x (memory_in old.memory) 0) is ∙ ap (λ x. answer u x 0) s.memory in
      let tree : next (rest old.front) (answer v (memory_in old.memory) 0) ≡ c (answer u p.memory 0) = ap (λ x. next x (answer v (memory_in old.memory) 0)) r ∙ ap c said in
      by_posting bw fw p (record p { memory = after u p.memory }) (c (answer u p.memory 0)) s (m ∙ mem) (w ∙ s.front_wired) refl refl refl refl (subst (Ended_as old new) tree h)

  by_polling : (bw : BackWiring) (fw : FrontWiring) (p p1 : Pair) (t : Steps Ending) → Shows bw fw old p → memory_in new.memory ≡ p1.memory → wiring_of new.front ≡ fw → p1.received ≡ p.received → p1.at ≡ p.at → p1.back ≡ p.back → p1.deeds ≡ p.deeds →
      Ended_as old new t → Comes_to old new bw fw p (polling p1 t)
  by_polling bw fw p p1 t s m w pr pa pb pt (inl h) =
      let g = going_polling p1 new.front t h.0 h.1 in
      (carried old new world asleep calls bw fw p (polling p1 t) s (m ∙ sym g.2) w g.0 (ap (λ x. map bytes_in x.items) h.2 ∙ s.received ∙ sym pr ∙ sym g.1) (g.3 ∙ pa) (g.4 ∙ pb) (g.5 ∙ pt), stays old new world asleep calls)
  by_polling bw fw p p1 t s m w pr pa pb pt (inr h) =
      let g = over_polling p1 new.front t (state_of new.front) h.0 h.1 refl h.2 in
      (carried old new world asleep calls bw fw p (polling p1 t) s (m ∙ sym g.2) w g.0 (h.3 ∙ ap (λ x. x ++ packets_of h.0) (s.received ∙ sym pr) ∙ sym g.1) (g.3 ∙ pa) (g.4 ∙ pb) (g.5 ∙ pt), stays old new world asleep calls)

  goes_polling : (bw : BackWiring) (fw : FrontWiring) (p : Pair) (u : Want) (c : ℕ → Steps Ending) (v : Want) → Shows bw fw old p → rest old.front ≡ ask u c → v ≡ want_of (rest old.front) →
      memory_in new.memory ≡ after v (memory_in old.memory) → wiring_of new.front ≡ wiring_of old.front → Ended_as old new (next (rest old.front) (answer v (memory_in old.memory) 0)) → Comes_to old new bw fw p (on_front (Polling (ask u c)) p 0)
  goes_polling bw fw p u c v s r e m w h =
      let is : v ≡ u = e ∙ ap want_of r in
      let mem : after v (memory_in old.memory) ≡ after u p.memory = ap (λ x. after x (memory_in old.memory)) is ∙ ap (after u) s.memory in
      let said : answer v (memory_in old.memory) 0 ≡ answer u p.memory 0 = ap (λ x. answer x (memory_in old.memory) 0) is ∙ ap (λ x. answer u x 0) s.memory in
      let tree : next (rest old.front) (answer v (memory_in old.memory) 0) ≡ c (answer u p.memory 0) = ap (λ x. next x (answer v (memory_in old.memory) 0)) r ∙ ap c said in
      by_polling bw fw p (record p { memory = after u p.memory }) (c (answer u p.memory 0)) s (m ∙ mem) (w ∙ s.front_wired) refl refl refl refl (subst (Ended_as old new) tree h)

  moved : (bw : BackWiring) (fw : FrontWiring) (p : Pair) (a : Activity) (v : Want) → Shows bw fw old p → FrontShows old.front a p.front → v ≡ want_of (rest old.front) → v ≢ want.Done →
      memory_in new.memory ≡ after v (memory_in old.memory) → wiring_of new.front ≡ wiring_of old.front → Ended_as old new (next (rest old.front) (answer v (memory_in old.memory) 0)) → Comes_to old new bw fw p (on_front a p 0)
  moved bw fw p Free v s h e n m w t = absurd (n (e ∙ nothing_left old.front h.1))
  moved bw fw p (Sending (done x)) v s h e n m w t = absurd h.1
  moved bw fw p (Sending never) v s h e n m w t = absurd (n (e ∙ ap want_of h.0))
  moved bw fw p (Sending (ask u c)) v s h e n m w t = goes_sending bw fw p u c v s h.0 e m w t
  moved bw fw p (Posting (done x)) v s h e n m w t = absurd h.1
  moved bw fw p (Posting never) v s h e n m w t = absurd (n (e ∙ ap want_of h.0))
  moved bw fw p (Posting (ask u c)) v s h e n m w t = goes_posting bw fw p u c v s h.0 e m w t
  moved bw fw p (Polling (done x)) v s h e n m w t = absurd h.1
  moved bw fw p (Polling never) v s h e n m w t = absurd (n (e ∙ ap want_of h.0))
  moved bw fw p (Polling (ask u c)) v s h e n m w t = goes_polling bw fw p u c v s h.0 e m w t

  -- what is asked is answered by a number of its width
  is_answered : (v : Want) (a : Activity) (f : FrontState) (m : Memory) → v ≡ want_of (rest old.front) → FrontShows old.front a f → memory_in old.memory ≡ m → (e : Event) × Occurs v (answer v (memory_in old.memory) 0) e → FrontIsAnswered a m 0
  is_answered v Free f m e h q o = tt
  is_answered v (Sending (done x)) f m e h q o = tt
  is_answered v (Sending (ask u c)) f m e h q o = answered_by v u (memory_in old.memory) m (e ∙ ap want_of h.0) q o
  is_answered v (Sending never) f m e h q o = tt
  is_answered v (Posting (done x)) f m e h q o = tt
  is_answered v (Posting (ask u c)) f m e h q o = answered_by v u (memory_in old.memory) m (e ∙ ap want_of h.0) q o
  is_answered v (Posting never) f m e h q o = tt
  is_answered v (Polling (done x)) f m e h q o = tt
  is_answered v (Polling (ask u c)) f m e h q o = answered_by v u (memory_in old.memory) m (e ∙ ap want_of h.0) q o
  is_answered v (Polling never) f m e h q o = tt

  pub goes_front : (v : Want) → v ≡ want_of (rest old.front) → v ≢ want.Done → (e : Event) × Occurs v (answer v (memory_in old.memory) 0) e → memory_in new.memory ≡ after v (memory_in old.memory) → wiring_of new.front ≡ wiring_of old.front →
      Ended_as old new (next (rest old.front) (answer v (memory_in old.memory) 0)) → Does old new FrontStep
  goes_front v e n o m w t = record {
    bytes = tt;
    does = λ bw fw p s.
        let z = moved bw fw p p.activity v s s.front e n m w t in
        (0, omega arith, z.0, z.1, front_follows bw p p.activity 0, is_answered v p.activity p.front p.memory e s.front s.memory o);
  }

  -- the calls
  refused : (bw : BackWiring) (fw : FrontWiring) (p : Pair) (a : Activity) → Shows bw fw old p → p.activity ≡ a → IsSame old.front new.front → new.memory ≡ old.memory → new.received ≡ old.received → Comes_to old new bw fw p p
  refused bw fw p a s i h m r = (
    carried old new world asleep calls bw fw p p s (ap memory_in m ∙ s.memory) (h.wiring ∙ s.front_wired) (subst (λ x. FrontShows new.front x p.front) (sym i) (by a (subst (λ x. FrontShows old.front x p.front) i s.front)))
        (ap (λ x. map bytes_in x.items) r ∙ s.received) refl refl refl,
    stays old new world asleep calls,
  )
    where
      by : (a : Activity) → FrontShows old.front a p.front → FrontShows new.front a p.front
      by Free g = (h.state ∙ g.0, h.busy ∙ g.1)
      by (Sending t) g = (h.rest ∙ g.0, g.1)
      by (Posting t) g = (h.rest ∙ g.0, g.1)
      by (Polling t) g = (h.rest ∙ g.0, g.1)

  -- send
  send_refused : (bw : BackWiring) (fw : FrontWiring) (p : Pair) (bytes : List ℕ) (a : Activity) (r : Result (Unit {0}) SendRefusal) → p.activity ≡ a → FrontShows old.front a p.front → r ≡ send_answer old.front bytes → Shows bw fw old p → new.memory ≡ old.memory → new.received ≡ old.received →
      OnOk r (HasBegun old.front new.front (send (wiring_of old.front) (state_of old.front) bytes (chosen (pieces_of (length bytes)) (state_of old.front).tx.out))) → OnErr r (IsSame old.front new.front) → Comes_to old new bw fw p (on_send fw a p bytes)
  send_refused bw fw p bytes (Sending t) (Err x) i h e s m y k q = refused bw fw p (Sending t) s i q m y
  send_refused bw fw p bytes (Posting t) (Err x) i h e s m y k q = refused bw fw p (Posting t) s i q m y
  send_refused bw fw p bytes (Polling t) (Err x) i h e s m y k q = refused bw fw p (Polling t) s i q m y
  send_refused bw fw p bytes (Sending t) (Ok u) i h e s m y k q = absurd (send_busy old.front.state.halt (nat_lt (length bytes) 14) (nat_lt 65535 (length bytes)) (nat_lt (length (all_free old.front.state.tx.out)) (pieces_of (length bytes))) (e ∙ ap (λ x. send_tests old.front.state.halt x (nat_lt (length bytes) 14) (nat_lt 65535 (length bytes)) (nat_lt (length (all_free old.front.state.tx.out)) (pieces_of (length bytes)))) (is_busy old.front t h.0 h.1)))
  send_refused bw fw p bytes (Posting t) (Ok u) i h e s m y k q = absurd (send_busy old.front.state.halt (nat_lt (length bytes) 14) (nat_lt 65535 (length bytes)) (nat_lt (length (all_free old.front.state.tx.out)) (pieces_of (length bytes))) (e ∙ ap (λ x. send_tests old.front.state.halt x (nat_lt (length bytes) 14) (nat_lt 65535 (length bytes)) (nat_lt (length (all_free old.front.state.tx.out)) (pieces_of (length bytes)))) (is_busy old.front t h.0 h.1)))
  send_refused bw fw p bytes (Polling t) (Ok u) i h e s m y k q = absurd (send_busy old.front.state.halt (nat_lt (length bytes) 14) (nat_lt 65535 (length bytes)) (nat_lt (length (all_free old.front.state.tx.out)) (pieces_of (length bytes))) (e ∙ ap (λ x. send_tests old.front.state.halt x (nat_lt (length bytes) 14) (nat_lt 65535 (length bytes)) (nat_lt (length (all_free old.front.state.tx.out)) (pieces_of (length bytes)))) (is_busy old.front t h.0 h.1)))
  send_refused bw fw p bytes Free (Err x) i h e s m y k q =
      subst (λ r. Comes_to old new bw fw p (begin_send fw r p bytes)) (e ∙ ap (λ z. send_tests old.front.state.halt z (nat_lt (length bytes) 14) (nat_lt 65535 (length bytes)) (nat_lt (length (all_free old.front.state.tx.out)) (pieces_of (length bytes)))) h.1 ∙ ap (λ (z : FrontState). send_result z bytes) h.0) (refused bw fw p Free s i q m y)
  send_refused bw fw p bytes Free (Ok u) i h e s m y k q =
      subst (λ r. Comes_to old new bw fw p (begin_send fw r p bytes)) (e ∙ ap (λ z. send_tests old.front.state.halt z (nat_lt (length bytes) 14) (nat_lt 65535 (length bytes)) (nat_lt (length (all_free old.front.state.tx.out)) (pieces_of (length bytes)))) h.1 ∙ ap (λ (z : FrontState). send_result z bytes) h.0)
      (by_sending bw fw p (record p { sent = p.sent ++ bytes ∷ [] }) (send_tree fw p.front bytes) s (ap memory_in m ∙ s.memory) (k.wiring ∙ s.front_wired) refl refl refl refl
      (inl (k.rest ∙ ap (λ z. send z (state_of old.front) bytes (chosen (pieces_of (length bytes)) (state_of old.front).tx.out)) s.front_wired ∙ ap (λ (z : FrontState). send_tree fw z bytes) h.0, send_goes fw p.front bytes (chosen (pieces_of (length bytes)) p.front.tx.out), y)))

  pub send_does : (bytes : List ℕ) → All IsByte bytes → (r : Result (Unit {0}) SendRefusal) → r ≡ send_answer old.front bytes → new.memory ≡ old.memory → new.received ≡ old.received →
      OnOk r (HasBegun old.front new.front (send (wiring_of old.front) (state_of old.front) bytes (chosen (pieces_of (length bytes)) (state_of old.front).tx.out))) → OnErr r (IsSame old.front new.front) → Does old new (Send bytes)
  send_does bytes all r e m y k q = record { bytes = all; does = λ bw fw p s. let z = send_refused bw fw p bytes p.activity r refl s.front e s m y k q in (0, omega arith, z.0, z.1, send_follows bw fw p bytes p.activity, tt) }

  -- post
  post_refused : (bw : BackWiring) (fw : FrontWiring) (p : Pair) (a : Activity) (r : Result (Unit {0}) PostRefusal) → p.activity ≡ a → FrontShows old.front a p.front → r ≡ post_answer old.front → Shows bw fw old p → new.memory ≡ old.memory → new.received ≡ old.received →
      OnOk r (HasBegun old.front new.front (post (wiring_of old.front) (state_of old.front) (get_or (all_free (state_of old.front).rx.out) 0 0))) → OnErr r (IsSame old.front new.front) → Comes_to old new bw fw p (on_post fw a p)
  post_refused bw fw p (Sending t) (Err x) i h e s m y k q = refused bw fw p (Sending t) s i q m y
  post_refused bw fw p (Posting t) (Err x) i h e s m y k q = refused bw fw p (Posting t) s i q m y
  post_refused bw fw p (Polling t) (Err x) i h e s m y k q = refused bw fw p (Polling t) s i q m y
  post_refused bw fw p (Sending t) (Ok u) i h e s m y k q = absurd (post_busy old.front.state.halt (all_free old.front.state.rx.out) (e ∙ ap (λ x. post_tests old.front.state.halt x (all_free old.front.state.rx.out)) (is_busy old.front t h.0 h.1)))
  post_refused bw fw p (Posting t) (Ok u) i h e s m y k q = absurd (post_busy old.front.state.halt (all_free old.front.state.rx.out) (e ∙ ap (λ x. post_tests old.front.state.halt x (all_free old.front.state.rx.out)) (is_busy old.front t h.0 h.1)))
  post_refused bw fw p (Polling t) (Ok u) i h e s m y k q = absurd (post_busy old.front.state.halt (all_free old.front.state.rx.out) (e ∙ ap (λ x. post_tests old.front.state.halt x (all_free old.front.state.rx.out)) (is_busy old.front t h.0 h.1)))
  post_refused bw fw p Free (Err x) i h e s m y k q =
      subst (λ r. Comes_to old new bw fw p (begin_post fw r p)) (e ∙ ap (λ z. post_tests old.front.state.halt z (all_free old.front.state.rx.out)) h.1 ∙ ap (λ (z : FrontState). post_result z) h.0) (refused bw fw p Free s i q m y)
  post_refused bw fw p Free (Ok u) i h e s m y k q =
      subst (λ r. Comes_to old new bw fw p (begin_post fw r p)) (e ∙ ap (λ z. post_tests old.front.state.halt z (all_free old.front.state.rx.out)) h.1 ∙ ap (λ (z : FrontState). post_result z) h.0)
      (by_posting bw fw p p (post_tree fw p.front) s (ap memory_in m ∙ s.memory) (k.wiring ∙ s.front_wired) refl refl refl refl
      (inl (k.rest ∙ ap (λ z. post z (state_of old.front) (get_or (all_free (state_of old.front).rx.out) 0 0)) s.front_wired ∙ ap (λ (z : FrontState). post_tree fw z) h.0, post_goes fw p.front (get_or (all_free p.front.rx.out) 0 0), y)))

  pub post_does : (r : Result (Unit {0}) PostRefusal) → r ≡ post_answer old.front → new.memory ≡ old.memory → new.received ≡ old.received →
      OnOk r (HasBegun old.front new.front (post (wiring_of old.front) (state_of old.front) (get_or (all_free (state_of old.front).rx.out) 0 0))) → OnErr r (IsSame old.front new.front) → Does old new Post
  post_does r e m y k q = record { bytes = tt; does = λ bw fw p s. let z = post_refused bw fw p p.activity r refl s.front e s m y k q in (0, omega arith, z.0, z.1, post_follows bw fw p p.activity, tt) }

  -- poll
  poll_refused : (bw : BackWiring) (fw : FrontWiring) (p : Pair) (a : Activity) (r : Result (Unit {0}) PollRefusal) → p.activity ≡ a → FrontShows old.front a p.front → r ≡ poll_answer old.front → Shows bw fw old p → new.memory ≡ old.memory → new.received ≡ old.received →
      OnOk r (HasBegun old.front new.front (poll (wiring_of old.front) (state_of old.front))) → OnErr r (IsSame old.front new.front) → Comes_to old new bw fw p (on_poll fw a p)
  poll_refused bw fw p (Sending t) (Err x) i h e s m y k q = refused bw fw p (Sending t) s i q m y
  poll_refused bw fw p (Posting t) (Err x) i h e s m y k q = refused bw fw p (Posting t) s i q m y
  poll_refused bw fw p (Polling t) (Err x) i h e s m y k q = refused bw fw p (Polling t) s i q m y
  poll_refused bw fw p (Sending t) (Ok u) i h e s m y k q = absurd (poll_busy old.front.state.halt (e ∙ ap (λ x. poll_tests old.front.state.halt x) (is_busy old.front t h.0 h.1)))
  poll_refused bw fw p (Posting t) (Ok u) i h e s m y k q = absurd (poll_busy old.front.state.halt (e ∙ ap (λ x. poll_tests old.front.state.halt x) (is_busy old.front t h.0 h.1)))
  poll_refused bw fw p (Polling t) (Ok u) i h e s m y k q = absurd (poll_busy old.front.state.halt (e ∙ ap (λ x. poll_tests old.front.state.halt x) (is_busy old.front t h.0 h.1)))
  poll_refused bw fw p Free (Err x) i h e s m y k q =
      subst (λ r. Comes_to old new bw fw p (begin_poll fw r p)) (e ∙ ap (λ z. poll_tests old.front.state.halt z) h.1 ∙ ap (λ (z : FrontState). poll_result z) h.0) (refused bw fw p Free s i q m y)
  poll_refused bw fw p Free (Ok u) i h e s m y k q =
      subst (λ r. Comes_to old new bw fw p (begin_poll fw r p)) (e ∙ ap (λ z. poll_tests old.front.state.halt z) h.1 ∙ ap (λ (z : FrontState). poll_result z) h.0)
      (by_polling bw fw p p (poll fw p.front) s (ap memory_in m ∙ s.memory) (k.wiring ∙ s.front_wired) refl refl refl refl
      (inl (k.rest ∙ ap (λ z. poll z (state_of old.front)) s.front_wired ∙ ap (λ (z : FrontState). poll fw z) h.0, tt, y)))

  pub poll_does : (r : Result (Unit {0}) PollRefusal) → r ≡ poll_answer old.front → new.memory ≡ old.memory → new.received ≡ old.received →
      OnOk r (HasBegun old.front new.front (poll (wiring_of old.front) (state_of old.front))) → OnErr r (IsSame old.front new.front) → Does old new Poll
  poll_does r e m y k q = record { bytes = tt; does = λ bw fw p s. let z = poll_refused bw fw p p.activity r refl s.front e s m y k q in (0, omega arith, z.0, z.1, poll_follows bw fw p p.activity, tt) }

pub on_ok_map : {A E : Type 0} {P Q : Type 0} (r : Result A E) → OnOk r P → (P → Q) → OnOk r Q
on_ok_map (Ok x) h f = f h
on_ok_map (Err e) h f = tt

pub does_as : (old new : Held) (e e' : PairEvent) → e' ≡ e → Does old new e → Does old new e'
does_as old new e e' p h = subst (Does old new) (sym p) h
