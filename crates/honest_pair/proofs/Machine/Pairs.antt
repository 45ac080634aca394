-- The pair's events keep what stands, by the laws of its two ends.
use Rattle.std.proofs.Common.{◌≡◌, ℕ, ◌<◌, ◌^◌, inl, inr, refl, sym, ◌∙◌, ap, subst, arith, Bool, true, false, List, [], ◌∷◌, ◌++◌, All, Some, None}
use Rattle.std.specs.Prelude.{◌==◌, if◌then◌else◌, flat_map, nat_lt}
use Rattle.std.proofs.lemmas.List.{append-nil, append_assoc}
use Rattle.std.proofs.lemmas.Bool.Decides.{nat_tests}
use Rattle.xen_netif.specs.declared.offload.RxOffload.TheVariants.{Whole}
use Rattle.xen_steps.specs.Steps.{Steps, done, ask, never}
use Rattle.xen_turns.specs.Deliveries.{Arrival, whole_delivery}
use Rattle.xen_turns.specs.Tree.{Left, after_run}
use Rattle.xen_turns.specs.Turned.{Turned, Idle, Ran, Refused, Halted, Ending}
use Rattle.xen_turns.specs.Waits.{Wait, check_unless, final_check, last_read, wait_end}
use Rattle.xen_turns.specs.declared.delivery.wait.Awaited.{Awaited}
use Rattle.xen_turns.specs.declared.delivery.wait.Awaited.TheVariants as awaited
use Rattle.xen_turns.specs.declared.delivery.delivering.Delivery.{Delivery}
use Rattle.xen_turns.specs.declared.delivery.delivering.Delivery.TheVariants as delivery
use Rattle.xen_turns.specs.declared.state.State.{State as BackState}
use Rattle.xen_turns.specs.declared.turn.PacketRefusal.TheVariants as refusal
use Rattle.xen_turns.specs.declared.wiring.Wiring.{Wiring as BackWiring}
use Rattle.xen_buffers.specs.declared.wiring.FrontWiring.{FrontWiring}
use Rattle.xen_front.specs.declared.state.FrontState.{FrontState}
use Rattle.honest_pair.specs.Machine.Halves.{Half, Over, HasRun, half_turn}
use Rattle.honest_pair.specs.Machine.Law.{HasArrived, HasLooked, Honest, IsByte, IsBytes, delivered, given_by, given_now, left_by}
use Rattle.honest_pair.specs.Machine.Memory.{Memory, after, answer}
use Rattle.honest_pair.specs.Machine.Pair.{Activity, BackAt, Asleep, First, Second, Delivering, Waiting, OfTurn, OfDelivery, OfWait, Pair, PairEvent, Send, Post, Poll, FrontStep, BackStep, Deliver, Await, turned, second, first, wake, on_back, rested, landed, delivering, begin_delivery, on_deliver, asking, waited, waiting, begin_wait, on_await, step, run}
use Rattle.honest_pair.specs.Machine.Safe.{Safe}
use Rattle.honest_pair.specs.declared.awaits.Awaits.{Awaits}
use Rattle.honest_pair.specs.declared.awaits.Awaits.TheVariants as awaits
use Rattle.honest_pair.proofs.Machine.Deeds.{Done, Packets, copies_few, copies_idle, copies_ran, done_delivery, done_turn, done_wait, given_more, ran_given}
use Rattle.honest_pair.proofs.Machine.EndLaws as ends
use Rattle.honest_pair.proofs.Machine.FrontEvents as fronts

-- The names are those of the ends' laws.
module _ (bw : BackWiring) (fw : FrontWiring) {Front Back : Type 0} (Inv : Memory → Front → Back → Type 0)
    (Rest : FrontState → Packets → Packets → Front → Type 0) (Sendings Posts Polls Says : Packets → Packets → Front → Type 0) (Windowless Postless : Front → Type 0)
    (Ready Slept : BackState → Packets → Packets → Back → Type 0) (givens : Back → Packets) where
  abbrev BackInv : Memory → Back → Front → Type 0
  BackInv = ends.BackInv bw fw Inv Rest Sendings Posts Polls Says Windowless Postless Ready Slept givens

  abbrev TurnEnd : Packets → Packets → Back → BackState → Turned → Type 0
  TurnEnd = ends.TurnEnd bw fw Inv Rest Sendings Posts Polls Says Windowless Postless Ready Slept givens

  abbrev EndedTurn : Packets → Packets → Back → Ending → Type 0
  EndedTurn = ends.EndedTurn bw fw Inv Rest Sendings Posts Polls Says Windowless Postless Ready Slept givens

  abbrev GivenAll : Packets → Back → Type 0
  GivenAll = ends.GivenAll bw fw Inv Rest Sendings Posts Polls Says Windowless Postless Ready Slept givens

  abbrev GivesLeft : Packets → Left → Back → Type 0
  GivesLeft = ends.GivesLeft bw fw Inv Rest Sendings Posts Polls Says Windowless Postless Ready Slept givens

  abbrev OverAs : BackState → Packets → Packets → Back → BackState → Turned → Type 0
  OverAs = ends.OverAs bw fw Inv Rest Sendings Posts Polls Says Windowless Postless Ready Slept givens

  abbrev HalfEnd : BackState → Packets → Packets → Back → Half → Type 0
  HalfEnd = ends.HalfEnd bw fw Inv Rest Sendings Posts Polls Says Windowless Postless Ready Slept givens

  abbrev Resting : Bool → BackState → Packets → Packets → Back → Type 0
  Resting = ends.Resting bw fw Inv Rest Sendings Posts Polls Says Windowless Postless Ready Slept givens

  abbrev GivesPacket : Packets → List ℕ → Back → Type 0
  GivesPacket = ends.GivesPacket bw fw Inv Rest Sendings Posts Polls Says Windowless Postless Ready Slept givens

  abbrev Landed : Bool → Packets → Packets → List ℕ → Back → BackState → Delivery → Type 0
  Landed = ends.Landed bw fw Inv Rest Sendings Posts Polls Says Windowless Postless Ready Slept givens

  abbrev EndedDelivery : Bool → Packets → Packets → List ℕ → Back → Arrival → Type 0
  EndedDelivery = ends.EndedDelivery bw fw Inv Rest Sendings Posts Polls Says Windowless Postless Ready Slept givens

  abbrev FrontStands : Activity → FrontState → Packets → Packets → Front → Type 0
  FrontStands = ends.FrontStands bw fw Inv Rest Sendings Posts Polls Says Windowless Postless Ready Slept givens

  abbrev Looks : BackState → ℕ → Steps Wait → Awaits → Type 0
  Looks = ends.Looks bw fw Inv Rest Sendings Posts Polls Says Windowless Postless Ready Slept givens

  abbrev BackStands : BackAt → BackState → Packets → Packets → Back → Awaits → Type 0
  BackStands = ends.BackStands bw fw Inv Rest Sendings Posts Polls Says Windowless Postless Ready Slept givens

  abbrev Fit : List (PairEvent × ℕ) → Type 0
  Fit = ends.Fit bw fw Inv Rest Sendings Posts Polls Says Windowless Postless Ready Slept givens

  abbrev Good : Pair → Type 0
  Good = ends.Good bw fw Inv Rest Sendings Posts Polls Says Windowless Postless Ready Slept givens

  abbrev EndLaws : Type 0
  EndLaws = ends.EndLaws bw fw Inv Rest Sendings Posts Polls Says Windowless Postless Ready Slept givens

  abbrev Stands : Pair → Packets → Front → Back → Type 0
  Stands = ends.Stands bw fw Inv Rest Sendings Posts Polls Says Windowless Postless Ready Slept givens

  module _ (l : EndLaws) where
    -- the back's turns and deliveries
    -- a turn that isn't idle is over
    ready_stands : (p : Pair) (c : Packets) (f : Front) (b : Back) (s : BackState) (g : Packets) → Inv p.memory f b → FrontStands p.activity p.front p.sent p.received f → Ready s c g b →
        p.back ≡ s → p.at ≡ First false (half_turn bw s) → flat_map given_by p.deeds ≡ g → Done p.deeds c → Good p
    ready_stands p c f b s g i h r e a v q = (
      c,
      f,
      b,
      record {
        inv = i;
        front = h;
        back = subst (λ x. BackStands p.at p.back c x b p.memory.awaits) (sym v) (subst (λ x. BackStands x p.back c g b p.memory.awaits) (sym a) (subst (λ x. BackStands (First false (half_turn bw s)) x c g b p.memory.awaits) (sym e) (refl, r)));
        running = subst (λ x. x.halt ≡ None) (sym e) (l.ready_runs s c g b r).1;
        copies = q;
        sent = l.copied s p.sent p.received c g p.memory f b (fronts.says bw fw Inv Rest Sendings Posts Polls Says Windowless Postless Ready Slept givens l p.activity p.front p.sent p.received f h) i r;
      },
    )

    over_stands : (p : Pair) (packet : List ℕ) (c : Packets) (f : Front) (b : Back) (s : BackState) (u : Turned) → Inv p.memory f b → FrontStands p.activity p.front p.sent p.received f →
        TurnEnd (c ++ packet ∷ []) (flat_map given_by p.deeds) b s u → Done p.deeds c → Good (turned bw p (s, u) (Some packet))
    over_stands p packet c f b s Idle i h t q = absurd t
    over_stands p packet c f b s (Ran n bytes ops k) i h t q =
        ready_stands (turned bw p (s, Ran n bytes ops k) (Some packet)) (c ++ packet ∷ []) f b s (if n == 3 then flat_map given_by p.deeds ++ bytes ∷ [] else flat_map given_by p.deeds) i h t refl refl
        (given_more p.deeds (OfTurn (record { turn = Ran n bytes ops k; copy = Some packet })) ∙ sym (ran_given (n == 3) (flat_map given_by p.deeds) bytes)) (done_turn p.deeds (record { turn = Ran n bytes ops k; copy = Some packet }) c (c ++ packet ∷ []) (λ ps h2. copies_ran ps c n bytes packet ops k h2) q)
    over_stands p packet c f b s (Refused (refusal.Size fault) ops k) i h t q = absurd t
    over_stands p packet c f b s (Refused refusal.Grant ops k) i h t q = absurd t
    over_stands p packet c f b s (Refused refusal.FewSlots ops k) i h t q =
        ready_stands (turned bw p (s, Refused refusal.FewSlots ops k) (Some packet)) (c ++ packet ∷ []) f b s (flat_map given_by p.deeds) i h t refl refl
        (given_more p.deeds (OfTurn (record { turn = Refused refusal.FewSlots ops k; copy = Some packet })) ∙ append-nil (flat_map given_by p.deeds)) (done_turn p.deeds (record { turn = Refused refusal.FewSlots ops k; copy = Some packet }) c (c ++ packet ∷ []) (λ ps h2. copies_few ps c packet ops k h2) q)
    over_stands p packet c f b s (Refused refusal.RxGrant ops k) i h t q = absurd t
    over_stands p packet c f b s (Halted x) i h t q = absurd t

    second_stands : (p : Pair) (packet : List ℕ) (left : Left) (c : Packets) (f : Front) (b : Back) (t : Steps Ending) → Inv p.memory f b → FrontStands p.activity p.front p.sent p.received f →
        GivesLeft (flat_map given_by p.deeds) left b → Safe BackInv (GivesLeft (flat_map given_by p.deeds) left) (EndedTurn (c ++ packet ∷ []) (flat_map given_by p.deeds)) b t →
        p.back.halt ≡ None → Done p.deeds c → ((more : Packets) × (p.sent ≡ c ++ more)) → Good (second bw p packet left t)
    second_stands p packet left c f b (done e) i h k s n q u = over_stands p packet c f b e.0 e.1 i h s q
    second_stands p packet left c f b (ask v g) i h k s n q u = (c, f, b, record { inv = i; front = h; back = (k, s); running = n; copies = q; sent = u })
    second_stands p packet left c f b never i h k s n q u = absurd s

    slept_stands : (p : Pair) (c : Packets) (f : Front) (b : Back) (s : BackState) (u : Turned) → Inv p.memory f b → FrontStands p.activity p.front p.sent p.received f →
        OverAs p.back c (flat_map given_by p.deeds) b s u → Done p.deeds c → ((more : Packets) × (p.sent ≡ c ++ more)) → Good (turned bw p (s, u) None)
    slept_stands p c f b s Idle i h o q u =
        let z : Slept s c (flat_map given_by p.deeds) b = subst (λ x. Slept x c (flat_map given_by p.deeds) b) (sym o.0) o.1 in
        let more = given_more p.deeds (OfTurn (record { turn = Idle; copy = None })) ∙ append-nil (flat_map given_by p.deeds) in
        (c, f, b, record { inv = i; front = h; back = subst (λ x. Slept s c x b) (sym more) z; running = (l.slept_runs s c (flat_map given_by p.deeds) b z).1; copies = done_turn p.deeds (record { turn = Idle; copy = None }) c c (λ ps h2. copies_idle ps c None h2) q; sent = u })
    slept_stands p c f b s (Ran n packet ops k) i h o q u = absurd o
    slept_stands p c f b s (Refused x ops k) i h o q u = absurd o
    slept_stands p c f b s (Halted x) i h o q u = absurd o

    first_stands : (p : Pair) (c : Packets) (f : Front) (b : Back) (t : Steps Half) → Inv p.memory f b → FrontStands p.activity p.front p.sent p.received f →
        GivenAll (flat_map given_by p.deeds) b → Safe BackInv (GivenAll (flat_map given_by p.deeds)) (HalfEnd p.back c (flat_map given_by p.deeds)) b t →
        p.back.halt ≡ None → Done p.deeds c → ((more : Packets) × (p.sent ≡ c ++ more)) → Good (first bw p t)
    first_stands p c f b (done (Over e)) i h k s n q u = slept_stands p c f b e.0 e.1 i h s q u
    first_stands p c f b (done (HasRun slots packet left)) i h k s n q u = second_stands p packet left c f b (after_run bw p.back slots left) i h (inl k) s n q u
    first_stands p c f b (ask v g) i h k s n q u = (c, f, b, record { inv = i; front = h; back = (k, s); running = n; copies = q; sent = u })
    first_stands p c f b never i h k s n q u = absurd s

    wake_stands : (p : Pair) (c : Packets) (f : Front) (b : Back) (n : Bool) → p.at ≡ Asleep → Stands p c f b → Good (wake bw n p)
    wake_stands p c f b false a g = (c, f, b, g)
    wake_stands p c f b true a g =
        let z : Slept p.back c (flat_map given_by p.deeds) b = subst (λ x. BackStands x p.back c (flat_map given_by p.deeds) b p.memory.awaits) a g.back in
        let k = l.wakes p.back c (flat_map given_by p.deeds) b p.memory f z g.inv in (
          c,
          f,
          k.0,
          record {
            inv = k.1;
            front = g.front;
            back = (refl, k.2);
            running = g.running;
            copies = g.copies;
            sent = g.sent;
          },
        )

    -- a back between turns, and what it has given
    rest_gives : (s : BackState) (c g : Packets) (b : Back) (asleep : Bool) → Resting asleep s c g b → (givens b ≡ g) × (s.halt ≡ None)
    rest_gives s c g b true h = l.slept_runs s c g b h
    rest_gives s c g b false h = l.ready_runs s c g b h

    rest_stands : (s : BackState) (c g : Packets) (b : Back) (a : Awaits) (asleep : Bool) → Resting asleep s c g b → BackStands (rested bw asleep s) s c g b a
    rest_stands s c g b a true h = h
    rest_stands s c g b a false h = (refl, h)

    -- what is left of a turn's first half
    half_left : (p : Pair) (c : Packets) (b : Back) (x : Bool) (t : Steps Half) → BackStands (First x t) p.back c (flat_map given_by p.deeds) b p.memory.awaits →
        GivenAll (flat_map given_by p.deeds) b × Safe BackInv (GivenAll (flat_map given_by p.deeds)) (HalfEnd p.back c (flat_map given_by p.deeds)) b t
    half_left p c b true t h = h
    half_left p c b false t h =
        let g = flat_map given_by p.deeds in
        ((l.ready_runs p.back c g b h.1).0, subst (Safe BackInv (GivenAll g) (HalfEnd p.back c g) b) (sym h.0) (l.half_safe p.back c g b h.1))

    -- a delivery is over
    landed_as : (p : Pair) (asleep : Bool) (packet : List ℕ) (c : Packets) (f : Front) (b : Back) (s : BackState) (what : Delivery) → Inv p.memory f b → FrontStands p.activity p.front p.sent p.received f →
        Resting asleep s c (flat_map given_by p.deeds ++ delivered packet what) b → HasArrived what → Done p.deeds c → ((more : Packets) × (p.sent ≡ c ++ more)) → Good (landed bw p asleep packet (s, what))
    landed_as p asleep packet c f b s what i h r a q u =
        let g = flat_map given_by p.deeds ++ delivered packet what in (
          c,
          f,
          b,
          record {
            inv = i;
            front = h;
            back = subst (λ x. BackStands (rested bw asleep s) s c x b p.memory.awaits) (sym (given_more p.deeds (OfDelivery packet what))) (rest_stands s c g b p.memory.awaits asleep r);
            running = (rest_gives s c g b asleep r).1;
            copies = done_delivery p.deeds packet what c a q;
            sent = u;
          },
        )

    landed_stands : (p : Pair) (asleep : Bool) (packet : List ℕ) (c : Packets) (f : Front) (b : Back) (s : BackState) (what : Delivery) → Inv p.memory f b → FrontStands p.activity p.front p.sent p.received f →
        Landed asleep c (flat_map given_by p.deeds) packet b s what → Done p.deeds c → ((more : Packets) × (p.sent ≡ c ++ more)) → Good (landed bw p asleep packet (s, what))
    landed_stands p asleep packet c f b s (delivery.Sent slots) i h r q u = landed_as p asleep packet c f b s (delivery.Sent slots) i h r tt q u
    landed_stands p asleep packet c f b s delivery.FewSlots i h r q u =
        landed_as p asleep packet c f b s delivery.FewSlots i h (subst (λ x. Resting asleep s c x b) (sym (append-nil (flat_map given_by p.deeds))) r) tt q u
    landed_stands p asleep packet c f b s (delivery.Refused slots) i h r q u = absurd r
    landed_stands p asleep packet c f b s (delivery.Halted cause) i h r q u = absurd r
    landed_stands p asleep packet c f b s delivery.NotAccepted i h r q u = absurd r
    landed_stands p asleep packet c f b s delivery.NoFrame i h r q u =
        landed_as p asleep packet c f b s delivery.NoFrame i h (subst (λ x. Resting asleep s c x b) (sym (append-nil (flat_map given_by p.deeds))) r) tt q u

    delivering_stands : (p : Pair) (asleep : Bool) (packet : List ℕ) (c : Packets) (f : Front) (b : Back) (t : Steps Arrival) → Inv p.memory f b → FrontStands p.activity p.front p.sent p.received f →
        GivesPacket (flat_map given_by p.deeds) packet b → Safe BackInv (GivesPacket (flat_map given_by p.deeds) packet) (EndedDelivery asleep c (flat_map given_by p.deeds) packet) b t →
        p.back.halt ≡ None → Done p.deeds c → ((more : Packets) × (p.sent ≡ c ++ more)) → Good (delivering bw p asleep packet t)
    delivering_stands p asleep packet c f b (done a) i h k s n q u = landed_stands p asleep packet c f b a.0 a.1 i h s q u
    delivering_stands p asleep packet c f b (ask v g) i h k s n q u = (c, f, b, record { inv = i; front = h; back = (k, s); running = n; copies = q; sent = u })
    delivering_stands p asleep packet c f b never i h k s n q u = absurd s

    -- a wait is over, which found enough slots or fewer
    waited_stands : (p : Pair) (asleep : Bool) (pages : ℕ) (c : Packets) (f : Front) (b : Back) (answer : Awaited) (a : Awaits) → HasLooked answer →
        (waited bw p asleep pages (p.back, answer)).memory ≡ record p.memory { awaits = a } → Inv (record p.memory { awaits = a }) f b →
        Resting asleep p.back c (flat_map given_by p.deeds) b → Stands p c f b → Good (waited bw p asleep pages (p.back, answer))
    waited_stands p asleep pages c f b answer a q e i r g =
        let d = flat_map given_by p.deeds in
        let after = waited bw p asleep pages (p.back, answer) in
        let more = given_more p.deeds (OfWait pages answer) ∙ append-nil d in (
          c,
          f,
          b,
          record {
            inv = subst (λ m. Inv m f b) (sym e) i;
            front = g.front;
            back = subst (λ x. BackStands (rested bw asleep p.back) p.back c x b after.memory.awaits) (sym more) (rest_stands p.back c d b after.memory.awaits asleep r);
            running = g.running;
            copies = done_wait p.deeds pages answer c q g.copies;
            sent = g.sent;
          },
        )

    looked_stands : (p : Pair) (asleep : Bool) (pages : ℕ) (c : Packets) (f : Front) (b : Back) (less : Bool) →
        (less ≡ true → Inv (record p.memory { awaits = awaits.Fewer p.back.rx_index pages }) f b) → Resting asleep p.back c (flat_map given_by p.deeds) b → Stands p c f b →
        Good (waited bw p asleep pages (p.back, if less then awaited.Waiting else awaited.Posted))
    looked_stands p asleep pages c f b true i r g =
        waited_stands p asleep pages c f b awaited.Waiting (awaits.Fewer p.back.rx_index pages) tt refl (i refl) r g
    looked_stands p asleep pages c f b false i r g =
        waited_stands p asleep pages c f b awaited.Posted awaits.Nothing tt refl (l.forgets p.memory f b g.inv) r g

    -- the pair, of which the memory alone is another
    remembers : (p : Pair) (m : Memory) (c : Packets) (f : Front) (b : Back) → Inv m f b → BackStands p.at p.back c (flat_map given_by p.deeds) b m.awaits → Stands p c f b →
        Stands (record p { memory = m }) c f b
    remembers p m c f b i h g = record { inv = i; front = g.front; back = h; running = g.running; copies = g.copies; sent = g.sent }

    -- the read of the producer
    read_stands : (p : Pair) (asleep : Bool) (pages : ℕ) (n : ℕ) (c : Packets) (f : Front) (b : Back) (t : Steps Wait) → p.at ≡ Waiting asleep pages t →
        Resting asleep p.back c (flat_map given_by p.deeds) b → p.memory.awaits ≡ awaits.Asked p.back.rx_index pages → Stands p c f b →
        Good (on_back bw (Waiting asleep pages (last_read bw.vif.rx p.back pages)) p n)
    read_stands p asleep pages n c f b t at r a g =
        let q = record p { memory = asking p pages p.memory } in
        let same : q.memory ≡ p.memory = ap (λ x. record p.memory { awaits = x }) (sym a) in
        let i : Inv q.memory f b = subst (λ m. Inv m f b) (sym same) g.inv in
        let h : BackStands p.at p.back c (flat_map given_by p.deeds) b q.memory.awaits = subst (BackStands p.at p.back c (flat_map given_by p.deeds) b) (ap (λ (m : Memory). m.awaits) (sym same)) g.back in
        let k = l.wait_looks asleep p.back c (flat_map given_by p.deeds) b pages q.memory f r i refl in
        subst (λ o. Good (waiting bw q asleep pages (done (wait_end p.back pages o)))) (sym k.1)
        (looked_stands q asleep pages c f b (nat_lt k.0 pages) k.2 r (remembers p q.memory c f b i h g))

    -- the store of the event index
    asked_stands : (p : Pair) (asleep : Bool) (pages : ℕ) (n : ℕ) (c : Packets) (f : Front) (b : Back) →
        Resting asleep p.back c (flat_map given_by p.deeds) b → Stands p c f b →
        Good (on_back bw (Waiting asleep pages (final_check bw.vif.rx p.back pages)) p n)
    asked_stands p asleep pages n c f b r g = (
      c,
      f,
      b,
      record {
        inv = l.wait_asks asleep p.back c (flat_map given_by p.deeds) b pages p.memory f r g.inv;
        front = g.front;
        back = (r, inr (refl, refl));
        running = g.running;
        copies = g.copies;
        sent = g.sent;
      },
    )

    look_stands : (p : Pair) (asleep : Bool) (pages : ℕ) (n : ℕ) (c : Packets) (f : Front) (b : Back) (t : Steps Wait) → p.at ≡ Waiting asleep pages t →
        Resting asleep p.back c (flat_map given_by p.deeds) b → Looks p.back pages t p.memory.awaits → Stands p c f b → Good (on_back bw (Waiting asleep pages t) p n)
    look_stands p asleep pages n c f b t at r (inl e) g =
        subst (λ x. Good (on_back bw (Waiting asleep pages x) p n)) (sym e) (asked_stands p asleep pages n c f b r g)
    look_stands p asleep pages n c f b t at r (inr e) g =
        subst (λ x. Good (on_back bw (Waiting asleep pages x) p n)) (sym e.0) (read_stands p asleep pages n c f b t at r e.1 g)

    -- a wait begins, of a back that isn't halted
    wait_stands : (p : Pair) (pages : ℕ) (c : Packets) (f : Front) (b : Back) (asleep : Bool) → Resting asleep p.back c (flat_map given_by p.deeds) b → Stands p c f b →
        Good (begin_wait bw p asleep pages)
    wait_stands p pages c f b asleep r g =
        subst (λ o. Good (waiting bw p asleep pages (check_unless bw.vif.rx p.back pages o))) (sym g.running)
        (c, f, b, record { inv = g.inv; front = g.front; back = (r, inl refl); running = g.running; copies = g.copies; sent = g.sent })

    await_stands : (p : Pair) (pages : ℕ) (c : Packets) (f : Front) (b : Back) (at : BackAt) → p.at ≡ at → Stands p c f b → Good (on_await bw at p pages)
    await_stands p pages c f b Asleep a g =
        wait_stands p pages c f b true (subst (λ x. BackStands x p.back c (flat_map given_by p.deeds) b p.memory.awaits) a g.back) g
    await_stands p pages c f b (First false t) a g =
        let h : BackStands (First false t) p.back c (flat_map given_by p.deeds) b p.memory.awaits = subst (λ x. BackStands x p.back c (flat_map given_by p.deeds) b p.memory.awaits) a g.back in
        wait_stands p pages c f b false h.1 g
    await_stands p pages c f b (First true t) a g = (c, f, b, g)
    await_stands p pages c f b (Second copy left t) a g = (c, f, b, g)
    await_stands p pages c f b (Delivering asleep packet t) a g = (c, f, b, g)
    await_stands p pages c f b (Waiting asleep other t) a g = (c, f, b, g)

    back_stands : (p : Pair) (n : ℕ) (c : Packets) (f : Front) (b : Back) (at : BackAt) → p.at ≡ at → n < 2 ^ 64 → Stands p c f b → Good (on_back bw at p n)
    back_stands p n c f b Asleep a s g = wake_stands p c f b p.memory.pending a g
    back_stands p n c f b (First x (done h)) a s g = (c, f, b, g)
    back_stands p n c f b (First x never) a s g = (c, f, b, g)
    back_stands p n c f b (First x (ask v k)) a s g =
        let h : GivenAll (flat_map given_by p.deeds) b × Safe BackInv (GivenAll (flat_map given_by p.deeds)) (HalfEnd p.back c (flat_map given_by p.deeds)) b (ask v k) =
        half_left p c b x (ask v k) (subst (λ z. BackStands z p.back c (flat_map given_by p.deeds) b p.memory.awaits) a g.back) in
        let r = h.1 p.memory f g.inv in
        first_stands (record p { memory = after v p.memory }) c f r.0 (k (answer v p.memory n)) r.1 g.front r.2 (r.3 n s) g.running g.copies g.sent
    back_stands p n c f b (Second packet left (done e)) a s g = (c, f, b, g)
    back_stands p n c f b (Second packet left never) a s g = (c, f, b, g)
    back_stands p n c f b (Second packet left (ask v k)) a s g =
        let h : BackStands (Second packet left (ask v k)) p.back c (flat_map given_by p.deeds) b p.memory.awaits = subst (λ x. BackStands x p.back c (flat_map given_by p.deeds) b p.memory.awaits) a g.back in
        let r = h.1 p.memory f g.inv in
        second_stands (record p { memory = after v p.memory }) packet left c f r.0 (k (answer v p.memory n)) r.1 g.front r.2 (r.3 n s) g.running g.copies g.sent
    back_stands p n c f b (Delivering asleep packet (done x)) a s g = (c, f, b, g)
    back_stands p n c f b (Delivering asleep packet never) a s g = (c, f, b, g)
    back_stands p n c f b (Delivering asleep packet (ask v k)) a s g =
        let h : BackStands (Delivering asleep packet (ask v k)) p.back c (flat_map given_by p.deeds) b p.memory.awaits = subst (λ x. BackStands x p.back c (flat_map given_by p.deeds) b p.memory.awaits) a g.back in
        let r = h.1 p.memory f g.inv in
        delivering_stands (record p { memory = after v p.memory }) asleep packet c f r.0 (k (answer v p.memory n)) r.1 g.front r.2 (r.3 n s) g.running g.copies g.sent
    back_stands p n c f b (Waiting asleep pages t) a s g =
        let h : BackStands (Waiting asleep pages t) p.back c (flat_map given_by p.deeds) b p.memory.awaits = subst (λ x. BackStands x p.back c (flat_map given_by p.deeds) b p.memory.awaits) a g.back in
        look_stands p asleep pages n c f b t a h.0 h.1 g

    begun_stands : (p : Pair) (packet : List ℕ) (c : Packets) (f : Front) (b : Back) (asleep : Bool) → All IsByte packet → Resting asleep p.back c (flat_map given_by p.deeds) b → Stands p c f b →
        Good (begin_delivery bw p asleep packet)
    begun_stands p packet c f b asleep q r g =
        delivering_stands p asleep packet c f b (whole_delivery bw.vif bw.accepts p.back Whole packet) g.inv g.front (inl (rest_gives p.back c (flat_map given_by p.deeds) b asleep r).0)
        (l.delivery_safe asleep p.back c (flat_map given_by p.deeds) b packet r q) g.running g.copies g.sent

    deliver_stands : (p : Pair) (packet : List ℕ) (c : Packets) (f : Front) (b : Back) (at : BackAt) → p.at ≡ at → All IsByte packet → Stands p c f b → Good (on_deliver bw at p packet)
    deliver_stands p packet c f b Asleep a q g = begun_stands p packet c f b true q (subst (λ x. BackStands x p.back c (flat_map given_by p.deeds) b p.memory.awaits) a g.back) g
    deliver_stands p packet c f b (First false t) a q g =
        let h : BackStands (First false t) p.back c (flat_map given_by p.deeds) b p.memory.awaits = subst (λ x. BackStands x p.back c (flat_map given_by p.deeds) b p.memory.awaits) a g.back in
        begun_stands p packet c f b false q h.1 g
    deliver_stands p packet c f b (First true t) a q g = (c, f, b, g)
    deliver_stands p packet c f b (Second copy left t) a q g = (c, f, b, g)
    deliver_stands p packet c f b (Delivering asleep other t) a q g = (c, f, b, g)
    deliver_stands p packet c f b (Waiting asleep pages t) a q g = (c, f, b, g)

    step_stands : (p : Pair) (e : PairEvent) (n : ℕ) (c : Packets) (f : Front) (b : Back) → IsBytes e → n < 2 ^ 64 → Stands p c f b → Good (step bw fw p e n)
    step_stands p (Send packet) n c f b q s g = fronts.send_stands bw fw Inv Rest Sendings Posts Polls Says Windowless Postless Ready Slept givens l p packet c f b p.activity refl q g
    step_stands p Post n c f b q s g = fronts.post_stands bw fw Inv Rest Sendings Posts Polls Says Windowless Postless Ready Slept givens l p c f b p.activity refl g
    step_stands p Poll n c f b q s g = fronts.poll_stands bw fw Inv Rest Sendings Posts Polls Says Windowless Postless Ready Slept givens l p c f b p.activity refl g
    step_stands p FrontStep n c f b q s g = fronts.front_stands bw fw Inv Rest Sendings Posts Polls Says Windowless Postless Ready Slept givens l p n c f b p.activity refl s g
    step_stands p BackStep n c f b q s g = back_stands p n c f b p.at refl s g
    step_stands p (Deliver packet) n c f b q s g = deliver_stands p packet c f b p.at refl q g
    step_stands p (Await pages) n c f b q s g = await_stands p pages c f b p.at refl g

    pub run_stands : (p : Pair) (es : List (PairEvent × ℕ)) → Fit es → Good p → Good (run bw fw p es)
    run_stands p [] q g = g
    run_stands p (e ∷ es) q g = run_stands (step bw fw p e.0 e.1) es q.1 (step_stands p e.0 e.1 g.0 g.1 g.2 q.0.0 q.0.1 g.3)

    given_end : (at : BackAt) (s : BackState) (c g r : Packets) (b : Back) (a : Awaits) → BackStands at s c g b a → ((more : Packets) × (givens b ≡ r ++ more)) → (more : Packets) × (g ++ given_now at ≡ r ++ more)
    given_end Asleep s c g r b a h o = (o.0, append-nil g ∙ sym (l.slept_runs s c g b h).0 ∙ o.1)
    given_end (First true t) s c g r b a h o = (o.0, append-nil g ∙ sym h.0 ∙ o.1)
    given_end (First false t) s c g r b a h o = (o.0, append-nil g ∙ sym (l.ready_runs s c g b h.1).0 ∙ o.1)
    given_end (Waiting asleep pages t) s c g r b a h o = (o.0, append-nil g ∙ sym (rest_gives s c g b asleep h.0).0 ∙ o.1)
    given_end (Delivering asleep packet t) s c g r b a h o = by h.0
      where
        by : GivesPacket g packet b → (more : Packets) × (g ++ packet ∷ [] ≡ r ++ more)
        by (inl e) = (o.0 ++ packet ∷ [], ap (λ x. x ++ packet ∷ []) (sym e ∙ o.1) ∙ append_assoc r o.0 (packet ∷ []))
        by (inr e) = (o.0, sym e ∙ o.1)
    given_end (Second packet left t) s c g r b a h o = by h.0
      where
        by : GivesLeft g left b → (more : Packets) × (g ++ left_by left ≡ r ++ more)
        by (inl e) = (o.0 ++ left_by left, ap (λ x. x ++ left_by left) (sym e ∙ o.1) ∙ append_assoc r o.0 (left_by left))
        by (inr e) =
            let three : (left.number == 3) ≡ true = let n : left.number ≡ 3 = e.0 in grind (arith, nat_tests) in
            (o.0, ap (λ (x : Bool). g ++ (if x then left.packet ∷ [] else [])) three ∙ sym e.1 ∙ o.1)

    pub honest : (p : Pair) → Good p → Honest p
    honest p g =
        let c = g.0 in
        let f = g.1 in
        let b = g.2 in
        let s = g.3 in
        record {
          front = fronts.no_halt bw fw Inv Rest Sendings Posts Polls Says Windowless Postless Ready Slept givens l p.activity p.front p.sent p.received f s.front;
          back = s.running;
          copies = (c, s.copies.0, s.sent);
          arrived = s.copies.1;
          received = given_end p.at p.back c (flat_map given_by p.deeds) p.received b p.memory.awaits s.back (l.got p.sent p.received p.memory f b (fronts.says bw fw Inv Rest Sendings Posts Polls Says Windowless Postless Ready Slept givens l p.activity p.front p.sent p.received f s.front) s.inv);
          told = λ index pages a n k.
              l.tells p.memory f b index pages s.inv (fronts.no_post bw fw Inv Rest Sendings Posts Polls Says Windowless Postless Ready Slept givens l p.activity p.front p.sent p.received f k s.front) a n;
          heard = λ a n k.
              let z : Slept p.back c (flat_map given_by p.deeds) b = subst (λ x. BackStands x p.back c (flat_map given_by p.deeds) b p.memory.awaits) a s.back in
              l.hears p.back c (flat_map given_by p.deeds) p.memory f b s.inv z (fronts.no_window bw fw Inv Rest Sendings Posts Polls Says Windowless Postless Ready Slept givens l p.activity p.front p.sent p.received f k s.front) n;
        }
