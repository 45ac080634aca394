-- The report's turns, copies and deliveries are the machine's.
use Rattle.std.proofs.Common.{◌≡◌, ℕ, ◌+◌, refl, sym, ◌∙◌, ap, subst, Bool, true, false, List, [], ◌∷◌, ◌++◌, arith}
use Rattle.std.specs.Prelude.{◌==◌, if◌then◌else◌, flat_map}
use Rattle.std.proofs.lemmas.Bool.Decides.{nat_tests}
use Rattle.xen_steps.specs.Event.{Event}
use Rattle.xen_turns.specs.Tree.{Left}
use Rattle.xen_turns.specs.Turned.{Turned, Idle, Ran, Refused, Halted}
use Rattle.xen_turns.specs.declared.state.State.{State}
use Rattle.xen_turns.specs.declared.wiring.Wiring.{Wiring}
use Rattle.xdp_world.specs.Activities.{Deed as WorldDeed, DeliveryOf, Item, TurnOf, WaitOf, all_came, deliveries_in, turns_in, waits_in}
use Rattle.xdp_world.specs.Keeping.{Keeps}
use Rattle.xdp_world.specs.declared.kept.Kept.{Kept}
use Rattle.xdp_world.specs.declared.kept.Kept.TheVariants as kept
use Rattle.xdp_world.specs.declared.report.Delivered.{Delivered}
use Rattle.xdp_world.specs.declared.report.Waited.{Waited}
use Rattle.honest_pair.specs.Machine.Law.{AllArrived, HaveCopies, delivered, given_by, given_now, left_by}
use Rattle.honest_pair.specs.Machine.Law as law
use Rattle.honest_pair.specs.Machine.Pair.{BackAt, Asleep, First, Second, Delivering, Waiting, Deed, OfTurn, OfDelivery, OfWait, Pair, new_back, turns_of}
use Rattle.honest_pair.specs.Machine.Traces.{HasCopy, HaveDeeds, IsAt, Traced}
use Rattle.honest_pair.specs.Machine.Traces as traces
use Rattle.honest_pair.proofs.Machine.CopyLemmas.{has_copy}
use Rattle.honest_pair.specs.Copies.{AreCopied, Delivers, HasCopied, IsLast, sent_back}
use Rattle.honest_pair.specs.Copies as copies
use Rattle.honest_pair.specs.Deeds.{AllKept, deliveries_of, waits_of}

-- the deeds, with the turns as they are kept
abbrev pub world_deeds : List Deed → List Kept → List WorldDeed
world_deeds [] ks = []
world_deeds (OfTurn p ∷ ds) [] = []
world_deeds (OfTurn p ∷ ds) (k ∷ ks) = TurnOf k ∷ world_deeds ds ks
world_deeds (OfDelivery packet what ∷ ds) ks = DeliveryOf what ∷ world_deeds ds ks
world_deeds (OfWait pages answer ∷ ds) ks = WaitOf answer ∷ world_deeds ds ks

world_turns : (ds : List Deed) (ks : List Kept) → AllKept (turns_of ds) ks → ks ≡ turns_in (world_deeds ds ks)
world_turns [] [] a = refl
world_turns [] (k ∷ ks) a = absurd a
world_turns (OfTurn p ∷ ds) [] a = absurd a
world_turns (OfTurn p ∷ ds) (k ∷ ks) a = ap (λ (l : List Kept). k ∷ l) (world_turns ds ks a.1)
world_turns (OfDelivery packet what ∷ ds) ks a = world_turns ds ks a
world_turns (OfWait pages answer ∷ ds) ks a = world_turns ds ks a

world_deliveries : (n : ℕ) (ds : List Deed) (ks : List Kept) → AllKept (turns_of ds) ks → deliveries_of n ds ≡ deliveries_in n (world_deeds ds ks)
world_deliveries n [] ks a = refl
world_deliveries n (OfTurn p ∷ ds) [] a = absurd a
world_deliveries n (OfTurn p ∷ ds) (k ∷ ks) a = world_deliveries (n + 1) ds ks a.1
world_deliveries n (OfDelivery packet what ∷ ds) ks a = ap (λ (l : List Delivered). record { turns = n; delivery = what } ∷ l) (world_deliveries n ds ks a)
world_deliveries n (OfWait pages answer ∷ ds) ks a = world_deliveries n ds ks a

world_waits : (n m : ℕ) (ds : List Deed) (ks : List Kept) → AllKept (turns_of ds) ks → waits_of n m ds ≡ waits_in n m (world_deeds ds ks)
world_waits n m [] ks a = refl
world_waits n m (OfTurn p ∷ ds) [] a = absurd a
world_waits n m (OfTurn p ∷ ds) (k ∷ ks) a = world_waits (n + 1) m ds ks a.1
world_waits n m (OfDelivery packet what ∷ ds) ks a = world_waits n (m + 1) ds ks a
world_waits n m (OfWait pages answer ∷ ds) ks a = ap (λ (l : List Waited). record { turns = n; deliveries = m; awaited = answer } ∷ l) (world_waits n m ds ks a)

back_as : (u : Turned) (k : Kept) → Keeps u k → law.sent_back u ≡ sent_back k
back_as Idle kept.Idle h = refl
back_as Idle k h = absurd h
back_as (Ran n p o l) (kept.Ran a m q x y) h =
    sym (ap (λ z. if z == 3 then q.items ∷ [] else []) h.1 ∙ ap (λ z. if n == 3 then z ∷ [] else []) h.2)
back_as (Ran n p o l) k h = absurd h
back_as (Refused c o l) (kept.Refused d x y) h = refl
back_as (Refused c o l) k h = absurd h
back_as (Halted c) (kept.Halted d) h = refl
back_as (Halted c) k h = absurd h

module _ (w : Wiring) where
  pub are_copied : (s : State) (items : List Item) (ds : List Deed) (end : State) (front : List Item) (ks : List Kept) (cs : List (List ℕ)) →
      HaveDeeds w s items ds end front → HaveCopies (turns_of ds) cs → AllArrived ds → AllKept (turns_of ds) ks → AreCopied w s items (world_deeds ds ks) cs (flat_map given_by ds) end front
  are_copied _ _ _ _ _ [] _ (traces.begun s front) law.none r a = copies.begun s front
  are_copied _ _ _ _ _ (k ∷ ks) _ (traces.begun s front) law.none r a = absurd a
  are_copied _ _ _ _ _ [] _ (traces.turned s mid end t more front p ds n i c h) l r a = absurd a
  are_copied _ _ _ _ _ (kept.Idle ∷ ks) _ (traces.turned s mid end t more front p ds n i c h) (law.idle x q cs l) r a =
      copies.idle s mid end t more front (world_deeds ds ks) cs (flat_map given_by ds) n i (are_copied mid more ds end front ks cs h l r a.1)
  are_copied _ _ _ _ _ (k ∷ ks) _ (traces.turned s mid end t more front p ds n i c h) (law.idle x q cs l) r a = absurd a.0
  are_copied _ _ _ _ _ (k ∷ ks) _ (traces.turned s mid end t more front p ds n i c h) (law.ran number packet copy ops slots q cs l) r a =
      let u = Ran number packet ops slots in
      subst (λ b. AreCopied w s (all_came t ++ more) (TurnOf k ∷ world_deeds ds ks) (copy ∷ cs) (b ++ flat_map given_by ds) end front) (sym (back_as u k a.0))
      (copies.copied s mid end t more front u k (world_deeds ds ks) copy c.0 cs (flat_map given_by ds) n i a.0 tt c.1 (are_copied mid more ds end front ks cs h l r a.1))
  are_copied _ _ _ _ _ (k ∷ ks) _ (traces.turned s mid end t more front p ds n i c h) (law.few copy ops slots q cs l) r a =
      subst (λ b. AreCopied w s (all_came t ++ more) (TurnOf k ∷ world_deeds ds ks) (copy ∷ cs) (b ++ flat_map given_by ds) end front) (sym (back_as p.turn k a.0))
      (copies.copied s mid end t more front p.turn k (world_deeds ds ks) copy c.0 cs (flat_map given_by ds) n i a.0 refl c.1 (are_copied mid more ds end front ks cs h l r a.1))
  are_copied _ _ _ _ _ ks cs (traces.delivered s mid end packet t more front what ds i h) l r a =
      copies.arrived s mid end packet t more front what (world_deeds ds ks) cs (flat_map given_by ds) i r.0 (are_copied mid more ds end front ks cs h l r.1 a)
  are_copied _ _ _ _ _ ks cs (traces.waited s mid end pages t more front answer ds i h) l r a =
      copies.looked s mid end pages t more front answer (world_deeds ds ks) cs (flat_map given_by ds) i r.0 (are_copied mid more ds end front ks cs h l r.1 a)

  last_by : (s : State) (f : List Event) (copy : List ℕ) (out : Left) → HasCopy w s f copy out → (b : Bool) → (out.number == 3) ≡ b → IsLast w s (all_came f) (if b then out.packet ∷ [] else [])
  last_by s f copy out h true e = copies.sends_back f copy out h (grind (arith, nat_tests))
  last_by s f copy out h false e = copies.nothing (all_came f)

  is_last : (s : State) (at : BackAt) (front : List Item) → IsAt w s at front → IsLast w s front (given_now at)
  is_last s Asleep front h = copies.nothing front
  is_last s (First b t) front h = copies.nothing front
  is_last s (Second packet left t) front h =
      let z = h.2 in
      let x = has_copy w s z.slots packet left z.first z.ran in
      subst (λ l. IsLast w s l (left_by left)) (sym h.1)
      (last_by s h.0 packet left (record { slots = z.slots; front = z.first; rest = z.rest; joined = z.joined; ran = x.0; is = x.1 }) (left.number == 3) refl)
  is_last s (Waiting asleep pages t) front h = copies.nothing front
  is_last s (Delivering asleep packet t) front h = subst (λ l. IsLast w s l (packet ∷ [])) (sym h.1) (copies.delivers packet h.0)

  pub delivers : (start : ℕ) (items : List Item) (p : Pair) (ks : List Kept) (dl : List Delivered) (ws : List Waited) (received : List (List ℕ)) → Traced w start items p → law.Honest p → AllKept (turns_of p.deeds) ks →
      dl ≡ deliveries_of 0 p.deeds → ws ≡ waits_of 0 0 p.deeds → received ≡ p.received → Delivers w start items ks dl ws p.back p.sent received
  delivers start items p ks dl ws received t h a d v r = record {
    deeds = world_deeds p.deeds ks;
    turns_are = world_turns p.deeds ks a;
    deliveries_are = d ∙ world_deliveries 0 p.deeds ks a;
    waits_are = v ∙ world_waits 0 0 p.deeds ks a;
    copies = h.copies.0;
    all_given = flat_map given_by p.deeds;
    front = t.front;
    copied = are_copied (new_back start) items p.deeds p.back t.front ks h.copies.0 t.deeds h.copies.1 h.arrived a;
    in_order = h.copies.2;
    last = given_now p.at;
    is_last = is_last p.back p.at t.front t.at;
    given = (h.received.0, h.received.1 ∙ ap (λ l. l ++ h.received.0) (sym r));
  }
