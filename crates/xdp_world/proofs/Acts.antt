-- Activities: one item more, one deed more; and those of which none is a delivery or a wait.
use Rattle.std.proofs.Common.{◌≡◌, ℕ, suc, ◌+◌, List, [], ◌∷◌, ◌++◌, Some, None, length, refl, sym, ◌∙◌, ap, subst, arith, append_assoc}
use Rattle.std.proofs.lemmas.List.{append-nil}
use Rattle.xen_steps.specs.Event.{Event}
use Rattle.xen_turns.specs.Awaited.{IsAwaiting}
use Rattle.xen_netif.specs.declared.offload.RxOffload.TheVariants.{Whole}
use Rattle.xen_turns.specs.Delivered.{IsDelivery}
use Rattle.xen_turns.specs.Turned.{Turned}
use Rattle.xen_turns.specs.Turns.{IsTurn}
use Rattle.xen_turns.specs.declared.delivery.wait.Awaited.{Awaited}
use Rattle.xen_turns.specs.declared.delivery.delivering.Delivery.{Delivery}
use Rattle.xen_turns.specs.declared.state.State.{State}
use Rattle.xen_turns.specs.declared.wiring.Wiring.{Wiring}
use Rattle.xdp_world.specs.Activities.{Activities, Came, Deed, DeliveryOf, Given, Item, SlotsAwaited, TurnOf, WaitOf, all_came, deliveries_in, delivery_over, none_over, turn_over, turns_in, wait_over, waits_in}
use Rattle.xdp_world.specs.Carries.{delivered_list, waited_list}
use Rattle.xdp_world.specs.Core.{Turns, begun, turned}
use Rattle.xdp_world.specs.Keeping.{Keeps}
use Rattle.xdp_world.specs.declared.kept.Kept.{Kept}
use Rattle.xdp_world.specs.declared.report.Delivered.{Delivered}
use Rattle.xdp_world.specs.declared.report.Waited.{Waited}

pub came_append : (a b : List Event) → all_came (a ++ b) ≡ all_came a ++ all_came b
came_append [] b = refl
came_append (x ∷ a) b = ap (λ (l : List Item). Came x ∷ l) (came_append a b)

-- items more
pub acts_more : (w : Wiring) (s : State) (items : List Item) (ds : List Deed) (end : State) (front more : List Item) → Activities w s items ds end front →
    Activities w s (items ++ more) ds end (front ++ more)
acts_more w _ _ _ _ _ more (none_over s front) = none_over s (front ++ more)
acts_more w _ _ _ _ _ more (turn_over s mid end t later front u k ds n i g h) =
    subst (λ (l : List Item). Activities w s l (TurnOf k ∷ ds) end (front ++ more)) (sym (append_assoc (all_came t) later more))
    (turn_over s mid end t (later ++ more) (front ++ more) u k ds n i g (acts_more w mid later ds end front more h))
acts_more w _ _ _ _ _ more (delivery_over s mid end packet t later front what ds i h) =
    subst (λ (l : List Item). Activities w s (Given packet ∷ l) (DeliveryOf what ∷ ds) end (front ++ more)) (sym (append_assoc (all_came t) later more))
    (delivery_over s mid end packet t (later ++ more) (front ++ more) what ds i (acts_more w mid later ds end front more h))
acts_more w _ _ _ _ _ more (wait_over s mid end pages t later front r ds i h) =
    subst (λ (l : List Item). Activities w s (SlotsAwaited pages ∷ l) (WaitOf r ∷ ds) end (front ++ more)) (sym (append_assoc (all_came t) later more))
    (wait_over s mid end pages t (later ++ more) (front ++ more) r ds i (acts_more w mid later ds end front more h))

-- what is left after the last deed is a turn
pub acts_turn : (w : Wiring) (s : State) (items : List Item) (ds : List Deed) (end : State) (front : List Item) (t : List Event) (new : State) (v : Turned) (k : Kept) →
    front ≡ all_came t → end.halt ≡ None → IsTurn w end t new v → Keeps v k → Activities w s items ds end front → Activities w s items (ds ++ TurnOf k ∷ []) new []
acts_turn w _ _ _ _ _ t new v k e n j g (none_over s front) =
    subst (λ (l : List Item). Activities w s l (TurnOf k ∷ []) new []) (append-nil (all_came t) ∙ sym e) (turn_over s new new t [] [] v k [] n j g (none_over new []))
acts_turn w _ _ _ _ _ t new v k e n j g (turn_over s mid end t' later front u x ds m i f h) =
    turn_over s mid new t' later [] u x (ds ++ TurnOf k ∷ []) m i f (acts_turn w mid later ds end front t new v k e n j g h)
acts_turn w _ _ _ _ _ t new v k e n j g (delivery_over s mid end packet t' later front what ds i h) =
    delivery_over s mid new packet t' later [] what (ds ++ TurnOf k ∷ []) i (acts_turn w mid later ds end front t new v k e n j g h)
acts_turn w _ _ _ _ _ t new v k e n j g (wait_over s mid end pages t' later front r ds i h) =
    wait_over s mid new pages t' later [] r (ds ++ TurnOf k ∷ []) i (acts_turn w mid later ds end front t new v k e n j g h)

-- what is left after the last deed is a delivery
pub acts_delivery : (w : Wiring) (s : State) (items : List Item) (ds : List Deed) (end : State) (front : List Item) (p : List ℕ) (t : List Event) (new : State) (o : Delivery) →
    front ≡ Given p ∷ all_came t → IsDelivery w end Whole p t new o → Activities w s items ds end front → Activities w s items (ds ++ DeliveryOf o ∷ []) new []
acts_delivery w _ _ _ _ _ p t new o e j (none_over s front) =
    subst (λ (l : List Item). Activities w s l (DeliveryOf o ∷ []) new []) (ap (λ (l : List Item). Given p ∷ l) (append-nil (all_came t)) ∙ sym e)
    (delivery_over s new new p t [] [] o [] j (none_over new []))
acts_delivery w _ _ _ _ _ p t new o e j (turn_over s mid end t' later front u x ds m i f h) =
    turn_over s mid new t' later [] u x (ds ++ DeliveryOf o ∷ []) m i f (acts_delivery w mid later ds end front p t new o e j h)
acts_delivery w _ _ _ _ _ p t new o e j (delivery_over s mid end packet t' later front what ds i h) =
    delivery_over s mid new packet t' later [] what (ds ++ DeliveryOf o ∷ []) i (acts_delivery w mid later ds end front p t new o e j h)
acts_delivery w _ _ _ _ _ p t new o e j (wait_over s mid end pages t' later front r ds i h) =
    wait_over s mid new pages t' later [] r (ds ++ DeliveryOf o ∷ []) i (acts_delivery w mid later ds end front p t new o e j h)

-- what is left after the last deed is a wait
pub acts_wait : (w : Wiring) (s : State) (items : List Item) (ds : List Deed) (end : State) (front : List Item) (n : ℕ) (t : List Event) (new : State) (o : Awaited) →
    front ≡ SlotsAwaited n ∷ all_came t → IsAwaiting w end n t new o → Activities w s items ds end front → Activities w s items (ds ++ WaitOf o ∷ []) new []
acts_wait w _ _ _ _ _ n t new o e j (none_over s front) =
    subst (λ (l : List Item). Activities w s l (WaitOf o ∷ []) new []) (ap (λ (l : List Item). SlotsAwaited n ∷ l) (append-nil (all_came t)) ∙ sym e)
    (wait_over s new new n t [] [] o [] j (none_over new []))
acts_wait w _ _ _ _ _ n t new o e j (turn_over s mid end t' later front u x ds m i f h) =
    turn_over s mid new t' later [] u x (ds ++ WaitOf o ∷ []) m i f (acts_wait w mid later ds end front n t new o e j h)
acts_wait w _ _ _ _ _ n t new o e j (delivery_over s mid end packet t' later front what ds i h) =
    delivery_over s mid new packet t' later [] what (ds ++ WaitOf o ∷ []) i (acts_wait w mid later ds end front n t new o e j h)
acts_wait w _ _ _ _ _ n t new o e j (wait_over s mid end pages t' later front r ds i h) =
    wait_over s mid new pages t' later [] r (ds ++ WaitOf o ∷ []) i (acts_wait w mid later ds end front n t new o e j h)

pub turns_of_turn : (ds : List Deed) (k : Kept) → turns_in (ds ++ TurnOf k ∷ []) ≡ turns_in ds ++ k ∷ []
turns_of_turn [] k = refl
turns_of_turn (TurnOf x ∷ ds) k = ap (λ (l : List Kept). x ∷ l) (turns_of_turn ds k)
turns_of_turn (DeliveryOf o ∷ ds) k = turns_of_turn ds k
turns_of_turn (WaitOf r ∷ ds) k = turns_of_turn ds k

pub turns_of_delivery : (ds : List Deed) (o : Delivery) → turns_in (ds ++ DeliveryOf o ∷ []) ≡ turns_in ds
turns_of_delivery [] o = refl
turns_of_delivery (TurnOf x ∷ ds) o = ap (λ (l : List Kept). x ∷ l) (turns_of_delivery ds o)
turns_of_delivery (DeliveryOf x ∷ ds) o = turns_of_delivery ds o
turns_of_delivery (WaitOf r ∷ ds) o = turns_of_delivery ds o

pub turns_of_wait : (ds : List Deed) (r : Awaited) → turns_in (ds ++ WaitOf r ∷ []) ≡ turns_in ds
turns_of_wait [] r = refl
turns_of_wait (TurnOf x ∷ ds) r = ap (λ (l : List Kept). x ∷ l) (turns_of_wait ds r)
turns_of_wait (DeliveryOf x ∷ ds) r = turns_of_wait ds r
turns_of_wait (WaitOf x ∷ ds) r = turns_of_wait ds r

pub deliveries_of_turn : (n : ℕ) (ds : List Deed) (k : Kept) → deliveries_in n (ds ++ TurnOf k ∷ []) ≡ deliveries_in n ds
deliveries_of_turn n [] k = refl
deliveries_of_turn n (TurnOf x ∷ ds) k = deliveries_of_turn (n + 1) ds k
deliveries_of_turn n (DeliveryOf o ∷ ds) k = ap (λ (l : List Delivered). record { turns = n; delivery = o } ∷ l) (deliveries_of_turn n ds k)
deliveries_of_turn n (WaitOf r ∷ ds) k = deliveries_of_turn n ds k

pub deliveries_of_wait : (n : ℕ) (ds : List Deed) (r : Awaited) → deliveries_in n (ds ++ WaitOf r ∷ []) ≡ deliveries_in n ds
deliveries_of_wait n [] r = refl
deliveries_of_wait n (TurnOf x ∷ ds) r = deliveries_of_wait (n + 1) ds r
deliveries_of_wait n (DeliveryOf o ∷ ds) r = ap (λ (l : List Delivered). record { turns = n; delivery = o } ∷ l) (deliveries_of_wait n ds r)
deliveries_of_wait n (WaitOf x ∷ ds) r = deliveries_of_wait n ds r

at_count : (n m : ℕ) (o : Delivery) → n ≡ m → delivered_list n (Some o) ≡ delivered_list m (Some o)
at_count n m o e = ap (λ (x : ℕ). delivered_list x (Some o)) e

pub deliveries_of_delivery : (n : ℕ) (ds : List Deed) (o : Delivery) → deliveries_in n (ds ++ DeliveryOf o ∷ []) ≡ deliveries_in n ds ++ delivered_list (n + length (turns_in ds)) (Some o)
deliveries_of_delivery n [] o = at_count n (n + 0) o (omega arith)
deliveries_of_delivery n (TurnOf x ∷ ds) o =
    deliveries_of_delivery (n + 1) ds o ∙ ap (λ (l : List Delivered). deliveries_in (n + 1) ds ++ l) (at_count (n + 1 + length (turns_in ds)) (n + length (x ∷ turns_in ds)) o (omega arith))
deliveries_of_delivery n (DeliveryOf x ∷ ds) o = ap (λ (l : List Delivered). record { turns = n; delivery = x } ∷ l) (deliveries_of_delivery n ds o)
deliveries_of_delivery n (WaitOf r ∷ ds) o = deliveries_of_delivery n ds o

count_from : (n m : ℕ) (ds : List Deed) → length (deliveries_in n ds) ≡ length (deliveries_in m ds)
count_from n m [] = refl
count_from n m (TurnOf x ∷ ds) = count_from (n + 1) (m + 1) ds
count_from n m (DeliveryOf x ∷ ds) = ap suc (count_from n m ds)
count_from n m (WaitOf x ∷ ds) = count_from n m ds

pub waits_of_turn : (n m : ℕ) (ds : List Deed) (k : Kept) → waits_in n m (ds ++ TurnOf k ∷ []) ≡ waits_in n m ds
waits_of_turn n m [] k = refl
waits_of_turn n m (TurnOf x ∷ ds) k = waits_of_turn (n + 1) m ds k
waits_of_turn n m (DeliveryOf x ∷ ds) k = waits_of_turn n (m + 1) ds k
waits_of_turn n m (WaitOf x ∷ ds) k = ap (λ (l : List Waited). record { turns = n; deliveries = m; awaited = x } ∷ l) (waits_of_turn n m ds k)

pub waits_of_delivery : (n m : ℕ) (ds : List Deed) (o : Delivery) → waits_in n m (ds ++ DeliveryOf o ∷ []) ≡ waits_in n m ds
waits_of_delivery n m [] o = refl
waits_of_delivery n m (TurnOf x ∷ ds) o = waits_of_delivery (n + 1) m ds o
waits_of_delivery n m (DeliveryOf x ∷ ds) o = waits_of_delivery n (m + 1) ds o
waits_of_delivery n m (WaitOf x ∷ ds) o = ap (λ (l : List Waited). record { turns = n; deliveries = m; awaited = x } ∷ l) (waits_of_delivery n m ds o)

at_counts : (n n' m m' : ℕ) (r : Awaited) → n ≡ n' → m ≡ m' → waited_list n m (Some r) ≡ waited_list n' m' (Some r)
at_counts n n' m m' r e f = λ i. waited_list (e i) (f i) (Some r)

pub waits_of_wait : (n m : ℕ) (ds : List Deed) (r : Awaited) →
    waits_in n m (ds ++ WaitOf r ∷ []) ≡ waits_in n m ds ++ waited_list (n + length (turns_in ds)) (m + length (deliveries_in 0 ds)) (Some r)
waits_of_wait n m [] r = at_counts n (n + 0) m (m + 0) r (omega arith) (omega arith)
waits_of_wait n m (TurnOf x ∷ ds) r =
    waits_of_wait (n + 1) m ds r ∙ ap (λ (l : List Waited). waits_in (n + 1) m ds ++ l)
    (at_counts (n + 1 + length (turns_in ds)) (n + length (x ∷ turns_in ds)) (m + length (deliveries_in 0 ds)) (m + length (deliveries_in 1 ds)) r (omega arith)
    (ap (λ (c : ℕ). m + c) (count_from 0 1 ds)))
waits_of_wait n m (DeliveryOf x ∷ ds) r =
    waits_of_wait n (m + 1) ds r ∙ ap (λ (l : List Waited). waits_in n (m + 1) ds ++ l)
    (at_counts (n + length (turns_in ds)) (n + length (turns_in ds)) (m + 1 + length (deliveries_in 0 ds)) (m + length (deliveries_in 0 (DeliveryOf x ∷ ds))) r refl (omega arith))
waits_of_wait n m (WaitOf x ∷ ds) r = ap (λ (l : List Waited). record { turns = n; deliveries = m; awaited = x } ∷ l) (waits_of_wait n m ds r)

-- turns alone
abbrev pub all_turns : List Kept → List Deed
all_turns [] = []
all_turns (k ∷ ks) = TurnOf k ∷ all_turns ks

pub turns_all : (ks : List Kept) → turns_in (all_turns ks) ≡ ks
turns_all [] = refl
turns_all (k ∷ ks) = ap (λ (l : List Kept). k ∷ l) (turns_all ks)

pub deliveries_all : (n : ℕ) (ks : List Kept) → deliveries_in n (all_turns ks) ≡ []
deliveries_all n [] = refl
deliveries_all n (k ∷ ks) = deliveries_all (n + 1) ks

pub waits_all : (n m : ℕ) (ks : List Kept) → waits_in n m (all_turns ks) ≡ []
waits_all n m [] = refl
waits_all n m (k ∷ ks) = waits_all (n + 1) m ks

-- what is behind the events of a turn, where no packet was given
split_came : (t : List Event) (later : List Item) (ev : List Event) → all_came t ++ later ≡ all_came ev → (r : List Event) × (ev ≡ t ++ r) × (later ≡ all_came r)
split_came [] later ev e = (ev, refl, e)
split_came (x ∷ t) later [] e = absurd (cc)
split_came (x ∷ t) later (y ∷ ev) e =
    let tail : all_came t ++ later ≡ all_came ev = cc in
    let head : y ≡ x = cc in
    let r = split_came t later ev tail in
    (r.0, (λ i. head i ∷ r.1 i), r.2)

no_packet : (p : List ℕ) (later : List Item) (ev : List Event) → Given p ∷ later ≡ all_came ev → ⊥
no_packet p later [] e = cc
no_packet p later (x ∷ ev) e = cc

no_slots : (n : ℕ) (later : List Item) (ev : List Event) → SlotsAwaited n ∷ later ≡ all_came ev → ⊥
no_slots n later [] e = cc
no_slots n later (x ∷ ev) e = cc

pub record Plain (w : Wiring) (s : State) (ev : List Event) (ds : List Deed) (end : State) (front : List Item) : Type 0 where
  pub kept : List Kept
  pub left : List Event
  pub deeds : ds ≡ all_turns kept
  pub rest : front ≡ all_came left
  pub joined : Turns w s ev kept end left

pub plain : (w : Wiring) (s : State) (items : List Item) (ds : List Deed) (end : State) (front : List Item) (ev : List Event) → items ≡ all_came ev →
    Activities w s items ds end front → Plain w s ev ds end front
plain w _ _ _ _ _ ev e (none_over s front) = record { kept = []; left = ev; deeds = refl; rest = e; joined = begun s ev }
plain w _ _ _ _ _ ev e (turn_over s mid end t later front u k ds n i g h) =
    let r = split_came t later ev e in
    let x = plain w mid later ds end front r.0 r.2 h in
    record {
      kept = k ∷ x.kept;
      left = x.left;
      deeds = ap (λ (l : List Deed). TurnOf k ∷ l) x.deeds;
      rest = x.rest;
      joined = subst (λ (l : List Event). Turns w s l (k ∷ x.kept) end x.left) (sym r.1) (turned s mid end t r.0 x.left u k x.kept n i g x.joined);
    }
plain w _ _ _ _ _ ev e (delivery_over s mid end packet t later front what ds i h) = absurd (no_packet packet (all_came t ++ later) ev e)
plain w _ _ _ _ _ ev e (wait_over s mid end pages t later front r ds i h) = absurd (no_slots pages (all_came t ++ later) ev e)

pub came_none : (left : List Event) → [] ≡ all_came left → left ≡ []
came_none [] e = refl
came_none (x ∷ l) e = absurd (cc)

pub came_same : (a b : List Event) → all_came a ≡ all_came b → a ≡ b
came_same a b e = let r = split_came a [] b (append-nil (all_came a) ∙ e) in sym (append-nil a) ∙ ap (λ (l : List Event). a ++ l) (sym (came_none r.0 r.2)) ∙ sym r.1

pub given_not : (p : List ℕ) (f ev : List Event) → Given p ∷ all_came f ≡ all_came ev → ⊥
given_not p f ev e = no_packet p (all_came f) ev e

pub slots_not : (n : ℕ) (f ev : List Event) → SlotsAwaited n ∷ all_came f ≡ all_came ev → ⊥
slots_not n f ev e = no_slots n (all_came f) ev e
