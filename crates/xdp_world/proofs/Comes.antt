-- One queue comes on by an event, by a packet that is given, or by a wait that is begun.
use Rattle.std.proofs.Common.{◌≡◌, ℕ, ◌+◌, false, List, [], ◌∷◌, ◌++◌, Option, Some, None, length, refl, sym, ◌∙◌, ap, subst, arith}
use Rattle.std.proofs.lemmas.List.{append-nil}
use Rattle.xen_steps.specs.Drive.{Goes, LedBy, IsPageWant}
use Rattle.xen_steps.specs.Event.{Event, Read, Write}
use Rattle.xen_steps.specs.Places.{add32, available, page_word}
use Rattle.xen_steps.specs.Steps.{Runs, Steps, done, want_of}
use Rattle.xen_steps.specs.declared.want.Want.TheVariants as want
use Rattle.xen_steps.proofs.DriveLemmas.{gone_more, runs_of_gone}
use Rattle.xen_steps.proofs.FinishLemmas.{some_run}
use Rattle.xen_back.specs.ByEvent.{frames_of, left_of}
use Rattle.xen_netif.specs.declared.offload.RxOffload.TheVariants.{Whole}
use Rattle.xen_turns.specs.Deliveries.{Arrival, whole_delivery}
use Rattle.xen_back.specs.Queues.{HasRest, IsReady, rest, state_of, wiring_of}
use Rattle.xen_turns.specs.Tree.{unless_halted, whole_turn}
use Rattle.xen_turns.specs.Turned.{Ending, Turned}
use Rattle.xen_turns.specs.Waits.{Wait, wait_end, whole_wait}
use Rattle.xen_back.specs.Waits.{rest_looking}
use Rattle.xen_back.specs.WaitsByEvent.{left_of_wait}
use Rattle.xen_turns.specs.Within.{may_want}
use Rattle.xen_turns.specs.declared.delivery.wait.Awaited.{Awaited}
use Rattle.xen_turns.specs.declared.delivery.delivering.Delivery.{Delivery}
use Rattle.xen_back.specs.declared.delivery.wait_stage.Awaiting.{Awaiting}
use Rattle.xen_back.specs.declared.delivery.wait_stage.Looking.{Looking}
use Rattle.xen_back.specs.declared.delivery.wait_stage.Looking.TheVariants as looking
use Rattle.xen_back.specs.declared.delivery.underway.Delivering.{Delivering}
use Rattle.xen_back.specs.declared.queue.Queue.{Queue}
use Rattle.xen_turns.specs.declared.state.State.{State}
use Rattle.xen_turns.specs.declared.turn.Halt.{Halt}
use Rattle.xen_turns.specs.declared.wiring.Wiring.{Wiring}
use Rattle.xen_turns.proofs.ArriveLemmas.{delivery_rows}
use Rattle.xen_back.proofs.RestLemmas.{ready_rest}
use Rattle.xen_turns.proofs.TurnParts.{turn_parts}
use Rattle.xen_turns.proofs.WaitLemmas.{wait_rows}
use Rattle.xdp_world.specs.Activities.{Activities, Came, Deed, DeliveryOf, Given, HasHalted, Item, IsLeft, IsPart, IsUndelivered, IsUnwaited, SlotsAwaited, TurnOf, WaitOf, of_delivery, of_turn, of_wait, all_came, deliveries_in, turns_in, waits_in}
use Rattle.xdp_world.specs.Carries.{Carries, Lands, Looks, Resumes, after_turn, delivered_list, waited_list}
use Rattle.xdp_world.specs.Core.{IsUnfinished, started_at}
use Rattle.xdp_world.specs.Doings.{IsAt, is_call}
use Rattle.xdp_world.specs.Happens.{Comes, kept_list}
use Rattle.xdp_world.specs.Keeping.{Keeps}
use Rattle.xdp_world.specs.Stands.{HasCome}
use Rattle.xdp_world.specs.declared.doing.Doing.{Doing}
use Rattle.xdp_world.specs.declared.doing.Doing.TheVariants as doing
use Rattle.xdp_world.specs.declared.kept.Kept.{Kept}
use Rattle.xdp_world.specs.declared.report.Delivered.{Delivered}
use Rattle.xdp_world.specs.declared.report.Waited.{Waited}
use Rattle.xdp_world.proofs.Acts.{acts_delivery, acts_more, acts_turn, acts_wait, came_append, deliveries_of_delivery, deliveries_of_turn, deliveries_of_wait, turns_of_delivery, turns_of_turn, turns_of_wait, waits_of_delivery, waits_of_turn, waits_of_wait}

-- a queue has a way to its turn's end, and a delivery to its own
pub has_rest : (q : Queue) → HasRest q
has_rest q = some_run (may_want (wiring_of q)) (rest q) q.left

has_left : (d : Delivering) → (t : List Event) × (end : Arrival) × Runs (left_of d) t end
has_left d = some_run (IsPageWant (frames_of d)) (left_of d) d.left

-- and a wait, whose producer may show 0
last_by : (rx : ℕ) (s : State) (pages : ℕ) (l : Looking) → (t : List Event) × (end : Wait) × Runs (rest_looking rx s pages l) t end
last_by rx s pages looking.Index =
    (Write (page_word rx 1) (add32 s.rx_index pages) ∷ Read (page_word rx 0) 0 ∷ [], wait_end s pages (available s.rx_index 0), (0, (refl, refl), (0, (omega arith, refl), refl)))
last_by rx s pages looking.Producer = (Read (page_word rx 0) 0 ∷ [], wait_end s pages (available s.rx_index 0), (0, (omega arith, refl), refl))
last_by rx s pages (looking.Over after what) = ([], (after, what), refl)

has_last : (a : Awaiting) → (t : List Event) × (end : Wait) × Runs (left_of_wait a) t end
has_last a = last_by a.rx a.state a.wanted a.looking

pub none_some : {A : Type 0} (o : Option A) (x : A) → o ≡ None → o ≡ Some x → ⊥
none_some o x a b = cc

running_by : (w : Wiring) (s : State) (o : Option Halt) (front : List Event) (left m : Steps Ending) (e : Event) → LedBy (unless_halted w s o) front left → Goes left e m → o ≡ None
running_by w s None front left m e h g = refl
running_by w s (Some cause) [] left m e h g = let g' = subst (λ (x : Steps Ending). Goes x e m) (sym h) g in absurd g'.1
running_by w s (Some cause) (x ∷ t) left m e h g = absurd h.1.1

-- a queue that goes on hasn't halted
running : (w : Wiring) (s : State) (front : List Event) (left m : Steps Ending) (e : Event) → LedBy (whole_turn w s) front left → Goes left e m → s.halt ≡ None
running w s front left m e h g = running_by w s s.halt front left m e h g

pub open_by : (w : Wiring) (s : State) (o : Option Halt) → o ≡ None → want_of (unless_halted w s o) ≡ want.Done → ⊥
open_by w s None n d = cc
open_by w s (Some cause) n d = cc

-- between turns nothing of a turn is done
pub fresh_turn : (w : Wiring) (q : Queue) → wiring_of q ≡ w → IsReady q → IsUnfinished w (state_of q) [] (rest q)
fresh_turn w q wi r =
    let ready : rest q ≡ whole_turn w (state_of q) = ready_rest q r ∙ ap (λ (x : Wiring). whole_turn x (state_of q)) wi in
    record {
      gone = sym ready;
      isnt_over = λ x o. open_by w (state_of q) (state_of q).halt x (ap (λ (t : Steps Ending). want_of t) (sym ready) ∙ o);
      stopped = λ cause is. refl;
      completed = has_rest q;
    }

-- the events since the last deed, where no delivery is under way
pub record InTurn (w : Wiring) (q : Queue) (front : List Item) : Type 0 where
  pub events : List Event
  pub are : front ≡ all_came events
  pub unfinished : IsUnfinished w (state_of q) events (rest q)

pub in_turn : (w : Wiring) (q : Queue) (at : Doing) (front : List Item) → is_call (Some at) ≡ false → IsAt w q at front → InTurn w q front
in_turn w q doing.Between front n h = record { events = []; are = h.0; unfinished = h.1 }
in_turn w q doing.Turn front n h = record { events = h.0; are = h.1; unfinished = h.3 }
in_turn w q (doing.Delivery d) front n h = absurd (cc)
in_turn w q (doing.Wait a) front n h = absurd (cc)

not_nil : (f : List Event) (e : Event) → f ++ e ∷ [] ≡ [] → ⊥
not_nil [] e h = cc
not_nil (x ∷ f) e h = cc

-- the queue's turn goes on by an event
pub come_event : (w : Wiring) (start : ℕ) (items : List Item) (ks : List Kept) (dl : List Delivered) (wl : List Waited) (q : Queue) (at : Doing) (q' : Queue) (e : Event) (m : Steps Ending) →
    is_call (Some at) ≡ false → HasCome w start items ks dl wl q at → Goes (rest q) e m → (want_of m ≡ want.Done → ⊥) → rest q' ≡ m → state_of q' ≡ state_of q → wiring_of q' ≡ wiring_of q →
    HasCome w start (items ++ Came e ∷ []) ks dl wl q' doing.Turn
come_event w start items ks dl wl q at q' e m n h g over r s wi =
    let x = in_turn w q at h.front n h.stands_at in
    let f = x.events in
    let run = running w (state_of q) f (rest q) m e x.unfinished.gone g in
    let grown : h.front ++ Came e ∷ [] ≡ all_came (f ++ e ∷ []) = ap (λ (l : List Item). l ++ Came e ∷ []) x.are ∙ sym (came_append f (e ∷ [])) in
    let u : IsUnfinished w (state_of q') (f ++ e ∷ []) (rest q') = record {
      gone = rw (r, s) (gone_more (whole_turn w (state_of q)) (rest q) m f e x.unfinished.gone g);
      isnt_over = λ y d. over (ap (λ (t : Steps Ending). want_of t) (sym r) ∙ d);
      stopped = λ cause is. absurd (none_some (state_of q').halt cause (ap (λ (y : State). y.halt) s ∙ run) is);
      completed = has_rest q';
    } in
    record {
      wired = wi ∙ h.wired;
      deeds = h.deeds;
      front = h.front ++ Came e ∷ [];
      joined = rw s (acts_more w (started_at start) items h.deeds (state_of q) h.front (Came e ∷ []) h.joined);
      turns = h.turns;
      deliveries = h.deliveries;
      waits = h.waits;
      stands_at = (f ++ e ∷ [], grown, not_nil f e, u);
    }

-- the queue's turn is over by an event
pub come_turn : (w : Wiring) (start : ℕ) (items : List Item) (ks : List Kept) (dl : List Delivered) (wl : List Waited) (q : Queue) (at : Doing) (q' : Queue) (e : Event) (m : Steps Ending) (u : Turned) (k : Kept) →
    is_call (Some at) ≡ false → HasCome w start items ks dl wl q at → Goes (rest q) e m → m ≡ done (state_of q', u) → Keeps u k → IsReady q' → wiring_of q' ≡ wiring_of q →
    HasCome w start (items ++ Came e ∷ []) (ks ++ k ∷ []) dl wl q' doing.Between
come_turn w start items ks dl wl q at q' e m u k n h g d keeps r wi =
    let x = in_turn w q at h.front n h.stands_at in
    let f = x.events in
    let run = running w (state_of q) f (rest q) m e x.unfinished.gone g in
    let grown : h.front ++ Came e ∷ [] ≡ all_came (f ++ e ∷ []) = ap (λ (l : List Item). l ++ Came e ∷ []) x.are ∙ sym (came_append f (e ∷ [])) in
    let more = acts_more w (started_at start) items h.deeds (state_of q) h.front (Came e ∷ []) h.joined in
    let j = turn_parts w (state_of q) (f ++ e ∷ []) (state_of q') u
    (runs_of_gone (whole_turn w (state_of q)) m (f ++ e ∷ []) (state_of q', u) (gone_more (whole_turn w (state_of q)) (rest q) m f e x.unfinished.gone g) d) in
    record {
      wired = wi ∙ h.wired;
      deeds = h.deeds ++ TurnOf k ∷ [];
      front = [];
      joined = acts_turn w (started_at start) (items ++ Came e ∷ []) h.deeds (state_of q) (h.front ++ Came e ∷ []) (f ++ e ∷ []) (state_of q') u k grown run j keeps more;
      turns = ap (λ (l : List Kept). l ++ k ∷ []) h.turns ∙ sym (turns_of_turn h.deeds k);
      deliveries = h.deliveries ∙ sym (deliveries_of_turn 0 h.deeds k);
      waits = h.waits ∙ sym (waits_of_turn 0 0 h.deeds k);
      stands_at = (refl, fresh_turn w q' (wi ∙ h.wired) r);
    }

pub come_comes : (w : Wiring) (start : ℕ) (items : List Item) (ks : List Kept) (dl : List Delivered) (wl : List Waited) (q : Queue) (at : Doing) (q' : Queue) (e : Event) (m : Steps Ending) (o : Option Kept) →
    is_call (Some at) ≡ false → HasCome w start items ks dl wl q at → Goes (rest q) e m → Comes q m q' o → wiring_of q' ≡ wiring_of q →
    HasCome w start (items ++ Came e ∷ []) (ks ++ kept_list o) dl wl q' (after_turn o)
come_comes w start items ks dl wl q at q' e m None n h g s wi = rw append-nil (come_event w start items ks dl wl q at q' e m n h g s.0 s.1 s.2 wi)
come_comes w start items ks dl wl q at q' e m (Some k) n h g s wi = come_turn w start items ks dl wl q at q' e m s.0 k n h g s.1 s.2 s.3 wi

same_unfinished : (w : Wiring) (f : List Event) (q q' : Queue) → rest q' ≡ rest q → state_of q' ≡ state_of q → IsUnfinished w (state_of q) f (rest q) → IsUnfinished w (state_of q') f (rest q')
same_unfinished w f q q' r s u = record {
  gone = rw (r, s) u.gone;
  isnt_over = λ x d. u.isnt_over (ap (λ (y : State). y.halt) (sym s) ∙ x) (ap (λ (t : Steps Ending). want_of t) (sym r) ∙ d);
  stopped = λ cause is. u.stopped cause (ap (λ (y : State). y.halt) (sym s) ∙ is);
  completed = has_rest q';
}

same_at : (w : Wiring) (q q' : Queue) (at : Doing) (front : List Item) → is_call (Some at) ≡ false → rest q' ≡ rest q → state_of q' ≡ state_of q → IsAt w q at front → IsAt w q' at front
same_at w q q' doing.Between front n r s h = (h.0, same_unfinished w [] q q' r s h.1)
same_at w q q' doing.Turn front n r s h = (h.0, h.1, h.2, same_unfinished w h.0 q q' r s h.3)
same_at w q q' (doing.Delivery d) front n r s h = absurd (cc)
same_at w q q' (doing.Wait a) front n r s h = absurd (cc)

-- a queue that rests stays as it was
pub come_rest : (w : Wiring) (start : ℕ) (items : List Item) (ks : List Kept) (dl : List Delivered) (wl : List Waited) (q : Queue) (at : Doing) (q' : Queue) → is_call (Some at) ≡ false →
    HasCome w start items ks dl wl q at → rest q' ≡ rest q → state_of q' ≡ state_of q → wiring_of q' ≡ wiring_of q → HasCome w start items ks dl wl q' at
come_rest w start items ks dl wl q at q' n h r s wi = record {
  wired = wi ∙ h.wired;
  deeds = h.deeds;
  front = h.front;
  joined = rw s h.joined;
  turns = h.turns;
  deliveries = h.deliveries;
  waits = h.waits;
  stands_at = same_at w q q' at h.front n r s h.stands_at;
}

halted_by : (w : Wiring) (start : ℕ) (items : List Item) (ds : List Deed) (s : State) (front : List Item) (f : List Event) (left : Steps Ending) (o : Option Halt) → s.halt ≡ o →
    Activities w (started_at start) items ds s front → front ≡ all_came f → IsUnfinished w s f left → want_of left ≡ want.Done → HasHalted w start items
halted_by w start items ds s front f left None e j a u d = absurd (u.isnt_over e d)
halted_by w start items ds s front f left (Some cause) e j a u d = record {
  deeds = ds;
  end = s;
  cause = cause;
  halted = e;
  joined = subst (λ (l : List Item). Activities w (started_at start) items ds s l) (a ∙ ap all_came (u.stopped cause e)) j;
}

-- a queue that wants nothing has halted
pub halted : (w : Wiring) (start : ℕ) (items : List Item) (ks : List Kept) (dl : List Delivered) (wl : List Waited) (q : Queue) (at : Doing) → is_call (Some at) ≡ false → HasCome w start items ks dl wl q at →
    want_of (rest q) ≡ want.Done → HasHalted w start items
halted w start items ks dl wl q at n h d =
    let x = in_turn w q at h.front n h.stands_at in
    halted_by w start items h.deeds (state_of q) h.front x.events (rest q) (state_of q).halt refl h.joined x.are x.unfinished d

-- a delivery has come to this by these events
landed : (w : Wiring) (start : ℕ) (items : List Item) (ks : List Kept) (dl : List Delivered) (wl : List Waited) (ds : List Deed) (q q' : Queue) (at : Doing) (packet : List ℕ) (f : List Event) (m : Steps Arrival) (o : Option Delivery) →
    Activities w (started_at start) items ds (state_of q) (Given packet ∷ all_came f) → ks ≡ turns_in ds → dl ≡ deliveries_in 0 ds → wl ≡ waits_in 0 0 ds → wiring_of q' ≡ w →
    LedBy (whole_delivery w.vif w.accepts (state_of q) Whole packet) f m → Lands q m q' at o → HasCome w start items ks (dl ++ delivered_list (length ks) o) wl q' at
landed w start items ks dl wl ds q q' at packet f m None j t e y wi g (d, is, left, over, s) =
    let u : IsUndelivered w (state_of q') packet f (left_of d) = record {
      gone = rw (left, s) g;
      isnt_over = λ x. over (ap (λ (y : Steps Arrival). want_of y) (sym left) ∙ x);
      completed = has_left d;
    } in
    subst (λ (x : Doing). HasCome w start items ks (dl ++ []) wl q' x) (sym is) (rw append-nil (record {
      wired = wi;
      deeds = ds;
      front = Given packet ∷ all_came f;
      joined = rw s j;
      turns = t;
      deliveries = e;
      waits = y;
      stands_at = (packet, f, refl, u);
    }))
landed w start items ks dl wl ds q q' at packet f m (Some what) j t e y wi g (is, over, r) =
    let row = delivery_rows w (state_of q) Whole packet f (state_of q') what (runs_of_gone (whole_delivery w.vif w.accepts (state_of q) Whole packet) m f (state_of q', what) g over) in
    let count : length ks ≡ 0 + length (turns_in ds) = ap (λ (l : List Kept). length l) t ∙ omega arith in
    subst (λ (x : Doing). HasCome w start items ks (dl ++ delivered_list (length ks) (Some what)) wl q' x) (sym is) (record {
      wired = wi;
      deeds = ds ++ DeliveryOf what ∷ [];
      front = [];
      joined = acts_delivery w (started_at start) items ds (state_of q) (Given packet ∷ all_came f) packet f (state_of q') what refl row j;
      turns = t ∙ sym (turns_of_delivery ds what);
      deliveries = (λ i. e i ++ delivered_list (count i) (Some what)) ∙ sym (deliveries_of_delivery 0 ds what);
      waits = y ∙ sym (waits_of_delivery 0 0 ds what);
      stands_at = (refl, fresh_turn w q' wi r);
    })

-- a packet is given to a queue that is between turns
pub come_given : (w : Wiring) (start : ℕ) (items : List Item) (ks : List Kept) (dl : List Delivered) (wl : List Waited) (q q' : Queue) (at : Doing) (packet : List ℕ) (o : Option Delivery) →
    HasCome w start items ks dl wl q doing.Between → wiring_of q' ≡ wiring_of q → Lands q (whole_delivery (wiring_of q).vif (wiring_of q).accepts (state_of q) Whole packet) q' at o →
    HasCome w start (items ++ Given packet ∷ []) ks (dl ++ delivered_list (length ks) o) wl q' at
come_given w start items ks dl wl q q' at packet o h wi l =
    let whole = whole_delivery (wiring_of q).vif (wiring_of q).accepts (state_of q) Whole packet in
    let more = acts_more w (started_at start) items h.deeds (state_of q) h.front (Given packet ∷ []) h.joined in
    let front : h.front ++ Given packet ∷ [] ≡ Given packet ∷ [] = ap (λ (x : List Item). x ++ Given packet ∷ []) h.stands_at.0 in
    landed w start (items ++ Given packet ∷ []) ks dl wl h.deeds q q' at packet [] whole o
    (subst (λ (x : List Item). Activities w (started_at start) (items ++ Given packet ∷ []) h.deeds (state_of q) x) front more) h.turns h.deliveries h.waits (wi ∙ h.wired)
    (ap (λ (x : Wiring). whole_delivery x.vif x.accepts (state_of q) Whole packet) (sym h.wired)) l

-- the queue's delivery goes on by an event
pub come_carried : (w : Wiring) (start : ℕ) (items : List Item) (ks : List Kept) (dl : List Delivered) (wl : List Waited) (q : Queue) (d : Delivering) (q' : Queue) (at : Doing) (a : ℕ) (o : Option Delivery) →
    HasCome w start items ks dl wl q (doing.Delivery d) → wiring_of q' ≡ wiring_of q → (v : Carries q d q' at a o) →
    HasCome w start (items ++ Came v.event ∷ []) ks (dl ++ delivered_list (length ks) o) wl q' at
come_carried w start items ks dl wl q d q' at a o h wi v =
    let (packet, f, are, u) = h.stands_at in
    let e = v.event in
    let more = acts_more w (started_at start) items h.deeds (state_of q) h.front (Came e ∷ []) h.joined in
    let front : h.front ++ Came e ∷ [] ≡ Given packet ∷ all_came (f ++ e ∷ []) =
    ap (λ (x : List Item). x ++ Came e ∷ []) are ∙ ap (λ (x : List Item). Given packet ∷ x) (sym (came_append f (e ∷ []))) in
    landed w start (items ++ Came e ∷ []) ks dl wl h.deeds q q' at packet (f ++ e ∷ []) v.mid o
    (subst (λ (x : List Item). Activities w (started_at start) (items ++ Came e ∷ []) h.deeds (state_of q) x) front more) h.turns h.deliveries h.waits (wi ∙ h.wired)
    (gone_more (whole_delivery w.vif w.accepts (state_of q) Whole packet) (left_of d) v.mid f e u.gone v.goes) v.lands

-- a wait has come to this by these events
resumed : (w : Wiring) (start : ℕ) (items : List Item) (ks : List Kept) (dl : List Delivered) (wl : List Waited) (ds : List Deed) (q q' : Queue) (at : Doing) (n : ℕ) (f : List Event) (m : Steps Wait) (o : Option Awaited) →
    Activities w (started_at start) items ds (state_of q) (SlotsAwaited n ∷ all_came f) → ks ≡ turns_in ds → dl ≡ deliveries_in 0 ds → wl ≡ waits_in 0 0 ds → wiring_of q' ≡ w →
    LedBy (whole_wait w.vif.rx (state_of q) n) f m → Resumes q m q' at o → HasCome w start items ks dl (wl ++ waited_list (length ks) (length dl) o) q' at
resumed w start items ks dl wl ds q q' at n f m None j t e y wi g (a, is, left, over, s) =
    let u : IsUnwaited w (state_of q') n f (left_of_wait a) = record {
      gone = rw (left, s) g;
      isnt_over = λ x. over (ap (λ (y : Steps Wait). want_of y) (sym left) ∙ x);
      completed = has_last a;
    } in
    subst (λ (x : Doing). HasCome w start items ks dl (wl ++ []) q' x) (sym is) (rw append-nil (record {
      wired = wi;
      deeds = ds;
      front = SlotsAwaited n ∷ all_came f;
      joined = rw s j;
      turns = t;
      deliveries = e;
      waits = y;
      stands_at = (n, f, refl, u);
    }))
resumed w start items ks dl wl ds q q' at n f m (Some r) j t e y wi g (is, over, ready) =
    let row = wait_rows w (state_of q) n f (state_of q') r (runs_of_gone (whole_wait w.vif.rx (state_of q) n) m f (state_of q', r) g over) in
    let turns : length ks ≡ 0 + length (turns_in ds) = ap (λ (l : List Kept). length l) t ∙ omega arith in
    let deliveries : length dl ≡ 0 + length (deliveries_in 0 ds) = ap (λ (l : List Delivered). length l) e ∙ omega arith in
    subst (λ (x : Doing). HasCome w start items ks dl (wl ++ waited_list (length ks) (length dl) (Some r)) q' x) (sym is) (record {
      wired = wi;
      deeds = ds ++ WaitOf r ∷ [];
      front = [];
      joined = acts_wait w (started_at start) items ds (state_of q) (SlotsAwaited n ∷ all_came f) n f (state_of q') r refl row j;
      turns = t ∙ sym (turns_of_wait ds r);
      deliveries = e ∙ sym (deliveries_of_wait 0 ds r);
      waits = (λ i. y i ++ waited_list (turns i) (deliveries i) (Some r)) ∙ sym (waits_of_wait 0 0 ds r);
      stands_at = (refl, fresh_turn w q' wi ready);
    })

-- a wait is begun on a queue that is between turns
pub come_awaits : (w : Wiring) (start : ℕ) (items : List Item) (ks : List Kept) (dl : List Delivered) (wl : List Waited) (q q' : Queue) (at : Doing) (n : ℕ) (o : Option Awaited) →
    HasCome w start items ks dl wl q doing.Between → wiring_of q' ≡ wiring_of q → Resumes q (whole_wait (wiring_of q).vif.rx (state_of q) n) q' at o →
    HasCome w start (items ++ SlotsAwaited n ∷ []) ks dl (wl ++ waited_list (length ks) (length dl) o) q' at
come_awaits w start items ks dl wl q q' at n o h wi l =
    let whole = whole_wait (wiring_of q).vif.rx (state_of q) n in
    let more = acts_more w (started_at start) items h.deeds (state_of q) h.front (SlotsAwaited n ∷ []) h.joined in
    let front : h.front ++ SlotsAwaited n ∷ [] ≡ SlotsAwaited n ∷ [] = ap (λ (x : List Item). x ++ SlotsAwaited n ∷ []) h.stands_at.0 in
    resumed w start (items ++ SlotsAwaited n ∷ []) ks dl wl h.deeds q q' at n [] whole o
    (subst (λ (x : List Item). Activities w (started_at start) (items ++ SlotsAwaited n ∷ []) h.deeds (state_of q) x) front more) h.turns h.deliveries h.waits (wi ∙ h.wired)
    (ap (λ (x : Wiring). whole_wait x.vif.rx (state_of q) n) (sym h.wired)) l

-- the queue's wait goes on by an event
pub come_looked : (w : Wiring) (start : ℕ) (items : List Item) (ks : List Kept) (dl : List Delivered) (wl : List Waited) (q : Queue) (b : Awaiting) (q' : Queue) (at : Doing) (a : ℕ) (o : Option Awaited) →
    HasCome w start items ks dl wl q (doing.Wait b) → wiring_of q' ≡ wiring_of q → (v : Looks q b q' at a o) →
    HasCome w start (items ++ Came v.event ∷ []) ks dl (wl ++ waited_list (length ks) (length dl) o) q' at
come_looked w start items ks dl wl q b q' at a o h wi v =
    let (n, f, are, u) = h.stands_at in
    let e = v.event in
    let more = acts_more w (started_at start) items h.deeds (state_of q) h.front (Came e ∷ []) h.joined in
    let front : h.front ++ Came e ∷ [] ≡ SlotsAwaited n ∷ all_came (f ++ e ∷ []) =
    ap (λ (x : List Item). x ++ Came e ∷ []) are ∙ ap (λ (x : List Item). SlotsAwaited n ∷ x) (sym (came_append f (e ∷ []))) in
    resumed w start (items ++ Came e ∷ []) ks dl wl h.deeds q q' at n (f ++ e ∷ []) v.mid o
    (subst (λ (x : List Item). Activities w (started_at start) (items ++ Came e ∷ []) h.deeds (state_of q) x) front more) h.turns h.deliveries h.waits (wi ∙ h.wired)
    (gone_more (whole_wait w.vif.rx (state_of q) n) (left_of_wait b) v.mid f e u.gone v.goes) v.resumes

pub left_at : (w : Wiring) (q : Queue) (at : Doing) (front : List Item) → IsAt w q at front → IsLeft w (state_of q) front
left_at w q doing.Between front h = subst (λ (l : List Item). IsLeft w (state_of q) l) (sym h.0) (of_turn [] (rest q) h.1)
left_at w q doing.Turn front h = subst (λ (l : List Item). IsLeft w (state_of q) l) (sym h.1) (of_turn h.0 (rest q) h.3)
left_at w q (doing.Delivery d) front h = subst (λ (l : List Item). IsLeft w (state_of q) l) (sym h.2) (of_delivery h.0 h.1 (left_of d) h.3)
left_at w q (doing.Wait a) front h = subst (λ (l : List Item). IsLeft w (state_of q) l) (sym h.2) (of_wait h.0 h.1 (left_of_wait a) h.3)

-- what a report tells of a queue
pub part_of : (w : Wiring) (start : ℕ) (items : List Item) (ks : List Kept) (dl : List Delivered) (wl : List Waited) (q : Queue) (at : Doing) → HasCome w start items ks dl wl q at → IsPart w start items ks dl wl
part_of w start items ks dl wl q at h = record {
  deeds = h.deeds;
  end = state_of q;
  front = h.front;
  joined = h.joined;
  turns = h.turns;
  deliveries = h.deliveries;
  waits = h.waits;
  left = left_at w q at h.front h.stands_at;
}
