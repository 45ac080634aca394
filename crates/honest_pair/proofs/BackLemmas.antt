-- One event of the back.
use Rattle.std.proofs.Common.{◌≡◌, ◌≢◌, ℕ, ◌+◌, ◌<◌, ◌^◌, refl, sym, ◌∙◌, ap, subst, arith, Bool, true, false, List, [], ◌∷◌, ◌++◌, length, map, Option, Some, None}
use Rattle.std.specs.Prelude.{slice_get, slice_index_or}
use Rattle.bpf_note.specs.Shape.{Shape}
use Rattle.honest_pair.specs.Words.{WantsHeld}
use Rattle.std.proofs.lemmas.List.{append-nil}
use Rattle.xen_steps.specs.Drive.{Goes}
use Rattle.xen_steps.specs.Event.{Event, Occurs, Read}
use Rattle.xen_steps.specs.Finish.{Finishes, IsAsked}
use Rattle.xen_steps.specs.Steps.{Steps, done, ask, never, bind, next, want_of}
use Rattle.xen_steps.specs.declared.want.Want.{Want}
use Rattle.xen_steps.specs.declared.want.Want.TheVariants as want
use Rattle.xen_back.proofs.RestLemmas.{ready_rest as back_rest}
use Rattle.xen_back.specs.Queues.{IsReady, rest, state_of, wiring_of}
use Rattle.xen_turns.specs.Tree.{Left, after_run, whole_turn}
use Rattle.xen_turns.specs.Turned.{Ending, Turned, Idle, Ran, Refused, Halted}
use Rattle.xen_turns.specs.Within.{IsWithin, may_want}
use Rattle.xen_turns.specs.declared.delivery.wait.Awaited.{Awaited}
use Rattle.xen_turns.specs.declared.delivery.delivering.Delivery.{Delivery}
use Rattle.xen_back.specs.declared.delivery.wait_stage.Awaiting.{Awaiting}
use Rattle.xen_back.specs.declared.queue.Queue.{Queue}
use Rattle.xen_turns.specs.declared.state.State.{State}
use Rattle.xen_turns.specs.declared.turn.Halt.{Halt}
use Rattle.xen_turns.specs.declared.wiring.Wiring.{Wiring}
use Rattle.honest_pair.specs.Machine.Halves.{Half, Over, HasRun, half_turn, half_unless, second_half}
use Rattle.honest_pair.specs.Machine.Log.{back_asks, event_by}
use Rattle.honest_pair.specs.Machine.Memory.{Memory, after, answer}
use Rattle.honest_pair.specs.Machine.Pair.{BackAt, Asleep, First, Second, Delivering, Waiting, Deed, OfTurn, OfDelivery, OfWait, Pair, Past, first, next_at, on_back, second, turned, turns_of}
use Rattle.honest_pair.proofs.Machine.Deeds.{turns_turn}
use Rattle.honest_pair.proofs.Machine.HalfLemmas.{halves}
use Rattle.honest_pair.proofs.Machine.TraceLemmas.{back_follows}
use Rattle.honest_pair.specs.Machine.Traces.{BackIsAnswered}
use Rattle.xdp_world.specs.Activities.{all_came}
use Rattle.xdp_world.specs.Calls.{Stepped}
use Rattle.xdp_world.specs.Carries.{after_turn, delivered_list, doing_after, waited_list}
use Rattle.xdp_world.specs.Doings.{is_call, want_at}
use Rattle.xdp_world.specs.Entries.{Entry, Serves, listed}
use Rattle.xdp_world.specs.Happens.{Comes, MovedBy, kept_list}
use Rattle.xdp_world.specs.Keeping.{Keeps}
use Rattle.xdp_world.specs.Stands.{IsStep, delivered_in, doing_in, kept_in, waited_in}
use Rattle.xdp_world.specs.declared.doing.Doing.{Doing}
use Rattle.xdp_world.specs.declared.doing.Doing.TheVariants as doing
use Rattle.xdp_world.specs.declared.kept.Kept.{Kept}
use Rattle.xdp_world.specs.declared.kept.Kept.TheVariants as kept
use Rattle.xdp_world.specs.declared.report.Delivered.{Delivered}
use Rattle.xdp_world.specs.declared.report.Waited.{Waited}
use Rattle.xdp_world.proofs.Fitting.{free_want}
use Rattle.xen_front.specs.Fronts.{wiring_of as front_wiring}
use Rattle.honest_pair.specs.Machine.Pair.{BackStep}
use Rattle.honest_pair.specs.Held.{memory_in}
use Rattle.honest_pair.specs.declared.calling.Calling.{Calling}
use Rattle.honest_pair.specs.declared.calling.Calling.TheVariants as calling
use Rattle.honest_pair.specs.declared.pair.Pair.{Pair as Held}
use Rattle.honest_pair.specs.Deeds.{AllKept, bytes_in, deliveries_of, waits_of}
use Rattle.honest_pair.specs.Shows.{BackShows, Does, FrontShows, IsHalfGoing, doing_at, is_idle, queue_in}

-- an event whose read was answered by the memory
pub served : (v : Want) (a : ℕ) (e : Event) (m : Memory) → Occurs v a e → Serves e (answer v m 0) → (a ≡ answer v m a) × (event_by v (answer v m a) ≡ e ∷ []) × (a < 2 ^ 64)
served (want.Read at) a e m o s =
    let is : a ≡ m.word at = subst (λ x. Serves x (m.word at)) o.1 s in
    (is, ap (λ x. Read at x ∷ []) (sym is) ∙ ap (λ x. x ∷ []) (sym o.1), omega (arith, o.0))
served (want.Write at v) a e m o s = (o.0, ap (λ x. x ∷ []) (sym o.1), omega (arith, o.0))
served want.Instr a e m o s = (o.0, ap (λ x. x ∷ []) (sym o.1), omega (arith, o.0))
served (want.Load i k j) a e m o s = (refl, ap (λ x. x ∷ []) (sym o.1), o.0)
served (want.Add i k j d) a e m o s = (refl, ap (λ x. x ∷ []) (sym o.1), o.0)
served (want.Notify port) a e m o s = (o.0, ap (λ x. x ∷ []) (sym o.1), omega (arith, o.0))
served want.Done a e m o s = absurd o

half_going_at : (w : Wiring) (s : State) (o : Option Halt) → IsHalfGoing (half_unless w s o)
half_going_at w s (Some cause) = tt
half_going_at w s None = tt

pub half_going : (w : Wiring) (s : State) → IsHalfGoing (half_turn w s)
half_going w s = half_going_at w s s.halt

pub ready_rest : (w : Wiring) (q : Queue) (s : State) → rest q ≡ whole_turn (wiring_of q) (state_of q) → wiring_of q ≡ w → state_of q ≡ s → rest q ≡ bind (half_turn w s) (second_half w s)
ready_rest w q s r e f = r ∙ ap (λ x. whole_turn x (state_of q)) e ∙ ap (λ x. whole_turn w x) f ∙ sym (halves w s)

-- the next turn begins, or the back sleeps
next_shows : (w : Wiring) (q : Queue) (s : State) (u : Turned) (k : Kept) → Keeps u k → IsReady q → wiring_of q ≡ w → state_of q ≡ s → BackShows w q doing.Between (is_idle (Some k)) calling.Nothing (next_at w s u) s
next_shows w q s Idle kept.Idle h r e f = (refl, refl, refl, back_rest q r, f)
next_shows w q s Idle (kept.Ran a n p o l) h r e f = absurd h
next_shows w q s Idle (kept.Refused c o l) h r e f = absurd h
next_shows w q s Idle (kept.Halted c) h r e f = absurd h
next_shows w q s (Ran n p o l) kept.Idle h r e f = absurd h
next_shows w q s (Ran n p o l) (kept.Ran a n' p' o' l') h r e f = (refl, refl, refl, ready_rest w q s (back_rest q r) e f, half_going w s, f)
next_shows w q s (Ran n p o l) (kept.Refused c o' l') h r e f = absurd h
next_shows w q s (Ran n p o l) (kept.Halted c) h r e f = absurd h
next_shows w q s (Refused c o l) kept.Idle h r e f = absurd h
next_shows w q s (Refused c o l) (kept.Ran a n' p' o' l') h r e f = absurd h
next_shows w q s (Refused c o l) (kept.Refused c' o' l') h r e f = (refl, refl, refl, ready_rest w q s (back_rest q r) e f, half_going w s, f)
next_shows w q s (Refused c o l) (kept.Halted c') h r e f = absurd h
next_shows w q s (Halted c) kept.Idle h r e f = absurd h
next_shows w q s (Halted c) (kept.Ran a n' p' o' l') h r e f = absurd h
next_shows w q s (Halted c) (kept.Refused c' o' l') h r e f = absurd h
next_shows w q s (Halted c) (kept.Halted c') h r e f = (refl, refl, refl, ready_rest w q s (back_rest q r) e f, half_going w s, f)

kept_more : (ps : List Past) (ks : List Kept) (p : Past) (k : Kept) → AllKept ps ks → Keeps p.turn k → AllKept (ps ++ p ∷ []) (ks ++ k ∷ [])
kept_more [] [] p k a h = (h, tt)
kept_more [] (x ∷ ks) p k a h = absurd a
kept_more (y ∷ ps) [] p k a h = absurd a
kept_more (y ∷ ps) (x ∷ ks) p k a h = (a.0, kept_more ps ks p k a.1 h)

deliveries_turn : (n : ℕ) (ds : List Deed) (x : Past) → deliveries_of n (ds ++ OfTurn x ∷ []) ≡ deliveries_of n ds
deliveries_turn n [] x = refl
deliveries_turn n (OfTurn y ∷ ds) x = deliveries_turn (n + 1) ds x
deliveries_turn n (OfDelivery packet what ∷ ds) x = ap (λ (l : List Delivered). record { turns = n; delivery = what } ∷ l) (deliveries_turn n ds x)
deliveries_turn n (OfWait pages answer ∷ ds) x = deliveries_turn n ds x

waits_turn : (n m : ℕ) (ds : List Deed) (x : Past) → waits_of n m (ds ++ OfTurn x ∷ []) ≡ waits_of n m ds
waits_turn n m [] x = refl
waits_turn n m (OfTurn y ∷ ds) x = waits_turn (n + 1) m ds x
waits_turn n m (OfDelivery packet what ∷ ds) x = waits_turn n (m + 1) ds x
waits_turn n m (OfWait pages answer ∷ ds) x = ap (λ (l : List Waited). record { turns = n; deliveries = m; awaited = answer } ∷ l) (waits_turn n m ds x)

-- what stays, and what the back is then
pub record After (w : Wiring) (p p' : Pair) (q' : Queue) (k : Option Kept) : Type 0 where
  pub back : BackShows w q' (after_turn k) (is_idle k) calling.Nothing p'.at p'.back
  pub turns : (ks : List Kept) → AllKept (turns_of p.deeds) ks → AllKept (turns_of p'.deeds) (ks ++ kept_list k)
  pub deliveries : deliveries_of 0 p'.deeds ≡ deliveries_of 0 p.deeds
  pub waits : waits_of 0 0 p'.deeds ≡ waits_of 0 0 p.deeds
  pub memory : p'.memory ≡ p.memory
  pub front : p'.front ≡ p.front
  pub activity : p'.activity ≡ p.activity
  pub received : p'.received ≡ p.received

abbrev end_of : Steps Ending → Ending → Ending
end_of (done e) d = e
end_of (ask w k) d = d
end_of never d = d

nothing_more : (ps : List Past) (ks : List Kept) → AllKept ps ks → AllKept ps (ks ++ [])
nothing_more ps ks h = subst (AllKept ps) (sym (append-nil ks)) h

over_shows : (w : Wiring) (p : Pair) (c : Option (List ℕ)) (e : Ending) (q' : Queue) (u : Turned) (k : Kept) → e ≡ (state_of q', u) → Keeps u k → IsReady q' → wiring_of q' ≡ w → After w p (turned w p e c) q' (Some k)
over_shows w p c e q' u k is h r wi =
    let ends : Keeps e.1 k = subst (λ x. Keeps x k) (sym (ap (λ (x : Ending). x.1) is)) h in
    record {
      back = next_shows w q' e.0 e.1 k ends r wi (sym (ap (λ (x : Ending). x.0) is));
      turns = λ ks a. subst (λ l. AllKept l (ks ++ k ∷ [])) (sym (turns_turn p.deeds (record { turn = e.1; copy = c }))) (kept_more (turns_of p.deeds) ks (record { turn = e.1; copy = c }) k a ends);
      deliveries = deliveries_turn 0 p.deeds (record { turn = e.1; copy = c });
      waits = waits_turn 0 0 p.deeds (record { turn = e.1; copy = c });
      memory = refl;
      front = refl;
      activity = refl;
      received = refl;
    }

second_shows : (w : Wiring) (p : Pair) (packet : List ℕ) (left : Left) (t : Steps Ending) (q q' : Queue) (k : Option Kept) → Comes q t q' k → wiring_of q' ≡ w → state_of q ≡ p.back → After w p (second w p packet left t) q' k
second_shows w p packet left (done e) q q' None h wi s = absurd (h.0 refl)
second_shows w p packet left (done e) q q' (Some k) h wi s = over_shows w p (Some packet) e q' h.0 k (ap (λ x. end_of x e) h.1) h.2 h.3 wi
second_shows w p packet left (ask v c) q q' None h wi s = record {
  back = (refl, refl, refl, h.1, tt, h.2 ∙ s);
  turns = λ ks a. nothing_more (turns_of p.deeds) ks a;
  deliveries = refl;
  waits = refl;
  memory = refl;
  front = refl;
  activity = refl;
  received = refl;
}
second_shows w p packet left (ask v c) q q' (Some k) h wi s = let e = h.1 in absurd (cc)
second_shows w p packet left never q q' None h wi s = absurd (h.0 refl)
second_shows w p packet left never q q' (Some k) h wi s = let e = h.1 in absurd (cc)

first_shows : (w : Wiring) (p : Pair) (t : Steps Half) (q q' : Queue) (k : Option Kept) → Comes q (bind t (second_half w p.back)) q' k → wiring_of q' ≡ w → state_of q ≡ p.back → After w p (first w p t) q' k
first_shows w p (done (Over e)) q q' None h wi s = absurd (h.0 refl)
first_shows w p (done (Over e)) q q' (Some k) h wi s = over_shows w p None e q' h.0 k (ap (λ x. end_of x e) h.1) h.2 h.3 wi
first_shows w p (done (HasRun slots packet left)) q q' k h wi s = second_shows w p packet left (after_run w p.back slots left) q q' k h wi s
first_shows w p (ask v c) q q' None h wi s = record {
  back = (refl, refl, refl, h.1, tt, h.2 ∙ s);
  turns = λ ks a. nothing_more (turns_of p.deeds) ks a;
  deliveries = refl;
  waits = refl;
  memory = refl;
  front = refl;
  activity = refl;
  received = refl;
}
first_shows w p (ask v c) q q' (Some k) h wi s = let e = h.1 in absurd (cc)
first_shows w p never q q' None h wi s = absurd (h.0 refl)
first_shows w p never q q' (Some k) h wi s = let e = h.1 in absurd (cc)

-- a queue never asks for nothing
asks_on : (q : Queue) (v : Want) (c : ℕ → Steps Ending) → rest q ≡ ask v c → v ≡ want.Done → ⊥
asks_on q v c e d =
    let f : Finishes (may_want q.wiring) (ask v c) = subst (λ x. Finishes (may_want q.wiring) x) e q.left in
    subst IsAsked d f.1.0

no_event : (q : Queue) (t mid : Steps Ending) (e : Event) → rest q ≡ t → want_of t ≡ want.Done → Goes (rest q) e mid → ⊥
no_event q t mid e r d g = subst (λ v. Occurs v g.0 e) (ap want_of r ∙ d) g.1

-- What a step of a back at `at` comes to.
abbrev pub Steps_to : Wiring → Pair → Pair → Want → Queue → Doing → Option Kept → Option Event → List Event → Type 0
Steps_to w p p' v q' e' k event made =
    (listed event ≡ made) × (p'.memory ≡ after v p.memory) × BackShows w q' e' (is_idle k) calling.Nothing p'.at p'.back
    × ((ks : List Kept) → AllKept (turns_of p.deeds) ks → AllKept (turns_of p'.deeds) (ks ++ kept_list k)) × (p'.front ≡ p.front) × (p'.activity ≡ p.activity) × (p'.received ≡ p.received)
    × (deliveries_of 0 p'.deeds ≡ deliveries_of 0 p.deeds) × (waits_of 0 0 p'.deeds ≡ waits_of 0 0 p.deeds)

abbrev pub Comes_to : Wiring → Pair → BackAt → Want → Queue → Doing → Option Kept → Option Event → Type 0
Comes_to w p at v q' e k event = (n : ℕ) × (n < 2 ^ 64) × Steps_to w p (on_back w at p n) v q' (doing_after e event k) k event (back_asks at p.memory n) × BackIsAnswered at p.memory n

-- an end that rests
rests : (w : Wiring) (p : Pair) (at : BackAt) (t : Steps Ending) (a : ℕ) (q q' : Queue) (x : Doing) (k : Option Kept) (event : Option Event) → rest q ≡ t → want_of t ≡ want.Done → MovedBy a q event k q' →
    (rest q' ≡ t → state_of q' ≡ state_of q → BackShows w q' x false calling.Nothing p.at p.back) → back_asks at p.memory 0 ≡ [] → on_back w at p 0 ≡ p → BackIsAnswered at p.memory 0 → Comes_to w p at want.Done q' x k event
rests w p at t a q q' x k (Some e) r d h s n o z = absurd (no_event q t h.0 e r d h.1)
rests w p at t a q q' x k None r d h s n o z = (
  0,
  omega arith,
  (
    sym n,
    ap (λ y. y.memory) o,
    subst (λ y. BackShows w q' x (is_idle k) calling.Nothing y.at y.back) (sym o) (subst (λ y. BackShows w q' x (is_idle y) calling.Nothing p.at p.back) (sym h.4) (s (h.1 ∙ r) h.2)),
    (λ ks g. subst (λ y. AllKept (turns_of y.deeds) (ks ++ kept_list k)) (sym o) (subst (λ y. AllKept (turns_of p.deeds) (ks ++ kept_list y)) (sym h.4) (nothing_more (turns_of p.deeds) ks g))),
    ap (λ y. y.front) o,
    ap (λ y. y.activity) o,
    ap (λ y. y.received) o,
    ap (λ y. deliveries_of 0 y.deeds) o,
    ap (λ y. waits_of 0 0 y.deeds) o,
  ),
  z,
)

goes_first : (w : Wiring) (p : Pair) (b : Bool) (v : Want) (c : ℕ → Steps Half) (a : ℕ) (q q' : Queue) (x : Doing) (k : Option Kept) (event : Option Event) → rest q ≡ bind (ask v c) (second_half w p.back) →
    a ≡ answer v p.memory 0 → MovedBy a q event k q' → wiring_of q ≡ w → state_of q ≡ p.back → Comes_to w p (First b (ask v c)) v q' x k event
goes_first w p b v c a q q' x k None r m h wi s = absurd (asks_on q v _ r (sym (ap want_of r) ∙ h.0))
goes_first w p b v c a q q' x k (Some e) r m h wi s =
    let g = h.1 in
    let o : Occurs v g.0 e = subst (λ x. Occurs (want_of x) g.0 e) r g.1 in
    let y = served v g.0 e p.memory o (subst (Serves e) m h.2) in
    let mid : h.0 ≡ bind (c (answer v p.memory g.0)) (second_half w p.back) = g.2 ∙ ap (λ x. next x g.0) r ∙ ap (λ x. bind (c x) (second_half w p.back)) y.0 in
    let p1 : Pair = record p { memory = after v p.memory } in
    let f = first_shows w p1 (c (answer v p.memory g.0)) q q' k (subst (λ x. Comes q x q' k) mid h.3) (h.4 ∙ wi) s in
    (g.0, y.2, (sym y.1, f.memory, f.back, f.turns, f.front, f.activity, f.received, f.deliveries, f.waits), (e, y.1, subst (λ x. Occurs v x e) y.0 o))

goes_second : (w : Wiring) (p : Pair) (packet : List ℕ) (left : Left) (v : Want) (c : ℕ → Steps Ending) (a : ℕ) (q q' : Queue) (x : Doing) (k : Option Kept) (event : Option Event) → rest q ≡ ask v c →
    a ≡ answer v p.memory 0 → MovedBy a q event k q' → wiring_of q ≡ w → state_of q ≡ p.back → Comes_to w p (Second packet left (ask v c)) v q' x k event
goes_second w p packet left v c a q q' x k None r m h wi s = absurd (asks_on q v c r (sym (ap want_of r) ∙ h.0))
goes_second w p packet left v c a q q' x k (Some e) r m h wi s =
    let g = h.1 in
    let o : Occurs v g.0 e = subst (λ x. Occurs (want_of x) g.0 e) r g.1 in
    let y = served v g.0 e p.memory o (subst (Serves e) m h.2) in
    let mid : h.0 ≡ c (answer v p.memory g.0) = g.2 ∙ ap (λ x. next x g.0) r ∙ ap c y.0 in
    let p1 : Pair = record p { memory = after v p.memory } in
    let f = second_shows w p1 packet left (c (answer v p.memory g.0)) q q' k (subst (λ x. Comes q x q' k) mid h.3) (h.4 ∙ wi) s in
    (g.0, y.2, (sym y.1, f.memory, f.back, f.turns, f.front, f.activity, f.received, f.deliveries, f.waits), (e, y.1, subst (λ x. Occurs v x e) y.0 o))

-- An awake back's step in a turn.
pub back_steps : (w : Wiring) (p : Pair) (at : BackAt) (v : Want) (a : ℕ) (q q' : Queue) (x : Doing) (k : Option Kept) (event : Option Event) → p.at ≡ at → v ≡ want_of (rest q) → a ≡ answer v p.memory 0 →
    MovedBy a q event k q' → wiring_of q ≡ w → BackShows w q x false calling.Nothing at p.back → Comes_to w p at v q' x k event
back_steps w p Asleep v a q q' x k event i y m h wi b = let e = b.0 in absurd (cc)
back_steps w p (First n (ask u c)) v a q q' x k event i y m h wi b =
    let is : v ≡ u = y ∙ ap want_of b.3 in
    subst (λ z. Comes_to w p (First n (ask u c)) z q' x k event) (sym is) (goes_first w p n u c a q q' x k event b.3 (m ∙ ap (λ z. answer z p.memory 0) is) h wi b.5)
back_steps w p (First n (done (Over e))) v a q q' x k event i y m h wi b =
    subst (λ z. Comes_to w p (First n (done (Over e))) z q' x k event) (sym (y ∙ ap want_of b.3))
    (rests w p (First n (done (Over e))) (done e) a q q' x k event b.3 refl h (λ r s. subst (λ z. BackShows w q' x false calling.Nothing z p.back) (sym i) (refl, refl, b.2, r, tt, s ∙ b.5)) refl refl tt)
back_steps w p (First n (done (HasRun l packet left))) v a q q' x k event i y m h wi b = absurd b.4
back_steps w p (First n never) v a q q' x k event i y m h wi b =
    subst (λ z. Comes_to w p (First n never) z q' x k event) (sym (y ∙ ap want_of b.3))
    (rests w p (First n never) never a q q' x k event b.3 refl h (λ r s. subst (λ z. BackShows w q' x false calling.Nothing z p.back) (sym i) (refl, refl, b.2, r, tt, s ∙ b.5)) refl refl tt)
back_steps w p (Second packet left (ask u c)) v a q q' x k event i y m h wi b =
    let is : v ≡ u = y ∙ ap want_of b.3 in
    subst (λ z. Comes_to w p (Second packet left (ask u c)) z q' x k event) (sym is) (goes_second w p packet left u c a q q' x k event b.3 (m ∙ ap (λ z. answer z p.memory 0) is) h wi b.5)
back_steps w p (Second packet left (done e)) v a q q' x k event i y m h wi b = absurd b.4
back_steps w p (Second packet left never) v a q q' x k event i y m h wi b =
    subst (λ z. Comes_to w p (Second packet left never) z q' x k event) (sym (y ∙ ap want_of b.3))
    (rests w p (Second packet left never) never a q q' x k event b.3 refl h (λ r s. subst (λ z. BackShows w q' x false calling.Nothing z p.back) (sym i) (refl, refl, b.2, r, tt, s ∙ b.5)) refl refl tt)
back_steps w p (Delivering sl packet t) v a q q' x k event i y m h wi b = let e = b.1 in absurd (cc)
back_steps w p (Waiting sl pages t) v a q q' x k event i y m h wi b = let e = b.1 in absurd (cc)

-- no call of the host is under way
free_shows : (w : Wiring) (q : Queue) (x : Doing) (sl : Bool) (at : BackAt) (s : State) → BackShows w q x sl calling.Nothing at s → is_call (Some x) ≡ false
free_shows w q x sl Asleep s b = ap (λ (y : Doing). is_call (Some y)) b.2
free_shows w q x sl (First true t) s b = ap (λ (y : Doing). is_call (Some y)) b.2
free_shows w q x sl (First false t) s b = ap (λ (y : Doing). is_call (Some y)) b.2
free_shows w q x sl (Second packet left t) s b = ap (λ (y : Doing). is_call (Some y)) b.2
free_shows w q x sl (Delivering asleep packet t) s b = let e = b.1 in absurd (cc)
free_shows w q x sl (Waiting asleep pages t) s b = let e = b.1 in absurd (cc)

pub one_queue : (l : List Queue) → length l ≡ 1 → (q : Queue) × ((d : Queue) → slice_index_or l 0 d ≡ q)
one_queue [] h = absurd (omega (arith, h))
one_queue (x ∷ l) h = (x, λ d. refl)

pub one_doing : (l : List Doing) → length l ≡ 1 → (x : Doing) × ((d : Doing) → slice_index_or l 0 d ≡ x) × (slice_get l 0 ≡ Some x)
one_doing [] h = absurd (omega (arith, h))
one_doing (x ∷ l) h = (x, (λ d. refl), refl)

-- the one thing that the queue does
pub world_doing : (h : Held) → (x : Doing) × ((d : Doing) → doing_at h.world d ≡ x) × (doing_in h.world 0 ≡ Some x)
world_doing h = one_doing h.world.doing.items (omega (arith, h.one, h.world.queues.ok.0, h.world.doing.ok.0, h.world.all_doing))

last_kept : (l : List Kept) (k : Option Kept) → slice_get (l ++ kept_list k) (length l) ≡ k
last_kept [] None = refl
last_kept [] (Some k) = refl
last_kept (x ∷ l) k = last_kept l k

pub idle_kept : (l l' : List Kept) (k : Option Kept) → l' ≡ l ++ kept_list k → is_idle (slice_get l' (length l)) ≡ is_idle k
idle_kept l l' k e = ap (λ x. is_idle (slice_get x (length l))) e ∙ ap is_idle (last_kept l k)

-- A world's step is the back's, in a turn.
pub goes_on : (old new : Held) (a : ℕ) (v : Want) → old.asleep ≡ false → old.calling ≡ calling.Nothing → new.calling ≡ old.calling → new.front ≡ old.front → new.received ≡ old.received →
    ((d : Queue) → v ≡ want_at (queue_in old.world d) (doing_in old.world 0)) → memory_in new.memory ≡ after v (memory_in old.memory) → a ≡ answer v (memory_in old.memory) 0 →
    (i : IsStep old.world new.world 0 a) → new.asleep ≡ is_idle i.kept → new.world.counters.shapes ≡ old.world.counters.shapes → Does old new BackStep
goes_on old new a v aw dl dn f r vw mem an i sl sh = record {
  bytes = tt;
  does = λ bw fw p s.
      let o = one_queue old.world.queues.items (omega (arith, old.one, old.world.queues.ok.0)) in
      let o' = one_queue new.world.queues.items (omega (arith, new.one, new.world.queues.ok.0)) in
      let q : Queue = o.0 in
      let q' : Queue = o'.0 in
      let y = world_doing old in
      let y' = world_doing new in
      let x : Doing = y.0 in
      let shows : BackShows bw q x false calling.Nothing p.at p.back =
      subst (λ (b : Bool). BackShows bw q x b calling.Nothing p.at p.back) aw (subst (λ (b : Calling). BackShows bw q x old.asleep b p.at p.back) dl
      (subst (λ (z : Doing). BackShows bw q z old.asleep old.calling p.at p.back) (y.1 x) (subst (λ (z : Queue). BackShows bw z (doing_at old.world x) old.asleep old.calling p.at p.back) (o.1 q) (s.back q x)))) in
      let free : is_call (doing_in old.world 0) ≡ false = ap is_call y.2 ∙ free_shows bw q x false p.at p.back shows in
      let moved : MovedBy a q i.event i.kept q' =
      subst (λ (z : Queue). MovedBy a z i.event i.kept q') (o.1 q) (subst (λ (z : Queue). MovedBy a (queue_in old.world q) i.event i.kept z) (o'.1 q) (i.moved_by free q)) in
      let does : y'.0 ≡ doing_after x i.event i.kept = sym (y'.1 x) ∙ i.doing_by free x ∙ ap (λ (z : Doing). doing_after z i.event i.kept) (y.1 x) in
      let wired : wiring_of q ≡ bw = subst (λ (z : Queue). wiring_of z ≡ bw) (o.1 q) (s.back_wired q) in
      let want : v ≡ want_of (rest q) = vw q ∙ free_want (queue_in old.world q) (doing_in old.world 0) free ∙ ap (λ (z : Queue). want_of (rest z)) (o.1 q) in
      let ans : a ≡ answer v p.memory 0 = an ∙ ap (λ (m : Memory). answer v m 0) s.memory in
      let g = back_steps bw p p.at v a q q' x i.kept i.event refl want ans moved wired shows in
      let p' : Pair = on_back bw p.at p g.0 in
      let t = g.2 in
      let none : delivered_in new.world.deliveries.items 0 ≡ delivered_in old.world.deliveries.items 0 =
      i.deliveries ∙ ap (λ (z : Option Delivery). delivered_in old.world.deliveries.items 0 ++ delivered_list (length (kept_in old.world.turns.items 0)) z) (i.none free) ∙ append-nil (delivered_in old.world.deliveries.items 0) in
      let no_wait : waited_in new.world.waits.items 0 ≡ waited_in old.world.waits.items 0 =
      i.waits ∙ ap (λ (z : Option Awaited). waited_in old.world.waits.items 0 ++ waited_list (length (kept_in old.world.turns.items 0)) (length (delivered_in old.world.deliveries.items 0)) z)
      (i.no_wait (λ (z : Awaiting) e. let bad : true ≡ false = sym (ap is_call e) ∙ free in absurd (cc))) ∙ append-nil (waited_in old.world.waits.items 0) in (
        g.0,
        g.1,
        record {
          memory = mem ∙ ap (after v) s.memory ∙ sym t.1;
          front_wired = ap front_wiring f ∙ s.front_wired;
          front = subst (λ z. FrontShows z p'.activity p'.front) (sym f) (subst (λ z. FrontShows old.front z p'.front) (sym t.5) (subst (λ z. FrontShows old.front p.activity z) (sym t.4) s.front));
          back_wired = λ d. i.wired d ∙ s.back_wired d;
          back = λ d e. subst (λ (z : Queue). BackShows bw z (doing_at new.world e) new.asleep new.calling p'.at p'.back) (sym (o'.1 d))
              (subst (λ (z : Doing). BackShows bw q' z new.asleep new.calling p'.at p'.back) (sym (y'.1 e ∙ does))
              (subst (λ (b : Bool). BackShows bw q' (doing_after x i.event i.kept) b new.calling p'.at p'.back) (sym sl)
              (subst (λ (b : Calling). BackShows bw q' (doing_after x i.event i.kept) (is_idle i.kept) b p'.at p'.back) (sym (dn ∙ dl)) t.2)));
          received = ap (λ z. map bytes_in z.items) r ∙ s.received ∙ sym t.6;
          turns = subst (AllKept (turns_of p'.deeds)) (sym i.turns) (t.3 (kept_in old.world.turns.items 0) s.turns);
          deliveries = none ∙ s.deliveries ∙ sym t.7;
          waits = no_wait ∙ s.waits ∙ sym t.8;
        },
        record {
          shapes = sh;
          stands = λ wirings start begin cs h.
              let e : Entry = record { queue = 0; answer = a; event = i.event } in
              (Stepped e ∷ [], i.stands_for wirings start begin cs h, (refl, tt), append-nil (all_came (listed i.event)) ∙ ap all_came t.0);
        },
        back_follows bw p p.at g.0 refl g.3,
        tt,
      );
}

-- what an end wants is a place of the 531 frames
pub held_back : (v : Want) (frames : ℕ) (shapes : List Shape) → (v ≢ want.Done → IsWithin frames shapes v) → frames ≡ 531 → WantsHeld v
held_back (want.Read at) n l h e = let w = h (λ x. cc) in (omega (arith, w.0, e), w.1)
held_back (want.Write at x) n l h e = let w = h (λ x. cc) in (omega (arith, w.0, e), w.1)
held_back want.Instr n l h e = tt
held_back (want.Load m k j) n l h e = tt
held_back (want.Add m k j d) n l h e = tt
held_back (want.Notify port) n l h e = tt
held_back want.Done n l h e = tt

pub some_queue : (h : Held) → Queue
some_queue h = (one_queue h.world.queues.items (omega (arith, h.one, h.world.queues.ok.0))).0
