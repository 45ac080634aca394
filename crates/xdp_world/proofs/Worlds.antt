-- A world goes on by one call.
use Rattle.std.proofs.Common.{◌≡◌, ◌≢◌, ℕ, zero, suc, ◌+◌, ◌%◌, ◌<◌, true, false, cond, eqb, List, [], ◌∷◌, ◌++◌, Option, Some, None, length, take, get_or, set, slice_get, refl, sym, ◌∙◌, ap, subst, arith, append_assoc, get_or-set_same, get_or-set_other, ◌⊎◌, inl, inr, ⊎_elim, length-set}
use Rattle.std.proofs.lemmas.Bool.Decides.{eqb_tells}
use Rattle.std.proofs.lemmas.List.{append-nil, take-append-le}
use Rattle.std.proofs.lemmas.Option.{slice_get_within}
use Rattle.bpf_maps.specs.Beginning.{Beginning, IsLegalFrom, left_from}
use Rattle.bpf_maps.specs.Seats.{TotalsView, total_at}
use Rattle.bpf_maps.proofs.HistoryLemmas.{legal_from, left_from_more, left_from_same, adds_here, adds_elsewhere, both_same}
use Rattle.bpf_note.specs.History.{added}
use Rattle.bpf_note.specs.Shape.{IsCounter}
use Rattle.bpf_note.specs.declared.op.Op.{Op}
use Rattle.bpf_note.specs.declared.op.Op.TheVariants as op
use Rattle.xen_steps.specs.Event.{Event}
use Rattle.xen_steps.specs.Steps.{want_of}
use Rattle.xen_steps.specs.declared.want.Want.TheVariants as want
use Rattle.xen_netif.specs.declared.offload.RxOffload.TheVariants.{Whole}
use Rattle.xen_turns.specs.Deliveries.{whole_delivery}
use Rattle.xen_back.specs.Queues.{rest, state_of, wiring_of}
use Rattle.xen_turns.specs.Waits.{whole_wait}
use Rattle.xen_turns.specs.declared.delivery.wait.Awaited.{Awaited}
use Rattle.xen_turns.specs.declared.delivery.delivering.Delivery.{Delivery}
use Rattle.xen_back.specs.declared.delivery.wait_stage.Awaiting.{Awaiting}
use Rattle.xen_back.specs.declared.delivery.underway.Delivering.{Delivering}
use Rattle.xen_back.specs.declared.queue.Queue.{Queue}
use Rattle.xen_turns.specs.declared.wiring.Wiring.{Wiring}
use Rattle.xdp_world.specs.Activities.{Came, Given, HasHalted, Item, SlotsAwaited, all_came}
use Rattle.xdp_world.specs.Calls.{Awaits, Call, Delivers, HaveCome, Stepped, entries_of, items_of}
use Rattle.xdp_world.specs.Carries.{Carries, Lands, Looks, Moves, Resumes, after_turn, carries, delivered_list, looks, rests, turns, waited_list}
use Rattle.xdp_world.specs.Doings.{is_call}
use Rattle.xdp_world.specs.Entries.{Entry, listed, tagged, ops_of, history, ServesEntry, AllServe, steps_of}
use Rattle.xdp_world.specs.Happens.{Comes, Counts, Happens, Rests, Settles, kept_list, op_list}
use Rattle.xdp_world.specs.Stands.{HasCome}
use Rattle.xdp_world.specs.declared.doing.Doing.{Doing}
use Rattle.xdp_world.specs.declared.doing.Doing.TheVariants as doing
use Rattle.xdp_world.specs.declared.kept.Kept.{Kept}
use Rattle.xdp_world.specs.declared.report.Delivered.{Delivered}
use Rattle.xdp_world.specs.declared.report.Waited.{Waited}
use Rattle.xdp_world.proofs.Comes.{come_awaits, come_carried, come_comes, come_given, come_looked, come_rest, halted, none_some}

pub comes_of : (a b c : Queue) (k : Option Kept) → Settles b c k → state_of b ≡ state_of a → Comes a (rest b) c k
comes_of a b c None s e = (s.0, s.1, s.2 ∙ e)
comes_of a b c (Some k) s e = s

pub items_append : (q : ℕ) (a b : List Call) → items_of q (a ++ b) ≡ items_of q a ++ items_of q b
items_append q [] b = refl
items_append q (Stepped e ∷ a) b =
    ap (λ (l : List Item). cond (eqb e.queue q) (all_came (listed e.event)) [] ++ l) (items_append q a b)
    ∙ sym (append_assoc (cond (eqb e.queue q) (all_came (listed e.event)) []) (items_of q a) (items_of q b))
items_append q (Delivers i p ∷ a) b =
    ap (λ (l : List Item). cond (eqb i q) (Given p ∷ []) [] ++ l) (items_append q a b)
    ∙ sym (append_assoc (cond (eqb i q) (Given p ∷ []) []) (items_of q a) (items_of q b))
items_append q (Awaits i n ∷ a) b =
    ap (λ (l : List Item). cond (eqb i q) (SlotsAwaited n ∷ []) [] ++ l) (items_append q a b)
    ∙ sym (append_assoc (cond (eqb i q) (SlotsAwaited n ∷ []) []) (items_of q a) (items_of q b))

pub entries_append : (a b : List Call) → entries_of (a ++ b) ≡ entries_of a ++ entries_of b
entries_append [] b = refl
entries_append (Stepped e ∷ a) b = ap (λ (l : List Entry). e ∷ l) (entries_append a b)
entries_append (Delivers i p ∷ a) b = entries_append a b
entries_append (Awaits i n ∷ a) b = entries_append a b

pub history_more : (es : List Entry) (e : Entry) → history (es ++ e ∷ []) ≡ history es ++ tagged e.queue (ops_of e.event)
history_more [] e = append-nil _
history_more (x ∷ es) e = ap (λ l. tagged x.queue (ops_of x.event) ++ l) (history_more es e) ∙ sym (append_assoc (tagged x.queue (ops_of x.event)) (history es) (tagged e.queue (ops_of e.event)))

pub serve_more : (es : List Entry) (e : Entry) → AllServe es → ServesEntry e.event e.answer → AllServe (es ++ e ∷ [])
serve_more [] e h g = (g, tt)
serve_more (x ∷ es) e h g = (h.0, serve_more es e h.1 g)

pub eqb_same : (i : ℕ) → eqb i i ≡ true
eqb_same i = ⊎_elim {C = eqb i i ≡ true} (λ p. p.0) (λ p. absurd (p.1 refl)) (eqb_tells i i)

pub eqb_other : (i j : ℕ) → (j ≡ i → ⊥) → eqb i j ≡ false
eqb_other i j n = ⊎_elim {C = eqb i j ≡ false} (λ p. absurd (n (sym p.1))) (λ p. p.0) (eqb_tells i j)

-- the items of one call
item_step : (i : ℕ) (e : Entry) → items_of i (Stepped e ∷ []) ≡ cond (eqb e.queue i) (all_came (listed e.event)) []
item_step i e = append-nil (cond (eqb e.queue i) (all_came (listed e.event)) [])

step_own : (i a : ℕ) (o : Option Event) (cs : List Call) → items_of i (cs ++ Stepped (record { queue = i; answer = a; event = o }) ∷ []) ≡ items_of i cs ++ all_came (listed o)
step_own i a o cs =
    let e : Entry = record { queue = i; answer = a; event = o } in
    items_append i cs (Stepped e ∷ []) ∙ ap (λ (l : List Item). items_of i cs ++ l) (item_step i e ∙ ap (λ b. cond b (all_came (listed o)) []) (eqb_same i))

step_other : (i j a : ℕ) (o : Option Event) (cs : List Call) → (j ≡ i → ⊥) → items_of j (cs ++ Stepped (record { queue = i; answer = a; event = o }) ∷ []) ≡ items_of j cs
step_other i j a o cs n =
    let e : Entry = record { queue = i; answer = a; event = o } in
    items_append j cs (Stepped e ∷ []) ∙ ap (λ (l : List Item). items_of j cs ++ l) (item_step j e ∙ ap (λ b. cond b (all_came (listed o)) []) (eqb_other i j n)) ∙ append-nil (items_of j cs)

item_given : (i q : ℕ) (p : List ℕ) → items_of q (Delivers i p ∷ []) ≡ cond (eqb i q) (Given p ∷ []) []
item_given i q p = append-nil (cond (eqb i q) (Given p ∷ []) [])

given_own : (i : ℕ) (p : List ℕ) (cs : List Call) → items_of i (cs ++ Delivers i p ∷ []) ≡ items_of i cs ++ Given p ∷ []
given_own i p cs = items_append i cs (Delivers i p ∷ []) ∙ ap (λ (l : List Item). items_of i cs ++ l) (item_given i i p ∙ ap (λ b. cond b (Given p ∷ []) []) (eqb_same i))

item_awaits : (i q n : ℕ) → items_of q (Awaits i n ∷ []) ≡ cond (eqb i q) (SlotsAwaited n ∷ []) []
item_awaits i q n = append-nil (cond (eqb i q) (SlotsAwaited n ∷ []) [])

awaits_own : (i n : ℕ) (cs : List Call) → items_of i (cs ++ Awaits i n ∷ []) ≡ items_of i cs ++ SlotsAwaited n ∷ []
awaits_own i n cs = items_append i cs (Awaits i n ∷ []) ∙ ap (λ (l : List Item). items_of i cs ++ l) (item_awaits i i n ∙ ap (λ b. cond b (SlotsAwaited n ∷ []) []) (eqb_same i))

awaits_other : (i j n : ℕ) (cs : List Call) → (j ≡ i → ⊥) → items_of j (cs ++ Awaits i n ∷ []) ≡ items_of j cs
awaits_other i j n cs apart =
    items_append j cs (Awaits i n ∷ []) ∙ ap (λ (l : List Item). items_of j cs ++ l) (item_awaits i j n ∙ ap (λ b. cond b (SlotsAwaited n ∷ []) []) (eqb_other i j apart)) ∙ append-nil (items_of j cs)

given_other : (i j : ℕ) (p : List ℕ) (cs : List Call) → (j ≡ i → ⊥) → items_of j (cs ++ Delivers i p ∷ []) ≡ items_of j cs
given_other i j p cs n =
    items_append j cs (Delivers i p ∷ []) ∙ ap (λ (l : List Item). items_of j cs ++ l) (item_given i j p ∙ ap (λ b. cond b (Given p ∷ []) []) (eqb_other i j n)) ∙ append-nil (items_of j cs)

abbrev pub Each : (ℕ → Wiring) → ℕ → List Queue → List Doing → (ℕ → List Kept) → (ℕ → List Delivered) → (ℕ → List Waited) → List Call → Type 0
Each wirings start qs ats kept dels waits cs = (i : ℕ) (d : Queue) (e : Doing) → i < length qs → HasCome (wirings i) start (items_of i cs) (kept i) (dels i) (waits i) (get_or qs i d) (get_or ats i e)

-- one queue goes on, and the others stay
each_more : (wirings : ℕ → Wiring) (start : ℕ) (qs : List Queue) (ats : List Doing) (kept kept' : ℕ → List Kept) (dels dels' : ℕ → List Delivered) (waits waits' : ℕ → List Waited) (cs : List Call) (i : ℕ) (c : Call) (q' : Queue) (at' : Doing) →
    i < length qs → i < length ats → Each wirings start qs ats kept dels waits cs → ((j : ℕ) → (j ≡ i → ⊥) → kept' j ≡ kept j) → ((j : ℕ) → (j ≡ i → ⊥) → dels' j ≡ dels j) → ((j : ℕ) → (j ≡ i → ⊥) → waits' j ≡ waits j) →
    ((j : ℕ) → (j ≡ i → ⊥) → items_of j (cs ++ c ∷ []) ≡ items_of j cs) → HasCome (wirings i) start (items_of i (cs ++ c ∷ [])) (kept' i) (dels' i) (waits' i) q' at' →
    Each wirings start (set qs i q') (set ats i at') kept' dels' waits' (cs ++ c ∷ [])
each_more wirings start qs ats kept kept' dels dels' waits waits' cs i c q' at' l la h others others' others'' items g j d e m =
    ⊎_elim {C = HasCome (wirings j) start (items_of j (cs ++ c ∷ [])) (kept' j) (dels' j) (waits' j) (get_or (set qs i q') j d) (get_or (set ats i at') j e)}
    (λ p. rw (p.1, get_or-set_same qs i q' d l, get_or-set_same ats i at' e la) g)
    (λ p. let n : j ≢ i = p.1 in let k : j < length qs = simp length-set at m in
    rw (items j p.1, others j p.1, others' j p.1, others'' j p.1, get_or-set_other qs i j q' d n, get_or-set_other ats i j at' e n) (h j d e k))
    (eqb_tells j i)

at_more : {A : Type 0} (h : List A) (e : A) (i : ℕ) (x : A) → slice_get (h ++ e ∷ []) i ≡ Some x → (slice_get h i ≡ Some x) ⊎ ((i ≡ length h) × (e ≡ x))
at_more [] e zero x is = inr (refl, cc)
at_more [] e (suc i) x is = absurd (cc)
at_more (y ∷ ys) e zero x is = inl is
at_more {A = A} (y ∷ ys) e (suc i) x is = ⊎_elim inl (λ (t : (i ≡ length ys) × (e ≡ x)). inr (ap suc t.0, t.1)) (at_more ys e i x is)

take_whole : {A : Type 0} (h ys : List A) → take (length h) (h ++ ys) ≡ h
take_whole [] ys = refl
take_whole {A = A} (x ∷ xs) ys = ap (λ (l : List A). x ∷ l) (take_whole xs ys)

have_more : (wirings : ℕ → Wiring) (start : ℕ) (cs : List Call) (c : Call) → HaveCome wirings start cs →
    ((e : Entry) → c ≡ Stepped e → e.event ≡ None → HasHalted (wirings e.queue) start (items_of e.queue cs)) → HaveCome wirings start (cs ++ c ∷ [])
have_more wirings start cs c h g i x at n =
    ⊎_elim {C = HasHalted (wirings x.queue) start (items_of x.queue (take i (cs ++ c ∷ [])))}
    (λ (old : slice_get cs i ≡ Some (Stepped x)). let inside : i < length cs = slice_get_within cs i (Stepped x) old in
    subst (λ (l : List Call). HasHalted (wirings x.queue) start (items_of x.queue l)) (sym (take-append-le i cs (c ∷ []) (omega arith))) (h i x old n))
    (λ (t : (i ≡ length cs) × (c ≡ Stepped x)). let whole : take i (cs ++ c ∷ []) ≡ cs = ap (λ (n : ℕ). take n (cs ++ c ∷ [])) t.0 ∙ take_whole cs (c ∷ []) in
    subst (λ (l : List Call). HasHalted (wirings x.queue) start (items_of x.queue l)) (sym whole) (g x t.1 n))
    (at_more cs c i (Stepped x) at)

-- the history and the counters after an operation
legal_op : (begin : Beginning) (i : ℕ) (c d : TotalsView) (h : List (ℕ × Op)) (o : Option Op) → IsLegalFrom begin h → ((m k j : ℕ) → IsCounter c.shapes m k j → total_at c m k j ≡ left_from begin m k j h) → Counts c o d → IsLegalFrom begin (h ++ tagged i (op_list o))
legal_op begin i c d h None legal leaves counts = rw append-nil legal
legal_op begin i c d h (Some (op.Load m k j v)) legal leaves counts = legal_from begin h i (op.Load m k j v) legal (counts.1 ∙ leaves m k j counts.0)
legal_op begin i c d h (Some (op.Add m k j delta old)) legal leaves counts = legal_from begin h i (op.Add m k j delta old) legal (counts.1 ∙ leaves m k j counts.0)

leaves_op : (begin : Beginning) (i : ℕ) (c d : TotalsView) (h : List (ℕ × Op)) (o : Option Op) → d.shapes ≡ c.shapes → ((m k j : ℕ) → IsCounter c.shapes m k j → total_at c m k j ≡ left_from begin m k j h) → Counts c o d →
    (m k j : ℕ) → IsCounter d.shapes m k j → total_at d m k j ≡ left_from begin m k j (h ++ tagged i (op_list o))
leaves_op begin i c d h None shapes leaves counts m k j is = rw (append-nil, counts) (leaves m k j (subst (λ ss. IsCounter ss m k j) shapes is))
leaves_op begin i c d h (Some (op.Load a b e v)) shapes leaves counts m k j is =
    ap (λ (x : TotalsView). total_at x m k j) counts.2 ∙ leaves m k j (subst (λ ss. IsCounter ss m k j) shapes is)
    ∙ sym (left_from_more begin m k j h i (op.Load a b e v) ∙ left_from_same begin m k j h 0 refl)
leaves_op begin i c d h (Some (op.Add a b e delta old)) shapes leaves counts m k j is =
    let at = subst (λ ss. IsCounter ss m k j) shapes is in
    elim (both_same m k j a b e) [
      | yes p ↦ rw (p.0, p.1, p.2) (counts.2 ∙ ap (λ (x : ℕ). (x + delta) % 18446744073709551616) (counts.1 ∙ leaves a b e counts.0)
          ∙ ap (λ (x : ℕ). (left_from begin a b e h + x) % 18446744073709551616) (sym (adds_here a b e delta old)) ∙ sym (left_from_more begin a b e h i (op.Add a b e delta old)))
      | no n ↦ counts.3 m k j at n ∙ leaves m k j at ∙ sym (left_from_more begin m k j h i (op.Add a b e delta old) ∙ left_from_same begin m k j h (added m k j (op.Add a b e delta old)) (adds_elsewhere m k j a b e delta old n))
    ]

-- what is known of a world after one more call
pub record After (wirings : ℕ → Wiring) (start : ℕ) (begin : Beginning) (qs : List Queue) (ats : List Doing) (kept : ℕ → List Kept) (dels : ℕ → List Delivered) (waits : ℕ → List Waited) (past : List (ℕ × Op)) (d : TotalsView) (cs : List Call) : Type 0 where
  pub each : Each wirings start qs ats kept dels waits cs
  pub come : HaveCome wirings start cs
  pub serve : AllServe (entries_of cs)
  pub joined : past ≡ history (entries_of cs)
  pub legal : IsLegalFrom begin (history (entries_of cs))
  pub leaves : (m k j : ℕ) → IsCounter d.shapes m k j → total_at d m k j ≡ left_from begin m k j (history (entries_of cs))

step_event : (x y : Entry) → Stepped x ≡ Stepped y → x ≡ y
step_event x y e = cc

not_step : (i : ℕ) (p : List ℕ) (e : Entry) → Delivers i p ≡ Stepped e → ⊥
not_step i p e h = cc

not_awaits : (i n : ℕ) (e : Entry) → Awaits i n ≡ Stepped e → ⊥
not_awaits i n e h = cc

module _ (wirings : ℕ → Wiring) (start : ℕ) (begin : Beginning) (i a : ℕ) (qs : List Queue) (ats : List Doing) (kept kept' : ℕ → List Kept) (dels dels' : ℕ → List Delivered) (waits waits' : ℕ → List Waited) (past : List (ℕ × Op)) (c : TotalsView) (cs : List Call)
    (q q' : Queue) (at at' : Doing) (l : i < length qs) (la : i < length ats) (is : (x : Queue) → get_or qs i x ≡ q) (does : (x : Doing) → get_or ats i x ≡ at)
    (h : After wirings start begin qs ats kept dels waits past c cs)
    (others : (j : ℕ) → (j ≡ i → ⊥) → kept' j ≡ kept j) (others' : (j : ℕ) → (j ≡ i → ⊥) → dels' j ≡ dels j) (others'' : (j : ℕ) → (j ≡ i → ⊥) → waits' j ≡ waits j) (wi : wiring_of q' ≡ wiring_of q) where
  abbrev pub entry : Option Event → Entry
  entry e = record { queue = i; answer = a; event = e }

  abbrev pub grown : Call → List Call
  grown x = cs ++ x ∷ []

  own : HasCome (wirings i) start (items_of i cs) (kept i) (dels i) (waits i) q at
  own = subst (λ (x : Queue). HasCome (wirings i) start (items_of i cs) (kept i) (dels i) (waits i) x at) (is q)
      (subst (λ (y : Doing). HasCome (wirings i) start (items_of i cs) (kept i) (dels i) (waits i) (get_or qs i q) y) (does at) (h.each i q at l))

  -- the queue's share, where a step has this event
  step_each : (o : Option Event) → HasCome (wirings i) start (items_of i cs ++ all_came (listed o)) (kept' i) (dels' i) (waits' i) q' at' → Each wirings start (set qs i q') (set ats i at') kept' dels' waits' (grown (Stepped (entry o)))
  step_each o g =
      each_more wirings start qs ats kept kept' dels dels' waits waits' cs i (Stepped (entry o)) q' at' l la h.each others others' others'' (λ j n. step_other i j a o cs n)
      (subst (λ (x : List Item). HasCome (wirings i) start x (kept' i) (dels' i) (waits' i) q' at') (sym (step_own i a o cs)) g)

  step_come : (o : Option Event) → (o ≡ None → HasHalted (wirings i) start (items_of i cs)) → HaveCome wirings start (grown (Stepped (entry o)))
  step_come o g = have_more wirings start cs (Stepped (entry o)) h.come
      (λ e s n. subst (λ (x : Entry). x.event ≡ None → HasHalted (wirings x.queue) start (items_of x.queue cs)) (step_event (entry o) e s) g n)

  step_past : (o : Option Event) → history (entries_of (grown (Stepped (entry o)))) ≡ history (entries_of cs) ++ tagged i (ops_of o)
  step_past o = ap history (entries_append cs (Stepped (entry o) ∷ [])) ∙ history_more (entries_of cs) (entry o)

  step_serve : (o : Option Event) → ServesEntry o a → AllServe (entries_of (grown (Stepped (entry o))))
  step_serve o s = subst AllServe (sym (entries_append cs (Stepped (entry o) ∷ []))) (serve_more (entries_of cs) (entry o) h.serve s)

  stands_rest : (d : TotalsView) → is_call (Some at) ≡ false → want_of (rest q) ≡ want.Done → at' ≡ at → Rests q q' c d → d.shapes ≡ c.shapes → kept' i ≡ kept i → dels' i ≡ dels i → waits' i ≡ waits i →
      After wirings start begin (set qs i q') (set ats i at') kept' dels' waits' past d (grown (Stepped (entry None)))
  stands_rest d n w e r shapes ke de we =
      let same : history (entries_of (grown (Stepped (entry None)))) ≡ history (entries_of cs) = step_past None ∙ append-nil (history (entries_of cs)) in
      let come : HasCome (wirings i) start (items_of i cs) (kept i) (dels i) (waits i) q' at' =
      subst (λ (y : Doing). HasCome (wirings i) start (items_of i cs) (kept i) (dels i) (waits i) q' y) (sym e) (come_rest (wirings i) start (items_of i cs) (kept i) (dels i) (waits i) q at q' n own r.rest r.state wi) in
      record {
        each = step_each None (rw (append-nil, ke, de, we) come);
        come = step_come None (λ x. halted (wirings i) start (items_of i cs) (kept i) (dels i) (waits i) q at n own w);
        serve = step_serve None tt;
        joined = h.joined ∙ sym same;
        legal = subst (IsLegalFrom begin) (sym same) h.legal;
        leaves = λ m x j s. ap (λ (t : TotalsView). total_at t m x j) r.counters ∙ h.leaves m x j (subst (λ ss. IsCounter ss m x j) shapes s) ∙ ap (left_from begin m x j) (sym same);
      }

  stands_turn : (d : TotalsView) (o : Option Op) (k : Option Kept) → is_call (Some at) ≡ false → at' ≡ after_turn k → (v : Happens q q' c d a o k) → d.shapes ≡ c.shapes → kept' i ≡ kept i ++ kept_list k → dels' i ≡ dels i → waits' i ≡ waits i →
      After wirings start begin (set qs i q') (set ats i at') kept' dels' waits' (past ++ tagged i (op_list o)) d (grown (Stepped (entry (Some v.event))))
  stands_turn d o k n e v shapes ke de we =
      let more : history (entries_of (grown (Stepped (entry (Some v.event))))) ≡ history (entries_of cs) ++ tagged i (op_list o) =
      step_past (Some v.event) ∙ ap (λ (x : List Op). history (entries_of cs) ++ tagged i x) v.label in
      let come : HasCome (wirings i) start (items_of i cs ++ Came v.event ∷ []) (kept i ++ kept_list k) (dels i) (waits i) q' at' =
      subst (λ (y : Doing). HasCome (wirings i) start (items_of i cs ++ Came v.event ∷ []) (kept i ++ kept_list k) (dels i) (waits i) q' y) (sym e)
      (come_comes (wirings i) start (items_of i cs) (kept i) (dels i) (waits i) q at q' v.event v.mid k n own v.goes v.comes wi) in
      record {
        each = step_each (Some v.event) (rw (ke, de, we) come);
        come = step_come (Some v.event) (λ x. absurd (none_some (Some v.event) v.event x refl));
        serve = step_serve (Some v.event) v.serves;
        joined = ap (λ (x : List (ℕ × Op)). x ++ tagged i (op_list o)) h.joined ∙ sym more;
        legal = subst (IsLegalFrom begin) (sym more) (legal_op begin i c d (history (entries_of cs)) o h.legal h.leaves v.counts);
        leaves = λ m x j s. leaves_op begin i c d (history (entries_of cs)) o shapes h.leaves v.counts m x j s ∙ ap (left_from begin m x j) (sym more);
      }

  stands_carry : (d : TotalsView) (x : Delivering) (o : Option Delivery) → at ≡ doing.Delivery x → d ≡ c → (v : Carries q x q' at' a o) → kept' i ≡ kept i → dels' i ≡ dels i ++ delivered_list (length (kept i)) o → waits' i ≡ waits i →
      After wirings start begin (set qs i q') (set ats i at') kept' dels' waits' past d (grown (Stepped (entry (Some v.event))))
  stands_carry d x o e dc v ke de we =
      let same : history (entries_of (grown (Stepped (entry (Some v.event))))) ≡ history (entries_of cs) =
      step_past (Some v.event) ∙ ap (λ (y : List Op). history (entries_of cs) ++ tagged i y) v.quiet ∙ append-nil (history (entries_of cs)) in
      let mine : HasCome (wirings i) start (items_of i cs) (kept i) (dels i) (waits i) q (doing.Delivery x) = subst (λ (y : Doing). HasCome (wirings i) start (items_of i cs) (kept i) (dels i) (waits i) q y) e own in
      record {
        each = step_each (Some v.event) (rw (ke, de, we) (come_carried (wirings i) start (items_of i cs) (kept i) (dels i) (waits i) q x q' at' a o mine wi v));
        come = step_come (Some v.event) (λ y. absurd (none_some (Some v.event) v.event y refl));
        serve = step_serve (Some v.event) v.serves;
        joined = h.joined ∙ sym same;
        legal = subst (IsLegalFrom begin) (sym same) h.legal;
        leaves = λ m y j s. ap (λ (t : TotalsView). total_at t m y j) dc ∙ h.leaves m y j (subst (λ (t : TotalsView). IsCounter t.shapes m y j) dc s) ∙ ap (left_from begin m y j) (sym same);
      }

  stands_look : (d : TotalsView) (x : Awaiting) (o : Option Awaited) → at ≡ doing.Wait x → d ≡ c → (v : Looks q x q' at' a o) → kept' i ≡ kept i → dels' i ≡ dels i →
      waits' i ≡ waits i ++ waited_list (length (kept i)) (length (dels i)) o →
      After wirings start begin (set qs i q') (set ats i at') kept' dels' waits' past d (grown (Stepped (entry (Some v.event))))
  stands_look d x o e dc v ke de we =
      let same : history (entries_of (grown (Stepped (entry (Some v.event))))) ≡ history (entries_of cs) =
      step_past (Some v.event) ∙ ap (λ (y : List Op). history (entries_of cs) ++ tagged i y) v.quiet ∙ append-nil (history (entries_of cs)) in
      let mine : HasCome (wirings i) start (items_of i cs) (kept i) (dels i) (waits i) q (doing.Wait x) = subst (λ (y : Doing). HasCome (wirings i) start (items_of i cs) (kept i) (dels i) (waits i) q y) e own in
      record {
        each = step_each (Some v.event) (rw (ke, de, we) (come_looked (wirings i) start (items_of i cs) (kept i) (dels i) (waits i) q x q' at' a o mine wi v));
        come = step_come (Some v.event) (λ y. absurd (none_some (Some v.event) v.event y refl));
        serve = step_serve (Some v.event) v.serves;
        joined = h.joined ∙ sym same;
        legal = subst (IsLegalFrom begin) (sym same) h.legal;
        leaves = λ m y j s. ap (λ (t : TotalsView). total_at t m y j) dc ∙ h.leaves m y j (subst (λ (t : TotalsView). IsCounter t.shapes m y j) dc s) ∙ ap (left_from begin m y j) (sym same);
      }

  pub stands_step : (d : TotalsView) (e : Option Event) (o : Option Op) (k : Option Kept) (what : Option Delivery) (r : Option Awaited) → Moves q q' at at' c d a e o k what r → d.shapes ≡ c.shapes →
      kept' i ≡ kept i ++ kept_list k → dels' i ≡ dels i ++ delivered_list (length (kept i)) what → waits' i ≡ waits i ++ waited_list (length (kept i)) (length (dels i)) r →
      After wirings start begin (set qs i q') (set ats i at') kept' dels' waits' (past ++ tagged i (op_list o)) d (grown (Stepped (entry e)))
  stands_step d _ _ _ _ _ (rests n w e r) shapes ke de we =
      rw append-nil (stands_rest d n w e r shapes (ke ∙ append-nil (kept i)) (de ∙ append-nil (dels i)) (we ∙ append-nil (waits i)))
  stands_step d _ _ _ _ _ (turns o k n e v) shapes ke de we = stands_turn d o k n e v shapes ke (de ∙ append-nil (dels i)) (we ∙ append-nil (waits i))
  stands_step d _ _ _ _ _ (carries x what e dc v) shapes ke de we = rw append-nil (stands_carry d x what e dc v (ke ∙ append-nil (kept i)) de (we ∙ append-nil (waits i)))
  stands_step d _ _ _ _ _ (looks x r e dc v) shapes ke de we = rw append-nil (stands_look d x r e dc v (ke ∙ append-nil (kept i)) (de ∙ append-nil (dels i)) we)

  pub stands_given : (p : List ℕ) (o : Option Delivery) → at ≡ doing.Between → Lands q (whole_delivery (wiring_of q).vif (wiring_of q).accepts (state_of q) Whole p) q' at' o → kept' i ≡ kept i → dels' i ≡ dels i ++ delivered_list (length (kept i)) o →
      waits' i ≡ waits i → After wirings start begin (set qs i q') (set ats i at') kept' dels' waits' past c (grown (Delivers i p))
  stands_given p o e v ke de we =
      let same : entries_of (grown (Delivers i p)) ≡ entries_of cs = entries_append cs (Delivers i p ∷ []) ∙ append-nil (entries_of cs) in
      let mine : HasCome (wirings i) start (items_of i cs) (kept i) (dels i) (waits i) q doing.Between = subst (λ (y : Doing). HasCome (wirings i) start (items_of i cs) (kept i) (dels i) (waits i) q y) e own in
      let come = come_given (wirings i) start (items_of i cs) (kept i) (dels i) (waits i) q q' at' p o mine wi v in
      record {
        each = each_more wirings start qs ats kept kept' dels dels' waits waits' cs i (Delivers i p) q' at' l la h.each others others' others'' (λ j n. given_other i j p cs n) (rw (given_own i p cs, ke, de, we) come);
        come = have_more wirings start cs (Delivers i p) h.come (λ x s n. absurd (not_step i p x s));
        serve = subst AllServe (sym same) h.serve;
        joined = h.joined ∙ ap history (sym same);
        legal = subst (λ (x : List Entry). IsLegalFrom begin (history x)) (sym same) h.legal;
        leaves = λ m x j s. h.leaves m x j s ∙ ap (λ (y : List Entry). left_from begin m x j (history y)) (sym same);
      }

  pub stands_awaits : (p : ℕ) (o : Option Awaited) → at ≡ doing.Between → Resumes q (whole_wait (wiring_of q).vif.rx (state_of q) p) q' at' o → kept' i ≡ kept i → dels' i ≡ dels i →
      waits' i ≡ waits i ++ waited_list (length (kept i)) (length (dels i)) o → After wirings start begin (set qs i q') (set ats i at') kept' dels' waits' past c (grown (Awaits i p))
  stands_awaits p o e v ke de we =
      let same : entries_of (grown (Awaits i p)) ≡ entries_of cs = entries_append cs (Awaits i p ∷ []) ∙ append-nil (entries_of cs) in
      let mine : HasCome (wirings i) start (items_of i cs) (kept i) (dels i) (waits i) q doing.Between = subst (λ (y : Doing). HasCome (wirings i) start (items_of i cs) (kept i) (dels i) (waits i) q y) e own in
      let come = come_awaits (wirings i) start (items_of i cs) (kept i) (dels i) (waits i) q q' at' p o mine wi v in
      record {
        each = each_more wirings start qs ats kept kept' dels dels' waits waits' cs i (Awaits i p) q' at' l la h.each others others' others'' (λ j n. awaits_other i j p cs n) (rw (awaits_own i p cs, ke, de, we) come);
        come = have_more wirings start cs (Awaits i p) h.come (λ x s n. absurd (not_awaits i p x s));
        serve = subst AllServe (sym same) h.serve;
        joined = h.joined ∙ ap history (sym same);
        legal = subst (λ (x : List Entry). IsLegalFrom begin (history x)) (sym same) h.legal;
        leaves = λ m x j s. h.leaves m x j s ∙ ap (λ (y : List Entry). left_from begin m x j (history y)) (sym same);
      }

pub get_some : {A : Type 0} (l : List A) (i : ℕ) (x : A) → i < length l → ((d : A) → get_or l i d ≡ x) → slice_get l i ≡ Some x
get_some [] i x h e = absurd (omega (arith, h))
get_some (y ∷ ys) zero x h e = ap Some (e y)
get_some (y ∷ ys) (suc i) x h e = get_some ys i x (omega (arith, h)) e

pub get_set : {A : Type 0} (l : List A) (i : ℕ) (x : A) → i < length l → slice_get (set l i x) i ≡ Some x
get_set [] i x h = absurd (omega (arith, h))
get_set (y ∷ ys) zero x h = refl
get_set (y ∷ ys) (suc i) x h = get_set ys i x (omega (arith, h))

pub get_set_other : {A : Type 0} (l : List A) (i j : ℕ) (x : A) → (j ≡ i → ⊥) → slice_get (set l i x) j ≡ slice_get l j
get_set_other [] i j x n = refl
get_set_other (y ∷ ys) zero zero x n = absurd (n refl)
get_set_other (y ∷ ys) zero (suc j) x n = refl
get_set_other (y ∷ ys) (suc i) zero x n = refl
get_set_other (y ∷ ys) (suc i) (suc j) x n = get_set_other ys i j x (λ e. n (ap suc e))

pub steps_more : (es : List Entry) (e : Entry) → steps_of (es ++ e ∷ []) ≡ steps_of es ++ (e.queue, e.answer) ∷ []
steps_more [] e = refl
steps_more (x ∷ es) e = ap (λ l. (x.queue, x.answer) ∷ l) (steps_more es e)
