-- Events one after another.
use Rattle.bpf_maps.specs.Beginning.{Beginning}
use Rattle.std.proofs.Common.{◌≡◌, ℕ, zero, suc, ◌<◌, ◌^◌, refl, sym, ◌∙◌, ap, subst, arith, List, [], ◌∷◌, ◌++◌, length, map, true, Option, Some, None}
use Rattle.bpf_verify.specs.Consistent.{Accepted, IsConsistent}
use Rattle.xen_back.specs.Queues.{rest, state_of}
use Rattle.xen_turns.specs.Tree.{unless_halted, whole_turn}
use Rattle.xen_turns.specs.Turned.{Turned}
use Rattle.xen_turns.specs.Turns.{IsTurn}
use Rattle.xen_back.specs.declared.queue.Queue.{Queue}
use Rattle.xen_turns.specs.declared.state.State.{State as BackState}
use Rattle.xen_turns.specs.declared.turn.Halt.{Halt}
use Rattle.xen_turns.proofs.TurnRuns.{runs_turn}
use Rattle.xen_front.specs.Fronts.{state_of as front_state, wiring_of as front_wiring}
use Rattle.xen_front.specs.declared.state.FrontState.{FrontState}
use Rattle.xen_steps.specs.Drive.{LedBy}
use Rattle.xen_steps.specs.Steps.{Runs}
use Rattle.honest_pair.specs.Machine.Law.{AreFit, Honest, IsBytes, PairLaw}
use Rattle.honest_pair.specs.Machine.Layout.{IsBack}
use Rattle.honest_pair.specs.Machine.Memory.{opening_memory}
use Rattle.xdp_world.specs.Begin.{Begins, IsFor}
use Rattle.xdp_world.specs.Activities.{Activities, Came, Deed, Given, Item, SlotsAwaited, all_came, deliveries_in, delivery_over, none_over, turn_over, turns_in, wait_over, waits_in}
use Rattle.xdp_world.specs.Calls.{Awaits, Call, Delivers, Stepped, all_stepped, entries_of, items_of}
use Rattle.xdp_world.specs.Doings.{IsAt}
use Rattle.xdp_world.specs.Report.{Reports, Tells}
use Rattle.xdp_world.specs.declared.doing.Doing.{Doing}
use Rattle.xdp_world.specs.declared.doing.Doing.TheVariants as doing
use Rattle.honest_pair.specs.Held.{memory_in}
use Rattle.honest_pair.specs.declared.calling.Calling.TheVariants as calling
use Rattle.honest_pair.specs.Made.{IsFresh}
use Rattle.honest_pair.specs.declared.running.PairRun.{PairRun}
use Rattle.honest_pair.proofs.BackLemmas.{some_queue, world_doing}
use Rattle.std.specs.Prelude.{if◌then◌else◌, ◌==◌}
use Rattle.std.proofs.lemmas.List.{append-nil, append_assoc}
use Rattle.xen_steps.specs.Event.{Event}
use Rattle.xen_turns.specs.declared.wiring.Wiring.{Wiring as BackWiring}
use Rattle.xen_buffers.specs.declared.wiring.FrontWiring.{FrontWiring}
use Rattle.honest_pair.specs.Machine.Log.{LogLaw, back_asks, back_item, back_items, log, logged}
use Rattle.honest_pair.specs.Machine.Pair.{Await, BackStep, Deliver, FrontStep, Pair, PairEvent, Poll, Post, Send, opening, run, step, turns_of}
use Rattle.honest_pair.specs.Machine.Traces.{Follows, Traced}
use Rattle.honest_pair.specs.Machine.Acts.{ActsOn, front_of}
use Rattle.honest_pair.proofs.Machine.ActLemmas.{acts_none, acts_then, front_log-more, opened_acts, step_acts}
use Rattle.honest_pair.proofs.Machine.TraceLemmas.{follows_more, follows_none, opened_traced}
use Rattle.honest_pair.proofs.CopyLemmas.{delivers}
use Rattle.xdp_world.specs.Entries.{Entry, listed, steps_of}
use Rattle.xdp_world.specs.Stands.{Stands, StandsFor, delivered_in, kept_in, waited_in}
use Rattle.xdp_world.specs.declared.world.World.{World}
use Rattle.xdp_world.proofs.Worlds.{items_append}
use Rattle.honest_pair.specs.Events.{event_in, events_in}
use Rattle.honest_pair.specs.Runs.{GoWith, IsPairRun, IsPlain, NoneDelivers}
use Rattle.honest_pair.specs.Deeds.{AllKept, AreOwn, bytes_in, deliveries_of, waits_of}
use Rattle.honest_pair.specs.Shows.{AllBytes, Does, GoesOn, HasDone, Shows, doing_at, queue_in}
use Rattle.honest_pair.specs.declared.event.PairEvent.{PairEvent as Called}
use Rattle.honest_pair.specs.declared.pair.Pair.{Pair as Held}

run_more : (bw : BackWiring) (fw : FrontWiring) (p : Pair) (es : List (PairEvent × ℕ)) (x : PairEvent × ℕ) → run bw fw p (es ++ x ∷ []) ≡ step bw fw (run bw fw p es) x.0 x.1
run_more bw fw p [] x = refl
run_more bw fw p (e ∷ es) x = run_more bw fw (step bw fw p e.0 e.1) es x

items_more : (bw : BackWiring) (fw : FrontWiring) (p : Pair) (es : List (PairEvent × ℕ)) (x : PairEvent × ℕ) →
    back_items bw fw p (es ++ x ∷ []) ≡ back_items bw fw p es ++ back_item (run bw fw p es) x.0 x.1
items_more bw fw p [] x = append-nil (back_item p x.0 x.1)
items_more bw fw p (e ∷ es) x =
    let q = step bw fw p e.0 e.1 in
    ap (λ y. back_item p e.0 e.1 ++ y) (items_more bw fw q es x) ∙ sym (append_assoc (back_item p e.0 e.1) (back_items bw fw q es) (back_item (run bw fw q es) x.0 x.1))

own_more : (a b : List Call) → AreOwn a → AreOwn b → AreOwn (a ++ b)
own_more [] b h g = g
own_more (Stepped e ∷ a) b h g = (h.0, own_more a b h.1 g)
own_more (Delivers q packet ∷ a) b h g = (h.0, own_more a b h.1 g)
own_more (Awaits q pages ∷ a) b h g = (h.0, own_more a b h.1 g)

goes_more : (a b c : World) (l m : List Item) → GoesOn a b l → GoesOn b c m → GoesOn a c (l ++ m)
goes_more a b c l m g h = record {
  shapes = h.shapes ∙ g.shapes;
  stands = λ wirings start begin cs s.
      let x = g.stands wirings start begin cs s in
      let y = h.stands wirings start begin (cs ++ x.0) x.1 in
      (x.0 ++ y.0, subst (StandsFor c wirings start begin) (append_assoc cs x.0 y.0) y.1, own_more x.0 y.0 x.2 y.2, items_append 0 x.0 y.0 ∙ (λ i. x.3 i ++ y.3 i));
}

with_more : (es : List PairEvent) (g : List (PairEvent × ℕ)) (e : PairEvent) (n : ℕ) → GoWith es g → n < 2 ^ 64 → GoWith (es ++ e ∷ []) (g ++ (e, n) ∷ [])
with_more [] [] e n h l = (refl, l, tt)
with_more [] (x ∷ g) e n h l = absurd h
with_more (x ∷ es) [] e n h l = absurd h
with_more (x ∷ es) (y ∷ g) e n h l = (h.0, h.1, with_more es g e n h.2 l)

bytes_more : (es : List PairEvent) (e : PairEvent) → AllBytes es → IsBytes e → AllBytes (es ++ e ∷ [])
bytes_more [] e h b = (b, tt)
bytes_more (x ∷ es) e h b = (h.0, bytes_more es e h.1 b)

pub done_none : (h : Held) → HasDone h h []
done_none h = record { bytes = tt; does = λ bw fw p s. ([], tt, s, record { shapes = refl; stands = λ wirings start begin cs x. ([], subst (StandsFor h.world wirings start begin) (sym (append-nil cs)) x, tt, refl) }, follows_none bw p, acts_none fw p) }

pub done_more : (old mid new : Held) (es : List PairEvent) (e : PairEvent) → HasDone old mid es → Does mid new e → HasDone old new (es ++ e ∷ [])
done_more old mid new es e h d = record {
  bytes = bytes_more es e h.bytes d.bytes;
  does = λ bw fw p s.
      let a = h.does bw fw p s in
      let b = d.does bw fw (run bw fw p a.0) a.2 in (
        a.0 ++ (e, b.0) ∷ [],
        with_more es a.0 e b.0 a.1 b.1,
        subst (Shows bw fw new) (sym (run_more bw fw p a.0 (e, b.0))) b.2,
        subst (GoesOn old.world new.world) (sym (items_more bw fw p a.0 (e, b.0))) (goes_more old.world mid.world new.world (back_items bw fw p a.0) (back_item (run bw fw p a.0) e b.0) a.3 b.3),
        subst (λ q. Follows bw p q (back_items bw fw p (a.0 ++ (e, b.0) ∷ []))) (sym (run_more bw fw p a.0 (e, b.0)))
            (subst (Follows bw p (step bw fw (run bw fw p a.0) e b.0)) (sym (items_more bw fw p a.0 (e, b.0)))
            (follows_more bw p (run bw fw p a.0) (step bw fw (run bw fw p a.0) e b.0) (back_items bw fw p a.0) (back_item (run bw fw p a.0) e b.0) a.4 b.4)),
        subst (λ q. ActsOn fw p q (front_of (log bw fw p (a.0 ++ (e, b.0) ∷ [])))) (sym (run_more bw fw p a.0 (e, b.0)))
            (subst (ActsOn fw p (step bw fw (run bw fw p a.0) e b.0)) (sym (front_log-more bw fw p a.0 (e, b.0)))
            (acts_then fw p (run bw fw p a.0) (step bw fw (run bw fw p a.0) e b.0) (front_of (log bw fw p a.0)) (front_of (logged (run bw fw p a.0) e b.0)) a.5
            (step_acts bw fw (run bw fw p a.0) e b.0 b.5))),
      );
}

pub events_in_more : (l : List Called) (e : Called) → events_in (l ++ e ∷ []) ≡ events_in l ++ event_in e ∷ []
events_in_more [] e = refl
events_in_more (x ∷ l) e = ap (λ y. event_in x ∷ y) (events_in_more l e)

-- a turn of a queue that hasn't halted has an event
no_turn : (w : BackWiring) (s mid : BackState) (u : Turned) → s.halt ≡ None → IsTurn w s [] mid u → ⊥
no_turn w s mid u h t = subst (λ (x : Option Halt). Runs (unless_halted w s x) [] (mid, u)) h (runs_turn w s [] mid u t)

is_begun : (w : BackWiring) (s : BackState) (items : List Item) (ds : List Deed) (end : BackState) (front : List Item) → items ≡ [] → Activities w s items ds end front → (ds ≡ []) × (end ≡ s) × (front ≡ [])
is_begun w _ _ _ _ _ e (none_over s front) = (refl, refl, e)
is_begun w _ _ _ _ _ e (turn_over s mid end [] more front u k ds h t g l) = absurd (no_turn w s mid u h t)
is_begun w _ _ _ _ _ e (turn_over s mid end (x ∷ t) more front u k ds h i g l) = absurd (cc)
is_begun w _ _ _ _ _ e (delivery_over s mid end packet t more front what ds i l) = absurd (cc)
is_begun w _ _ _ _ _ e (wait_over s mid end pages t more front answer ds i l) = absurd (cc)

-- a queue of which nothing is left is between turns
none_came : (f : List Event) → (f ≡ [] → ⊥) → [] ≡ all_came f → ⊥
none_came [] n e = n refl
none_came (x ∷ f) n e = cc

is_between : (w : BackWiring) (q : Queue) (at : Doing) (front : List Item) → front ≡ [] → IsAt w q at front → (at ≡ doing.Between) × LedBy (whole_turn w (state_of q)) [] (rest q)
is_between w q doing.Between front e h = (refl, h.1.gone)
is_between w q doing.Turn front e h = absurd (none_came h.0 h.2 (sym e ∙ h.1))
is_between w q (doing.Delivery d) front e h = let z : Given h.0 ∷ all_came h.1 ≡ [] = sym h.2 ∙ e in absurd (cc)
is_between w q (doing.Wait a) front e h = let z : SlotsAwaited h.0 ∷ all_came h.1 ≡ [] = sym h.2 ∙ e in absurd (cc)

-- Where no event is a delivery or a wait, each item is an event, and each call a step.
came_append : (a b : List Event) → all_came (a ++ b) ≡ all_came a ++ all_came b
came_append [] b = refl
came_append (x ∷ a) b = ap (λ (l : List Item). Came x ∷ l) (came_append a b)

item_plain : (p : Pair) (e : PairEvent) (n : ℕ) → IsPlain e → (f : List Event) × (back_item p e n ≡ all_came f)
item_plain p (Send packet) n h = ([], refl)
item_plain p Post n h = ([], refl)
item_plain p Poll n h = ([], refl)
item_plain p FrontStep n h = ([], refl)
item_plain p BackStep n h = (back_asks p.at p.memory n, refl)
item_plain p (Deliver packet) n h = absurd h
item_plain p (Await pages) n h = absurd h

items_plain : (bw : BackWiring) (fw : FrontWiring) (p : Pair) (es : List PairEvent) (g : List (PairEvent × ℕ)) → GoWith es g → NoneDelivers es → (f : List Event) × (back_items bw fw p g ≡ all_came f)
items_plain bw fw p [] [] w h = ([], refl)
items_plain bw fw p [] (x ∷ g) w h = absurd w
items_plain bw fw p (e ∷ es) [] w h = absurd w
items_plain bw fw p (e ∷ es) (x ∷ g) w h =
    let a = item_plain p x.0 x.1 (subst IsPlain (sym w.0) h.0) in
    let b = items_plain bw fw (step bw fw p x.0 x.1) es g w.2 h.1 in
    (a.0 ++ b.0, (λ i. a.1 i ++ b.1 i) ∙ sym (came_append a.0 b.0))

given_not : (packet : List ℕ) (l : List Item) (f : List Event) → Given packet ∷ l ≡ all_came f → ⊥
given_not packet l [] e = cc
given_not packet l (x ∷ f) e = cc

awaited_not : (pages : ℕ) (l : List Item) (f : List Event) → SlotsAwaited pages ∷ l ≡ all_came f → ⊥
awaited_not pages l [] e = cc
awaited_not pages l (x ∷ f) e = cc

came_tail : (x : Event) (l : List Item) (f : List Event) → Came x ∷ l ≡ all_came f → (f2 : List Event) × (l ≡ all_came f2)
came_tail x l [] e = absurd (cc)
came_tail x l (y ∷ f) e = (f, cc)

calls_plain : (cs : List Call) (f : List Event) → AreOwn cs → items_of 0 cs ≡ all_came f → cs ≡ all_stepped (entries_of cs)
calls_plain [] f h e = refl
calls_plain (Stepped x ∷ cs) f h e = ap (λ (l : List Call). Stepped x ∷ l)
    (by (λ f2 z. calls_plain cs f2 h.1 z) x.event (sym (ap (λ n. (if n == 0 then all_came (listed x.event) else []) ++ items_of 0 cs) h.0) ∙ e))
  where
    by : ((f2 : List Event) → items_of 0 cs ≡ all_came f2 → cs ≡ all_stepped (entries_of cs)) → (o : Option Event) → all_came (listed o) ++ items_of 0 cs ≡ all_came f → cs ≡ all_stepped (entries_of cs)
    by more None z = more f z
    by more (Some y) z = let t = came_tail y (items_of 0 cs) f z in more t.0 t.1
calls_plain (Delivers q packet ∷ cs) f h e =
    absurd (given_not packet (items_of 0 cs) f (sym (ap (λ n. (if n == 0 then Given packet ∷ [] else []) ++ items_of 0 cs) h.0) ∙ e))
calls_plain (Awaits q pages ∷ cs) f h e =
    absurd (awaited_not pages (items_of 0 cs) f (sym (ap (λ n. (if n == 0 then SlotsAwaited pages ∷ [] else []) ++ items_of 0 cs) h.0) ∙ e))

fit_more : (x : PairEvent × ℕ) (g : List (PairEvent × ℕ)) → IsBytes x.0 × (x.1 < 2 ^ 64) → AreFit g → AreFit (x ∷ g)
fit_more x g h a zero d l = h
fit_more x g h a (suc i) d l = a i d (omega (arith, l))

fit_all : (es : List PairEvent) (g : List (PairEvent × ℕ)) → GoWith es g → AllBytes es → AreFit g
fit_all [] [] h b = λ i d l. absurd (omega (arith, l))
fit_all [] (x ∷ g) h b = absurd h
fit_all (e ∷ es) [] h b = absurd h
fit_all (e ∷ es) (x ∷ g) h b = fit_more x g (subst IsBytes (sym h.0) b.0, h.1) (fit_all es g h.2 b.1)

pub is_run : (program : Accepted) (start : ℕ) (called : List PairEvent) (r : PairRun) (old new : Held) → Begins program [] [] 1 0 start old.world → IsConsistent program → start < 2 ^ 32 → IsFresh start old.front →
    memory_in old.memory ≡ opening_memory start → old.asleep ≡ true → old.calling ≡ calling.Nothing → old.received.items ≡ [] → old.world.counters.shapes ≡ program.shapes → HasDone old new called →
    r.received ≡ new.received → length r.report.turns.items ≡ 1 → length r.report.deliveries.items ≡ 1 → length r.report.waits.items ≡ 1 → r.report.turns.items ≡ new.world.turns.items → r.report.deliveries.items ≡ new.world.deliveries.items → r.report.waits.items ≡ new.world.waits.items → r.report.totals.shapes ≡ new.world.counters.shapes →
    ((wirings : ℕ → BackWiring) (s : ℕ) (g : Beginning) (es : List Entry) → Stands new.world wirings s g es → Reports wirings s g es r.report) →
    ((wirings : ℕ → BackWiring) (s : ℕ) (g : Beginning) (cs : List Call) → StandsFor new.world wirings s g cs → Tells wirings s g cs r.report) → LogLaw → PairLaw → IsPairRun program start called r
is_run program start called r old new b cons small fresh mem aw dl none sh done rec count delivered waited turns deliveries waits shapes reports tells logs law =
    let bw : BackWiring = b.wirings 0 in
    let fw : FrontWiring = front_wiring old.front in
    let s : FrontState = front_state old.front in
    let p : Pair = opening s start in
    let some : 0 < length old.world.queues.items = omega (arith, old.one, old.world.queues.ok.0) in
    let each = λ (d : Queue) (e : Doing). b.stands.each 0 d e some in
    let at = λ (d : Queue) (e : Doing). is_begun bw _ _ _ _ _ refl (each d e).joined in
    let q : Queue = some_queue old in
    let x0 : Doing = (world_doing old).0 in
    let now = λ (d : Queue) (e : Doing). is_between bw (queue_in old.world d) (doing_at old.world e) (each d e).front (at d e).2 (each d e).stands_at in
    let shows : Shows bw fw old p = record {
      memory = mem;
      front_wired = refl;
      front = (refl, fresh.free);
      back_wired = λ d. (each d x0).wired;
      back = λ d e. (aw, dl, (now d e).0, sym (now d e).1 ∙ ap (λ (w : BackWiring). whole_turn w (state_of (queue_in old.world d))) (sym (each d e).wired), (at d e).1);
      received = ap (λ l. map bytes_in l) none;
      turns = subst (AllKept []) (sym ((each q x0).turns ∙ ap turns_in (at q x0).0)) tt;
      deliveries = (each q x0).deliveries ∙ ap (deliveries_in 0) (at q x0).0;
      waits = (each q x0).waits ∙ ap (waits_in 0 0) (at q x0).0;
    } in
    let a = done.does bw fw p shows in
    let x = a.3.stands b.wirings start _ [] b.stands in
    let w0 : IsFor program [] 1 0 0 bw = b.wired 0 (omega arith) in
    let laid : IsBack program bw = record {
      tx = w0.tx;
      rx = w0.rx;
      table = w0.table;
      owners = w0.owners;
      granter = w0.granter;
      user = w0.user;
      port = w0.port;
      program = w0.program;
      ifindex = w0.ifindex;
      number = w0.number;
    } in
    let end : Pair = run bw fw p a.0 in
    let honest : Honest end = law program bw fw s start cons laid fresh.laid fresh.new small a.0 (fit_all called a.0 a.1 done.bytes) in
    let kept : AllKept (turns_of end.deeds) (kept_in r.report.turns.items 0) = subst (λ l. AllKept (turns_of end.deeds) (kept_in l 0)) (sym turns) a.2.turns in
    let arrived : delivered_in r.report.deliveries.items 0 ≡ deliveries_of 0 end.deeds = ap (λ l. delivered_in l 0) deliveries ∙ a.2.deliveries in
    let looked : waited_in r.report.waits.items 0 ≡ waits_of 0 0 end.deeds = ap (λ l. waited_in l 0) waits ∙ a.2.waits in
    let got : map bytes_in r.received.items ≡ end.received = ap (λ v. map bytes_in v.items) rec ∙ a.2.received in
    let traced : Traced bw start (items_of 0 x.0) end = subst (λ l. Traced bw start l end) (sym x.3) (a.4 start [] (opened_traced bw start p refl refl refl)) in
    record {
      back = bw;
      front = fw;
      back_laid = laid;
      front_laid = fresh.laid;
      state = s;
      new = fresh.new;
      events = a.0;
      called_are = a.1;
      calls = x.0;
      core = record { wirings = b.wirings; wired = b.wired; count = count; delivered = delivered; waited = waited; shapes = shapes ∙ a.3.shapes ∙ sh; tells = tells b.wirings start _ x.0 x.1 };
      alone = x.2;
      own = x.3;
      plain = λ h.
          let f = items_plain bw fw p called a.0 a.1 h in
          let all = calls_plain x.0 f.0 x.2 (x.3 ∙ f.1) in (
            steps_of (entries_of x.0),
            record {
              wirings = b.wirings;
              wired = b.wired;
              entries = entries_of x.0;
              steps_are = refl;
              count = count;
              delivered = delivered;
              waited = waited;
              shapes = shapes ∙ a.3.shapes ∙ sh;
              reports = reports b.wirings start _ (entries_of x.0) (subst (StandsFor new.world b.wirings start _) all x.1);
            },
            all,
          );
      acts = a.5 s [] (opened_acts fw p refl refl refl);
      faithful = logs bw fw p a.0;
      honest = honest;
      turns = kept;
      deliveries = arrived;
      waits = looked;
      received = got;
      delivers = delivers bw start (items_of 0 x.0) end (kept_in r.report.turns.items 0) (delivered_in r.report.deliveries.items 0) (waited_in r.report.waits.items 0) (map bytes_in r.received.items) traced honest kept arrived looked got;
    }
