-- A step of a lane, as its contract says it, is one of the turns that are under way side by side.
use Rattle.std.proofs.Common.{◌≡◌, ◌≢◌, ℕ, ◌+◌, ◌-◌, ◌/◌, ◌<◌, ◌≤◌, ◌⊎◌, Bool, true, false, List, [], ◌∷◌, ◌++◌, length, map, drop, refl, sym, ap, ◌∙◌, subst, arith}
use Rattle.std.specs.Prelude.{◌==◌, ◌||◌, nat_lt, Option, Some, if◌then◌else◌}
use Rattle.std.proofs.lemmas.Bool.Decides.{nat_tests}
use mathlib.Core.Logic.{inl, inr, ⊎_elim}
use Rattle.bpf_note.specs.declared.op.Op.{Op as Operation}
use Rattle.xen_netif.specs.declared.fragment.Fragment.{Fragment}
use Rattle.xen_steps.specs.Drive.{Any}
use Rattle.xen_steps.specs.Event.{Event}
use Rattle.xen_steps.specs.Finish.{Ends}
use Rattle.xen_steps.specs.Pages.{covered}
use Rattle.xen_turns.specs.Program.{event_of}
use Rattle.xen_turns.specs.Rest.{fragment_at}
use Rattle.xen_turns.specs.Tree.{whole_turn}
use Rattle.xen_turns.specs.declared.state.State.{State}
use Rattle.xen_turns.specs.declared.wiring.Wiring.{Wiring}
use Rattle.xen_host.specs.Asks.{TurnOver, did_all, did_by, read_by}
use Rattle.xen_host.specs.Asks as ask
use Rattle.xen_host.specs.Early.{at_rx, engine_at_rx, is_early, is_late}
use Rattle.xen_host.specs.EarlySteps.{is_answering, is_done}
use Rattle.xen_host.specs.EngineAt.{EngineAt, WorkAt}
use Rattle.xen_host.specs.LaneHosts.{said_by}
use Rattle.xen_host.specs.LaneKeeps.{LaneKeeps}
use Rattle.xen_host.specs.LaneSteps.{LaneGoes, did_own, goes_at, goes_on, index_behind, indexed, indexed_at, may_run}
use Rattle.xen_host.specs.Lanes.{IsLane, LaneAt, LaneMoves, StartsFrom, as_it_is, begun_at, did_in, held_at as stage_held, is_calm, is_filling, is_held, is_withheld, own, rest_of, with_rx, withheld}
use Rattle.xen_host.specs.Rest.{is_turning, reads_in}
use Rattle.xen_host.specs.Told.{IsToldAt}
use Rattle.xen_host.specs.UnderWay.{IsTurningAt, TurnGoesAt, between}
use Rattle.xen_host.specs.declared.op.HostOp.{HostOp}
use Rattle.xen_host.specs.declared.stage.Stage.{Stage}
use Rattle.xen_host.specs.declared.stage.Stage.TheVariants as stage
use Rattle.xen_host.proofs.EarlyLemmas.{late_not_early}
use Rattle.xen_host.proofs.LaneToldLemmas.{withheld_held}
use Rattle.xen_host.proofs.LanesCalmLemmas.{tell, two}
use Rattle.xen_host.proofs.LanesFreeLemmas.{early_free}
use Rattle.xen_host.proofs.LanesHaltLemmas.{all_no_read, did_no_read, goes_from, labels_no_read, read_few, reads_append, reads_of}
use Rattle.xen_host.proofs.LanesMovesLemmas.{did_said, lane_turning, moves_of, not_held, over_or_on}
use Rattle.xen_host.proofs.LanesPushedLemmas.{keeps_calm}
use Rattle.xen_host.proofs.LanesQuietLemmas.{RunsNone}
use Rattle.xen_host.proofs.LanesRowLemmas.{has_program}
use Rattle.xen_host.proofs.LanesStepLemmas.{starts_turning}

-- ---- stages

-- A lane that goes on is at a stage that it goes on from.
from_stage : (next : Bool) (g : Stage) (b : WorkAt) → (is_early g ≡ false → is_late g ≡ true) → goes_at next g b ≡ true → goes_from g ≡ true
from_stage next (stage.Slot left) b on h = refl
from_stage next (stage.Entry i at) b on h = refl
from_stage next (stage.Page i f frame) b on h = refl
from_stage next (stage.Fill f p) b on h = refl
from_stage next (stage.Respond i) b on h = refl
from_stage next stage.Ready b on h = cc h
from_stage next stage.Push b on h = cc h
from_stage next stage.Several b on h = cc h
from_stage next stage.Announce b on h = let f = on refl in cc f
from_stage next stage.Notice b on h = let f = on refl in cc f
from_stage next (stage.Deliver producer) b on h = let f = on refl in cc f
from_stage next (stage.Wait pages) b on h = let f = on refl in cc f
from_stage next (stage.WaitLook pages) b on h = let f = on refl in cc f

indexed_still : (x : ℕ) (g : Stage) (s : State) → may_run g ≡ false → indexed_at x g s ≡ s
indexed_still x stage.Ready s h = refl
indexed_still x stage.Announce s h = refl
indexed_still x (stage.Slot left) s h = refl
indexed_still x (stage.Entry i at) s h = cc h
indexed_still x (stage.Page i f frame) s h = cc h
indexed_still x (stage.Fill f p) s h = refl
indexed_still x (stage.Respond i) s h = refl
indexed_still x stage.Push s h = refl
indexed_still x stage.Notice s h = refl
indexed_still x (stage.Deliver producer) s h = refl
indexed_still x (stage.Wait pages) s h = refl
indexed_still x (stage.WaitLook pages) s h = refl
indexed_still x stage.Several s h = refl

indexed_set : (x : ℕ) (g : Stage) (s : State) → may_run g ≡ true → (indexed_at x g s ≡ at_rx x s) × (is_early g ≡ true)
indexed_set x (stage.Entry i at) s h = (refl, refl)
indexed_set x (stage.Page i f frame) s h = (refl, refl)
indexed_set x stage.Ready s h = cc h
indexed_set x stage.Announce s h = cc h
indexed_set x (stage.Slot left) s h = cc h
indexed_set x (stage.Fill f p) s h = cc h
indexed_set x (stage.Respond i) s h = cc h
indexed_set x stage.Push s h = cc h
indexed_set x stage.Notice s h = cc h
indexed_set x (stage.Deliver producer) s h = cc h
indexed_set x (stage.Wait pages) s h = cc h
indexed_set x (stage.WaitLook pages) s h = cc h
indexed_set x stage.Several s h = cc h

-- the index behind what was sent
index_still : (x : ℕ) (g : Stage) (s : State) → is_filling g ≡ false → index_behind x g s ≡ x
index_still x stage.Ready s h = refl
index_still x stage.Announce s h = refl
index_still x (stage.Slot left) s h = refl
index_still x (stage.Entry i at) s h = refl
index_still x (stage.Page i f frame) s h = refl
index_still x (stage.Fill f p) s h = cc h
index_still x (stage.Respond i) s h = refl
index_still x stage.Push s h = refl
index_still x stage.Notice s h = refl
index_still x (stage.Deliver producer) s h = refl
index_still x (stage.Wait pages) s h = refl
index_still x (stage.WaitLook pages) s h = refl
index_still x stage.Several s h = refl

index_sent : (x : ℕ) (g : Stage) (s : State) → is_filling g ≡ true → index_behind x g s ≡ s.rx_index
index_sent x (stage.Fill f p) s h = refl
index_sent x stage.Ready s h = cc h
index_sent x stage.Announce s h = cc h
index_sent x (stage.Slot left) s h = cc h
index_sent x (stage.Entry i at) s h = cc h
index_sent x (stage.Page i f frame) s h = cc h
index_sent x (stage.Respond i) s h = cc h
index_sent x stage.Push s h = cc h
index_sent x stage.Notice s h = cc h
index_sent x (stage.Deliver producer) s h = cc h
index_sent x (stage.Wait pages) s h = cc h
index_sent x (stage.WaitLook pages) s h = cc h
index_sent x stage.Several s h = cc h

not_done : (g : Stage) → goes_from g ≡ true → is_done g ≡ false
not_done (stage.Slot left) h = refl
not_done (stage.Entry i at) h = refl
not_done (stage.Page i f frame) h = refl
not_done (stage.Fill f p) h = refl
not_done (stage.Respond i) h = refl
not_done stage.Ready h = cc h
not_done stage.Push h = cc h
not_done stage.Several h = cc h
not_done stage.Announce h = cc h
not_done stage.Notice h = cc h
not_done (stage.Deliver producer) h = cc h
not_done (stage.Wait pages) h = cc h
not_done (stage.WaitLook pages) h = cc h

-- it answers, if it neither reads nor sends
answers_else : (g : Stage) → goes_from g ≡ true → is_early g ≡ false → is_filling g ≡ false → is_answering g ≡ true
answers_else (stage.Respond i) h e f = refl
answers_else (stage.Slot left) h e f = cc e
answers_else (stage.Entry i at) h e f = cc e
answers_else (stage.Page i fragment frame) h e f = cc e
answers_else (stage.Fill g p) h e f = cc f
answers_else stage.Ready h e f = cc h
answers_else stage.Push h e f = cc h
answers_else stage.Several h e f = cc h
answers_else stage.Announce h e f = cc h
answers_else stage.Notice h e f = cc h
answers_else (stage.Deliver producer) h e f = cc h
answers_else (stage.Wait pages) h e f = cc h
answers_else (stage.WaitLook pages) h e f = cc h

some_covered : (f : Fragment) → 0 < f.size → covered f ≢ 0
some_covered f h e = by (f.size == 0) refl e
  where
    by : (b : Bool) → (f.size == 0) ≡ b → (if b then 0 else (f.offset + f.size - 1) / 4 + 1 - f.offset / 4) ≡ 0 → ⊥
    by true i e = let z : f.size ≡ 0 = grind (arith, nat_tests) in absurd (omega (arith, z, h))
    by false i e = absurd (omega (arith, e, h))

only : (a b : Bool) → b ≡ false → (a || b) ≡ true → a ≡ true
only true b e h = refl
only false b e h = let f = sym e ∙ h in cc f

-- Which steps run no program.
none_runs : (next : Bool) (g : Stage) (b : WorkAt) → goes_from g ≡ true → is_filling g ≡ false → (may_run g ≡ true → next ≡ false) → goes_at next g b ≡ true → RunsNone g b
none_runs next (stage.Slot left) b from f n h = tt
none_runs next (stage.Entry i at) b from f n h =
    let l = only (nat_lt 0 (fragment_at b.fragments i).size) next (n refl) h in
    let some : 0 < (fragment_at b.fragments i).size = grind (arith, nat_tests) in some_covered (fragment_at b.fragments i) some
none_runs next (stage.Page i fragment frame) b from f n h =
    let l = only (nat_lt i (length b.fragments)) next (n refl) h in grind (arith, nat_tests)
none_runs next (stage.Respond i) b from f n h = tt
none_runs next (stage.Fill g p) b from f n h = cc f
none_runs next stage.Ready b from f n h = cc from
none_runs next stage.Push b from f n h = cc from
none_runs next stage.Several b from f n h = cc from
none_runs next stage.Announce b from f n h = cc from
none_runs next stage.Notice b from f n h = cc from
none_runs next (stage.Deliver producer) b from f n h = cc from
none_runs next (stage.Wait pages) b from f n h = cc from
none_runs next (stage.WaitLook pages) b from f n h = cc from

-- what is over is at rest
pub over_stage : (s : State) (g : Stage) → between s g ≡ Some s → (stage_held g ≡ false) × (is_early g ≡ false)
over_stage s stage.Ready e = (refl, refl)
over_stage s stage.Announce e = cc e
over_stage s (stage.Slot left) e = cc e
over_stage s (stage.Entry i at) e = cc e
over_stage s (stage.Page i f frame) e = cc e
over_stage s (stage.Fill f p) e = cc e
over_stage s (stage.Respond i) e = cc e
over_stage s stage.Push e = cc e
over_stage s stage.Notice e = cc e
over_stage s (stage.Deliver producer) e = cc e
over_stage s (stage.Wait pages) e = cc e
over_stage s (stage.WaitLook pages) e = cc e
over_stage s stage.Several e = cc e

-- ---- the step

module _ (w : Wiring) (completes : (s : State) → Ends Any (whole_turn w s)) (apart : w.vif.tx ≢ w.vif.rx) (look before : List Event) (none : has_program look ≡ false)
    (next held_before : Bool) (only_next : held_before ≡ false → next ≡ false) (rx rx_after : ℕ) (l : LaneAt) (new : EngineAt) (went : List (Option Operation) → Type 0) (place limit : ℕ)
    (ops ops_after : List HostOp) (count count_after : ℕ) (lent lent_after : List ℕ) (lane : IsLane w look before l)
    (at : is_calm w before ≡ false → is_filling l.engine.stage ≡ false → rx ≡ l.engine.state.rx_index) (goes_is : goes_on next l.engine ≡ true) (index : rx_after ≡ index_behind rx l.engine.stage new.state)
    (goes : LaneGoes went place limit (indexed rx l.engine) new ops ops_after count count_after lent lent_after) where
  abbrev old : EngineAt
  old = indexed rx l.engine

  abbrev pub stepped_reads : List Event
  stepped_reads = read_by l.asked (drop place lent)

  -- what it made, but for the push that is withheld
  abbrev pub stepped_events : List Event
  stepped_events = stepped_reads ++ (map event_of goes.labels ++ did_in (said_by w.vif.tx (goes.first ++ goes.last ∷ [])) (drop place lent_after))

  from : goes_from l.engine.stage ≡ true
  from = from_stage next l.engine.stage l.engine.work lane.on goes_is

  abbrev pub begun : State
  begun = if may_run l.engine.stage then begun_at w rx before l.began else l.began

  starts_by : (b : Bool) → may_run l.engine.stage ≡ b → (events : List Event) → (b ≡ false → is_calm w before ≡ true → is_filling l.engine.stage ≡ false → is_calm w events ≡ true) →
      StartsFrom w rx before l events old (if b then begun_at w rx before l.began else l.began)
  starts_by true run events calm =
      let i = indexed_set rx l.engine.stage l.engine.state run in
      subst (λ q. StartsFrom w rx before l events (record l.engine { state = q }) (begun_at w rx before l.began)) (sym i.0) (with_rx i.1)
  starts_by false run events calm =
      subst (λ q. StartsFrom w rx before l events (record l.engine { state = q }) l.began) (sym (indexed_still rx l.engine.stage l.engine.state run)) (as_it_is (calm refl))

  turning : is_turning l.engine.stage ≡ true
  turning = lane_turning w look before l lane from

  token : IsTurningAt old begun (look ++ before) l.asked
  token = starts_turning w look before rx l [] old begun lane at (starts_by (may_run l.engine.stage) refl [] (λ r c f. refl)) turning (not_held l.engine from)

  wires : new.wires ≡ w
  wires = goes.wires ∙ lane.wires

  same : stepped_reads ++ (map event_of goes.labels ++ did_own place goes.first goes.last lent_after) ≡ stepped_events ++ withheld w goes.last
  same = did_said w stepped_reads (map event_of goes.labels) goes.first goes.last (drop place lent_after) goes.asks.take_none

  turn : (s : State) (trace : List Event) → IsTurningAt old s trace l.asked → TurnGoesAt new goes.last s (trace ++ (stepped_events ++ withheld w goes.last))
  turn s trace t = subst (λ q. TurnGoesAt new goes.last s (trace ++ q)) same (goes.turn s trace l.asked t)

  few : reads_of (stepped_events ++ withheld w goes.last) ≤ reads_in l.engine.stage
  few =
      let own = did_own place goes.first goes.last lent_after in
      let whole = ap reads_of (sym same) in
      let a = reads_append stepped_reads (map event_of goes.labels ++ own) in
      let b = reads_append (map event_of goes.labels) own in
      let c = reads_append (did_all goes.first (drop place lent_after)) (did_by goes.last (drop place lent_after)) in
      let d = read_few l.asked (reads_in l.engine.stage) (rest_of old) (drop place lent) token.waits in
      omega (arith, whole, a, b, c, d, labels_no_read goes.labels, all_no_read goes.first (drop place lent_after), did_no_read goes.last (drop place lent_after))

  there : TurnGoesAt new goes.last begun ((look ++ before) ++ (stepped_events ++ withheld w goes.last))
  there = turn begun (look ++ before) token

  held : is_withheld w goes.last ≡ is_held new
  held =
      ⊎_elim
      (λ k.
      let over : TurnGoesAt new (TurnOver k.0) begun ((look ++ before) ++ (stepped_events ++ withheld w goes.last)) = subst (λ a. TurnGoesAt new a begun ((look ++ before) ++ (stepped_events ++ withheld w goes.last))) k.1 there in
      ap (is_withheld w) k.1 ∙ sym (over_stage new.state new.stage over.1).0)
      (λ go.
      let apart_new : new.wires.vif.tx ≢ new.wires.vif.rx = λ e. apart (ap (λ (q : Wiring). q.vif.tx) (sym wires) ∙ e ∙ ap (λ (q : Wiring). q.vif.rx) wires) in
      let told : IsToldAt new.wires.vif.table.now new.stage goes.last = subst (λ (q : Wiring). IsToldAt q.vif.table.now new.stage goes.last) (sym goes.wires) goes.asks.told in
      subst (λ q. is_withheld q goes.last ≡ stage_held new.stage) wires
      (withheld_held new goes.last begun ((look ++ before) ++ (stepped_events ++ withheld w goes.last)) apart_new told (go new begun ((look ++ before) ++ (stepped_events ++ withheld w goes.last)) there)))
      (over_or_on goes.last)

  on : is_early new.stage ≡ false → is_late new.stage ≡ true
  on late = ⊎_elim (λ e. goes.on e late) (λ e. goes.late (lane.on e) (not_done l.engine.stage from)) (tell (is_early l.engine.stage))

  calm : RunsNone l.engine.stage l.engine.work → is_calm w stepped_events ≡ true
  calm quiet = keeps_calm w old new begun (look ++ before) stepped_events l.asked goes.last lane.wires wires apart quiet token there few held on

  not_over : is_early new.stage ≡ true → IsTurningAt new begun ((look ++ before) ++ (stepped_events ++ withheld w goes.last)) goes.last
  not_over early =
      ⊎_elim
      (λ k.
      let over : TurnGoesAt new (TurnOver k.0) begun ((look ++ before) ++ (stepped_events ++ withheld w goes.last)) = subst (λ a. TurnGoesAt new a begun ((look ++ before) ++ (stepped_events ++ withheld w goes.last))) k.1 there in
      two (is_early new.stage) early (over_stage new.state new.stage over.1).1)
      (λ go. go new begun ((look ++ before) ++ (stepped_events ++ withheld w goes.last)) there) (over_or_on goes.last)

  late : is_early l.engine.stage ≡ false → is_early new.stage ≡ false
  late e = late_not_early new.stage (goes.late (lane.on e) (not_done l.engine.stage from))

  keeps : LaneKeeps w held_before l.asked old new (stepped_events ++ withheld w goes.last) stepped_events goes.last
  keeps = record {
    on = on;
    late = late;
    rx = λ f g. ⊎_elim (λ e. goes.rx e) (λ e. goes.answers (answers_else l.engine.stage from e f)) (tell (is_early l.engine.stage));
    free = λ early x s trace t.
        let was : is_early l.engine.stage ≡ true = ⊎_elim (λ e. e) (λ e. two (is_early new.stage) early (late e)) (tell (is_early l.engine.stage)) in
        let rest = map event_of goes.labels ++ did_own place goes.first goes.last lent_after in
        subst (λ q. IsTurningAt (engine_at_rx x new) (at_rx x s) (trace ++ q) goes.last) same
        (early_free old.wires old new begun (look ++ before) rest l.asked goes.last (drop place lent) refl goes.wires was early goes.below goes.all (goes.early was early) token
        (subst (λ q. IsTurningAt new begun ((look ++ before) ++ q) goes.last) (sym same) (not_over early)) x s trace t);
    calm = λ f n. calm (none_runs next l.engine.stage l.engine.work from f (λ m. only_next (n m)) goes_is);
  }

  pub starts : StartsFrom w rx before l stepped_events old begun
  starts = starts_by (may_run l.engine.stage) refl stepped_events
      (λ r c f. calm (none_runs next l.engine.stage l.engine.work from f (λ m. two (may_run l.engine.stage) m r) goes_is))

  pub lane_moves : LaneMoves w held_before rx rx_after before l.asked old new stepped_events goes.last
  lane_moves =
      moves_of w look before stepped_events held_before rx rx_after l old new begun goes.last completes none lane at starts from goes.wires turn few held
      (λ f. index ∙ index_sent rx l.engine.stage new.state f) (λ f. index ∙ index_still rx l.engine.stage new.state f) keeps
