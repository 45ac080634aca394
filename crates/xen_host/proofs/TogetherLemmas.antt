-- Several turns side by side, between two calls and after each has gone on.
use Rattle.std.proofs.Common.{◌≡◌, ℕ, zero, suc, ◌<◌, ◌≤◌, ◌+◌, ◌&&◌, ◌⊎◌, inl, inr, true, List, [], ◌∷◌, ◌++◌, Some, Option, length, take, drop, map, refl, sym, ap, ◌∙◌, subst, append-nil, arith}
use Rattle.std.specs.Prelude.{Bool, IsSome, set, slice_get, slice_index_or}
use Rattle.bpf_note.specs.declared.op.Op.{Op as Operation}
use Rattle.xdp_program.specs.Tallies.{Went}
use Rattle.xen_steps.specs.Event.{Event}
use Rattle.xen_steps.specs.Event as event
use Rattle.xen_rx_fill.specs.Places.{tx_word}
use Rattle.xen_steps.specs.Steps.{Steps}
use Rattle.xen_steps.proofs.FinishLemmas.{finishes_gone}
use Rattle.xen_turns.specs.Tree.{whole_turn}
use Rattle.xen_turns.specs.Turned.{Ending}
use Rattle.xen_turns.specs.Within.{TurnsComplete, may_want}
use Rattle.xen_turns.specs.Woven.{Made, of_turn}
use Rattle.xen_turns.specs.declared.state.State.{State}
use Rattle.xen_turns.specs.declared.wiring.Wiring.{Wiring}
use Rattle.xen_host.specs.Asks.{Ask, DeliveryOver, Entry, Notify, Push, Read, Store, StoreTwo, TurnOver, WaitOver, Write}
use Rattle.xen_host.specs.Completing.{TaskCompletes}
use Rattle.xen_host.specs.EngineAt.{EngineAt}
use Rattle.xen_host.specs.LaneSteps.{lane_at}
use Rattle.xen_host.specs.Lanes.{AreFrom, EndsPast, IsLane, LaneAt, is_held, rx_behind, withheld}
use Rattle.xen_host.specs.LentWords.{lent_words}
use Rattle.xen_host.specs.Queues.{wired_to, wiring}
use Rattle.xen_host.specs.Rest.{rest_in}
use Rattle.xen_host.specs.SeveralFits.{AllFit, WorkFits}
use Rattle.xen_host.specs.Severals.{AreRead, AreTogether, AreUnderWay, GoneTogether, Group, IsGroup, IsGroupAt, ahead_of, gone_by, lanes_of, look_of}
use Rattle.xen_host.specs.Stands.{Stands}
use Rattle.xen_host.specs.Sweeps.{HaveStepped, sweep_at}
use Rattle.xen_host.specs.UnderWay.{IsTurningAt, TurnGoesAt}
use Rattle.xen_host.specs.Wired.{wiring_of}
use Rattle.xen_host.specs.declared.engine.Engine.{Engine}
use Rattle.xen_host.specs.declared.lane.Lane.{Lane}
use Rattle.xen_host.specs.declared.lane_host.LaneHost.{LaneHost}
use Rattle.xen_host.specs.declared.queue.Queue.{Queue}
use Rattle.xen_host.specs.declared.several.Phase.{Phase}
use Rattle.xen_host.specs.declared.several.Phase.TheVariants as phase
use Rattle.xen_host.specs.declared.stage.Stage.TheVariants as stage
use Rattle.xen_host.specs.declared.wires.OwnedWiring.{OwnedWiring}
use Rattle.xen_host.proofs.EndLemmas.{ready_task, turn_task}
use Rattle.xen_host.proofs.EngineLemmas.{ready_at}
use Rattle.xen_host.proofs.SweepLemmas.{AreLanesNow, GoesOnward, SoFar, got_mapped, mapped_get, taken_get}
use Rattle.xen_host.proofs.SweepStepLemmas.{steps_on}

-- ---- what each rests on

over_or_turning : (e : EngineAt) (a : Ask) (s : State) (t : List Event) → TurnGoesAt e a s t → (e.stage ≡ stage.Ready) ⊎ IsTurningAt e s t a
over_or_turning e (TurnOver k) s t g = inl (ready_at e (subst (λ (o : Option State). IsSome o) (sym g.1) refl))
over_or_turning e (Read at count) s t g = inr g
over_or_turning e (Entry at reference rights) s t g = inr g
over_or_turning e (Write at count) s t g = inr g
over_or_turning e (Store at word) s t g = inr g
over_or_turning e (StoreTwo at x y) s t g = inr g
over_or_turning e (Push at word read) s t g = inr g
over_or_turning e (Notify port) s t g = inr g
over_or_turning e (DeliveryOver what) s t g = inr g
over_or_turning e (WaitOver what) s t g = inr g

task_of : (w : Wiring) (look events : List Event) (l : LaneAt) → IsLane w look events l → TurnsComplete l.engine.wires → TaskCompletes l.engine.wires l.engine.state l.engine.stage l.engine.work
task_of w look events l i turns = by (over_or_turning l.engine l.asked l.began (look ++ (events ++ withheld w l.asked)) i.going)
  where
    e : EngineAt
    e = l.engine

    trace : List Event
    trace = look ++ (events ++ withheld w l.asked)

    by : (e.stage ≡ stage.Ready) ⊎ IsTurningAt e l.began trace l.asked → TaskCompletes e.wires e.state e.stage e.work
    by (inl ready) = ready_task e.wires e.state e.stage e.work ready
    by (inr t) = turn_task e.wires e.state e.stage e.work t.is_here (finishes_gone (may_want e.wires) (whole_turn e.wires l.began) (rest_in e.wires e.state e.stage e.work) trace (turns l.began) t.gone)

pub lane_in : (w : Wiring) (p : ℕ) (ends : Steps Ending → Type 0) (k x : ℕ) (held : Bool) (look : List Event) (lanes : List LaneAt) (made : List Made) → AreFrom w p ends k x held look lanes made → (j : ℕ) (l : LaneAt) →
    slice_get lanes j ≡ Some l → (here : List Event) × (events : List Event) × IsLane w here events l
lane_in w p ends k x held look [] made h j l e = absurd (cc e)
lane_in w p ends k x held look (a ∷ more) made h zero l e = let same : Some a ≡ Some l = e in let is : a ≡ l = cc same in subst (λ (y : LaneAt). (here : List Event) × (events : List Event) × IsLane w here events y) is (look, of_turn k made, h.0.lane)
lane_in w p ends k x held look (a ∷ more) made h (suc j) l e =
    lane_in w p ends (k + 1) (rx_behind w x (of_turn k made) a) (held && is_held a.engine) (event.Read (tx_word w.vif 0) p ∷ []) more made h.1 j l e

-- each of them fits
pub all_fit : (l : List Lane) → ((i : ℕ) (e : Lane) → i < length l → WorkFits (slice_index_or l i e)) → AllFit l
all_fit [] h = tt
all_fit (a ∷ l) h = (h 0 a (omega arith), all_fit l (λ i e g. h (suc i) e (omega (arith, g))))

-- one of them is another
pub fit_set : (lanes : List Lane) → AllFit lanes → (k : ℕ) (x : Lane) → WorkFits x → AllFit (set lanes k x)
fit_set [] h k x f = tt
fit_set (a ∷ more) h zero x f = (f, h.1)
fit_set (a ∷ more) h (suc k) x f = (h.0, fit_set more h.1 k x f)

pub fit_at : (lanes : List Lane) → AllFit lanes → (j : ℕ) (l : Lane) → slice_get lanes j ≡ Some l → WorkFits l
fit_at [] h j l e = absurd (cc e)
fit_at (a ∷ more) h zero l e = let same : Some a ≡ Some l = e in let is : a ≡ l = cc same in subst (λ (y : Lane). WorkFits y) is h.0
fit_at (a ∷ more) h (suc j) l e = fit_at more h.1 j l e

stand_in : (q : Queue) (g : Group) → AreUnderWay q g → (j : ℕ) (l : Lane) → j < q.several.count → slice_get q.several.lanes j ≡ Some l → Stands (lane_at (wiring q) l)
stand_in q g t j l h e =
    let w = wiring q in
    let there = mapped_get (lane_at w) j (take q.several.count q.several.lanes) l (taken_get q.several.count j q.several.lanes h ∙ e) in
    let at = got_mapped (λ l. l.engine) j t.lanes (lane_at w l) (ap (λ (x : List EngineAt). slice_get x j) t.engines ∙ there) in
    let i = lane_in w g.producer (EndsPast g.state.tx_index (ahead_of g)) 0 g.state.rx_index true (look_of w g) t.lanes g.made t.are.from j at.0 at.1 in
    let left = subst (λ (x : EngineAt). TurnsComplete x.wires → TaskCompletes x.wires x.state x.stage x.work) at.2 (task_of w i.0 i.1 at.0 i.2) in
    record { fits = fit_at q.several.lanes q.side.lanes j l e; wired = q.wired; turns = q.turns; left = left q.turns }

-- ---- a step of each

pub under_way : (q : Queue) (g : Group) → q.several.phase ≡ phase.Lanes → AreTogether q g → AreUnderWay q g
under_way q g e t = subst (λ (p : Phase). IsGroupAt p q g) e t.at

so_far : {C : Type 0} (did : Operation → C → C → Type 0) (q : Queue) (g : Group) (counters : C) (host : LaneHost) → host.count ≡ 0 → AreUnderWay q g →
    SoFar did (wiring q) g q.several.count q.several.held (sweep_at q.several q.several.held counters host) (sweep_at q.several q.several.held counters host)
so_far did q g counters host none t = record {
  dids = [];
  lanes = t.lanes;
  engines = t.engines;
  asks = t.asks;
  are = subst (λ (m : List Made). AreLanesNow did (wiring q) g t.lanes q.several.rx_index m) (sym (append-nil g.made)) t.are;
  held = t.held;
  up = omega arith;
  before = tt;
  read = tt;
  asked = tt;
  said = sym (ap (λ n. drop n host.ops.now) none);
  counted = none;
  history = refl;
  lent = refl;
  stand = stand_in q g t;
}

pub stepped_together : {C : Type 0} (did : Operation → C → C → Type 0) (old new : Queue) (counters counters_after : C) (host host_after : LaneHost) (limit n : ℕ) (g : Group) → old.several.phase ≡ phase.Lanes → new.several.phase ≡ phase.Lanes → wired_to new ≡ wired_to old →
    new.engine ≡ old.engine → new.several.count ≡ old.several.count → host.count ≡ 0 → old.several.held + n ≤ old.several.count → GoesOnward did (wiring old) g →
    HaveStepped did (wiring old) limit old.several.held n (sweep_at old.several old.several.held counters host) (sweep_at new.several new.several.held counters_after host_after) →
    AreTogether old g → GoneTogether (Went did counters counters_after) old new (lent_words host.words.now) (lent_words host_after.words.now) host.ops.now host_after.ops.now host_after.count g
stepped_together did old new counters counters_after host host_after limit n g lanes lanes_after wires engine count none few onward s t =
    let u = under_way old g lanes t in
    let f = steps_on did (wiring old) g old.several.count limit old.several.held onward n (sweep_at old.several old.several.held counters host) (sweep_at old.several old.several.held counters host) (sweep_at new.several new.several.held counters_after host_after) few s
    (so_far did old g counters host none u) in
    let w_is : wiring new ≡ wiring old = ap (λ (x : OwnedWiring). wiring_of x) wires in
    let g' = gone_by phase.Lanes (wiring old) g (lent_words host_after.words.now) f.dids in
    let phase_back : Phase → Type 0 = λ p. AreTogether new (gone_by p (wiring old) g (lent_words host_after.words.now) f.dids) in
    let engines : map (λ l. l.engine) f.lanes ≡ lanes_of new = f.engines ∙ ap (λ (k : ℕ). map (lane_at (wiring old)) (take k new.several.lanes)) (sym count) ∙ ap (λ (x : Wiring). map (lane_at x) (take new.several.count new.several.lanes)) (sym w_is) in
    let on : AreUnderWay new g' = record {
      lanes = f.lanes;
      engines = engines;
      asks = f.asks;
      are = subst (λ (x : Wiring). AreLanesNow did x g f.lanes new.several.rx_index g'.made) (sym w_is) f.are;
      few = subst (λ (k : ℕ). k ≤ g.most) (sym count) u.few;
      held = f.held;
    } in
    let group : IsGroup new g' = record {
      stage = ap (λ (e : Engine). e.stage) engine ∙ t.group.stage;
      state = ap (λ (e : Engine). e.state) engine ∙ t.group.state;
      live = t.group.live;
      small = t.group.small;
      some = t.group.some;
      ring = t.group.ring;
      many = t.group.many;
      few = t.group.few;
    } in
    record {
      dids = f.dids;
      read = subst (λ (p : Phase). AreRead p (wiring old) g (lent_words host.words.now) f.dids) (sym lanes) f.read;
      history = f.history;
      asked = f.asked;
      said = f.said;
      counted = f.counted;
      phase_is = lanes_after;
      together = subst phase_back (sym lanes) (record { group = group; at = subst (λ (p : Phase). IsGroupAt p new g') (sym lanes_after) on });
    }
