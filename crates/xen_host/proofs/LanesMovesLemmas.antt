-- A step of one of several turns is one of the turns that are under way side by side.
use Rattle.std.proofs.Common.{◌≡◌, ℕ, ◌+◌, ◌≤◌, ◌⊎◌, Bool, true, false, List, [], ◌∷◌, ◌++◌, refl, sym, ap, ◌∙◌, subst, append-nil, append_assoc}
use Rattle.std.specs.Prelude.{◌==◌, ◌&&◌, not, None, Some, if◌then◌else◌}
use mathlib.Core.Logic.{inl, inr, ⊎_elim}
use Rattle.xen_steps.specs.Drive.{Any}
use Rattle.xen_steps.specs.Event.{Event}
use Rattle.xen_steps.specs.Finish.{Ends}
use Rattle.xen_turns.specs.Tree.{whole_turn}
use Rattle.xen_turns.specs.declared.state.State.{State}
use Rattle.xen_turns.specs.declared.turn.Kind.{Kind}
use Rattle.xen_turns.specs.declared.wiring.Wiring.{Wiring}
use Rattle.xen_host.specs.Asks.{Ask, TakeNone, TurnOver, did_all, did_by}
use Rattle.xen_host.specs.Asks as ask
use Rattle.xen_host.specs.Early.{is_early}
use Rattle.xen_host.specs.EngineAt.{EngineAt}
use Rattle.xen_host.specs.LaneHosts.{said_by}
use Rattle.xen_host.specs.LaneKeeps.{LaneKeeps}
use Rattle.xen_host.specs.Lanes.{held_at as held_stage, IsLane, LaneAt, LaneMoves, StartsFrom, as_it_is, did_in, is_calm, is_filling, is_held, is_withheld, with_rx, withheld}
use Rattle.xen_host.specs.Rest.{is_turning, reads_in}
use Rattle.xen_host.specs.UnderWay.{IsTurningAt, TurnGoesAt, between}
use Rattle.xen_host.specs.declared.stage.Stage.{Stage}
use Rattle.xen_host.specs.declared.stage.Stage.TheVariants as stage
use Rattle.xen_host.proofs.LanesCalmLemmas.{calm_both, calm_parts, tell, two}
use Rattle.xen_host.proofs.LanesFillLemmas.{filling_ran}
use Rattle.xen_host.proofs.LanesHaltLemmas.{goes_from, over_halts, reads_of}
use Rattle.xen_host.proofs.LanesRowLemmas.{calm_program, has_program, program_none}
use Rattle.xen_host.proofs.LanesStepLemmas.{same_halt, same_stage, same_wires, starts_turning}
use Rattle.xen_host.proofs.LanesOverLemmas.{over_ready}

-- ---- what was said, and what was withheld

-- of the asks that take no answer all are said
none_kept : (tx : ℕ) (first : List Ask) (last : Ask) → TakeNone first → said_by tx (first ++ last ∷ []) ≡ first ++ said_by tx (last ∷ [])
none_kept tx [] last h = refl
none_kept tx (ask.Write at count ∷ first) last h = ap (λ l. ask.Write at count ∷ l) (none_kept tx first last h.1)
none_kept tx (ask.Store at word ∷ first) last h = ap (λ l. ask.Store at word ∷ l) (none_kept tx first last h.1)
none_kept tx (ask.StoreTwo at x y ∷ first) last h = ap (λ l. ask.StoreTwo at x y ∷ l) (none_kept tx first last h.1)
none_kept tx (ask.Notify port ∷ first) last h = ap (λ l. ask.Notify port ∷ l) (none_kept tx first last h.1)
none_kept tx (ask.Read at count ∷ first) last h = let e = h.0 in cc e
none_kept tx (ask.Entry at reference rights ∷ first) last h = let e = h.0 in cc e
none_kept tx (ask.Push at word read ∷ first) last h = let e = h.0 in cc e
none_kept tx (ask.TurnOver k ∷ first) last h = let e = h.0 in cc e
none_kept tx (ask.DeliveryOver what ∷ first) last h = let e = h.0 in cc e
none_kept tx (ask.WaitOver what ∷ first) last h = let e = h.0 in cc e

did_append : (first more : List Ask) (lent : List ℕ) → did_in (first ++ more) lent ≡ did_all first lent ++ did_in more lent
did_append [] more lent = refl
did_append (a ∷ first) more lent = ap (λ l. did_by a lent ++ l) (did_append first more lent) ∙ sym (append_assoc (did_by a lent) (did_all first lent) (did_in more lent))

-- the last is said, or withheld, or makes nothing
last_did : (w : Wiring) (a : Ask) (lent : List ℕ) → did_by a lent ≡ did_in (said_by w.vif.tx (a ∷ [])) lent ++ withheld w a
last_did w (ask.Push at word read) lent = by ((at.frame == w.vif.tx) && (at.word == 2))
  where
    by : (b : Bool) → did_by (ask.Push at word read) lent ≡ did_in (if not b then ask.Push at word read ∷ [] else []) lent ++ (if b then did_by (ask.Push at word read) [] else [])
    by true = refl
    by false = refl
last_did w (ask.Write at count) lent = sym (append-nil (did_by (ask.Write at count) lent ++ []) ∙ append-nil (did_by (ask.Write at count) lent))
last_did w (ask.Store at word) lent = refl
last_did w (ask.StoreTwo at x y) lent = refl
last_did w (ask.Notify port) lent = refl
last_did w (ask.Read at count) lent = refl
last_did w (ask.Entry at reference rights) lent = refl
last_did w (ask.TurnOver k) lent = refl
last_did w (ask.DeliveryOver what) lent = refl
last_did w (ask.WaitOver what) lent = refl

-- All that a step did is what was said, and what was withheld.
pub did_said : (w : Wiring) (reads ran : List Event) (first : List Ask) (last : Ask) (lent : List ℕ) → TakeNone first →
    reads ++ (ran ++ (did_all first lent ++ did_by last lent)) ≡ (reads ++ (ran ++ did_in (said_by w.vif.tx (first ++ last ∷ [])) lent)) ++ withheld w last
did_said w reads ran first last lent none =
    let said : did_in (said_by w.vif.tx (first ++ last ∷ [])) lent ≡ did_all first lent ++ did_in (said_by w.vif.tx (last ∷ [])) lent =
    ap (λ l. did_in l lent) (none_kept w.vif.tx first last none) ∙ did_append first (said_by w.vif.tx (last ∷ [])) lent in
    let one : did_all first lent ++ did_by last lent ≡ did_in (said_by w.vif.tx (first ++ last ∷ [])) lent ++ withheld w last =
    ap (λ l. did_all first lent ++ l) (last_did w last lent) ∙ sym (append_assoc (did_all first lent) (did_in (said_by w.vif.tx (last ∷ [])) lent) (withheld w last))
    ∙ ap (λ l. l ++ withheld w last) (sym said) in
    ap (λ l. reads ++ (ran ++ l)) one ∙ ap (λ l. reads ++ l) (sym (append_assoc ran (did_in (said_by w.vif.tx (first ++ last ∷ [])) lent) (withheld w last)))
    ∙ sym (append_assoc reads (ran ++ did_in (said_by w.vif.tx (first ++ last ∷ [])) lent) (withheld w last))

-- ---- the move

pub withheld_program : (w : Wiring) (a : Ask) → has_program (withheld w a) ≡ false
withheld_program w (ask.Push at word read) = by ((at.frame == w.vif.tx) && (at.word == 2))
  where
    by : (b : Bool) → has_program (if b then did_by (ask.Push at word read) [] else []) ≡ false
    by true = refl
    by false = refl
withheld_program w (ask.Write at count) = refl
withheld_program w (ask.Store at word) = refl
withheld_program w (ask.StoreTwo at x y) = refl
withheld_program w (ask.Notify port) = refl
withheld_program w (ask.Read at count) = refl
withheld_program w (ask.Entry at reference rights) = refl
withheld_program w (ask.TurnOver k) = refl
withheld_program w (ask.DeliveryOver what) = refl
withheld_program w (ask.WaitOver what) = refl

pub over_or_on : (a : Ask) → ((k : Kind) × (a ≡ TurnOver k)) ⊎ ((e : EngineAt) (s : State) (t : List Event) → TurnGoesAt e a s t → IsTurningAt e s t a)
over_or_on (ask.TurnOver k) = inl (k, refl)
over_or_on (ask.Read at count) = inr (λ e s t g. g)
over_or_on (ask.Entry at reference rights) = inr (λ e s t g. g)
over_or_on (ask.Write at count) = inr (λ e s t g. g)
over_or_on (ask.Store at word) = inr (λ e s t g. g)
over_or_on (ask.StoreTwo at x y) = inr (λ e s t g. g)
over_or_on (ask.Push at word read) = inr (λ e s t g. g)
over_or_on (ask.Notify port) = inr (λ e s t g. g)
over_or_on (ask.DeliveryOver what) = inr (λ e s t g. g)
over_or_on (ask.WaitOver what) = inr (λ e s t g. g)

not_ready : (s : State) (g : Stage) → goes_from g ≡ true → between s g ≡ Some s → ⊥
not_ready s stage.Ready h e = cc h
not_ready s stage.Announce h e = cc e
not_ready s (stage.Slot left) h e = cc e
not_ready s (stage.Entry i at) h e = cc e
not_ready s (stage.Page i f frame) h e = cc e
not_ready s (stage.Fill f purpose) h e = cc e
not_ready s (stage.Respond i) h e = cc e
not_ready s stage.Push h e = cc e
not_ready s stage.Notice h e = cc e
not_ready s (stage.Deliver producer) h e = cc e
not_ready s (stage.Wait pages) h e = cc e
not_ready s (stage.WaitLook pages) h e = cc e
not_ready s stage.Several h e = cc e

pub not_held : (e : EngineAt) → goes_from e.stage ≡ true → is_held e ≡ false
not_held e h = ⊎_elim (λ a. by e.stage h a) (λ a. a) (tell (is_held e))
  where
    by : (g : Stage) → goes_from g ≡ true → held_stage g ≡ true → is_held e ≡ false
    by stage.Ready h a = cc h
    by stage.Announce h a = cc h
    by (stage.Slot left) h a = cc a
    by (stage.Entry i at) h a = cc a
    by (stage.Page i f frame) h a = cc a
    by (stage.Fill f purpose) h a = cc a
    by (stage.Respond i) h a = cc a
    by stage.Push h a = cc h
    by stage.Notice h a = cc h
    by (stage.Deliver producer) h a = cc h
    by (stage.Wait pages) h a = cc h
    by (stage.WaitLook pages) h a = cc h
    by stage.Several h a = cc h

-- A lane that goes on is under way.
pub lane_turning : (w : Wiring) (look before : List Event) (l : LaneAt) → IsLane w look before l → goes_from l.engine.stage ≡ true → is_turning l.engine.stage ≡ true
lane_turning w look before l lane goes =
    ⊎_elim (λ k.
    let over : TurnGoesAt l.engine (TurnOver k.0) l.began (look ++ (before ++ withheld w l.asked)) = subst (λ a. TurnGoesAt l.engine a l.began (look ++ (before ++ withheld w l.asked))) k.1 lane.going in
    absurd (not_ready l.engine.state l.engine.stage goes over.1))
    (λ f. (f l.engine l.began (look ++ (before ++ withheld w l.asked)) lane.going).is_here) (over_or_on l.asked)

-- The program's events of a trace are its lane's.
calm_trace : (w : Wiring) (look before events : List Event) (last : Ask) → has_program look ≡ false → is_calm w (before ++ events) ≡ true → has_program ((look ++ before) ++ (events ++ withheld w last)) ≡ false
calm_trace w look before events last none calm =
    let c = calm_parts w before events calm in
    program_none (look ++ before) (events ++ withheld w last) (program_none look before none (calm_program w before c.0))
    (program_none events (withheld w last) (calm_program w events c.1) (withheld_program w last))

pub moves_of : (w : Wiring) (look before events : List Event) (next : Bool) (rx rx_after : ℕ) (l : LaneAt) (old new : EngineAt) (b : State) (last : Ask) → ((s : State) → Ends Any (whole_turn w s)) →
    has_program look ≡ false → IsLane w look before l → (is_calm w before ≡ false → is_filling l.engine.stage ≡ false → rx ≡ l.engine.state.rx_index) → StartsFrom w rx before l events old b →
    goes_from l.engine.stage ≡ true → new.wires ≡ old.wires →
    ((s : State) (trace : List Event) → IsTurningAt old s trace l.asked → TurnGoesAt new last s (trace ++ (events ++ withheld w last))) → reads_of (events ++ withheld w last) ≤ reads_in old.stage →
    is_withheld w last ≡ is_held new → (is_filling old.stage ≡ true → rx_after ≡ new.state.rx_index) → (is_filling old.stage ≡ false → rx_after ≡ rx) →
    LaneKeeps w next l.asked old new (events ++ withheld w last) events last → LaneMoves w next rx rx_after before l.asked old new events last
moves_of w look before events next rx rx_after l old new b last completes none lane at starts goes wires turn few held fills stays keeps =
    let stage = same_stage w rx before l events old b starts in
    let goes_old : goes_from old.stage ≡ true = ap goes_from stage ∙ goes in
    let turning : is_turning old.stage ≡ true = ap is_turning stage ∙ lane_turning w look before l lane goes in
    let unheld = not_held old goes_old in
    let token = starts_turning w look before rx l events old b lane at starts turning unheld in
    let did = events ++ withheld w last in
    let went = turn b (look ++ before) token in
    let same_w : new.wires ≡ w = wires ∙ same_wires w rx before l events old b starts ∙ lane.wires in
    let running : b.halt ≡ None = same_halt w rx before l events old b starts ∙ lane.running in
    let filled : is_filling old.stage ≡ true → is_calm w before ≡ false = λ f. lane.ran (ap is_filling (sym stage) ∙ f) in
    record {
      wires = wires;
      turning = turning;
      unheld = unheld;
      turn = turn;
      free = λ early calm. (⊎_elim (λ e. e) (λ e. two (is_early new.stage) early (keeps.late e)) (tell (is_early old.stage)), λ x s trace t. keeps.free early x s trace t);
      on = keeps.on;
      ran = λ f. ⊎_elim
          (λ calm. ⊎_elim (λ k. two (is_filling new.stage) f (over_ready new k.0 b ((look ++ before) ++ did) (subst (λ a. TurnGoesAt new a b ((look ++ before) ++ did)) k.1 went)))
          (λ on. two (has_program ((look ++ before) ++ did)) (filling_ran w new b ((look ++ before) ++ did) last completes same_w running (on new b ((look ++ before) ++ did) went) f) (calm_trace w look before events last none calm))
          (over_or_on last))
          (λ c. c) (tell (is_calm w (before ++ events)));
      held = held;
      halts = λ k e. over_halts old new b (look ++ before) did l.asked k goes_old wires few token (subst (λ a. TurnGoesAt new a b ((look ++ before) ++ did)) e went);
      calm = λ n was. keeps.calm (⊎_elim (λ f. two (is_calm w before) was (filled f)) (λ f. f) (tell (is_filling old.stage))) (λ m. n);
      sent = λ ran unfilled same. ⊎_elim (λ f. fills f)
          (λ f. stays f ∙ ⊎_elim (λ was. started w rx before l events old b starts stage was f ran) (λ was. same was f) (tell (is_calm w before)) ∙ sym (keeps.rx f unfilled))
          (tell (is_filling old.stage));
      unsent = λ calm. ⊎_elim (λ f. two (is_calm w before) (calm_parts w before events calm).0 (filled f)) (λ f. stays f) (tell (is_filling old.stage));
    }
  where
    started : (w : Wiring) (rx : ℕ) (before : List Event) (l : LaneAt) (events : List Event) (o : EngineAt) (b : State) → StartsFrom w rx before l events o b → o.stage ≡ l.engine.stage → is_calm w before ≡ true → is_filling o.stage ≡ false →
        is_calm w (before ++ events) ≡ false → rx ≡ o.state.rx_index
    started w rx before l events _ _ (as_it_is c) stage was f ran = two (is_calm w (before ++ events)) (calm_both w before events was (c was f)) ran
    started w rx before l events _ _ (with_rx early) stage was f ran = refl
