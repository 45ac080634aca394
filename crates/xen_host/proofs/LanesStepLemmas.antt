-- A step of one of the turns that are under way side by side.
use Rattle.std.proofs.Common.{◌≡◌, ℕ, suc, ◌+◌, ◌<◌, ◌≤◌, ◌⊎◌, Bool, true, false, List, [], ◌∷◌, ◌++◌, length, refl, sym, ap, ◌∙◌, subst, arith, append-nil, append_assoc, length-append}
use Rattle.std.specs.Prelude.{◌&&◌, Some, if◌then◌else◌}
use Rattle.std.proofs.lemmas.Bool.{cases_lt}
use mathlib.Core.Logic.{inl, inr, ⊎_elim}
use Rattle.xen_steps.specs.Event.{Event, Read}
use Rattle.xen_steps.specs.Drive.{Goes, LedBy}
use Rattle.xen_steps.specs.Steps.{Steps, never, next, want_of}
use Rattle.xen_steps.specs.Event.{Occurs, Write, Instr, Load, Add, Notify}
use Rattle.xen_steps.specs.declared.want.Want.{Want}
use Rattle.xen_steps.specs.declared.want.Want.TheVariants as want
use Rattle.xen_steps.proofs.FinishLemmas.{runs_gone}
use Rattle.xen_rx_fill.specs.Places.{tx_word}
use Rattle.xen_turns.specs.Tree.{whole_turn}
use Rattle.xen_turns.specs.Turned.{Ending}
use Rattle.xen_turns.specs.Woven.{AllBelow, Made, by_turn, of_turn}
use Rattle.xen_turns.proofs.WovenLemmas.{below_append, below_turn}
use Rattle.xen_turns.specs.declared.state.State.{State}
use Rattle.xen_turns.specs.declared.wiring.Wiring.{Wiring}
use Rattle.xen_host.specs.Asks.{Ask, did_by}
use Rattle.xen_host.specs.Asks as ask
use Rattle.xen_host.specs.EngineAt.{EngineAt, WorkAt}
use Rattle.xen_host.specs.Early.{at_rx, engine_at_rx, is_early}
use Rattle.xen_host.specs.Lanes.{AreFrom, AreLanes, EndsAt, EndsEach, EndsPast, FirstBegins, IsChained, IsLane, IsPlaced, IsRx, LaneAt, LaneMoves, StartsFrom, all_held, as_it_is, begun_at, is_calm, is_filling, is_held, is_withheld, held_at as stage_held, rest_of, rx_behind, with_rx, withheld}
use Rattle.xen_host.specs.Rest.{is_turning, rest_in}
use Rattle.xen_host.specs.UnderWay.{IsTurningAt, TurnGoesAt, between}
use Rattle.xen_host.specs.declared.stage.Purpose.TheVariants as purpose
use Rattle.xen_host.specs.declared.stage.Stage.{Stage}
use Rattle.xen_host.specs.declared.stage.Stage.TheVariants as stage
use Rattle.xen_host.proofs.LanesCalmLemmas.{calm_both, calm_parts, none_above, of_other, of_own, stays_in_order, tell, two}
use Rattle.xen_host.proofs.LanesFromLemmas.{AllCalm, calm_anywhere, calm_at, calm_made, focus, held_all, held_at, k_at, k_length, look_at, quiet_calm, replaced, rx_before, rx_calm, rx_focus, rx_of_calm, rx_of_ran, rx_replaced, x_at}

-- ---- an engine whose turn goes on

-- nothing is under way, and a turn is
rests_not : (s : State) (g : Stage) → is_turning g ≡ true → between s g ≡ Some s → ⊥
rests_not s stage.Ready h e = cc h
rests_not s stage.Announce h e = cc e
rests_not s (stage.Slot left) h e = cc e
rests_not s (stage.Entry i at) h e = cc e
rests_not s (stage.Page i f frame) h e = cc e
rests_not s (stage.Fill f purpose) h e = cc e
rests_not s (stage.Respond i) h e = cc e
rests_not s stage.Push h e = cc e
rests_not s stage.Notice h e = cc e
rests_not s (stage.Deliver producer) h e = cc e
rests_not s (stage.Wait pages) h e = cc e
rests_not s (stage.WaitLook pages) h e = cc e
rests_not s stage.Several h e = cc e

pub turning_of : (e : EngineAt) (a : Ask) (s : State) (t : List Event) → TurnGoesAt e a s t → is_turning e.stage ≡ true → IsTurningAt e s t a
turning_of e (ask.TurnOver k) s t g h = absurd (rests_not e.state e.stage h g.1)
turning_of e (ask.Read at count) s t g h = g
turning_of e (ask.Entry at reference rights) s t g h = g
turning_of e (ask.Write at count) s t g h = g
turning_of e (ask.Store at word) s t g h = g
turning_of e (ask.StoreTwo at x y) s t g h = g
turning_of e (ask.Push at word read) s t g h = g
turning_of e (ask.Notify port) s t g h = g
turning_of e (ask.DeliveryOver what) s t g h = g
turning_of e (ask.WaitOver what) s t g h = g

pub early_not_filling : (g : Stage) → is_early g ≡ true → is_filling g ≡ false
early_not_filling stage.Ready h = refl
early_not_filling stage.Announce h = refl
early_not_filling (stage.Slot left) h = refl
early_not_filling (stage.Entry i at) h = refl
early_not_filling (stage.Page i f frame) h = refl
early_not_filling (stage.Fill f purpose) h = cc h
early_not_filling (stage.Respond i) h = refl
early_not_filling stage.Push h = refl
early_not_filling stage.Notice h = refl
early_not_filling (stage.Deliver producer) h = refl
early_not_filling (stage.Wait pages) h = refl
early_not_filling (stage.WaitLook pages) h = refl
early_not_filling stage.Several h = refl

pub held_not_filling : (e : EngineAt) → is_held e ≡ true → is_filling e.stage ≡ false
held_not_filling e h = by e.stage h
  where
    by : (g : Stage) → stage_held g ≡ true → is_filling g ≡ false
    by stage.Ready h = refl
    by stage.Announce h = refl
    by (stage.Slot left) h = refl
    by (stage.Entry i at) h = refl
    by (stage.Page i f frame) h = refl
    by (stage.Fill f purpose) h = cc h
    by (stage.Respond i) h = refl
    by stage.Push h = refl
    by stage.Notice h = refl
    by (stage.Deliver producer) h = refl
    by (stage.Wait pages) h = refl
    by (stage.WaitLook pages) h = refl
    by stage.Several h = refl

-- nothing is withheld
pub none_withheld : (w : Wiring) (a : Ask) → is_withheld w a ≡ false → withheld w a ≡ []
none_withheld w a h = ap (λ b. if b then did_by a [] else []) h

-- ---- one lane

-- what begins with the rx index set
begun_calm : (w : Wiring) (rx : ℕ) (before : List Event) (b : State) → is_calm w before ≡ true → begun_at w rx before b ≡ at_rx rx b
begun_calm w rx before b h = ap (λ c. if c then at_rx rx b else b) h

begun_ran : (w : Wiring) (rx : ℕ) (before : List Event) (b : State) → is_calm w before ≡ false → begun_at w rx before b ≡ b
begun_ran w rx before b h = ap (λ c. if c then at_rx rx b else b) h

begun_tx : (rx : ℕ) (b : State) (c : Bool) → (if c then at_rx rx b else b).tx_index ≡ b.tx_index
begun_tx rx b true = refl
begun_tx rx b false = refl

begun_halt : (rx : ℕ) (b : State) (c : Bool) → (if c then at_rx rx b else b).halt ≡ b.halt
begun_halt rx b true = refl
begun_halt rx b false = refl

pub same_tx : (w : Wiring) (rx : ℕ) (before : List Event) (l : LaneAt) (events : List Event) (o : EngineAt) (b : State) → StartsFrom w rx before l events o b → b.tx_index ≡ l.began.tx_index
same_tx w rx before l events _ _ (as_it_is h) = refl
same_tx w rx before l events _ _ (with_rx h) = begun_tx rx l.began (is_calm w before)

pub same_stage : (w : Wiring) (rx : ℕ) (before : List Event) (l : LaneAt) (events : List Event) (o : EngineAt) (b : State) → StartsFrom w rx before l events o b → o.stage ≡ l.engine.stage
same_stage w rx before l events _ _ (as_it_is h) = refl
same_stage w rx before l events _ _ (with_rx h) = refl

pub same_wires : (w : Wiring) (rx : ℕ) (before : List Event) (l : LaneAt) (events : List Event) (o : EngineAt) (b : State) → StartsFrom w rx before l events o b → o.wires ≡ l.engine.wires
same_wires w rx before l events _ _ (as_it_is h) = refl
same_wires w rx before l events _ _ (with_rx h) = refl

pub same_halt : (w : Wiring) (rx : ℕ) (before : List Event) (l : LaneAt) (events : List Event) (o : EngineAt) (b : State) → StartsFrom w rx before l events o b → b.halt ≡ l.began.halt
same_halt w rx before l events _ _ (as_it_is h) = refl
same_halt w rx before l events _ _ (with_rx h) = begun_halt rx l.began (is_calm w before)

-- its trace, if it isn't held
plain : (w : Wiring) (look before : List Event) (l : LaneAt) → IsLane w look before l → is_held l.engine ≡ false → before ++ withheld w l.asked ≡ before
plain w look before l lane h = ap (λ t. before ++ t) (none_withheld w l.asked (lane.held ∙ h)) ∙ append-nil before

-- It starts as a turn that is under way.
pub starts_turning : (w : Wiring) (look before : List Event) (rx : ℕ) (l : LaneAt) (events : List Event) (o : EngineAt) (b : State) → IsLane w look before l →
    (is_calm w before ≡ false → is_filling l.engine.stage ≡ false → rx ≡ l.engine.state.rx_index) → StartsFrom w rx before l events o b → is_turning o.stage ≡ true → is_held o ≡ false →
    IsTurningAt o b (look ++ before) l.asked
starts_turning w look before rx l events _ _ lane at (as_it_is h) turning unheld =
    subst (λ t. IsTurningAt l.engine l.began (look ++ t) l.asked) (plain w look before l lane unheld)
    (turning_of l.engine l.asked l.began (look ++ (before ++ withheld w l.asked)) lane.going turning)
starts_turning w look before rx l events _ _ lane at (with_rx early) turning unheld =
    ⊎_elim (λ c. subst (λ b. IsTurningAt (engine_at_rx rx l.engine) b (look ++ before) l.asked) (sym (begun_calm w rx before l.began c))
    (subst (λ t. IsTurningAt (engine_at_rx rx l.engine) (at_rx rx l.began) (look ++ t) l.asked) (plain w look before l lane unheld) (lane.free early c rx)))
    (λ c. subst (λ b. IsTurningAt (engine_at_rx rx l.engine) b (look ++ before) l.asked) (sym (begun_ran w rx before l.began c))
    (subst (λ x. IsTurningAt (engine_at_rx x l.engine) l.began (look ++ before) l.asked) (sym (at c (early_not_filling l.engine.stage early)))
    (subst (λ t. IsTurningAt l.engine l.began (look ++ t) l.asked) (plain w look before l lane unheld)
    (turning_of l.engine l.asked l.began (look ++ (before ++ withheld w l.asked)) lane.going turning))))
    (tell (is_calm w before))

-- and so it does at each rx index
pub starts_free : (w : Wiring) (look before : List Event) (rx : ℕ) (l : LaneAt) (events : List Event) (o : EngineAt) (b : State) → IsLane w look before l →
    StartsFrom w rx before l events o b → is_early o.stage ≡ true → is_calm w before ≡ true → is_held o ≡ false → (x : ℕ) → IsTurningAt (engine_at_rx x o) (at_rx x b) (look ++ before) l.asked
starts_free w look before rx l events _ _ lane (as_it_is h) early calm unheld x =
    subst (λ t. IsTurningAt (engine_at_rx x l.engine) (at_rx x l.began) (look ++ t) l.asked) (plain w look before l lane unheld) (lane.free early calm x)
starts_free w look before rx l events _ _ lane (with_rx early) e calm unheld x =
    subst (λ b. IsTurningAt (engine_at_rx x l.engine) (at_rx x b) (look ++ before) l.asked) (sym (begun_calm w rx before l.began calm))
    (subst (λ t. IsTurningAt (engine_at_rx x l.engine) (at_rx x l.began) (look ++ t) l.asked) (plain w look before l lane unheld) (lane.free early calm x))

-- the lane after the step
abbrev pub moved : EngineAt → State → Ask → LaneAt
moved e b a = record { engine = e; began = b; asked = a }

longer : (w : Wiring) (look before events : List Event) (last : Ask) → (look ++ before) ++ (events ++ withheld w last) ≡ look ++ ((before ++ events) ++ withheld w last)
longer w look before events last = append_assoc look before (events ++ withheld w last) ∙ ap (λ t. look ++ t) (sym (append_assoc before events (withheld w last)))

pub lane_moved : (w : Wiring) (look before : List Event) (next : Bool) (rx rx_after : ℕ) (l : LaneAt) (old new : EngineAt) (b : State) (last : Ask) (events : List Event) → IsLane w look before l →
    (is_calm w before ≡ false → is_filling l.engine.stage ≡ false → rx ≡ l.engine.state.rx_index) → StartsFrom w rx before l events old b →
    LaneMoves w next rx rx_after before l.asked old new events last → IsLane w look (before ++ events) (moved new b last)
lane_moved w look before next rx rx_after l old new b last events lane at starts moves =
    let e = longer w look before events last in
    record {
      wires = moves.wires ∙ same_wires w rx before l events old b starts ∙ lane.wires;
      running = same_halt w rx before l events old b starts ∙ lane.running;
      going = subst (λ t. TurnGoesAt new last b t) e (moves.turn b (look ++ before) (starts_turning w look before rx l events old b lane at starts moves.turning moves.unheld));
      free = λ early calm x.
          let m = moves.free early calm in
          subst (λ t. IsTurningAt (engine_at_rx x new) (at_rx x b) t last) e
          (m.1 x b (look ++ before) (starts_free w look before rx l events old b lane starts m.0 (calm_parts w before events calm).0 moves.unheld x));
      on = moves.on;
      ran = moves.ran;
      held = moves.held;
      halts = moves.halts;
    }

-- ---- what is left leads on

-- a predicate on what is left that its events keep
abbrev pub IsKept : (Steps Ending → Type 0) → Type 0
IsKept ends = (s s' : Steps Ending) (t : List Event) → LedBy s t s' → ends s → ends s'

pub ends_at_kept : (t : ℕ) → IsKept (EndsAt t)
ends_at_kept t s s' p g h q r runs = h (p ++ q) r (runs_gone s s' p q r g runs)

pub ends_past_kept : (t n : ℕ) → IsKept (EndsPast t n)
ends_past_kept t n s s' p g h q r runs = h (p ++ q) r (runs_gone s s' p q r g runs)

-- an event tells its answer
occurs_same : (w : Want) (a b : ℕ) (e : Event) → Occurs w a e → Occurs w b e → a ≡ b
occurs_same (want.Read at) a b e h g = let k : Read at a ≡ Read at b = sym h.1 ∙ g.1 in cc
occurs_same (want.Write at v) a b e h g = h.0 ∙ sym g.0
occurs_same want.Instr a b e h g = h.0 ∙ sym g.0
occurs_same (want.Load m k j) a b e h g = let q : Load m k j a ≡ Load m k j b = sym h.1 ∙ g.1 in cc
occurs_same (want.Add m k j d) a b e h g = let q : Add m k j d a ≡ Add m k j d b = sym h.1 ∙ g.1 in cc
occurs_same (want.Notify p) a b e h g = h.0 ∙ sym g.0
occurs_same want.Done a b e h g = absurd h

goes_same : {A : Type 0} (s m n : Steps A) (e : Event) → Goes s e m → Goes s e n → m ≡ n
goes_same s m n e g h = g.2 ∙ ap (λ a. next s a) (occurs_same (want_of s) g.0 h.0 e g.1 h.1) ∙ sym h.2

-- the events behind others lead on from where those lead
pub gone_rest : {A : Type 0} (s m n : Steps A) (t u : List Event) → LedBy s t m → LedBy s (t ++ u) n → LedBy m u n
gone_rest s m n [] u g h = subst (λ q. LedBy q u n) g h
gone_rest s m n (e ∷ t) u g h = gone_rest g.0 m n t u g.2 (subst (λ q. LedBy q (t ++ u) n) (goes_same s h.0 g.0 e h.1 g.1) h.2)

-- a turn that is over has nothing left
left_never : (w : Wiring) (s : State) (g : Stage) (b : WorkAt) → is_turning g ≡ false → rest_in w s g b ≡ never
left_never w s stage.Ready b h = refl
left_never w s stage.Announce b h = cc h
left_never w s (stage.Slot left) b h = cc h
left_never w s (stage.Entry i at) b h = cc h
left_never w s (stage.Page i f frame) b h = cc h
left_never w s (stage.Fill f (purpose.Back ops)) b h = cc h
left_never w s (stage.Fill f purpose.Delivery) b h = refl
left_never w s (stage.Respond i) b h = cc h
left_never w s stage.Push b h = cc h
left_never w s stage.Notice b h = cc h
left_never w s (stage.Deliver producer) b h = refl
left_never w s (stage.Wait pages) b h = refl
left_never w s (stage.WaitLook pages) b h = refl
left_never w s stage.Several b h = refl

module _ (ends : Steps Ending → Type 0) (none : ends never) (kept : IsKept ends) where
  left_ends : (old new : EngineAt) (s : State) (t u : List Event) (asked last : Ask) → new.wires ≡ old.wires → IsTurningAt old s t asked → TurnGoesAt new last s (t ++ u) →
      ends (rest_of old) → ends (rest_of new)
  left_ends old new s t u asked last same token goes h =
      ⊎_elim (λ turning.
      let g = turning_of new last s (t ++ u) goes turning in
      kept (rest_of old) (rest_of new) u
      (gone_rest (whole_turn old.wires s) (rest_of old) (rest_of new) t u token.gone (subst (λ q. LedBy (whole_turn q s) (t ++ u) (rest_of new)) same g.gone)) h)
      (λ over. subst ends (sym (left_never new.wires new.state new.stage new.work over)) none)
      (tell (is_turning new.stage))

  -- What is left of a lane ends as it did.
  pub each_ends : (w : Wiring) (look before : List Event) (next : Bool) (rx rx_after : ℕ) (l : LaneAt) (old new : EngineAt) (b : State) (last : Ask) (events : List Event) → IsLane w look before l →
      (is_calm w before ≡ false → is_filling l.engine.stage ≡ false → rx ≡ l.engine.state.rx_index) → StartsFrom w rx before l events old b →
      LaneMoves w next rx rx_after before l.asked old new events last → EndsEach w ends before l.engine → EndsEach w ends (before ++ events) new
  each_ends w look before next rx rx_after l old new b last events lane at starts moves h =
      let u = events ++ withheld w last in
      let token = starts_turning w look before rx l events old b lane at starts moves.turning moves.unheld in (
        left_ends old new b (look ++ before) u l.asked last moves.wires token (moves.turn b (look ++ before) token) (starts_ending w before rx l events old b starts at h),
        λ early calm x.
            let m = moves.free early calm in
            let was = (calm_parts w before events calm).0 in
            let t = starts_free w look before rx l events old b lane starts m.0 was moves.unheld x in
            kept (rest_of (engine_at_rx x old)) (rest_of (engine_at_rx x new)) u
            (gone_rest (whole_turn old.wires (at_rx x b)) (rest_of (engine_at_rx x old)) (rest_of (engine_at_rx x new)) (look ++ before) u t.gone
            (subst (λ q. LedBy (whole_turn q (at_rx x b)) ((look ++ before) ++ u) (rest_of (engine_at_rx x new))) moves.wires (m.1 x b (look ++ before) t).gone))
            (ending_each w before rx l events old b starts m.0 was h x),
      )
    where
      starts_ending : (w : Wiring) (before : List Event) (rx : ℕ) (l : LaneAt) (events : List Event) (o : EngineAt) (b : State) → StartsFrom w rx before l events o b →
          (is_calm w before ≡ false → is_filling l.engine.stage ≡ false → rx ≡ l.engine.state.rx_index) → EndsEach w ends before l.engine → ends (rest_of o)
      starts_ending w before rx l events _ _ (as_it_is c) at h = h.0
      starts_ending w before rx l events _ _ (with_rx early) at h =
          ⊎_elim (λ c. h.1 early c rx) (λ c. subst (λ x. ends (rest_of (engine_at_rx x l.engine))) (sym (at c (early_not_filling l.engine.stage early))) h.0) (tell (is_calm w before))

      ending_each : (w : Wiring) (before : List Event) (rx : ℕ) (l : LaneAt) (events : List Event) (o : EngineAt) (b : State) → StartsFrom w rx before l events o b → is_early o.stage ≡ true →
          is_calm w before ≡ true → EndsEach w ends before l.engine → (x : ℕ) → ends (rest_of (engine_at_rx x o))
      ending_each w before rx l events _ _ (as_it_is c) early calm h x = h.1 early calm x
      ending_each w before rx l events _ _ (with_rx e) early calm h x = h.1 e calm x

-- ---- all of them

ends_at_none : (t : ℕ) → EndsAt t never
ends_at_none t p r runs = absurd runs

pub ends_past_none : (t n : ℕ) → EndsPast t n never
ends_past_none t n p r runs = absurd runs

module _ (w : Wiring) (p : ℕ) (ends : Steps Ending → Type 0) (none : ends never) (kept : IsKept ends) where
  chained_moved : (look before : List Event) (next : Bool) (rx rx_after : ℕ) (l : LaneAt) (old new : EngineAt) (b : State) (last : Ask) (events : List Event) (more : List LaneAt) → IsLane w look before l →
      (is_calm w before ≡ false → is_filling l.engine.stage ≡ false → rx ≡ l.engine.state.rx_index) → StartsFrom w rx before l events old b →
      LaneMoves w next rx rx_after before l.asked old new events last → IsChained w ends before l.engine more → IsChained w ends (before ++ events) new more
  chained_moved look before next rx rx_after l old new b last events [] lane at starts moves c =
      each_ends ends none kept w look before next rx rx_after l old new b last events lane at starts moves c
  chained_moved look before next rx rx_after l old new b last events (a ∷ more) lane at starts moves c =
      each_ends (EndsAt a.began.tx_index) (ends_at_none a.began.tx_index) (ends_at_kept a.began.tx_index) w look before next rx rx_after l old new b last events lane at starts moves c

  first_as : (s : State) (before : List LaneAt) (l l' : LaneAt) (more : List LaneAt) → l'.began.tx_index ≡ l.began.tx_index → FirstBegins s (before ++ l ∷ more) → FirstBegins s (before ++ l' ∷ more)
  first_as s [] l l' more e h = e ∙ h
  first_as s (a ∷ before) l l' more e h = h

  same_length : (before more : List LaneAt) (l l' : LaneAt) → length (before ++ l ∷ more) ≡ length (before ++ l' ∷ more)
  same_length [] more l l' = refl
  same_length (a ∷ before) more l l' = ap suc (same_length before more l l')

  -- One of them goes on.
  pub lane_stepped : (s : State) (look : List Event) (lanes_before : List LaneAt) (l : LaneAt) (more : List LaneAt) (rx rx_after : ℕ) (made : List Made) (old new : EngineAt) (b : State) (last : Ask)
      (events : List Event) → AreLanes w s p look ends (lanes_before ++ l ∷ more) rx made → StartsFrom w rx (of_turn (length lanes_before) made) l events old b →
      LaneMoves w (all_held lanes_before) rx rx_after (of_turn (length lanes_before) made) l.asked old new events last →
      AreLanes w s p look ends (lanes_before ++ moved new b last ∷ more) rx_after (made ++ by_turn (length lanes_before) events)
  lane_stepped s look lanes_before l more rx rx_after made old new b last events are starts moves =
      let k = length lanes_before in
      let n : k_at 0 lanes_before ≡ k = k_length 0 lanes_before ∙ (let z : 0 + k ≡ k = omega arith in z) in
      let l' = moved new b last in
      let made' = made ++ by_turn k events in
      let before = of_turn k made in
      let x = x_at w 0 s.rx_index lanes_before made in
      let look' = look_at w p look lanes_before in
      let h = held_at true lanes_before in
      let hs : h ≡ all_held lanes_before = held_all true lanes_before in
      let zoom = focus w p ends 0 s.rx_index true look lanes_before (l ∷ more) made are.from in
      let zoomed : AreFrom w p ends k x h look' (l ∷ more) made = subst (λ i. AreFrom w p ends i x h look' (l ∷ more) made) n zoom in
      let placed = zoomed.0 in
      let unheld : is_held l.engine ≡ false = ap (λ g. stage_held g) (sym (same_stage w rx before l events old b starts)) ∙ moves.unheld in
      let sent : all_held lanes_before ≡ true → IsRx w k x (l ∷ more) made rx = λ a. subst (λ i. IsRx w i x (l ∷ more) made rx) n (rx_focus w 0 s.rx_index lanes_before (l ∷ more) made rx a are.sent) in
      let next_if : is_calm w before ≡ false → all_held lanes_before ≡ true = λ c.
      ⊎_elim (λ a. a) (λ a. two (is_calm w before) (placed.quiet (hs ∙ a)) c) (tell (all_held lanes_before)) in
      let at : is_calm w before ≡ false → is_filling l.engine.stage ≡ false → rx ≡ l.engine.state.rx_index = λ c f. ((sent (next_if c)).1 unheld).1 c f in
      let own : of_turn k made' ≡ before ++ events = of_own k made events in
      let lane' = lane_moved w look' before (all_held lanes_before) rx rx_after l old new b last events placed.lane at starts moves in
      let t = same_tx w rx before l events old b starts in
      let calm_more : AllCalm w (k + 1) more made = quiet_calm w p ends (k + 1) (rx_behind w x before l) (Read (tx_word w.vif 0) p ∷ []) more made
      (subst (λ q. AreFrom w p ends (k + 1) (rx_behind w x before l) q (Read (tx_word w.vif 0) p ∷ []) more made) (unheld_and h (is_held l.engine) unheld) zoomed.1) in
      let others : (j : ℕ) → k + 1 ≤ j → of_turn j made' ≡ of_turn j made = λ j g. of_other j k made events (λ e. omega (arith, e, g)) in
      let more' : AreFrom w p ends (k + 1) (rx_behind w x (of_turn k made') l') (h && is_held new) (Read (tx_word w.vif 0) p ∷ []) more made' =
      calm_anywhere w p ends (k + 1) (rx_behind w x before l) (rx_behind w x (of_turn k made') l') (h && is_held l.engine) (h && is_held new) (Read (tx_word w.vif 0) p ∷ []) more made made' others calm_more zoomed.1 in
      let quiet : h ≡ false → is_calm w (before ++ events) ≡ true = λ f. calm_both w before events (placed.quiet f) (moves.calm (sym hs ∙ f) (placed.quiet f)) in
      let placed' : IsPlaced w ends look' (before ++ events) x h l' more = record {
        lane = lane';
        rx = begins_right w rx x before events l old b h quiet placed.rx (λ c a. ((sent a).1 unheld).0 c) hs starts placed.lane.ran;
        quiet = quiet;
        chained = chained_moved look' before (all_held lanes_before) rx rx_after l old new b last events more placed.lane at starts moves placed.chained;
      } in
      let here : AreFrom w p ends k x h look' (l' ∷ more) made' = (subst (λ es. IsPlaced w ends look' es x h l' more) (sym own) placed', more') in
      record {
        first = first_as s lanes_before l l' more t are.first;
        from = replaced w p ends 0 s.rx_index true look lanes_before l l' more more made made' (λ j g. of_other j k made events (λ e. omega (arith, e, g, n))) t are.from
            (subst (λ i. AreFrom w p ends i x h look' (l' ∷ more) made') (sym n) here);
        none_else = subst (λ i. AllBelow i made') (same_length lanes_before more l l')
            (below_append (length (lanes_before ++ l ∷ more)) made (by_turn k events) are.none_else (below_turn (length (lanes_before ++ l ∷ more)) k events (shorter lanes_before more l)));
        order = stays_in_order w k made events are.order (in_order w k made events lanes_before l more are.none_else calm_more);
        sent = ⊎_elim (λ a.
            let r = (sent a).1 unheld in
            rx_replaced w 0 s.rx_index lanes_before (l' ∷ more) made made' rx_after (λ j g. of_other j k made events (λ e. omega (arith, e, g, n))) a
            (subst (λ i. IsRx w i x (l' ∷ more) made' rx_after) (sym n)
            (subst (λ es. (is_held new ≡ true → IsRx w (k + 1) (rx_behind w x es l') more made' rx_after) × (is_held new ≡ false → (is_calm w es ≡ true → rx_after ≡ x) × (is_calm w es ≡ false → is_filling new.stage ≡ false → rx_after ≡ new.state.rx_index)))
            (sym own)
            (sent_here w (k + 1) x rx rx_after before events old new b last more made' (λ c. r.0 c) (λ c f. old_rx w rx before l events old b starts (at c (ap is_filling (sym (same_stage w rx before l events old b starts)) ∙ f))) moves
            (calm_made w (k + 1) more made made' others calm_more)))))
            (λ a. subst (λ q. IsRx w 0 s.rx_index (lanes_before ++ l' ∷ more) made' q) (sym (moves.unsent (quiet (hs ∙ a))))
            (rx_before w 0 s.rx_index lanes_before (l ∷ more) (l' ∷ more) made made' rx (λ j g. of_other j k made events (λ e. omega (arith, e, g, n))) a are.sent))
            (tell (all_held lanes_before));
      }
    where
      unheld_and : (h i : Bool) → i ≡ false → (h && i) ≡ false
      unheld_and true i e = e
      unheld_and false i e = refl

      shorter : (before more : List LaneAt) (l : LaneAt) → length before < length (before ++ l ∷ more)
      shorter [] more l = omega arith
      shorter (a ∷ before) more l = let i = shorter before more l in omega (arith, i)

      in_order : (w : Wiring) (k : ℕ) (made : List Made) (events : List Event) (before : List LaneAt) (l : LaneAt) (more : List LaneAt) → AllBelow (length (before ++ l ∷ more)) made → AllCalm w (length before + 1) more made → (is_calm w events ≡ true) ⊎ ((j : ℕ) → length before < j → is_calm w (of_turn j made) ≡ true)
      in_order w k made events before l more below calm =
          let m : length (before ++ l ∷ more) ≡ length before + suc (length more) = length-append before (l ∷ more) in
          inr (λ j g. ⊎_elim (λ i. calm_at w (length before + 1) j more made calm (omega (arith, g)) (omega (arith, i, m)))
          (λ i. ap (λ es. is_calm w es) (none_above (length (before ++ l ∷ more)) j made below i))
          (cases_lt j (length (before ++ l ∷ more))))

      old_rx : (w : Wiring) (rx : ℕ) (before : List Event) (l : LaneAt) (events : List Event) (o : EngineAt) (b : State) → StartsFrom w rx before l events o b → rx ≡ l.engine.state.rx_index → rx ≡ o.state.rx_index
      old_rx w rx before l events _ _ (as_it_is h) e = e
      old_rx w rx before l events _ _ (with_rx h) e = refl

      begins_right : (w : Wiring) (rx x : ℕ) (before events : List Event) (l : LaneAt) (o : EngineAt) (b : State) (h : Bool) → (h ≡ false → is_calm w (before ++ events) ≡ true) → (is_calm w before ≡ false → l.began.rx_index ≡ x) →
          (is_calm w before ≡ true → all_held lanes_before ≡ true → rx ≡ x) → h ≡ all_held lanes_before → StartsFrom w rx before l events o b →
          (is_filling l.engine.stage ≡ true → is_calm w before ≡ false) → is_calm w (before ++ events) ≡ false → b.rx_index ≡ x
      begins_right w rx x before events l _ _ h quiet was right hs (as_it_is stays) ran f =
          ⊎_elim (λ c. absurd (two (is_calm w (before ++ events)) (calm_both w before events c
          (stays c (⊎_elim (λ g. two (is_calm w before) c (ran g)) (λ g. g) (tell (is_filling l.engine.stage))))) f)) was (tell (is_calm w before))
      begins_right w rx x before events l _ _ h quiet was right hs (with_rx early) ran f =
          ⊎_elim (λ c. ap (λ (b : State). b.rx_index) (begun_calm w rx before l.began c) ∙ right c (sym hs ∙ ⊎_elim (λ a. a) (λ a. two (is_calm w (before ++ events)) (quiet a) f) (tell h)))
          (λ c. ap (λ (b : State). b.rx_index) (begun_ran w rx before l.began c) ∙ was c) (tell (is_calm w before))

      sent_here : (w : Wiring) (k x rx rx_after : ℕ) (before events : List Event) (old new : EngineAt) (b : State) (last : Ask) (more : List LaneAt) (made' : List Made) → (is_calm w before ≡ true → rx ≡ x) →
          (is_calm w before ≡ false → is_filling old.stage ≡ false → rx ≡ old.state.rx_index) → LaneMoves w (all_held lanes_before) rx rx_after before l.asked old new events last → AllCalm w k more made' →
          (is_held new ≡ true → IsRx w k (rx_behind w x (before ++ events) (moved new b last)) more made' rx_after) ×
          (is_held new ≡ false → (is_calm w (before ++ events) ≡ true → rx_after ≡ x) × (is_calm w (before ++ events) ≡ false → is_filling new.stage ≡ false → rx_after ≡ new.state.rx_index))
      sent_here w k x rx rx_after before events old new b last more made' calm ran moves all =
          let stays : is_calm w (before ++ events) ≡ true → rx_after ≡ x = λ c. moves.unsent c ∙ calm (calm_parts w before events c).0 in (
            λ held. rx_calm w k (rx_behind w x (before ++ events) (moved new b last)) more made' rx_after all
                (⊎_elim (λ c. stays c ∙ sym (rx_of_calm w x (before ++ events) (moved new b last) c))
                (λ c. moves.sent c (held_not_filling new held) ran ∙ sym (rx_of_ran w x (before ++ events) (moved new b last) c)) (tell (is_calm w (before ++ events)))),
            λ unheld. (stays, λ c f. moves.sent c f ran),
          )
