-- What several turns come to when all are over: all are answered, or one has halted.
use Rattle.std.proofs.Common.{◌≡◌, ℕ, zero, suc, ◌+◌, ◌<◌, ◌≤◌, ◌^◌, ◌⊎◌, Bool, true, false, List, [], ◌∷◌, ◌++◌, length, map, refl, sym, ap, ◌∙◌, subst, arith, append-nil, append_assoc, length-append}
use Rattle.std.specs.Prelude.{◌&&◌, min, not, Option, None, Some, slice_get}
use Rattle.std.proofs.lemmas.Bool.{and_parts}
use mathlib.Core.Logic.{inl, inr, ⊎_elim}
use Rattle.xen_ring.specs.Index.{distance}
use Rattle.xen_steps.specs.Event.{Event, Read, Write, Instr, Load, Add, Notify}
use Rattle.xen_steps.specs.Finish.{Ends}
use Rattle.xen_steps.specs.Drive.{Any, LedBy}
use Rattle.xen_steps.specs.Steps.{Steps, Runs}
use Rattle.xen_steps.proofs.FinishLemmas.{runs_gone}
use Rattle.xen_rx_fill.specs.Places.{tx_word}
use Rattle.xen_rx_fill.specs.Shared.{notices}
use Rattle.xen_turns.proofs.EndLemmas.{rest_of_gone}
use Rattle.xen_turns.proofs.TurnParts.{turn_parts}
use Rattle.xen_turns.specs.Parts.{IsLook, once, twice}
use Rattle.xen_turns.specs.Several.{AreBegun, AreUnseen, IsBegun, IsSeveral, Part, answered as all_answered, events_in, halted, look_behind, pushed, pushed_if}
use Rattle.xen_turns.specs.Tree.{whole_turn}
use Rattle.xen_turns.specs.Turned.{Ending, Turned, Idle, Ran, Refused, Halted, turned}
use Rattle.xen_turns.specs.Turns.{IsTurn, broken, halted_rx as row_halted_rx, idle, overflown, ran as ran_row, ran_tx, refused_few, refused_grant, refused_rx, refused_sizes, short, still_halted}
use Rattle.xen_turns.specs.Woven.{AllBelow, AreWoven, Made, events_of, is_in_order, is_in_slot, of_turn}
use Rattle.xen_turns.specs.declared.state.State.{State}
use Rattle.xen_turns.specs.declared.turn.Halt.{Halt}
use Rattle.xen_turns.specs.declared.turn.Kind.{Kind}
use Rattle.xen_turns.specs.declared.turn.Kind.TheVariants as kind
use Rattle.xen_turns.specs.declared.wiring.Wiring.{Wiring}
use Rattle.xen_host.specs.Asks.{Ask, TurnOver}
use Rattle.xen_host.specs.Asks as ask
use Rattle.xen_host.specs.EngineAt.{EngineAt}
use Rattle.xen_host.specs.Early.{at_rx}
use Rattle.xen_host.specs.Lanes.{AreFrom, AreLanes, EndsAt, EndsPast, FirstBegins, IsLane, IsPlaced, IsRx, LaneAt, all_held, is_calm, is_filling, is_held, is_withheld, rest_of, rx_behind, withheld}
use Rattle.xen_host.specs.UnderWay.{IsTurningAt, TurnGoesAt, between, packet_at}
use Rattle.xen_host.specs.declared.stage.Stage.{Stage}
use Rattle.xen_host.specs.declared.stage.Stage.TheVariants as stage
use Rattle.xen_host.proofs.LanesCalmLemmas.{tell}
use Rattle.xen_host.proofs.LanesFromLemmas.{AllCalm, focus, held_all, held_at, k_at, look_at, quiet_calm, rx_focus, rx_of_calm, rx_of_ran, x_at}
use Rattle.xen_host.proofs.LanesRowLemmas.{calm_program, has_program, program_none, row_forgets_rx}
use Rattle.xen_host.proofs.LanesEndLemmas.{all_answer, due_of, end_of, held_answers, held_runs, parts_from, result_of, state_behind, state_from, state_same}

-- ---- the parts

pub parts_length : (w : Wiring) (k x : ℕ) (lanes : List LaneAt) (made : List Made) → length (parts_from w k x lanes made) ≡ length lanes
parts_length w k x [] made = refl
parts_length w k x (l ∷ more) made = ap suc (parts_length w (k + 1) (rx_behind w x (of_turn k made) l) more made)

pub parts_each : (w : Wiring) (k x : ℕ) (lanes : List LaneAt) (made : List Made) (j : ℕ) → j < length lanes → slice_get (events_in (parts_from w k x lanes made)) j ≡ Some (of_turn (k + j) made)
parts_each w k x [] made j h = absurd (omega (arith, h))
parts_each w k x (l ∷ more) made zero h = let e : k ≡ k + 0 = omega arith in ap (λ i. Some (of_turn i made)) e
parts_each w k x (l ∷ more) made (suc j) h =
    let e : k + 1 + j ≡ k + suc j = omega arith in
    parts_each w (k + 1) (rx_behind w x (of_turn k made) l) more made j (omega (arith, h)) ∙ ap (λ i. Some (of_turn i made)) e

pub parts_turned : (w : Wiring) (k x : ℕ) (lanes : List LaneAt) (made : List Made) → map (λ (a : Part). a.turned) (parts_from w k x lanes made) ≡ map result_of lanes
parts_turned w k x [] made = refl
parts_turned w k x (l ∷ more) made = ap (λ q. result_of l ∷ q) (parts_turned w (k + 1) (rx_behind w x (of_turn k made) l) more made)

events_length : (parts : List Part) → length (events_in parts) ≡ length parts
events_length [] = refl
events_length (a ∷ parts) = ap suc (events_length parts)

-- ---- the state behind them

pub state_rx : (w : Wiring) (k : ℕ) (s : State) (lanes : List LaneAt) (made : List Made) (rx : ℕ) → IsRx w k s.rx_index lanes made rx → all_held lanes ≡ true → rx ≡ (state_from w k s.rx_index s lanes made).rx_index
state_rx w k s [] made rx r h = r
state_rx w k s (l ∷ more) made rx r h =
    let q = and_parts (is_held l.engine) (all_held more) h in
    state_rx w (k + 1) (state_behind w s.rx_index (of_turn k made) l) more made rx (r.0 q.0) q.1

-- the last of them
pub state_last : (w : Wiring) (k x : ℕ) (s : State) (before : List LaneAt) (l : LaneAt) (made : List Made) → (state_from w k x s (before ++ l ∷ []) made).tx_index ≡ (end_of l).0.tx_index
state_last w k x s [] l made = refl
state_last w k x s (b ∷ before) l made = state_last w (k + 1) (rx_behind w x (of_turn k made) b) (state_behind w x (of_turn k made) b) before l made

pub state_past : (w : Wiring) (p t n : ℕ) (k x : ℕ) (s : State) (look : List Event) (lanes : List LaneAt) (made : List Made) → AreFrom w p (EndsPast t n) k x true look lanes made → all_held lanes ≡ true → 0 < length lanes →
    n ≤ distance t (state_from w k x s lanes made).tx_index
state_past w p t n k x s look [] made a h some = absurd (omega (arith, some))
state_past w p t n k x s look (l ∷ []) made a h some =
    let q = and_parts (is_held l.engine) true h in
    a.0.chained.0 (Read (tx_word w.vif 3) 0 ∷ notices w.vif (due_of l)) (end_of l) (held_runs w l a.0.lane.wires q.0) (held_answers w look (of_turn k made) l a.0.lane q.0).1
state_past w p t n k x s look (l ∷ m ∷ more) made a h some =
    let q = and_parts (is_held l.engine) (all_held (m ∷ more)) h in
    state_past w p t n (k + 1) (rx_behind w x (of_turn k made) l) (state_behind w x (of_turn k made) l) (Read (tx_word w.vif 0) p ∷ []) (m ∷ more) made
    (subst (λ b. AreFrom w p (EndsPast t n) (k + 1) (rx_behind w x (of_turn k made) l) b (Read (tx_word w.vif 0) p ∷ []) (m ∷ more) made) q.0 a.1) q.1 (omega arith)

-- ---- all are answered

pub look_program : (w : Wiring) (t : ℕ) (looks : List Event) (o : Option ℕ) → IsLook w t looks o → has_program looks ≡ false
look_program w t _ _ (once p lt some) = refl
look_program w t _ _ (twice p q lt lq none) = refl

pub lanes_held : (w : Wiring) (s : State) (p m n most event rx : ℕ) (look : List Event) (lanes : List LaneAt) (made : List Made) → s.halt ≡ None →
    IsLook w s.tx_index (look ++ Read (tx_word w.vif 0) p ∷ []) (Some n) → AreLanes w s p (look ++ Read (tx_word w.vif 0) p ∷ []) (EndsPast s.tx_index m) lanes rx made → all_held lanes ≡ true →
    0 < length lanes → length lanes ≤ most → min n most ≤ m → event < 2 ^ 32 → (after : State) × (after ≡ state_from w 0 s.rx_index s lanes made) × (after.rx_index ≡ rx) × (after.halt ≡ None) ×
    IsSeveral w s most ((look ++ Read (tx_word w.vif 0) p ∷ []) ++ (events_of made ++ pushed w s.tx_index after.tx_index event)) after (map result_of lanes)
lanes_held w s p m n most event rx look lanes made run seen are held some few least small =
    let looks = look ++ Read (tx_word w.vif 0) p ∷ [] in
    let parts = parts_from w 0 s.rx_index lanes made in
    let after = state_from w 0 s.rx_index s lanes made in
    let count = parts_length w 0 s.rx_index lanes made in
    let all = all_answer w p (EndsPast s.tx_index m) 0 s looks lanes made run are.first (look_program w s.tx_index looks (Some n) seen) are.from held in
    let past = state_past w p s.tx_index m 0 s.rx_index s looks lanes made are.from held some in
    let woven : AreWoven w (events_in parts) made = record {
      each = λ k h. parts_each w 0 s.rx_index lanes made k (omega (arith, h, events_length parts, count)) ∙ (let z : 0 + k ≡ k = omega arith in ap (λ i. Some (of_turn i made)) z);
      none_else = subst (λ i. AllBelow i made) (sym (events_length parts ∙ count)) are.none_else;
      order = are.order;
    } in
    let several = all_answered look made p n event parts after run seen (omega (arith, some, count)) (omega (arith, few, count)) all.0 (omega (arith, least, past)) woven small in (
      after,
      refl,
      sym (state_rx w 0 s lanes made rx are.sent held),
      all.1,
      subst (λ us. IsSeveral w s most (looks ++ (events_of made ++ pushed w s.tx_index after.tx_index event)) after us) (parts_turned w 0 s.rx_index lanes made) several,
    )

-- ---- one has halted

unseen_one : (w : Wiring) (e : Event) (t : List Event) → not (is_in_order w e) ≡ true → AreUnseen w t → AreUnseen w (e ∷ t)
unseen_one w (Read at v) t h u = u
unseen_one w (Write at v) t h u = (un_not (is_in_slot w at) h, u)
  where
    un_not : (b : Bool) → not (not b) ≡ true → b ≡ true
    un_not true h = refl
    un_not false h = cc h
unseen_one w Instr t h u = cc h
unseen_one w (Load m k j v) t h u = cc h
unseen_one w (Add m k j delta old) t h u = cc h
unseen_one w (Notify port) t h u = cc h

pub calm_unseen : (w : Wiring) (t : List Event) → is_calm w t ≡ true → AreUnseen w t
calm_unseen w [] h = tt
calm_unseen w (e ∷ t) h =
    let q = and_parts (not (is_in_order w e)) (is_calm w t) h in
    unseen_one w e t q.0 (calm_unseen w t q.1)

-- A lane whose look is one read is a turn that was begun.
pub begun_over : (w : Wiring) (p : ℕ) (events : List Event) (e : EngineAt) (b : State) (k : Kind) → e.wires ≡ w → is_calm w events ≡ true →
    TurnGoesAt e (TurnOver k) b (Read (tx_word w.vif 0) p ∷ (events ++ [])) → IsBegun w p events
begun_over w p events e b k same calm g =
    record { state = b; rest = []; after = e.state; turned = turned k (packet_at e); turn = subst (λ q. IsTurn q b (Read (tx_word w.vif 0) p ∷ (events ++ [])) e.state (turned k (packet_at e))) same g.0; unseen = calm_unseen w events calm }

pub begun_turning : (w : Wiring) (p : ℕ) (events more : List Event) (e : EngineAt) (b : State) (a : Ask) → ((s : State) → Ends Any (whole_turn w s)) → e.wires ≡ w → is_calm w events ≡ true →
    IsTurningAt e b (Read (tx_word w.vif 0) p ∷ (events ++ more)) a → IsBegun w p events
begun_turning w p events more e b a completes same calm g =
    let t = Read (tx_word w.vif 0) p ∷ (events ++ more) in
    let gone = subst (λ q. LedBy (whole_turn q b) t (rest_of e)) same g.gone in
    let r = rest_of_gone (whole_turn w b) (rest_of e) t (completes b) gone in
    let run : Runs (whole_turn w b) (t ++ r.0) r.1 = runs_gone (whole_turn w b) (rest_of e) t r.0 r.1 gone r.2 in
    record {
      state = b;
      rest = more ++ r.0;
      after = r.1.0;
      turned = r.1.1;
      turn = subst (λ q. IsTurn w b (Read (tx_word w.vif 0) p ∷ q) r.1.0 r.1.1) (append_assoc events more r.0) (turn_parts w b (t ++ r.0) r.1.0 r.1.1 run);
      unseen = calm_unseen w events calm;
    }

pub lane_begun : (w : Wiring) (p : ℕ) (events : List Event) (l : LaneAt) → ((s : State) → Ends Any (whole_turn w s)) → is_calm w events ≡ true → IsLane w (Read (tx_word w.vif 0) p ∷ []) events l → IsBegun w p events
lane_begun w p events l completes calm lane = by l.asked lane.going
  where
    by : (a : Ask) → TurnGoesAt l.engine a l.began (Read (tx_word w.vif 0) p ∷ (events ++ withheld w a)) → IsBegun w p events
    by (ask.TurnOver k) g = begun_over w p events l.engine l.began k lane.wires calm g
    by (ask.Read at count) g = begun_turning w p events (withheld w (ask.Read at count)) l.engine l.began (ask.Read at count) completes lane.wires calm g
    by (ask.Entry at r x) g = begun_turning w p events (withheld w (ask.Entry at r x)) l.engine l.began (ask.Entry at r x) completes lane.wires calm g
    by (ask.Write at count) g = begun_turning w p events (withheld w (ask.Write at count)) l.engine l.began (ask.Write at count) completes lane.wires calm g
    by (ask.Store at word) g = begun_turning w p events (withheld w (ask.Store at word)) l.engine l.began (ask.Store at word) completes lane.wires calm g
    by (ask.StoreTwo at x y) g = begun_turning w p events (withheld w (ask.StoreTwo at x y)) l.engine l.began (ask.StoreTwo at x y) completes lane.wires calm g
    by (ask.Push at word read) g = begun_turning w p events (withheld w (ask.Push at word read)) l.engine l.began (ask.Push at word read) completes lane.wires calm g
    by (ask.Notify port) g = begun_turning w p events (withheld w (ask.Notify port)) l.engine l.began (ask.Notify port) completes lane.wires calm g
    by (ask.DeliveryOver what) g = begun_turning w p events (withheld w (ask.DeliveryOver what)) l.engine l.began (ask.DeliveryOver what) completes lane.wires calm g
    by (ask.WaitOver what) g = begun_turning w p events (withheld w (ask.WaitOver what)) l.engine l.began (ask.WaitOver what) completes lane.wires calm g

-- what lanes behind one made
abbrev pub made_from : ℕ → List LaneAt → List Made → List (List Event)
made_from k [] made = []
made_from k (l ∷ more) made = of_turn k made ∷ made_from (k + 1) more made

pub all_begun : (w : Wiring) (p : ℕ) (ends : Steps Ending → Type 0) (k x : ℕ) (h : Bool) (lanes : List LaneAt) (made : List Made) → ((s : State) → Ends Any (whole_turn w s)) → AllCalm w k lanes made →
    AreFrom w p ends k x h (Read (tx_word w.vif 0) p ∷ []) lanes made → AreBegun w p (made_from k lanes made)
all_begun w p ends k x h [] made completes c a = tt
all_begun w p ends k x h (l ∷ more) made completes c a =
    (lane_begun w p (of_turn k made) l completes c.0 a.0.lane, all_begun w p ends (k + 1) (rx_behind w x (of_turn k made) l) (h && is_held l.engine) more made completes c.1 a.1)

pub made_length : (k : ℕ) (lanes : List LaneAt) (made : List Made) → length (made_from k lanes made) ≡ length lanes
made_length k [] made = refl
made_length k (l ∷ more) made = ap suc (made_length (k + 1) more made)

pub made_each : (k : ℕ) (lanes : List LaneAt) (made : List Made) (j : ℕ) → j < length lanes → slice_get (made_from k lanes made) j ≡ Some (of_turn (k + j) made)
made_each k [] made j h = absurd (omega (arith, h))
made_each k (l ∷ more) made zero h = let e : k ≡ k + 0 = omega arith in ap (λ i. Some (of_turn i made)) e
made_each k (l ∷ more) made (suc j) h =
    let e : k + 1 + j ≡ k + suc j = omega arith in made_each (k + 1) more made j (omega (arith, h)) ∙ ap (λ i. Some (of_turn i made)) e

pub made_parts : (w : Wiring) (k x : ℕ) (lanes : List LaneAt) (made : List Made) → events_in (parts_from w k x lanes made) ≡ made_from k lanes made
made_parts w k x [] made = refl
made_parts w k x (l ∷ more) made = ap (λ q. of_turn k made ∷ q) (made_parts w (k + 1) (rx_behind w x (of_turn k made) l) more made)

pub made_append : (k : ℕ) (before rest : List LaneAt) (made : List Made) → made_from k (before ++ rest) made ≡ made_from k before made ++ made_from (k_at k before) rest made
made_append k [] rest made = refl
made_append k (b ∷ before) rest made = ap (λ q. of_turn k made ∷ q) (made_append (k + 1) before rest made)

-- the look that comes before the lane behind these
pub look_same : (w : Wiring) (p k x : ℕ) (look : List Event) (before : List LaneAt) (made : List Made) → look_behind w p look (parts_from w k x before made) ≡ look_at w p look before
look_same w p k x look [] made = refl
look_same w p k x look (b ∷ before) made = sym (look_read before)
  where
    look_read : (lanes : List LaneAt) → look_at w p (Read (tx_word w.vif 0) p ∷ []) lanes ≡ Read (tx_word w.vif 0) p ∷ []
    look_read [] = refl
    look_read (c ∷ lanes) = look_read lanes

-- the lanes in front, by themselves
pub from_front : (w : Wiring) (p : ℕ) (ends : Steps Ending → Type 0) (k x : ℕ) (h : Bool) (look : List Event) (before : List LaneAt) (l : LaneAt) (behind : List LaneAt) (made : List Made) →
    AreFrom w p ends k x h look (before ++ l ∷ behind) made → AreFrom w p (EndsAt l.began.tx_index) k x h look before made
from_front w p ends k x h look [] l behind made a = tt
from_front w p ends k x h look (b ∷ []) l behind made a =
    let q = a.0 in (record { lane = q.lane; rx = q.rx; quiet = q.quiet; chained = q.chained }, tt)
from_front w p ends k x h look (b ∷ c ∷ before) l behind made a =
    let q = a.0 in (
      record { lane = q.lane; rx = q.rx; quiet = q.quiet; chained = q.chained },
      from_front w p ends (k + 1) (rx_behind w x (of_turn k made) b) (h && is_held b.engine) (Read (tx_word w.vif 0) p ∷ []) (c ∷ before) l behind made a.1,
    )

-- where the lane behind them begins
pub state_begins : (w : Wiring) (p t : ℕ) (k x : ℕ) (s : State) (look : List Event) (before : List LaneAt) (made : List Made) → AreFrom w p (EndsAt t) k x true look before made → all_held before ≡ true →
    (before ≡ [] → t ≡ s.tx_index) → t ≡ (state_from w k x s before made).tx_index
state_begins w p t k x s look [] made a h none = none refl
state_begins w p t k x s look (l ∷ []) made a h none =
    let q = and_parts (is_held l.engine) true h in
    sym (a.0.chained.0 (Read (tx_word w.vif 3) 0 ∷ notices w.vif (due_of l)) (end_of l) (held_runs w l a.0.lane.wires q.0) (held_answers w look (of_turn k made) l a.0.lane q.0).1)
state_begins w p t k x s look (l ∷ m ∷ more) made a h none =
    let q = and_parts (is_held l.engine) (all_held (m ∷ more)) h in
    state_begins w p t (k + 1) (rx_behind w x (of_turn k made) l) (state_behind w x (of_turn k made) l) (Read (tx_word w.vif 0) p ∷ []) (m ∷ more) made
    (subst (λ b. AreFrom w p (EndsAt t) (k + 1) (rx_behind w x (of_turn k made) l) b (Read (tx_word w.vif 0) p ∷ []) (m ∷ more) made) q.0 a.1) q.1 (λ e. absurd (cc e))

pub x_state : (w : Wiring) (k : ℕ) (s : State) (before : List LaneAt) (made : List Made) → x_at w k s.rx_index before made ≡ (state_from w k s.rx_index s before made).rx_index
x_state w k s [] made = refl
x_state w k s (l ∷ more) made = x_state w (k + 1) (state_behind w s.rx_index (of_turn k made) l) more made

pub first_front : (s : State) (before : List LaneAt) (l : LaneAt) (behind : List LaneAt) → FirstBegins s (before ++ l ∷ behind) → FirstBegins s before
first_front s [] l behind h = tt
first_front s (b ∷ before) l behind h = h

-- the part that halts
abbrev pub part_halted : Wiring → ℕ → List Event → LaneAt → Halt → Part
part_halted w x events l cause = record { events = events; after = at_rx (rx_behind w x events l) l.engine.state; turned = Halted cause }

pub halted_turn : (w : Wiring) (ends : Steps Ending → Type 0) (look events : List Event) (s : State) (l : LaneAt) (more : List LaneAt) (cause : Halt) → s.halt ≡ None → l.began.tx_index ≡ s.tx_index → has_program look ≡ false →
    IsPlaced w ends look events s.rx_index true l more → l.asked ≡ TurnOver (kind.Halted cause) → IsTurn w s (look ++ events) (part_halted w s.rx_index events l cause).after (Halted cause)
halted_turn w ends look events s l more cause run t none placed over =
    let lane = placed.lane in
    let plain : look ++ (events ++ withheld w l.asked) ≡ look ++ events = ap (λ a. look ++ (events ++ withheld w a)) over ∙ ap (λ q. look ++ q) (append-nil events) in
    let goes : TurnGoesAt l.engine (TurnOver (kind.Halted cause)) l.began (look ++ events) = subst (λ a. TurnGoesAt l.engine a l.began (look ++ events)) over (subst (λ q. TurnGoesAt l.engine l.asked l.began q) plain lane.going) in
    let row : IsTurn w l.began (look ++ events) l.engine.state (Halted cause) = subst (λ q. IsTurn q l.began (look ++ events) l.engine.state (Halted cause)) lane.wires goes.0 in
    ⊎_elim
    (λ calm.
    subst (λ b. IsTurn w b (look ++ events) (at_rx (rx_behind w s.rx_index events l) l.engine.state) (Halted cause)) (state_same s (at_rx s.rx_index l.began) t refl (lane.running ∙ sym run))
    (subst (λ x. IsTurn w (at_rx s.rx_index l.began) (look ++ events) (at_rx x l.engine.state) (Halted cause)) (sym (rx_of_calm w s.rx_index events l calm))
    (row_forgets_rx w l.began (look ++ events) l.engine.state (Halted cause) s.rx_index (program_none look events none (calm_program w events calm)) row)))
    (λ ran.
    subst (λ b. IsTurn w b (look ++ events) (at_rx (rx_behind w s.rx_index events l) l.engine.state) (Halted cause)) (state_same s l.began t (placed.rx ran) (lane.running ∙ sym run))
    (subst (λ x. IsTurn w l.began (look ++ events) (at_rx x l.engine.state) (Halted cause)) (sym (rx_of_ran w s.rx_index events l ran)) row))
    (tell (is_calm w events))

pub look_at_program : (w : Wiring) (p : ℕ) (look : List Event) (before : List LaneAt) → has_program look ≡ false → has_program (look_at w p look before) ≡ false
look_at_program w p look [] h = h
look_at_program w p look (b ∷ before) h = look_at_program w p (Read (tx_word w.vif 0) p ∷ []) before refl

pub over_ready : (e : EngineAt) (k : Kind) (s : State) (t : List Event) → TurnGoesAt e (TurnOver k) s t → is_filling e.stage ≡ false
over_ready e k s t g = by e.state e.stage g.1
  where
    by : (s : State) (g : Stage) → between s g ≡ Some s → is_filling g ≡ false
    by s stage.Ready h = refl
    by s stage.Announce h = refl
    by s (stage.Slot left) h = refl
    by s (stage.Entry i at) h = refl
    by s (stage.Page i f frame) h = refl
    by s (stage.Fill f purpose) h = cc h
    by s (stage.Respond i) h = refl
    by s stage.Push h = refl
    by s stage.Notice h = refl
    by s (stage.Deliver producer) h = refl
    by s (stage.Wait pages) h = refl
    by s (stage.WaitLook pages) h = refl
    by s stage.Several h = refl

-- its rx index is the one behind what was sent
pub halted_rx : (w : Wiring) (k x : ℕ) (l : LaneAt) (more : List LaneAt) (made : List Made) (rx : ℕ) (cause : Halt) (look : List Event) → IsLane w look (of_turn k made) l → l.asked ≡ TurnOver (kind.Halted cause) →
    IsRx w k x (l ∷ more) made rx → rx ≡ rx_behind w x (of_turn k made) l
halted_rx w k x l more made rx cause look lane over r =
    let unheld : is_held l.engine ≡ false = sym lane.held ∙ ap (is_withheld w) over in
    let q = r.1 unheld in
    let ready = over_ready l.engine (kind.Halted cause) l.began _ (subst (λ a. TurnGoesAt l.engine a l.began (look ++ (of_turn k made ++ withheld w l.asked))) over lane.going) in
    ⊎_elim (λ c. q.0 c ∙ sym (rx_of_calm w x (of_turn k made) l c)) (λ c. q.1 c ready ∙ sym (rx_of_ran w x (of_turn k made) l c)) (tell (is_calm w (of_turn k made)))

pub first_is : (s : State) (before : List LaneAt) (l : LaneAt) (behind : List LaneAt) → FirstBegins s (before ++ l ∷ behind) → before ≡ [] → l.began.tx_index ≡ s.tx_index
first_is s [] l behind h e = h
first_is s (b ∷ before) l behind h e = absurd (cc e)

pub lanes_halted : (w : Wiring) (s : State) (p n most event rx : ℕ) (ends : Steps Ending → Type 0) (look : List Event) (before : List LaneAt) (l : LaneAt) (behind : List LaneAt) (made : List Made) (cause : Halt) →
    s.halt ≡ None → ((s : State) → Ends Any (whole_turn w s)) → IsLook w s.tx_index (look ++ Read (tx_word w.vif 0) p ∷ []) (Some n) →
    AreLanes w s p (look ++ Read (tx_word w.vif 0) p ∷ []) ends (before ++ l ∷ behind) rx made → all_held before ≡ true → l.asked ≡ TurnOver (kind.Halted cause) →
    length (before ++ l ∷ behind) ≤ most → event < 2 ^ 32 →
    IsSeveral w s most ((look ++ Read (tx_word w.vif 0) p ∷ []) ++ (events_of made ++ pushed_if w (parts_from w 0 s.rx_index before made) s.tx_index (state_from w 0 s.rx_index s before made).tx_index event))
    (at_rx rx l.engine.state) (map result_of before ++ Halted cause ∷ [])
lanes_halted w s p n most event rx ends look before l behind made cause run completes seen are held over few small =
    let looks = look ++ Read (tx_word w.vif 0) p ∷ [] in
    let k = k_at 0 before in
    let mid = state_from w 0 s.rx_index s before made in
    let parts = parts_from w 0 s.rx_index before made in
    let seen_none = look_program w s.tx_index looks (Some n) seen in
    let zoom = focus w p ends 0 s.rx_index true looks before (l ∷ behind) made are.from in
    let zoomed : AreFrom w p ends k mid.rx_index true (look_at w p looks before) (l ∷ behind) made =
    subst (λ h. AreFrom w p ends k mid.rx_index h (look_at w p looks before) (l ∷ behind) made) (held_all true before ∙ held)
    (subst (λ x. AreFrom w p ends k x (held_at true before) (look_at w p looks before) (l ∷ behind) made) (x_state w 0 s before made) zoom) in
    let events = of_turn k made in
    let unheld : is_held l.engine ≡ false = sym zoomed.0.lane.held ∙ ap (is_withheld w) over in
    let front = from_front w p ends 0 s.rx_index true looks before l behind made are.from in
    let all = all_answer w p (EndsAt l.began.tx_index) 0 s looks before made run (first_front s before l behind are.first) seen_none front held in
    let begins = state_begins w p l.began.tx_index 0 s.rx_index s looks before made front held (first_is s before l behind are.first) in
    let last = part_halted w mid.rx_index events l cause in
    let turn : IsTurn w mid (look_behind w p looks parts ++ events) last.after (Halted cause) =
    subst (λ q. IsTurn w mid (q ++ events) last.after (Halted cause)) (sym (look_same w p 0 s.rx_index looks before made))
    (halted_turn w ends (look_at w p looks before) events mid l behind cause all.1 begins (look_at_program w p looks before seen_none) zoomed.0 over) in
    let rest : AreFrom w p ends (k + 1) (rx_behind w mid.rx_index events l) false (Read (tx_word w.vif 0) p ∷ []) behind made =
    subst (λ h. AreFrom w p ends (k + 1) (rx_behind w mid.rx_index events l) h (Read (tx_word w.vif 0) p ∷ []) behind made) unheld zoomed.1 in
    let begun = made_from (k + 1) behind made in
    let are_begun = all_begun w p ends (k + 1) (rx_behind w mid.rx_index events l) false behind made completes (quiet_calm w p ends (k + 1) (rx_behind w mid.rx_index events l) (Read (tx_word w.vif 0) p ∷ []) behind made rest) rest in
    let whole : events_in parts ++ (events ∷ begun) ≡ made_from 0 (before ++ l ∷ behind) made = ap (λ q. q ++ (events ∷ begun)) (made_parts w 0 s.rx_index before made) ∙ sym (made_append 0 before (l ∷ behind) made) in
    let count = made_length 0 (before ++ l ∷ behind) made in
    let woven : AreWoven w (events_in parts ++ (last.events ∷ begun)) made = subst (λ q. AreWoven w q made) (sym whole)
    (record {
      each = λ j h. made_each 0 (before ++ l ∷ behind) made j (omega (arith, h, count)) ∙ (let z : 0 + j ≡ j = omega arith in ap (λ i. Some (of_turn i made)) z);
      none_else = subst (λ i. AllBelow i made) (sym count) are.none_else;
      order = are.order;
    }) in
    let enough : length parts + length begun < most =
    let a = parts_length w 0 s.rx_index before made in let b = made_length (k + 1) behind made in let c = length-append before (l ∷ behind) in omega (arith, few, a, b, c) in
    let sent = halted_rx w k mid.rx_index l behind made rx cause (look_at w p looks before) zoomed.0.lane over
    (subst (λ x. IsRx w k x (l ∷ behind) made rx) (x_state w 0 s before made) (rx_focus w 0 s.rx_index before (l ∷ behind) made rx held are.sent)) in
    let several = halted look made p n event parts mid last begun cause run seen enough all.0 turn refl are_begun woven small in
    subst (λ us. IsSeveral w s most (looks ++ (events_of made ++ pushed_if w parts s.tx_index mid.tx_index event)) (at_rx rx l.engine.state) (us ++ Halted cause ∷ [])) (parts_turned w 0 s.rx_index before made)
    (subst (λ x. IsSeveral w s most (looks ++ (events_of made ++ pushed_if w parts s.tx_index mid.tx_index event)) (at_rx x l.engine.state) (map (λ (a : Part). a.turned) parts ++ Halted cause ∷ [])) (sym sent) several)

-- ---- the index that is pushed

abbrev pub IsHaltedTurn : Turned → Type 0
IsHaltedTurn Idle = ⊥
IsHaltedTurn (Ran number packet ops slots) = ⊥
IsHaltedTurn (Refused cause ops slots) = ⊥
IsHaltedTurn (Halted cause) = Unit {0}

-- A turn that halts answers no slot.
pub row_halted_index : (w : Wiring) (s : State) (t : List Event) (after : State) (u : Turned) → IsTurn w s t after u → IsHaltedTurn u → after.tx_index ≡ s.tx_index
row_halted_index w s _ _ _ (still_halted cause h) x = refl
row_halted_index w s _ _ _ (idle looks h k) x = refl
row_halted_index w s _ _ _ (overflown looks h k) x = refl
row_halted_index w s _ _ _ (short looks reads n slots read end begins) x = refl
row_halted_index w s _ _ _ (broken looks reads n slots fault read faulty) x = refl
row_halted_index w s _ _ _ (row_halted_rx p sends slots out ran tx sends_all) x = refl
row_halted_index w s _ _ _ (refused_sizes looks reads q n slots fault read chain sizes responded) x = absurd x
row_halted_index w s _ _ _ (refused_grant looks reads copies q n slots fragments read chain sizes copy responded) x = absurd x
row_halted_index w s _ _ _ (ran_row p q slots out run other responded) x = absurd x
row_halted_index w s _ _ _ (refused_few p sends q slots out run tx sends_all responded) x = absurd x
row_halted_index w s _ _ _ (refused_rx p sends q used slots out run tx sends_all responded) x = absurd x
row_halted_index w s _ _ _ (ran_tx p sends q used slots out run tx sends_all responded) x = absurd x

-- What the turns before it come to ends where the one that halts has stayed.
pub halted_index : (w : Wiring) (s : State) (p rx : ℕ) (ends : Steps Ending → Type 0) (look : List Event) (before : List LaneAt) (l : LaneAt) (behind : List LaneAt) (made : List Made) (cause : Halt) →
    AreLanes w s p look ends (before ++ l ∷ behind) rx made → all_held before ≡ true → l.asked ≡ TurnOver (kind.Halted cause) → (state_from w 0 s.rx_index s before made).tx_index ≡ l.engine.state.tx_index
halted_index w s p rx ends look before l behind made cause are held over =
    let zoomed = focus w p ends 0 s.rx_index true look before (l ∷ behind) made are.from in
    let front = from_front w p ends 0 s.rx_index true look before l behind made are.from in
    let begins = state_begins w p l.began.tx_index 0 s.rx_index s look before made front held (first_is s before l behind are.first) in
    let lane = zoomed.0.lane in
    let went : TurnGoesAt l.engine (TurnOver (kind.Halted cause)) l.began (look_at w p look before ++ (of_turn (k_at 0 before) made ++ withheld w l.asked)) =
    subst (λ a. TurnGoesAt l.engine a l.began (look_at w p look before ++ (of_turn (k_at 0 before) made ++ withheld w l.asked))) over lane.going in
    sym begins ∙ sym (row_halted_index l.engine.wires l.began (look_at w p look before ++ (of_turn (k_at 0 before) made ++ withheld w l.asked)) l.engine.state (Halted cause) went.0 tt)
