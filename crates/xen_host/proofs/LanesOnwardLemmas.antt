-- One of several turns goes on, or begins, as its contract says: all are under way then.
use Rattle.std.proofs.Common.{◌≡◌, ◌≢◌, ℕ, zero, suc, ◌+◌, ◌≤◌, ◌⊎◌, Bool, true, false, List, [], ◌∷◌, ◌++◌, length, map, drop, refl, sym, ap, ◌∙◌, subst, arith, append_assoc}
use Rattle.std.specs.Prelude.{Option, None}
use mathlib.Core.Logic.{inl, inr, ⊎_elim}
use Rattle.bpf_note.specs.declared.op.Op.{Op as Operation}
use Rattle.xen_page.specs.Mapping.{frame_place}
use Rattle.xen_page.specs.declared.place.Place.{Place}
use Rattle.xen_steps.specs.Drive.{Any, LedBy}
use Rattle.xen_steps.specs.Event.{Event}
use Rattle.xen_steps.specs.Finish.{Ends}
use Rattle.xen_steps.specs.Steps.{Steps, never}
use Rattle.xen_turns.specs.Program.{event_of}
use Rattle.xen_turns.specs.Tree.{whole_turn}
use Rattle.xen_turns.specs.Turned.{Ending}
use Rattle.xen_turns.specs.Woven.{Made, by_turn, of_turn}
use Rattle.xen_turns.specs.declared.state.State.{State}
use Rattle.xen_turns.specs.declared.wiring.Wiring.{Wiring}
use Rattle.xen_host.specs.Asks.{Ask, TakeNone, TurnOver, did_all, did_by, read_by, reads_at}
use Rattle.xen_host.specs.Early.{at_rx, engine_at_rx, is_early, is_late}
use Rattle.xen_host.specs.EngineAt.{EngineAt}
use Rattle.xen_host.specs.LaneHosts.{said_by}
use Rattle.xen_host.specs.LaneSteps.{LaneGoes, did_own, goes_on, index_behind, indexed, slot_at, slot_reads}
use Rattle.xen_host.specs.Lanes.{AreFrom, AreLanes, EndsAt, EndsEach, IsLane, IsRx, LaneAt, all_held, did_in, held_at as stage_held, is_calm, is_filling, is_held, is_withheld, withheld}
use Rattle.xen_host.specs.Quiet.{Calm, Halts, Within}
use Rattle.xen_host.specs.Told.{IsToldAt}
use Rattle.xen_host.specs.UnderWay.{IsTurningAt, TurnGoesAt}
use Rattle.xen_host.specs.declared.op.HostOp.{HostOp}
use Rattle.xen_host.proofs.LaneToldLemmas.{withheld_held}
use Rattle.xen_host.proofs.LanesBeginLemmas.{lane_added}
use Rattle.xen_host.proofs.LanesCalmLemmas.{calm_both, tell, two}
use Rattle.xen_host.proofs.LanesFillLemmas.{filling_ran}
use Rattle.xen_host.proofs.LanesFromLemmas.{focus, held_all, held_at, k_at, k_length, look_at, rx_focus, x_at}
use Rattle.xen_host.proofs.LanesGoesLemmas.{begun, lane_moves, over_stage, starts}
use Rattle.xen_host.proofs.LanesHaltLemmas.{all_no_read, did_no_read, halts_from, labels_no_read, reads_append, reads_of}
use Rattle.xen_host.proofs.LanesMovesLemmas.{did_said, over_or_on, withheld_program}
use Rattle.xen_host.proofs.LanesOverLemmas.{look_at_program, over_ready}
use Rattle.xen_host.proofs.LanesPushedLemmas.{calm_from}
use Rattle.xen_host.proofs.LanesRowLemmas.{calm_program, has_program, program_none}
use Rattle.xen_host.proofs.LanesStepLemmas.{IsKept, lane_stepped, moved}

-- ---- one of them

-- The lane behind these, and the rx index behind what was sent as long as it is the first that isn't held.
pub lane_there : (w : Wiring) (s : State) (p : ℕ) (look : List Event) (ends : Steps Ending → Type 0) (before : List LaneAt) (l : LaneAt) (more : List LaneAt) (rx : ℕ) (made : List Made) →
    AreLanes w s p look ends (before ++ l ∷ more) rx made → IsLane w (look_at w p look before) (of_turn (length before) made) l ×
    (is_held l.engine ≡ false → is_calm w (of_turn (length before) made) ≡ false → is_filling l.engine.stage ≡ false → rx ≡ l.engine.state.rx_index)
lane_there w s p look ends before l more rx made are =
    let k = length before in
    let n : k_at 0 before ≡ k = k_length 0 before ∙ (let z : 0 + k ≡ k = omega arith in z) in
    let x = x_at w 0 s.rx_index before made in
    let zoom = focus w p ends 0 s.rx_index true look before (l ∷ more) made are.from in
    let zoomed : AreFrom w p ends k x (held_at true before) (look_at w p look before) (l ∷ more) made = subst (λ i. AreFrom w p ends i x (held_at true before) (look_at w p look before) (l ∷ more) made) n zoom in (
      zoomed.0.lane,
      λ unheld ran unfilled.
          let first : all_held before ≡ true = ⊎_elim (λ a. a) (λ a. two (is_calm w (of_turn k made)) (zoomed.0.quiet (held_all true before ∙ a)) ran) (tell (all_held before)) in
          let sent : IsRx w k x (l ∷ more) made rx = subst (λ i. IsRx w i x (l ∷ more) made rx) n (rx_focus w 0 s.rx_index before (l ∷ more) made rx first are.sent) in
          (sent.1 unheld).1 ran unfilled,
    )

not_then : (a b : Bool) → (a ≡ true → b ≡ true) → b ≡ false → a ≡ false
not_then true b f e = let g = sym (f refl) ∙ e in cc g
not_then false b f e = refl

-- One goes on: its events come behind all that was made.
pub lane_goes_onward : (w : Wiring) (completes : (s : State) → Ends Any (whole_turn w s)) (apart : w.vif.tx ≢ w.vif.rx) (p : ℕ) (ends : Steps Ending → Type 0) (none : ends never) (kept : IsKept ends) (s : State)
    (look : List Event) (plain : has_program look ≡ false) (before : List LaneAt) (l : LaneAt) (more : List LaneAt) (next : Bool) (rx rx_after : ℕ) (made : List Made) (new : EngineAt)
    (went : List (Option Operation) → Type 0) (place limit : ℕ) (ops ops_after : List HostOp) (count count_after : ℕ) (lent lent_after : List ℕ) → (next ≡ true → all_held before ≡ true) →
    AreLanes w s p look ends (before ++ l ∷ more) rx made → goes_on next l.engine ≡ true → is_held l.engine ≡ false → rx_after ≡ index_behind rx l.engine.stage new.state →
    (goes : LaneGoes went place limit (indexed rx l.engine) new ops ops_after count count_after lent lent_after) →
    (l' : LaneAt) × (l'.engine ≡ new) × (l'.asked ≡ goes.last) × AreLanes w s p look ends (before ++ l' ∷ more) rx_after (made ++ by_turn (length before)
    (read_by l.asked (drop place lent) ++ (map event_of goes.labels ++ did_in (said_by w.vif.tx (goes.first ++ goes.last ∷ [])) (drop place lent_after))))
lane_goes_onward w completes apart p ends none kept s look plain before l more next rx rx_after made new went place limit ops ops_after count count_after lent lent_after first are on unheld index goes =
    let here = lane_there w s p look ends before l more rx made are in
    let look' = look_at w p look before in
    let made' = of_turn (length before) made in
    let plain' = look_at_program w p look before plain in
    let only = not_then next (all_held before) first in
    let at = here.1 unheld in
    let m = lane_moves w completes apart look' made' plain' next (all_held before) only rx rx_after l new went place limit ops ops_after count count_after lent lent_after here.0 at on index goes in
    let st = starts w completes apart look' made' plain' next (all_held before) only rx rx_after l new went place limit ops ops_after count count_after lent lent_after here.0 at on index goes in
    let b = begun w completes apart look' made' plain' next (all_held before) only rx rx_after l new went place limit ops ops_after count count_after lent lent_after here.0 at on index goes in (
      moved new b goes.last,
      refl,
      refl,
      lane_stepped w p ends none kept s look before l more rx rx_after made (indexed rx l.engine) new b goes.last
          (read_by l.asked (drop place lent) ++ (map event_of goes.labels ++ did_in (said_by w.vif.tx (goes.first ++ goes.last ∷ [])) (drop place lent_after))) are st m,
    )

-- ---- one more

reads_calm : (w : Wiring) (at : Place) (l : List ℕ) → is_calm w (reads_at at l) ≡ true
reads_calm w at [] = refl
reads_calm w at (v ∷ l) = reads_calm w (frame_place at) l

pub slots_are_calm : (w : Wiring) (t : ℕ) (lent : List ℕ) (i n : ℕ) → is_calm w (slot_reads w t lent i n) ≡ true
slots_are_calm w t lent i zero = refl
slots_are_calm w t lent i (suc n) = calm_both w (slot_reads w t lent i n) (reads_at _ (slot_at lent (i + n))) (slots_are_calm w t lent i n) (reads_calm w _ (slot_at lent (i + n)))

-- One more begins: with these reads of slots it has come to `left`, which makes no more than responses before its next read.
module _ (w : Wiring) (completes : (s : State) → Ends Any (whole_turn w s)) (apart : w.vif.tx ≢ w.vif.rx) (look : List Event) (plain : has_program look ≡ false) (b : State) (running : b.halt ≡ None)
    (new : EngineAt) (wires : new.wires ≡ w) (reads : List Event) (labels : List (Option Operation)) (first : List Ask) (last : Ask) (place : ℕ) (lent : List ℕ) (take_none : TakeNone first)
    (told : IsToldAt w.vif.table.now new.stage last) (calm_reads : is_calm w reads ≡ true) (went : TurnGoesAt new last b (look ++ (reads ++ (map event_of labels ++ did_own place first last lent))))
    (on : is_early new.stage ≡ false → is_late new.stage ≡ true) (left : Steps Ending) (gone : LedBy (whole_turn w b) (look ++ reads) left) (quiet : Calm w 0 left) (halting : Within Halts 0 left)
    (free : is_early new.stage ≡ true → (x : ℕ) → IsTurningAt (engine_at_rx x new) (at_rx x b) (look ++ (reads ++ (map event_of labels ++ did_own place first last lent))) last) where
  abbrev pub begun_behind : List Event
  begun_behind = map event_of labels ++ did_in (said_by w.vif.tx (first ++ last ∷ [])) (drop place lent)

  abbrev pub begun_events : List Event
  begun_events = reads ++ begun_behind

  all_is : reads ++ (map event_of labels ++ did_own place first last lent) ≡ begun_events ++ withheld w last
  all_is = did_said w reads (map event_of labels) first last (drop place lent) take_none

  rest_is : (look ++ reads) ++ (begun_behind ++ withheld w last) ≡ look ++ (begun_events ++ withheld w last)
  rest_is = append_assoc look reads (begun_behind ++ withheld w last) ∙ ap (λ l. look ++ l) (sym (append_assoc reads begun_behind (withheld w last)))

  there : TurnGoesAt new last b (look ++ (begun_events ++ withheld w last))
  there = subst (λ q. TurnGoesAt new last b (look ++ q)) all_is went

  few : reads_of (begun_behind ++ withheld w last) ≤ 0
  few =
      let whole : map event_of labels ++ did_own place first last lent ≡ begun_behind ++ withheld w last = did_said w [] (map event_of labels) first last (drop place lent) take_none in
      let same = ap reads_of (sym whole) in
      let a = reads_append (map event_of labels) (did_own place first last lent) in
      let c = reads_append (did_all first (drop place lent)) (did_by last (drop place lent)) in
      omega (arith, same, a, c, labels_no_read labels, all_no_read first (drop place lent), did_no_read last (drop place lent))

  held : is_withheld w last ≡ is_held new
  held =
      ⊎_elim
      (λ k.
      let over : TurnGoesAt new (TurnOver k.0) b (look ++ (begun_events ++ withheld w last)) = subst (λ a. TurnGoesAt new a b (look ++ (begun_events ++ withheld w last))) k.1 there in
      ap (is_withheld w) k.1 ∙ sym (over_stage new.state new.stage over.1).0)
      (λ go.
      let apart_new : new.wires.vif.tx ≢ new.wires.vif.rx = λ e. apart (ap (λ (q : Wiring). q.vif.tx) (sym wires) ∙ e ∙ ap (λ (q : Wiring). q.vif.rx) wires) in
      let told_new : IsToldAt new.wires.vif.table.now new.stage last = subst (λ (q : Wiring). IsToldAt q.vif.table.now new.stage last) (sym wires) told in
      subst (λ q. is_withheld q last ≡ stage_held new.stage) wires
      (withheld_held new last b (look ++ (begun_events ++ withheld w last)) apart_new told_new (go new b (look ++ (begun_events ++ withheld w last)) there)))
      (over_or_on last)

  behind : TurnGoesAt new last b ((look ++ reads) ++ (begun_behind ++ withheld w last))
  behind = subst (λ q. TurnGoesAt new last b q) (sym rest_is) there

  pub begun_calm : is_calm w begun_events ≡ true
  begun_calm = calm_both w reads begun_behind calm_reads (calm_from w 0 left new b (look ++ reads) begun_behind last wires apart quiet gone behind few held on)

  pub begun_lane : IsLane w look begun_events (record { engine = new; began = b; asked = last })
  begun_lane = record {
    wires = wires;
    running = running;
    going = there;
    free = λ early calm x. subst (λ q. IsTurningAt (engine_at_rx x new) (at_rx x b) (look ++ q) last) all_is (free early x);
    on = on;
    ran = λ f. ⊎_elim
        (λ k. two (is_filling new.stage) f (over_ready new k.0 b (look ++ (begun_events ++ withheld w last)) (subst (λ a. TurnGoesAt new a b (look ++ (begun_events ++ withheld w last))) k.1 there)))
        (λ go. two (has_program (look ++ (begun_events ++ withheld w last)))
        (filling_ran w new b (look ++ (begun_events ++ withheld w last)) last completes wires running (go new b (look ++ (begun_events ++ withheld w last)) there) f)
        (program_none look (begun_events ++ withheld w last) plain (program_none begun_events (withheld w last) (calm_program w begun_events begun_calm) (withheld_program w last))))
        (over_or_on last);
    held = held;
    halts = λ k e. halts_from w 0 left new b (look ++ reads) (begun_behind ++ withheld w last) k wires halting gone few (subst (λ a. TurnGoesAt new a b ((look ++ reads) ++ (begun_behind ++ withheld w last))) e behind);
  }

-- It is one of those that are under way then.
pub lane_begins_onward : (w : Wiring) (p : ℕ) (ends : Steps Ending → Type 0) (s : State) (look : List Event) (lanes : List LaneAt) (rx : ℕ) (made : List Made) (l : LaneAt) (events : List Event) →
    AreLanes w s p look (EndsAt l.began.tx_index) lanes rx made → (lanes ≡ [] → l.began.tx_index ≡ s.tx_index) → is_calm w events ≡ true → IsLane w (look_at w p look lanes) events l → EndsEach w ends events l.engine →
    AreLanes w s p look ends (lanes ++ l ∷ []) rx (made ++ by_turn (length lanes) events)
lane_begins_onward w p ends s look lanes rx made l events are begins calm lane ended = lane_added w p ends l s look lanes rx made events are begins calm lane ended
