-- A queue halts while turns behind have been read further than they took: the host has made the reads that they asked for last.
use Rattle.std.proofs.Common.{◌≡◌, ℕ, ◌+◌, ◌<◌, ◌≤◌, ◌^◌, ◌⊎◌, Bool, true, false, List, [], ◌∷◌, ◌++◌, length, map, take, refl, sym, ap, ◌∙◌, subst, arith, append-nil, length-append}
use Rattle.std.specs.Prelude.{◌&&◌, None, Some}
use mathlib.Core.Logic.{inl, inr, ⊎_elim}
use Rattle.xen_page.specs.Mapping.{frame_place}
use Rattle.xen_page.specs.declared.place.Place.{Place}
use Rattle.xen_steps.specs.Drive.{Any, LedBy}
use Rattle.xen_steps.specs.Event.{Event, Read}
use Rattle.xen_steps.specs.Finish.{Ends}
use Rattle.xen_steps.specs.Places.{page_word}
use Rattle.xen_steps.specs.Steps.{Steps, Runs}
use Rattle.xen_steps.proofs.DriveLemmas.{gone_append}
use Rattle.xen_steps.proofs.FinishLemmas.{runs_gone}
use Rattle.xen_rx_fill.specs.Places.{tx_word}
use Rattle.xen_turns.proofs.EndLemmas.{rest_of_gone}
use Rattle.xen_turns.proofs.TurnParts.{turn_parts}
use Rattle.xen_turns.specs.Parts.{IsLook}
use Rattle.xen_turns.specs.Several.{AreBegun, IsBegun, IsSeveral, Part, events_in, halted, look_behind, pushed_if}
use Rattle.xen_turns.specs.Tree.{whole_turn}
use Rattle.xen_turns.specs.Turned.{Ending, Halted}
use Rattle.xen_turns.specs.Turns.{IsTurn}
use Rattle.xen_turns.specs.Woven.{AllBelow, AreWoven, IsRising, Made, events_of, of_turn, turns_in_order}
use Rattle.xen_turns.specs.declared.state.State.{State}
use Rattle.xen_turns.specs.declared.turn.Halt.{Halt}
use Rattle.xen_turns.specs.declared.turn.Kind.TheVariants as kind
use Rattle.xen_turns.specs.declared.wiring.Wiring.{Wiring}
use Rattle.xen_host.specs.Asks.{Ask, TurnOver, read_by, reads_at}
use Rattle.xen_host.specs.Asks as ask
use Rattle.xen_host.specs.Fed.{fed}
use Rattle.xen_host.specs.Further.{AreFurther, IsFurther}
use Rattle.xen_host.specs.Early.{at_rx}
use Rattle.xen_host.specs.Lanes.{AreFrom, AreLanes, EndsAt, IsLane, IsRx, LaneAt, all_held, is_calm, is_held, is_withheld, rest_of, rx_behind, withheld}
use Rattle.xen_host.specs.Rest.{reads_in}
use Rattle.xen_host.specs.UnderWay.{IsTurningAt}
use Rattle.xen_host.proofs.LanesCalmLemmas.{calm_both}
use Rattle.xen_host.proofs.LanesFromLemmas.{AllCalm, focus, held_all, held_at, k_at, k_length, look_at, quiet_calm, rx_focus}
use Rattle.xen_host.proofs.LanesMovesLemmas.{over_or_on}
use Rattle.xen_host.proofs.LanesEndLemmas.{all_answer, parts_from, result_of, state_from}
use Rattle.xen_host.proofs.LanesOverLemmas.{calm_unseen, first_front, first_is, from_front, halted_rx, halted_turn, lane_begun, look_at_program, look_program, look_same, made_append, made_each, made_from, made_length, made_parts, part_halted, parts_length, parts_turned, state_begins, x_state}
use Rattle.xen_host.proofs.LanesStepLemmas.{none_withheld}
use Rattle.xen_host.proofs.StepLemmas.{waits_led}

-- reads are calm
reads_calm : (w : Wiring) (at : Place) (l : List ℕ) → is_calm w (reads_at at l) ≡ true
reads_calm w at [] = refl
reads_calm w at (v ∷ l) = reads_calm w (frame_place at) l

read_calm : (w : Wiring) (a : Ask) (lent : List ℕ) → is_calm w (read_by a lent) ≡ true
read_calm w (ask.Read at count) lent = reads_calm w at (take count lent)
read_calm w (ask.Entry at reference rights) lent = reads_calm w at (take 2 lent)
read_calm w (ask.Push at word read) lent = reads_calm w (page_word at.frame read) (take 1 lent)
read_calm w (ask.Write at count) lent = refl
read_calm w (ask.Store at word) lent = refl
read_calm w (ask.StoreTwo at x y) lent = refl
read_calm w (ask.Notify port) lent = refl
read_calm w (ask.TurnOver k) lent = refl
read_calm w (ask.DeliveryOver what) lent = refl
read_calm w (ask.WaitOver what) lent = refl

-- A lane that was begun, with the reads that it asked for last.
further_begun : (w : Wiring) (p : ℕ) (events r : List Event) (l : LaneAt) → ((s : State) → Ends Any (whole_turn w s)) → is_calm w events ≡ true → IsLane w (Read (tx_word w.vif 0) p ∷ []) events l → IsFurther l r → IsBegun w p (events ++ r)
further_begun w p events r l completes calm lane (inl none) = subst (λ q. IsBegun w p q) (sym (ap (λ q. events ++ q) none ∙ append-nil events)) (lane_begun w p events l completes calm lane)
further_begun w p events r l completes calm lane (inr f) =
    ⊎_elim
    (λ k.
    let none : r ≡ [] = f.4 ∙ ap (λ a. read_by a f.1) k.1 in
    subst (λ q. IsBegun w p q) (sym (ap (λ q. events ++ q) none ∙ append-nil events)) (lane_begun w p events l completes calm lane))
    (λ on.
    let look = Read (tx_word w.vif 0) p ∷ [] in
    let plain : events ++ withheld w l.asked ≡ events = ap (λ q. events ++ q) (none_withheld w l.asked (lane.held ∙ f.0)) ∙ append-nil events in
    let token : IsTurningAt l.engine l.began (look ++ events) l.asked = subst (λ q. IsTurningAt l.engine l.began (look ++ q) l.asked) plain (on l.engine l.began (look ++ (events ++ withheld w l.asked)) lane.going) in
    let reads : LedBy (rest_of l.engine) r (fed (rest_of l.engine) f.1) = subst (λ q. LedBy (rest_of l.engine) q (fed (rest_of l.engine) f.1)) (sym f.4) (waits_led l.asked (reads_in l.engine.stage) (rest_of l.engine) f.1 f.2 f.3 token.waits) in
    let gone : LedBy (whole_turn w l.began) ((look ++ events) ++ r) (fed (rest_of l.engine) f.1) =
    subst (λ q. LedBy (whole_turn q l.began) ((look ++ events) ++ r) (fed (rest_of l.engine) f.1)) lane.wires
    (gone_append (whole_turn l.engine.wires l.began) (rest_of l.engine) (fed (rest_of l.engine) f.1) (look ++ events) r token.gone reads) in
    let more = rest_of_gone (whole_turn w l.began) (fed (rest_of l.engine) f.1) ((look ++ events) ++ r) (completes l.began) gone in
    let run : Runs (whole_turn w l.began) (((look ++ events) ++ r) ++ more.0) more.1 = runs_gone (whole_turn w l.began) (fed (rest_of l.engine) f.1) ((look ++ events) ++ r) more.0 more.1 gone more.2 in
    record {
      state = l.began;
      rest = more.0;
      after = more.1.0;
      turned = more.1.1;
      turn = turn_parts w l.began (((look ++ events) ++ r) ++ more.0) more.1.0 more.1.1 run;
      unseen = calm_unseen w (events ++ r) (calm_both w events r calm (ap (λ q. is_calm w q) f.4 ∙ read_calm w l.asked f.1));
    })
    (over_or_on l.asked)

further_all : (w : Wiring) (p : ℕ) (ends : Steps Ending → Type 0) (k x : ℕ) (h : Bool) (lanes : List LaneAt) (made other : List Made) → ((s : State) → Ends Any (whole_turn w s)) → AllCalm w k lanes made →
    AreFrom w p ends k x h (Read (tx_word w.vif 0) p ∷ []) lanes made → AreFurther k lanes made other → AreBegun w p (made_from k lanes other)
further_all w p ends k x h [] made other completes c a f = tt
further_all w p ends k x h (l ∷ more) made other completes c a f = (
  subst (λ q. IsBegun w p q) (sym f.2) (further_begun w p (of_turn k made) f.0 l completes c.0 a.0.lane f.1),
  further_all w p ends (k + 1) (rx_behind w x (of_turn k made) l) (h && is_held l.engine) more made other completes c.1 a.1 f.3,
)

made_same : (k : ℕ) (lanes : List LaneAt) (made other : List Made) → ((j : ℕ) → j < k_at k lanes → of_turn j other ≡ of_turn j made) → made_from k lanes other ≡ made_from k lanes made
made_same k [] made other same = refl
made_same k (l ∷ more) made other same =
    let n = k_length (k + 1) more in
    ap (λ q. q ∷ made_from (k + 1) more other) (same k (omega (arith, n))) ∙ ap (λ q. of_turn k made ∷ q) (made_same (k + 1) more made other same)

pub lanes_halted_further : (w : Wiring) (s : State) (p n most event rx : ℕ) (ends : Steps Ending → Type 0) (look : List Event) (before : List LaneAt) (l : LaneAt) (behind : List LaneAt) (made other : List Made) (cause : Halt) →
    s.halt ≡ None → ((s : State) → Ends Any (whole_turn w s)) → IsLook w s.tx_index (look ++ Read (tx_word w.vif 0) p ∷ []) (Some n) →
    AreLanes w s p (look ++ Read (tx_word w.vif 0) p ∷ []) ends (before ++ l ∷ behind) rx made → all_held before ≡ true → l.asked ≡ TurnOver (kind.Halted cause) →
    length (before ++ l ∷ behind) ≤ most → event < 2 ^ 32 → ((j : ℕ) → j ≤ length before → of_turn j other ≡ of_turn j made) → AreFurther (length before + 1) behind made other →
    AllBelow (length (before ++ l ∷ behind)) other → IsRising 0 (turns_in_order w other) →
    IsSeveral w s most ((look ++ Read (tx_word w.vif 0) p ∷ []) ++ (events_of other ++ pushed_if w (parts_from w 0 s.rx_index before made) s.tx_index (state_from w 0 s.rx_index s before made).tx_index event))
    (at_rx rx l.engine.state) (map result_of before ++ Halted cause ∷ [])
lanes_halted_further w s p n most event rx ends look before l behind made other cause run completes seen are held over few small same further below rising =
    let looks = look ++ Read (tx_word w.vif 0) p ∷ [] in
    let k = k_at 0 before in
    let kn : k ≡ length before = k_length 0 before ∙ (let z : 0 + length before ≡ length before = omega arith in z) in
    let mid = state_from w 0 s.rx_index s before made in
    let parts = parts_from w 0 s.rx_index before made in
    let seen_none = look_program w s.tx_index looks (Some n) seen in
    let zoom = focus w p ends 0 s.rx_index true looks before (l ∷ behind) made are.from in
    let zoomed : AreFrom w p ends k mid.rx_index true (look_at w p looks before) (l ∷ behind) made =
    subst (λ h. AreFrom w p ends k mid.rx_index h (look_at w p looks before) (l ∷ behind) made) (held_all true before ∙ held)
    (subst (λ x. AreFrom w p ends k x (held_at true before) (look_at w p looks before) (l ∷ behind) made) (x_state w 0 s before made) zoom) in
    let events = of_turn k made in
    let unheld : is_held l.engine ≡ false = sym zoomed.0.lane.held ∙ ap (is_withheld w) over in
    let front = from_front w p ends 0 s.rx_index true looks before l behind made are.from in
    let all = all_answer w p (EndsAt l.began.tx_index) 0 s looks before made run (first_front s before l behind are.first) seen_none front held in
    let begins = state_begins w p l.began.tx_index 0 s.rx_index s looks before made front held (first_is s before l behind are.first) in
    let last = part_halted w mid.rx_index events l cause in
    let turn : IsTurn w mid (look_behind w p looks parts ++ events) last.after (Halted cause) =
    subst (λ q. IsTurn w mid (q ++ events) last.after (Halted cause)) (sym (look_same w p 0 s.rx_index looks before made))
    (halted_turn w ends (look_at w p looks before) events mid l behind cause all.1 begins (look_at_program w p looks before seen_none) zoomed.0 over) in
    let rest : AreFrom w p ends (k + 1) (rx_behind w mid.rx_index events l) false (Read (tx_word w.vif 0) p ∷ []) behind made =
    subst (λ h. AreFrom w p ends (k + 1) (rx_behind w mid.rx_index events l) h (Read (tx_word w.vif 0) p ∷ []) behind made) unheld zoomed.1 in
    let begun = made_from (k + 1) behind other in
    let are_begun = further_all w p ends (k + 1) (rx_behind w mid.rx_index events l) false behind made other completes
    (quiet_calm w p ends (k + 1) (rx_behind w mid.rx_index events l) (Read (tx_word w.vif 0) p ∷ []) behind made rest) rest (subst (λ i. AreFurther (i + 1) behind made other) (sym kn) further) in
    let own : of_turn k other ≡ events = same k (omega (arith, kn)) in
    let whole : events_in parts ++ (events ∷ begun) ≡ made_from 0 (before ++ l ∷ behind) other =
    ap (λ q. q ++ (events ∷ begun)) (made_parts w 0 s.rx_index before made ∙ sym (made_same 0 before made other (λ j h. same j (omega (arith, h, kn)))))
    ∙ ap (λ q. made_from 0 before other ++ (q ∷ begun)) (sym own) ∙ sym (made_append 0 before (l ∷ behind) other) in
    let count = made_length 0 (before ++ l ∷ behind) other in
    let woven : AreWoven w (events_in parts ++ (last.events ∷ begun)) other = subst (λ q. AreWoven w q other) (sym whole)
    (record {
      each = λ j h. made_each 0 (before ++ l ∷ behind) other j (omega (arith, h, count)) ∙ (let z : 0 + j ≡ j = omega arith in ap (λ i. Some (of_turn i other)) z);
      none_else = subst (λ i. AllBelow i other) (sym count) below;
      order = rising;
    }) in
    let enough : length parts + length begun < most =
    let a = parts_length w 0 s.rx_index before made in let b = made_length (k + 1) behind other in let c = length-append before (l ∷ behind) in omega (arith, few, a, b, c) in
    let sent = halted_rx w k mid.rx_index l behind made rx cause (look_at w p looks before) zoomed.0.lane over
    (subst (λ x. IsRx w k x (l ∷ behind) made rx) (x_state w 0 s before made) (rx_focus w 0 s.rx_index before (l ∷ behind) made rx held are.sent)) in
    let several = halted look other p n event parts mid last begun cause run seen enough all.0 turn refl are_begun woven small in
    subst (λ us. IsSeveral w s most (looks ++ (events_of other ++ pushed_if w parts s.tx_index mid.tx_index event)) (at_rx rx l.engine.state) (us ++ Halted cause ∷ [])) (parts_turned w 0 s.rx_index before made)
    (subst (λ x. IsSeveral w s most (looks ++ (events_of other ++ pushed_if w parts s.tx_index mid.tx_index event)) (at_rx x l.engine.state) (map (λ (a : Part). a.turned) parts ++ Halted cause ∷ [])) (sym sent) several)
