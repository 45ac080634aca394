-- One turn more begins beside those that are under way.
use Rattle.std.proofs.Common.{◌≡◌, ℕ, suc, ◌+◌, ◌<◌, ◌≤◌, Bool, true, false, List, [], ◌∷◌, ◌++◌, length, refl, sym, ap, ◌∙◌, subst, arith, length-append}
use Rattle.std.specs.Prelude.{◌&&◌}
use mathlib.Core.Logic.{inl, inr}
use Rattle.xen_steps.specs.Event.{Event, Read}
use Rattle.xen_steps.specs.Steps.{Steps}
use Rattle.xen_rx_fill.specs.Places.{tx_word}
use Rattle.xen_turns.specs.Turned.{Ending}
use Rattle.xen_turns.specs.Woven.{AllBelow, Made, by_turn, of_turn}
use Rattle.xen_turns.proofs.WovenLemmas.{below_append, below_turn}
use Rattle.xen_turns.specs.declared.state.State.{State}
use Rattle.xen_turns.specs.declared.wiring.Wiring.{Wiring}
use Rattle.xen_host.specs.EngineAt.{EngineAt}
use Rattle.xen_host.specs.Lanes.{AreFrom, AreLanes, EndsAt, EndsEach, FirstBegins, IsChained, IsLane, IsPlaced, IsRx, LaneAt, is_calm, is_filling, is_held, rx_behind}
use Rattle.xen_host.proofs.LanesCalmLemmas.{none_above, of_other, of_own, stays_in_order, two}
use Rattle.xen_host.proofs.LanesFromLemmas.{held_at, k_at, k_length, look_at, rx_of_calm, x_at}

below_wider : (n m : ℕ) (made : List Made) → n ≤ m → AllBelow n made → AllBelow m made
below_wider n m [] h b = tt
below_wider n m (a ∷ t) h b = (omega (arith, b.0, h), below_wider n m t h b.1)

module _ (w : Wiring) (p : ℕ) (ends : Steps Ending → Type 0) (l : LaneAt) where
  chained_more : (events : List Event) (e : EngineAt) (more : List LaneAt) → IsChained w (EndsAt l.began.tx_index) events e more → IsChained w ends events e (more ++ l ∷ [])
  chained_more events e [] c = c
  chained_more events e (a ∷ more) c = c

  from_more : (k x : ℕ) (h : Bool) (look : List Event) (lanes : List LaneAt) (made made' : List Made) → ((j : ℕ) → j < k_at k lanes → of_turn j made' ≡ of_turn j made) →
      AreFrom w p (EndsAt l.began.tx_index) k x h look lanes made → AreFrom w p ends (k_at k lanes) (x_at w k x lanes made) (held_at h lanes) (look_at w p look lanes) (l ∷ []) made' →
      AreFrom w p ends k x h look (lanes ++ l ∷ []) made'
  from_more k x h look [] made made' same a b = b
  from_more k x h look (c ∷ lanes) made made' same a b =
      let n = k_length (k + 1) lanes in
      let e = same k (omega (arith, n)) in
      let q = a.0 in
      let placed : IsPlaced w ends look (of_turn k made) x h c (lanes ++ l ∷ []) = record { lane = q.lane; rx = q.rx; quiet = q.quiet; chained = chained_more (of_turn k made) c.engine lanes q.chained } in
      let tail = from_more (k + 1) (rx_behind w x (of_turn k made) c) (h && is_held c.engine) (Read (tx_word w.vif 0) p ∷ []) lanes made made' same a.1 b in (
        subst (λ es. IsPlaced w ends look es x h c (lanes ++ l ∷ [])) (sym e) placed,
        subst (λ es. AreFrom w p ends (k + 1) (rx_behind w x es c) (h && is_held c.engine) (Read (tx_word w.vif 0) p ∷ []) (lanes ++ l ∷ []) made') (sym e) tail,
      )

  rx_more : (k x : ℕ) (lanes : List LaneAt) (made made' : List Made) (rx : ℕ) → ((j : ℕ) → j < k_at k lanes → of_turn j made' ≡ of_turn j made) → is_calm w (of_turn (k_at k lanes) made') ≡ true →
      IsRx w k x lanes made rx → IsRx w k x (lanes ++ l ∷ []) made' rx
  rx_more k x [] made made' rx same calm r =
      (λ g. r ∙ sym (rx_of_calm w x (of_turn k made') l calm), λ g. (λ c. r, λ c. two (is_calm w (of_turn k made')) calm c))
  rx_more k x (c ∷ lanes) made made' rx same calm r =
      let n = k_length (k + 1) lanes in
      let e = same k (omega (arith, n)) in (
        λ g. subst (λ es. IsRx w (k + 1) (rx_behind w x es c) (lanes ++ l ∷ []) made' rx) (sym e) (rx_more (k + 1) (rx_behind w x (of_turn k made) c) lanes made made' rx same calm (r.0 g)),
        λ g. subst (λ es. (is_calm w es ≡ true → rx ≡ x) × (is_calm w es ≡ false → is_filling c.engine.stage ≡ false → rx ≡ c.engine.state.rx_index)) (sym e) (r.1 g),
      )

  first_more : (s : State) (lanes : List LaneAt) → (lanes ≡ [] → l.began.tx_index ≡ s.tx_index) → FirstBegins s lanes → FirstBegins s (lanes ++ l ∷ [])
  first_more s [] h f = h refl
  first_more s (a ∷ lanes) h f = f

  -- It begins where the chain of the last ends.
  pub lane_added : (s : State) (look : List Event) (lanes : List LaneAt) (rx : ℕ) (made : List Made) (events : List Event) → AreLanes w s p look (EndsAt l.began.tx_index) lanes rx made →
      (lanes ≡ [] → l.began.tx_index ≡ s.tx_index) → is_calm w events ≡ true → IsLane w (look_at w p look lanes) events l → EndsEach w ends events l.engine →
      AreLanes w s p look ends (lanes ++ l ∷ []) rx (made ++ by_turn (length lanes) events)
  lane_added s look lanes rx made events are begins calm lane ended =
      let k = length lanes in
      let n : k_at 0 lanes ≡ k = k_length 0 lanes ∙ (let z : 0 + k ≡ k = omega arith in z) in
      let made' = made ++ by_turn k events in
      let x = x_at w 0 s.rx_index lanes made in
      let h = held_at true lanes in
      let own : of_turn k made' ≡ events = of_own k made events ∙ ap (λ es. es ++ events) (none_above k k made are.none_else (omega arith)) in
      let same : (j : ℕ) → j < k_at 0 lanes → of_turn j made' ≡ of_turn j made = λ j g. of_other j k made events (λ e. omega (arith, e, g, n)) in
      let placed : IsPlaced w ends (look_at w p look lanes) events x h l [] = record { lane = lane; rx = λ f. two (is_calm w events) calm f; quiet = λ f. calm; chained = ended } in
      let here : AreFrom w p ends k x h (look_at w p look lanes) (l ∷ []) made' = (subst (λ es. IsPlaced w ends (look_at w p look lanes) es x h l []) (sym own) placed, tt) in
      let m : length (lanes ++ l ∷ []) ≡ suc k = length-append lanes (l ∷ []) ∙ (let z : k + 1 ≡ suc k = omega arith in z) in
      record {
        first = first_more s lanes begins are.first;
        from = from_more 0 s.rx_index true look lanes made made' same are.from (subst (λ i. AreFrom w p ends i x h (look_at w p look lanes) (l ∷ []) made') (sym n) here);
        none_else = subst (λ i. AllBelow i made') (sym m) (below_append (suc k) made (by_turn k events) (below_wider k (suc k) made (omega arith) are.none_else) (below_turn (suc k) k events (omega arith)));
        order = stays_in_order w k made events are.order (inl calm);
        sent = rx_more 0 s.rx_index lanes made made' rx same (subst (λ i. is_calm w (of_turn i made') ≡ true) (sym n) (ap (λ es. is_calm w es) own ∙ calm)) are.sent;
      }
