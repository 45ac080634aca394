-- Turns that are under way side by side: one of them is replaced, or one is added.
use Rattle.std.proofs.Common.{◌≡◌, ℕ, ◌+◌, ◌<◌, ◌≤◌, ◌⊎◌, Bool, true, false, List, [], ◌∷◌, ◌++◌, length, refl, sym, ap, ◌∙◌, subst, arith}
use Rattle.std.specs.Prelude.{◌&&◌, if◌then◌else◌}
use Rattle.std.proofs.lemmas.Bool.{and_parts, cases_lt}
use mathlib.Core.Logic.{⊎_elim}
use Rattle.xen_steps.specs.Event.{Event, Read}
use Rattle.xen_steps.specs.Steps.{Steps}
use Rattle.xen_rx_fill.specs.Places.{tx_word}
use Rattle.xen_turns.specs.Turned.{Ending}
use Rattle.xen_turns.specs.Woven.{Made, of_turn}
use Rattle.xen_turns.specs.declared.wiring.Wiring.{Wiring}
use Rattle.xen_host.specs.EngineAt.{EngineAt}
use Rattle.xen_host.specs.Lanes.{AreFrom, EndsAt, EndsEach, IsChained, IsPlaced, IsRx, LaneAt, all_held, is_calm, is_filling, is_held, rx_behind}
use Rattle.xen_host.proofs.LanesCalmLemmas.{two}

-- Where the list behind these lanes begins: its number, its rx index, whether all before it are held, and its look.
abbrev pub k_at : ℕ → List LaneAt → ℕ
k_at k [] = k
k_at k (l ∷ more) = k_at (k + 1) more

abbrev pub x_at : Wiring → ℕ → ℕ → List LaneAt → List Made → ℕ
x_at w k x [] made = x
x_at w k x (l ∷ more) made = x_at w (k + 1) (rx_behind w x (of_turn k made) l) more made

abbrev pub held_at : Bool → List LaneAt → Bool
held_at h [] = h
held_at h (l ∷ more) = held_at (h && is_held l.engine) more

abbrev pub look_at : Wiring → ℕ → List Event → List LaneAt → List Event
look_at w p look [] = look
look_at w p look (l ∷ more) = look_at w p (Read (tx_word w.vif 0) p ∷ []) more

abbrev pub AllCalm : Wiring → ℕ → List LaneAt → List Made → Type 0
AllCalm w k [] made = Unit {0}
AllCalm w k (l ∷ more) made = (is_calm w (of_turn k made) ≡ true) × AllCalm w (k + 1) more made

pub k_length : (k : ℕ) (lanes : List LaneAt) → k_at k lanes ≡ k + length lanes
k_length k [] = omega arith
k_length k (l ∷ more) = let e = k_length (k + 1) more in omega (arith, e)

held_none : (lanes : List LaneAt) → held_at false lanes ≡ false
held_none [] = refl
held_none (l ∷ more) = held_none more

pub held_all : (h : Bool) (lanes : List LaneAt) → held_at h lanes ≡ (h && all_held lanes)
held_all true [] = refl
held_all false [] = refl
held_all true (l ∷ more) = held_all (is_held l.engine) more
held_all false (l ∷ more) = held_none more

module _ (w : Wiring) (p : ℕ) (ends : Steps Ending → Type 0) where
  pub focus : (k x : ℕ) (h : Bool) (look : List Event) (before rest : List LaneAt) (made : List Made) → AreFrom w p ends k x h look (before ++ rest) made →
      AreFrom w p ends (k_at k before) (x_at w k x before made) (held_at h before) (look_at w p look before) rest made
  focus k x h look [] rest made a = a
  focus k x h look (b ∷ before) rest made a = focus (k + 1) (rx_behind w x (of_turn k made) b) (h && is_held b.engine) (Read (tx_word w.vif 0) p ∷ []) before rest made a.1

  -- the same with another list, whose first begins where the first of the other did
  chained_as : (events : List Event) (e : EngineAt) (l l' : LaneAt) (before more more' : List LaneAt) → l'.began.tx_index ≡ l.began.tx_index → IsChained w ends events e (before ++ l ∷ more) →
      IsChained w ends events e (before ++ l' ∷ more')
  chained_as events e l l' [] more more' same c = subst (λ t. EndsEach w (EndsAt t) events e) (sym same) c
  chained_as events e l l' (a ∷ before) more more' same c = c

  placed_as : (look events events' : List Event) (x : ℕ) (h : Bool) (b l l' : LaneAt) (before more more' : List LaneAt) → events' ≡ events → l'.began.tx_index ≡ l.began.tx_index →
      IsPlaced w ends look events x h b (before ++ l ∷ more) → IsPlaced w ends look events' x h b (before ++ l' ∷ more')
  placed_as look events events' x h b l l' before more more' e t q =
      subst (λ es. IsPlaced w ends look es x h b (before ++ l' ∷ more')) (sym e)
      (record { lane = q.lane; rx = q.rx; quiet = q.quiet; chained = chained_as events b.engine l l' before more more' t q.chained })

  pub replaced : (k x : ℕ) (h : Bool) (look : List Event) (before : List LaneAt) (l l' : LaneAt) (more more' : List LaneAt) (made made' : List Made) →
      ((j : ℕ) → j < k_at k before → of_turn j made' ≡ of_turn j made) → l'.began.tx_index ≡ l.began.tx_index → AreFrom w p ends k x h look (before ++ l ∷ more) made →
      AreFrom w p ends (k_at k before) (x_at w k x before made) (held_at h before) (look_at w p look before) (l' ∷ more') made' → AreFrom w p ends k x h look (before ++ l' ∷ more') made'
  replaced k x h look [] l l' more more' made made' same t a b = b
  replaced k x h look (c ∷ before) l l' more more' made made' same t a b =
      let n = k_length (k + 1) before in
      let e = same k (omega (arith, n)) in
      let tail = replaced (k + 1) (rx_behind w x (of_turn k made) c) (h && is_held c.engine) (Read (tx_word w.vif 0) p ∷ []) before l l' more more' made made' same t a.1 b in (
        placed_as look (of_turn k made) (of_turn k made') x h c l l' before more more' e t a.0,
        subst (λ es. AreFrom w p ends (k + 1) (rx_behind w x es c) (h && is_held c.engine) (Read (tx_word w.vif 0) p ∷ []) (before ++ l' ∷ more') made') (sym e) tail,
      )

  -- ---- those behind one that isn't held are calm

  pub quiet_calm : (k x : ℕ) (look : List Event) (lanes : List LaneAt) (made : List Made) → AreFrom w p ends k x false look lanes made → AllCalm w k lanes made
  quiet_calm k x look [] made a = tt
  quiet_calm k x look (l ∷ more) made a = (a.0.quiet refl, quiet_calm (k + 1) (rx_behind w x (of_turn k made) l) (Read (tx_word w.vif 0) p ∷ []) more made a.1)

  -- Where they are, whatever is before them.
  pub calm_anywhere : (k x x' : ℕ) (h h' : Bool) (look : List Event) (lanes : List LaneAt) (made made' : List Made) → ((j : ℕ) → k ≤ j → of_turn j made' ≡ of_turn j made) → AllCalm w k lanes made →
      AreFrom w p ends k x h look lanes made → AreFrom w p ends k x' h' look lanes made'
  calm_anywhere k x x' h h' look [] made made' same c a = tt
  calm_anywhere k x x' h h' look (l ∷ more) made made' same c a =
      let e = same k (omega arith) in
      let q = a.0 in
      let placed : IsPlaced w ends look (of_turn k made) x' h' l more = record { lane = q.lane; rx = λ f. two (is_calm w (of_turn k made)) c.0 f; quiet = λ f. c.0; chained = q.chained } in (
        subst (λ es. IsPlaced w ends look es x' h' l more) (sym e) placed,
        calm_anywhere (k + 1) (rx_behind w x (of_turn k made) l) (rx_behind w x' (of_turn k made') l) (h && is_held l.engine) (h' && is_held l.engine) (Read (tx_word w.vif 0) p ∷ []) more made made'
            (λ j g. same j (omega (arith, g))) c.1 a.1,
      )

pub calm_at : (w : Wiring) (k j : ℕ) (lanes : List LaneAt) (made : List Made) → AllCalm w k lanes made → k ≤ j → j < k + length lanes → is_calm w (of_turn j made) ≡ true
calm_at w k j [] made c h l = absurd (omega (arith, h, l))
calm_at w k j (b ∷ more) made c h l =
    ⊎_elim (λ g. calm_at w (k + 1) j more made c.1 (omega (arith, g)) (omega (arith, l)))
    (λ g. let e : k ≡ j = omega (arith, h, g) in subst (λ n. is_calm w (of_turn n made) ≡ true) e c.0) (cases_lt k j)

pub calm_made : (w : Wiring) (k : ℕ) (lanes : List LaneAt) (made made' : List Made) → ((j : ℕ) → k ≤ j → of_turn j made' ≡ of_turn j made) → AllCalm w k lanes made → AllCalm w k lanes made'
calm_made w k [] made made' same c = tt
calm_made w k (l ∷ more) made made' same c =
    (subst (λ es. is_calm w es ≡ true) (sym (same k (omega arith))) c.0, calm_made w (k + 1) more made made' (λ j g. same j (omega (arith, g))) c.1)

-- ---- the rx index

rx_of : (w : Wiring) (x : ℕ) (es : List Event) (l : LaneAt) → is_calm w es ≡ true → rx_behind w x es l ≡ x
rx_of w x es l e = ap (λ b. if b then x else l.engine.state.rx_index) e

pub rx_of_ran : (w : Wiring) (x : ℕ) (es : List Event) (l : LaneAt) → is_calm w es ≡ false → rx_behind w x es l ≡ l.engine.state.rx_index
rx_of_ran w x es l e = ap (λ b. if b then x else l.engine.state.rx_index) e

pub rx_of_calm : (w : Wiring) (x : ℕ) (es : List Event) (l : LaneAt) → is_calm w es ≡ true → rx_behind w x es l ≡ x
rx_of_calm w x es l e = rx_of w x es l e

-- if all are calm it stays
pub rx_calm : (w : Wiring) (k x : ℕ) (lanes : List LaneAt) (made : List Made) (rx : ℕ) → AllCalm w k lanes made → rx ≡ x → IsRx w k x lanes made rx
rx_calm w k x [] made rx c e = e
rx_calm w k x (l ∷ more) made rx c e = (
  λ h. rx_calm w (k + 1) (rx_behind w x (of_turn k made) l) more made rx c.1 (e ∙ sym (rx_of w x (of_turn k made) l c.0)),
  λ h. (λ f. e, λ f. two (is_calm w (of_turn k made)) c.0 f),
)

-- behind lanes that are held
pub rx_focus : (w : Wiring) (k x : ℕ) (before rest : List LaneAt) (made : List Made) (rx : ℕ) → all_held before ≡ true → IsRx w k x (before ++ rest) made rx →
    IsRx w (k_at k before) (x_at w k x before made) rest made rx
rx_focus w k x [] rest made rx h r = r
rx_focus w k x (b ∷ before) rest made rx h r =
    let q = and_parts (is_held b.engine) (all_held before) h in
    rx_focus w (k + 1) (rx_behind w x (of_turn k made) b) before rest made rx q.1 (r.0 q.0)

pub rx_replaced : (w : Wiring) (k x : ℕ) (before rest : List LaneAt) (made made' : List Made) (rx : ℕ) → ((j : ℕ) → j < k_at k before → of_turn j made' ≡ of_turn j made) → all_held before ≡ true →
    IsRx w (k_at k before) (x_at w k x before made) rest made' rx → IsRx w k x (before ++ rest) made' rx
rx_replaced w k x [] rest made made' rx same h r = r
rx_replaced w k x (b ∷ before) rest made made' rx same h r =
    let n = k_length (k + 1) before in
    let e = same k (omega (arith, n)) in
    let q = and_parts (is_held b.engine) (all_held before) h in
    let tail = rx_replaced w (k + 1) (rx_behind w x (of_turn k made) b) before rest made made' rx same q.1 r in
    (λ g. subst (λ es. IsRx w (k + 1) (rx_behind w x es b) (before ++ rest) made' rx) (sym e) tail, λ g. two (is_held b.engine) q.0 g)

-- and behind one that isn't, whatever is there
pub rx_before : (w : Wiring) (k x : ℕ) (before rest rest' : List LaneAt) (made made' : List Made) (rx : ℕ) → ((j : ℕ) → j < k_at k before → of_turn j made' ≡ of_turn j made) → all_held before ≡ false →
    IsRx w k x (before ++ rest) made rx → IsRx w k x (before ++ rest') made' rx
rx_before w k x [] rest rest' made made' rx same h r = two true refl h
rx_before w k x (b ∷ before) rest rest' made made' rx same h r =
    let n = k_length (k + 1) before in
    let e = same k (omega (arith, n)) in (
      λ g. subst (λ es. IsRx w (k + 1) (rx_behind w x es b) (before ++ rest') made' rx) (sym e)
          (rx_before w (k + 1) (rx_behind w x (of_turn k made) b) before rest rest' made made' rx same (unheld (is_held b.engine) (all_held before) g h) (r.0 g)),
      λ g. subst (λ es. (is_calm w es ≡ true → rx ≡ x) × (is_calm w es ≡ false → is_filling b.engine.stage ≡ false → rx ≡ b.engine.state.rx_index)) (sym e) (r.1 g),
    )
  where
    unheld : (c d : Bool) → c ≡ true → (c && d) ≡ false → d ≡ false
    unheld true d g h = h
    unheld false d g h = cc g
