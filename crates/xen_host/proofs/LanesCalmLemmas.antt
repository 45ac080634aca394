-- What turns side by side make: whose it is, and what of it comes in their order.
use Rattle.std.proofs.Common.{◌≡◌, ℕ, ◌+◌, ◌<◌, ◌≤◌, ◌⊎◌, Bool, true, false, List, [], ◌∷◌, ◌++◌, refl, sym, ap, ◌∙◌, subst, arith, append-nil}
use Rattle.std.specs.Prelude.{◌==◌, ◌&&◌, not, if◌then◌else◌}
use Rattle.std.proofs.lemmas.Bool.{and_from, and_parts, cases_lt, eq-eqb, ne_eqb}
use mathlib.Core.Logic.{inl, inr, ⊎_elim}
use Rattle.xen_steps.specs.Event.{Event}
use Rattle.xen_turns.specs.Woven.{AllBelow, AllUpTo, IsRising, Made, by_turn, is_in_order, of_turn, turns_in_order}
use Rattle.xen_turns.proofs.WovenLemmas.{order_append, other_turn, own_turn, rising_append, rising_turn, turn_append}
use Rattle.xen_turns.specs.declared.wiring.Wiring.{Wiring}
use Rattle.xen_host.specs.Lanes.{is_calm}

and_assoc : (a b c : Bool) → (a && (b && c)) ≡ ((a && b) && c)
and_assoc true b c = refl
and_assoc false b c = refl

pub calm_append : (w : Wiring) (t u : List Event) → is_calm w (t ++ u) ≡ (is_calm w t && is_calm w u)
calm_append w [] u = refl
calm_append w (e ∷ t) u = ap (λ b. not (is_in_order w e) && b) (calm_append w t u) ∙ and_assoc (not (is_in_order w e)) (is_calm w t) (is_calm w u)

pub calm_parts : (w : Wiring) (t u : List Event) → is_calm w (t ++ u) ≡ true → (is_calm w t ≡ true) × (is_calm w u ≡ true)
calm_parts w t u e = and_parts (is_calm w t) (is_calm w u) (sym (calm_append w t u) ∙ e)

pub calm_both : (w : Wiring) (t u : List Event) → is_calm w t ≡ true → is_calm w u ≡ true → is_calm w (t ++ u) ≡ true
calm_both w t u e f = calm_append w t u ∙ and_from (is_calm w t) (is_calm w u) e f

-- one of two
pub tell : (b : Bool) → (b ≡ true) ⊎ (b ≡ false)
tell true = inl refl
tell false = inr refl

pub two : {A : Type 0} (b : Bool) → b ≡ true → b ≡ false → A
two true e f = cc f
two false e f = cc e

-- ---- a turn's own

pub apart : (j k : ℕ) → (j ≡ k → ⊥) → (j == k) ≡ false
apart j k h = ne_eqb j k h

pub of_other : (j k : ℕ) (made : List Made) (es : List Event) → (k ≡ j → ⊥) → of_turn j (made ++ by_turn k es) ≡ of_turn j made
of_other j k made es h =
    turn_append j made (by_turn k es) ∙ ap (λ l. of_turn j made ++ l) (other_turn k j es (apart k j h)) ∙ append-nil (of_turn j made)

pub of_own : (k : ℕ) (made : List Made) (es : List Event) → of_turn k (made ++ by_turn k es) ≡ of_turn k made ++ es
of_own k made es = turn_append k made (by_turn k es) ∙ ap (λ l. of_turn k made ++ l) (own_turn k es)

none_if : (b : Bool) (e : Event) (xs : List Event) → b ≡ false → xs ≡ [] → (if b then e ∷ xs else xs) ≡ []
none_if true e xs h g = cc h
none_if false e xs h g = g

pub none_above : (n k : ℕ) (made : List Made) → AllBelow n made → n ≤ k → of_turn k made ≡ []
none_above n k [] b h = refl
none_above n k (m ∷ t) b h =
    let r : m.turn ≡ k → ⊥ = λ e. omega (arith, e, b.0, h) in
    none_if (m.turn == k) m.event (of_turn k t) (apart m.turn k r) (none_above n k t b.1 h)

-- ---- the order

calm_if : (w : Wiring) (b : Bool) (e : Event) (xs : List Event) → is_calm w (if b then e ∷ xs else xs) ≡ true → is_calm w xs ≡ true
calm_if w true e xs h = (and_parts (not (is_in_order w e)) (is_calm w xs) h).1
calm_if w false e xs h = h

not_calm : (w : Wiring) (b : Bool) (e : Event) (xs : List Event) → b ≡ true → is_in_order w e ≡ true → is_calm w (if b then e ∷ xs else xs) ≡ true → ⊥
not_calm w true e xs h o c = two (not (is_in_order w e)) ((and_parts (not (is_in_order w e)) (is_calm w xs) c).0) (ap not o)
not_calm w false e xs h o c = cc h

up_to_if : (b : Bool) (k n : ℕ) (ns : List ℕ) → (b ≡ true → n ≤ k) → AllUpTo k ns → AllUpTo k (if b then n ∷ ns else ns)
up_to_if true k n ns h a = (h refl, a)
up_to_if false k n ns h a = a

-- If those above k are calm, all that comes in order is of the first k or its own.
pub up_to : (w : Wiring) (k : ℕ) (made : List Made) → ((j : ℕ) → k < j → is_calm w (of_turn j made) ≡ true) → AllUpTo k (turns_in_order w made)
up_to w k [] h = tt
up_to w k (m ∷ t) h =
    let tail = up_to w k t (λ j l. calm_if w (m.turn == j) m.event (of_turn j t) (h j l)) in
    let head : is_in_order w m.event ≡ true → m.turn ≤ k = λ o. ⊎_elim (λ l. absurd (not_calm w (m.turn == m.turn) m.event (of_turn m.turn t) (eq-eqb m.turn m.turn refl) o (h m.turn l))) (λ l. l) (cases_lt k m.turn) in
    up_to_if (is_in_order w m.event) k m.turn (turns_in_order w t) head tail

none_in_if : (b : Bool) (n : ℕ) (ns : List ℕ) → not b ≡ true → ns ≡ [] → (if b then n ∷ ns else ns) ≡ []
none_in_if true n ns h g = cc h
none_in_if false n ns h g = g

pub calm_none : (w : Wiring) (k : ℕ) (es : List Event) → is_calm w es ≡ true → turns_in_order w (by_turn k es) ≡ []
calm_none w k [] h = refl
calm_none w k (e ∷ es) h =
    let p = and_parts (not (is_in_order w e)) (is_calm w es) h in
    none_in_if (is_in_order w e) k (turns_in_order w (by_turn k es)) p.0 (calm_none w k es p.1)

-- What one turn makes keeps the order, if all above it are calm, or if it is.
pub stays_in_order : (w : Wiring) (k : ℕ) (made : List Made) (es : List Event) → IsRising 0 (turns_in_order w made) →
    ((is_calm w es ≡ true) ⊎ ((j : ℕ) → k < j → is_calm w (of_turn j made) ≡ true)) → IsRising 0 (turns_in_order w (made ++ by_turn k es))
stays_in_order w k made es r (inl calm) =
    subst (λ l. IsRising 0 l) (sym (order_append w made (by_turn k es) ∙ ap (λ l. turns_in_order w made ++ l) (calm_none w k es calm) ∙ append-nil (turns_in_order w made))) r
stays_in_order w k made es r (inr above) =
    subst (λ l. IsRising 0 l) (sym (order_append w made (by_turn k es)))
    (rising_append 0 k (turns_in_order w made) (turns_in_order w (by_turn k es)) (omega arith) r (up_to w k made above) (rising_turn w k es))
