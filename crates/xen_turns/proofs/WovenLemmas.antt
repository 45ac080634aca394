-- Lists of what turns make side by side.
use Rattle.std.proofs.Common.{◌≡◌, ◌≢◌, ℕ, ◌<◌, ◌≤◌, Bool, true, false, List, [], ◌∷◌, ◌++◌, refl, sym, ap, ◌∙◌, subst, arith, nat_eq}
use Rattle.std.specs.Prelude.{◌==◌, if◌then◌else◌}
use Rattle.std.proofs.lemmas.Bool.{eq-eqb}
use Rattle.xen_steps.specs.Event.{Event}
use Rattle.xen_turns.specs.Woven.{AllBelow, AllUpTo, IsRising, Made, by_turn, events_of, is_in_order, of_turn, turns_in_order}
use Rattle.xen_turns.specs.declared.wiring.Wiring.{Wiring}

-- a list that may begin with one more
pick : {A : Type 0} (b : Bool) (e : A) (xs ys : List A) → (if b then e ∷ (xs ++ ys) else xs ++ ys) ≡ (if b then e ∷ xs else xs) ++ ys
pick true e xs ys = refl
pick false e xs ys = refl

pub events_append : (t u : List Made) → events_of (t ++ u) ≡ events_of t ++ events_of u
events_append [] u = refl
events_append (m ∷ t) u = ap (λ (x : List Event). m.event ∷ x) (events_append t u)

pub turn_append : (k : ℕ) (t u : List Made) → of_turn k (t ++ u) ≡ of_turn k t ++ of_turn k u
turn_append k [] u = refl
turn_append k (m ∷ t) u =
    ap (λ (x : List Event). if m.turn == k then m.event ∷ x else x) (turn_append k t u) ∙ pick (m.turn == k) m.event (of_turn k t) (of_turn k u)

pub order_append : (w : Wiring) (t u : List Made) → turns_in_order w (t ++ u) ≡ turns_in_order w t ++ turns_in_order w u
order_append w [] u = refl
order_append w (m ∷ t) u =
    ap (λ (x : List ℕ). if is_in_order w m.event then m.turn ∷ x else x) (order_append w t u) ∙ pick (is_in_order w m.event) m.turn (turns_in_order w t) (turns_in_order w u)

pub below_append : (n : ℕ) (t u : List Made) → AllBelow n t → AllBelow n u → AllBelow n (t ++ u)
below_append n [] u h g = g
below_append n (m ∷ t) u h g = (h.0, below_append n t u h.1 g)

pub one_events : (k : ℕ) (es : List Event) → events_of (by_turn k es) ≡ es
one_events k [] = refl
one_events k (e ∷ es) = ap (λ (x : List Event). e ∷ x) (one_events k es)

-- a turn's own begins with its event
own : (b : Bool) (e : Event) (xs es : List Event) → b ≡ true → xs ≡ es → (if b then e ∷ xs else xs) ≡ e ∷ es
own true e xs es h g = ap (λ (x : List Event). e ∷ x) g
own false e xs es h g = cc h

pub own_turn : (k : ℕ) (es : List Event) → of_turn k (by_turn k es) ≡ es
own_turn k [] = refl
own_turn k (e ∷ es) = own (k == k) e (of_turn k (by_turn k es)) es (eq-eqb k k refl) (own_turn k es)

-- another's is skipped
others : (b : Bool) (e : Event) (xs : List Event) → b ≡ false → xs ≡ [] → (if b then e ∷ xs else xs) ≡ []
others true e xs h g = cc h
others false e xs h g = g

pub other_turn : (j k : ℕ) (es : List Event) → (j == k) ≡ false → of_turn k (by_turn j es) ≡ []
other_turn j k [] h = refl
other_turn j k (e ∷ es) h = others (j == k) e (of_turn k (by_turn j es)) h (other_turn j k es h)

pub below_turn : (n k : ℕ) (es : List Event) → k < n → AllBelow n (by_turn k es)
below_turn n k [] h = tt
below_turn n k (e ∷ es) h = (h, below_turn n k es h)

rising_if : (b : Bool) (k : ℕ) (ns : List ℕ) → IsRising k ns → IsRising k (if b then k ∷ ns else ns)
rising_if true k ns h = (omega arith, h)
rising_if false k ns h = h

pub rising_turn : (w : Wiring) (k : ℕ) (es : List Event) → IsRising k (turns_in_order w (by_turn k es))
rising_turn w k [] = tt
rising_turn w k (e ∷ es) = rising_if (is_in_order w e) k (turns_in_order w (by_turn k es)) (rising_turn w k es)

rising_from : (l k : ℕ) (ms : List ℕ) → l ≤ k → IsRising k ms → IsRising l ms
rising_from l k [] h m = tt
rising_from l k (n ∷ ms) h m = (omega (arith, h, m.0), m.1)

pub rising_append : (l k : ℕ) (ns ms : List ℕ) → l ≤ k → IsRising l ns → AllUpTo k ns → IsRising k ms → IsRising l (ns ++ ms)
rising_append l k [] ms h r a m = rising_from l k ms h m
rising_append l k (n ∷ ns) ms h r a m = (r.0, rising_append n k ns ms a.0 r.1 a.1 m)

-- if there is one turn all events are its
pub all_own : (made : List Made) → AllBelow 1 made → of_turn 0 made ≡ events_of made
all_own [] h = refl
all_own (m ∷ t) h = own (m.turn == 0) m.event (of_turn 0 t) (events_of t) (eq-eqb m.turn 0 (omega (arith, h.0))) (all_own t h.1)
