-- Stated: claims rest on this file.
-- A computation that comes to an end, whatever it is answered.
use Rattle.std.specs.Prelude.{ℕ}
use Rattle.std.specs.Coded.{×_prop, Unit-prop}
use mathlib.Core.Path.{fun_ext}
use Rattle.xen_steps.specs.Event.{Event, Occurs}
use Rattle.xen_steps.specs.Steps.{Steps, done, ask, never}
use Rattle.xen_steps.specs.declared.want.Want.{Want}
use Rattle.xen_steps.specs.declared.want.Want.TheVariants as want

abbrev pub IsAsked : Want → Type 0
IsAsked want.Done = ⊥
IsAsked w = Unit {0}

-- It ends, and what it gives then is P.
abbrev pub Ends : {A : Type 0} → (A → Type 0) → Steps A → Type 0
Ends P (done x) = P x
Ends P (ask w k) = IsAsked w × ((a : ℕ) (e : Event) → Occurs w a e → Ends P (k a))
Ends P never = ⊥

-- It ends, and each of its wants is within.
abbrev pub Finishes : {A : Type 0} → (Want → Type 0) → Steps A → Type 0
Finishes within (done x) = Unit {0}
Finishes within (ask w k) = within w × (IsAsked w × ((a : ℕ) (e : Event) → Occurs w a e → Finishes within (k a)))
Finishes within never = ⊥

IsAsked-prop : (w : Want) → IsProp (IsAsked w)
IsAsked-prop (want.Read at) = Unit-prop
IsAsked-prop (want.Write at v) = Unit-prop
IsAsked-prop want.Instr = Unit-prop
IsAsked-prop (want.Load m k j) = Unit-prop
IsAsked-prop (want.Add m k j d) = Unit-prop
IsAsked-prop (want.Notify p) = Unit-prop
IsAsked-prop want.Done = λ x y. absurd x

-- Finishing has one proof at most, if being within has.
pub Finishes-prop : {A : Type 0} (within : Want → Type 0) → ((w : Want) → IsProp (within w)) → (s : Steps A) → IsProp (Finishes within s)
Finishes-prop within p (done x) = Unit-prop
Finishes-prop within p (ask w k) =
    let q : IsProp ((a : ℕ) (e : Event) → Occurs w a e → Finishes within (k a)) =
    λ f g. fun_ext (λ (a : ℕ). fun_ext (λ (e : Event). fun_ext (λ (o : Occurs w a e). Finishes-prop within p (k a) (f a e o) (g a e o)))) in
    ×_prop (p w) (×_prop (IsAsked-prop w) q)
Finishes-prop within p never = λ x y. absurd x
