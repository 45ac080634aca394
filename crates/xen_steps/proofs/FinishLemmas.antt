-- Computations that come to an end.
use Rattle.std.proofs.Common.{◌≡◌, ℕ, ◌-◌, List, [], ◌∷◌, ◌++◌, refl, sym, arith, subst}
use Rattle.xen_steps.specs.Drive.{Bounded, Goes, LedBy}
use Rattle.xen_steps.specs.Event.{Event, Occurs, Read, Write, Instr, Load, Add, Notify}
use Rattle.xen_steps.specs.Finish.{Ends, Finishes, IsAsked}
use Rattle.xen_steps.specs.Steps.{Steps, done, ask, never, bind, want_of, Runs}
use Rattle.xen_steps.specs.declared.want.Want.{Want}
use Rattle.xen_steps.specs.declared.want.Want.TheVariants as want
use Rattle.xen_steps.proofs.DriveLemmas.{runs_more}

-- some event of each want
some_event : (w : Want) → IsAsked w → (e : Event) × Occurs w 0 e
some_event (want.Read at) h = (Read at 0, (omega arith, refl))
some_event (want.Write at v) h = (Write at v, (refl, refl))
some_event want.Instr h = (Instr, (refl, refl))
some_event (want.Load m k j) h = (Load m k j 0, (omega arith, refl))
some_event (want.Add m k j d) h = (Add m k j d 0, (omega arith, refl))
some_event (want.Notify p) h = (Notify p, (refl, refl))
some_event want.Done h = absurd h

pub ends_bind : {A B : Type 0} (P : A → Type 0) (Q : B → Type 0) (s : Steps A) (f : A → Steps B) → Ends P s → ((x : A) → P x → Ends Q (f x)) → Ends Q (bind s f)
ends_bind P Q (done x) f h g = g x h
ends_bind P Q (ask w k) f h g = (h.0, λ a e o. ends_bind P Q (k a) f (h.1 a e o) g)
ends_bind P Q never f h g = absurd h

-- what holds of each run's end
pub ends_by : {A : Type 0} (P Q : A → Type 0) (s : Steps A) → Ends P s → ((t : List Event) (x : A) → Runs s t x → Q x) → Ends Q s
ends_by P Q (done x) h g = g [] x refl
ends_by P Q (ask w k) h g = (h.0, λ a e o. ends_by P Q (k a) (h.1 a e o) (λ t x r. g (e ∷ t) x (a, o, r)))
ends_by P Q never h g = absurd h

ends_next : {A : Type 0} (P : A → Type 0) (s s' : Steps A) (e : Event) → Ends P s → Goes s e s' → Ends P s'
ends_next P (done x) s' e h g = absurd g.1
ends_next P (ask w k) s' e h g = subst (λ q. Ends P q) (sym g.2) (h.1 g.0 e g.1)
ends_next P never s' e h g = absurd h

pub ends_gone : {A : Type 0} (P : A → Type 0) (s s' : Steps A) (t : List Event) → Ends P s → LedBy s t s' → Ends P s'
ends_gone P s s' [] h g = subst (λ q. Ends P q) g h
ends_gone P s s' (e ∷ t) h g = ends_gone P g.0 s' t (ends_next P s g.0 e h g.1) g.2

-- What comes to an end finishes, if no want is ruled out.
pub finishes_any : {A : Type 0} (P : A → Type 0) (s : Steps A) → Ends P s → Finishes (λ w. Unit {0}) s
finishes_any P (done x) h = tt
finishes_any P (ask w k) h = (tt, (h.0, λ a e o. finishes_any P (k a) (h.1 a e o)))
finishes_any P never h = absurd h

-- bounded, and coming to an end
pub finishes : {A : Type 0} (within : Want → Type 0) (P Q : A → Type 0) (s : Steps A) (n : ℕ) → Bounded within P s n → Ends Q s → Finishes within s
finishes within P Q (done x) n b e = tt
finishes within P Q (ask w k) n b e = (b.1, (e.0, λ a v o. finishes within P Q (k a) (n - 1) (b.2 a) (e.1 a v o)))
finishes within P Q never n b e = absurd e

pub finishes_next : {A : Type 0} (within : Want → Type 0) (s s' : Steps A) (e : Event) → Finishes within s → Goes s e s' → Finishes within s'
finishes_next within (done x) s' e h g = absurd g.1
finishes_next within (ask w k) s' e h g = subst (λ q. Finishes within q) (sym g.2) (h.1.1 g.0 e g.1)
finishes_next within never s' e h g = absurd h

pub finishes_gone : {A : Type 0} (within : Want → Type 0) (s s' : Steps A) (t : List Event) → Finishes within s → LedBy s t s' → Finishes within s'
finishes_gone within s s' [] h g = subst (λ q. Finishes within q) g h
finishes_gone within s s' (e ∷ t) h g = finishes_gone within g.0 s' t (finishes_next within s g.0 e h g.1) g.2

pub finishes_want : {A : Type 0} (within : Want → Type 0) (s : Steps A) → Finishes within s → (want_of s ≡ want.Done → ⊥) → within (want_of s)
finishes_want within (done x) h d = absurd (d refl)
finishes_want within (ask w k) h d = h.0
finishes_want within never h d = absurd h

-- There is a run, at least one.
pub some_run : {A : Type 0} (within : Want → Type 0) (s : Steps A) → Finishes within s → (t : List Event) × (r : A) × Runs s t r
some_run within (done x) h = ([], x, refl)
some_run within (ask w k) h =
    let e = some_event w h.1.0 in
    let i = some_run within (k 0) (h.1.1 0 e.0 e.1) in
    (e.0 ∷ i.0, i.1, (0, e.1, i.2))
some_run within never h = absurd h

pub runs_gone : {A : Type 0} (s s' : Steps A) (t q : List Event) (r : A) → LedBy s t s' → Runs s' q r → Runs s (t ++ q) r
runs_gone s s' [] q r g h = subst (λ m. Runs m q r) (sym g) h
runs_gone s s' (e ∷ t) q r g h = runs_more s g.0 e g.1 (t ++ q) r (runs_gone g.0 s' t q r g.2 h)
