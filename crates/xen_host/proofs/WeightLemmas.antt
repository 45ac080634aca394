-- What the events of a host's steps weigh, and that a way on which each step weighs more ends.
use Rattle.std.proofs.Common.{◌≡◌, ℕ, zero, suc, ◌+◌, ◌≤◌, List, [], ◌∷◌, ◌++◌, length, refl, ap, arith}
use Rattle.std.specs.Prelude.{Option, None, Some, IsSome}
use Rattle.xen_steps.specs.Drive.{accesses, notices_in}
use Rattle.xen_steps.specs.Event.{Event, Read, Write, Instr, Load, Add, Notify}
use Rattle.xen_host.specs.Asks.{AllSized, Ask, IsSized, did_by, read_by}
use Rattle.xen_host.specs.Asks as ask
use Rattle.xen_host.specs.Loops.{AreSteps, IsStep}
use Rattle.xen_host.specs.Queues.{resting, seen}
use Rattle.xen_host.specs.Rest.{is_stepping}
use Rattle.xen_host.specs.UnderWay.{read_by_some}
use Rattle.xen_host.specs.declared.queue.Queue.{Queue}
use Rattle.xen_host.specs.declared.stage.Stage.{Stage}
use Rattle.xen_host.proofs.EngineLemmas.{ready_at}

-- ---- what events weigh: one for each access, and one for each notice

abbrev pub weight : List Event → ℕ
weight t = length (accesses t) + notices_in t

pub weight_append : (t u : List Event) → weight (t ++ u) ≡ weight t + weight u
weight_append [] u = omega arith
weight_append (Read at v ∷ t) u = omega (arith, weight_append t u)
weight_append (Write at v ∷ t) u = omega (arith, weight_append t u)
weight_append (Instr ∷ t) u = weight_append t u
weight_append (Load m k j v ∷ t) u = weight_append t u
weight_append (Add m k j d v ∷ t) u = weight_append t u
weight_append (Notify p ∷ t) u = omega (arith, weight_append t u)

-- what an ask adds at least with the step after it, when it is answered
abbrev pub owed : Ask → ℕ
owed (ask.Read at count) = 1
owed (ask.Entry at reference rights) = 1
owed (ask.Push at word read) = 1
owed a = 0

pub owed_few : (a : Ask) → owed a ≤ 1
owed_few (ask.Read at count) = omega arith
owed_few (ask.Entry at reference rights) = omega arith
owed_few (ask.Write at count) = omega arith
owed_few (ask.Store at word) = omega arith
owed_few (ask.StoreTwo at first second) = omega arith
owed_few (ask.Push at word read) = omega arith
owed_few (ask.Notify port) = omega arith
owed_few (ask.TurnOver kind) = omega arith
owed_few (ask.DeliveryOver what) = omega arith
owed_few (ask.WaitOver what) = omega arith

pub paid : (a : Ask) (lent : List ℕ) → 1 ≤ length lent → IsSized a → owed a ≤ weight (read_by a lent)
paid a [] l z = absurd (omega (arith, l))
paid (ask.Read at zero) (v ∷ lent) l z = absurd (omega (arith, z.0))
paid (ask.Read at (suc n)) (v ∷ lent) l z = omega arith
paid (ask.Entry at reference rights) (v ∷ lent) l z = omega arith
paid (ask.Write at count) (v ∷ lent) l z = omega arith
paid (ask.Store at word) (v ∷ lent) l z = omega arith
paid (ask.StoreTwo at first second) (v ∷ lent) l z = omega arith
paid (ask.Push at word read) (v ∷ lent) l z = omega arith
paid (ask.Notify port) (v ∷ lent) l z = omega arith
paid (ask.TurnOver kind) (v ∷ lent) l z = omega arith
paid (ask.DeliveryOver what) (v ∷ lent) l z = omega arith
paid (ask.WaitOver what) (v ∷ lent) l z = omega arith

-- something is asked, and not said to be over
abbrev pub IsAsked : Ask → Type 0
IsAsked (ask.TurnOver kind) = ⊥
IsAsked (ask.DeliveryOver what) = ⊥
IsAsked (ask.WaitOver what) = ⊥
IsAsked a = Unit {0}

pub asked_weighs : (a : Ask) (lent : List ℕ) → 1 ≤ length lent → IsSized a → IsAsked a → 1 ≤ weight (did_by a lent) + owed a
asked_weighs a [] l z i = absurd (omega (arith, l))
asked_weighs (ask.Read at count) (v ∷ lent) l z i = omega arith
asked_weighs (ask.Entry at reference rights) (v ∷ lent) l z i = omega arith
asked_weighs (ask.Write at zero) (v ∷ lent) l z i = absurd (omega (arith, z.0))
asked_weighs (ask.Write at (suc n)) (v ∷ lent) l z i = omega arith
asked_weighs (ask.Store at word) (v ∷ lent) l z i = omega arith
asked_weighs (ask.StoreTwo at first second) (v ∷ lent) l z i = omega arith
asked_weighs (ask.Push at word read) (v ∷ lent) l z i = omega arith
asked_weighs (ask.Notify port) (v ∷ lent) l z i = omega arith
asked_weighs (ask.TurnOver kind) (v ∷ lent) l z i = absurd i
asked_weighs (ask.DeliveryOver what) (v ∷ lent) l z i = absurd i
asked_weighs (ask.WaitOver what) (v ∷ lent) l z i = absurd i

pub last_sized : (first : List Ask) (last : Ask) → AllSized (first ++ last ∷ []) → IsSized last
last_sized [] last z = z.0
last_sized (a ∷ first) last z = last_sized first last z.1

-- ---- any way that ends: P holds of a queue on it, of the events so far and of what was asked last

abbrev pub owed_some : Option Ask → ℕ
owed_some None = 0
owed_some (Some a) = owed a

abbrev pub IsSizedSome : Option Ask → Type 0
IsSizedSome None = Unit {0}
IsSizedSome (Some a) = IsSized a

pub paid_some : (o : Option Ask) (lent : List ℕ) → 1 ≤ length lent → IsSizedSome o → owed_some o ≤ weight (read_by_some o lent)
paid_some None lent l z = omega arith
paid_some (Some a) lent l z = paid a lent l z

-- After a step from what weighs v the way is over, or goes on and weighs more.
pub data After (P : Queue → List Event → Option Ask → Type 0) (most v : ℕ) (q : Queue) : Type 0 where
  over : IsSome (resting q) → v ≤ most → After P most v q
  goes : (t : List Event) (a : Ask) → P q t (Some a) → IsSized a → v + 1 ≤ weight t + owed a → After P most v q

pub rested : (n : ℕ) (q new : Queue) → IsSome (resting q) → AreSteps n q new → n ≡ 0
rested zero q new r s = refl
rested (suc n) q new r s = absurd (cc (s.1.enough.busy, ap (λ (g : Stage). is_stepping g) (ready_at (seen q) r)))

pub step_few : {P : Queue → List Event → Option Ask → Type 0} {most : ℕ} (n v : ℕ) (q new : Queue) → AreSteps n q new →
    ((t : List Event) (a : Ask) → P q t (Some a) → IsSized a → n + (weight t + owed a) ≤ most + 1) → After P most v q → suc n + v ≤ most + 1
step_few n v q new s more (over r l) = omega (arith, rested n q new r s, l)
step_few n v q new s more (goes t a h z l) = omega (arith, more t a h z, l)

module _ (P : Queue → List Event → Option Ask → Type 0) (most : ℕ) (light : (q : Queue) (t : List Event) (o : Option Ask) → P q t o → weight t ≤ most)
    (on : (q next : Queue) → IsStep q next → (t : List Event) (o : Option Ask) → P q t o → IsSizedSome o → After P most (weight t + owed_some o) next) where
  pub few : (n : ℕ) (q new : Queue) → AreSteps n q new → (t : List Event) (o : Option Ask) → P q t o → IsSizedSome o → n + (weight t + owed_some o) ≤ most + 1
  few zero q new s t None p z = omega (arith, light q t None p)
  few zero q new s t (Some a) p z = omega (arith, light q t (Some a) p, owed_few a)
  few (suc n) q new s t o p z = step_few n (weight t + owed_some o) s.0 new s.2 (λ u a h y. few n s.0 new s.2 u (Some a) h y) (on q s.0 s.1 t o p z)
