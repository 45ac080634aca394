-- What a computation asks before another one, and where it goes.
use Rattle.std.proofs.Common.{◌≡◌, ℕ, IsTrue, refl}
use Rattle.xen_steps.specs.Steps.{Steps, done, ask, never, bind, next_by, want_of, asks}
use Rattle.xen_steps.specs.declared.want.Want.{Want}
use Rattle.xen_steps.specs.declared.want.Want.TheVariants as want

pub want_bind : {A B : Type 0} (s : Steps A) (f : A → Steps B) → IsTrue (asks s) → want_of s ≡ want_of (bind s f)
want_bind (done x) f h = cc
want_bind (ask w k) f h = refl
want_bind never f h = cc

pub next_bind : {A B : Type 0} (s : Steps A) (f : A → Steps B) (a b : ℕ) → IsTrue (asks s) → bind (next_by s a b) f ≡ next_by (bind s f) a b
next_bind (done x) f a b h = cc
next_bind (ask w k) f a b h = refl
next_bind never f a b h = cc

-- one that asks isn't done
pub asks_on : {A B : Type 0} (s : Steps A) (f : A → Steps B) → IsTrue (asks s) → want_of (bind s f) ≡ want.Done → ⊥
asks_on (done x) f h e = cc
asks_on (ask w k) f h e = by w e h
  where
    by : (w : Want) → w ≡ want.Done → IsTrue (asks (ask w k)) → ⊥
    by want.Done e h = cc
    by (want.Read at) e h = cc
    by (want.Write at v) e h = cc
    by want.Instr e h = cc
    by (want.Load m i j) e h = cc
    by (want.Add m i j d) e h = cc
    by (want.Notify p) e h = cc
asks_on never f h e = cc
