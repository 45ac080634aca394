-- Safe computations, one after another.
use Rattle.xen_steps.specs.Steps.{Steps, done, ask, never, bind}
use Rattle.honest_pair.specs.Machine.Memory.{Memory, answer}
use Rattle.honest_pair.specs.Machine.Safe.{Safe}

module _ {Mine Other : Type 0} (Inv : Memory → Mine → Other → Type 0) where
  pub safe_bind : {A B : Type 0} (K : Mine → Type 0) (Q : Mine → A → Type 0) (P : Mine → B → Type 0) (f : Mine) (s : Steps A) (g : A → Steps B) →
      Safe Inv K Q f s → ((f' : Mine) (x : A) → Q f' x → Safe Inv K P f' (g x)) → Safe Inv K P f (bind s g)
  safe_bind K Q P f (done x) g h i = i f x h
  safe_bind K Q P f (ask w k) g h i = λ m b e.
      let r = h m b e in (r.0, r.1, r.2, λ n l. safe_bind K Q P r.0 (k (answer w m n)) g (r.3 n l) i)
  safe_bind K Q P f never g h i = absurd h

  -- what holds all along and at the end may be less
  pub safe_less : {A : Type 0} (K L : Mine → Type 0) (Q P : Mine → A → Type 0) (f : Mine) (s : Steps A) →
      ((f' : Mine) → K f' → L f') → ((f' : Mine) (x : A) → Q f' x → P f' x) → Safe Inv K Q f s → Safe Inv L P f s
  safe_less K L Q P f (done x) k i h = i f x h
  safe_less K L Q P f (ask w c) k i h = λ m b e.
      let r = h m b e in (r.0, r.1, k r.0 r.2, λ n l. safe_less K L Q P r.0 (c (answer w m n)) k i (r.3 n l))
  safe_less K L Q P f never k i h = absurd h
