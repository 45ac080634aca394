-- What an answer of the rule says of its parts.
use Rattle.std.proofs.Common.{◌≡◌, ℕ, Bool, true, false, ◌||◌, ◌&&◌, refl, ap, Option, Some, None, not}
use Rattle.std.specs.Prelude.{Result, Ok, Err}
use Rattle.bpf_insn.specs.declared.refusal.Cause.{Cause}
use Rattle.bpf_flow.specs.Edges.{Edges, unless, and_then}
use Rattle.bpf_flow.specs.Rule.{at_target}

pub unless_ok : {A : Type 0} (b : Bool) (c : Cause) (go : Result A Cause) (x : A) → unless b c go ≡ Ok x → (b ≡ false) × (go ≡ Ok x)
unless_ok true c go x h = cc
unless_ok false c go x h = (refl, h)

pub and_then_ok : {A B : Type 0} (r : Result A Cause) (go : A → Result B Cause) (y : B) → and_then r go ≡ Ok y → (x : A) × (r ≡ Ok x) × (go x ≡ Ok y)
and_then_ok (Ok x) go y h = (x, refl, h)
and_then_ok (Err c) go y h = absurd (cc)

pub at_target_ok : (o : Option ℕ) (edges : ℕ → Edges) (es : Edges) → at_target o edges ≡ Ok es → (q : ℕ) × (o ≡ Some q) × (edges q ≡ es)
at_target_ok None edges es h = absurd (cc)
at_target_ok (Some q) edges es h = (q, refl, cc)

pub neither : (a b : Bool) → (a || b) ≡ false → (a ≡ false) × (b ≡ false)
neither true b h = absurd (cc)
neither false b h = (refl, h)

pub each : (a b : Bool) → (a && b) ≡ true → (a ≡ true) × (b ≡ true)
each true b h = (refl, h)
each false b h = absurd (cc)

pub flipped : (b : Bool) → not b ≡ false → b ≡ true
flipped true h = refl
flipped false h = absurd (cc)

pub same_ok : {A : Type 0} (x y : A) → ◌≡◌ {A = Result A Cause} (Ok x) (Ok y) → x ≡ y
same_ok x y h = cc

pub same_some : {A : Type 0} (x y : A) → Some x ≡ Some y → x ≡ y
same_some x y h = cc

pub unless_again : {A : Type 0} (b : Bool) (c : Cause) (go : Result A Cause) (x : A) → b ≡ false → go ≡ Ok x → unless b c go ≡ Ok x
unless_again true c go x e h = absurd (cc)
unless_again false c go x e h = h

-- a refusal after two tests that found nothing
pub third_refusal : {A B : Type 0} (a b : Bool) (first second cause : Cause) (r : Result A Cause) (go : A → Result B Cause) → a ≡ false → b ≡ false → r ≡ Err cause → unless a first (unless b second (and_then r go)) ≡ Err cause
third_refusal true b first second cause r go h g e = absurd (cc)
third_refusal false true first second cause r go h g e = absurd (cc)
third_refusal {A = A} {B = B} false false first second cause r go h g e = ap (λ (r : Result A Cause). and_then r go) e
