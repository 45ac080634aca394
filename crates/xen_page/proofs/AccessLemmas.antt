-- Accesses one after another.
use Rattle.std.proofs.Common.{List, [], ◌∷◌, ◌++◌, Option, Some, None, sym, ◌∙◌, ap, subst, refl, append_assoc, append-nil}
use Rattle.xen_page.specs.Access.{Tells, Passes, Performs}
use Rattle.xen_page.specs.declared.access.Access.{Access}

-- a log that tells grows by the joined accesses
pub tells_then : (a b c : Option (List Access)) (t u : List Access) → Tells a b t → Tells b c u → Tells a c (t ++ u)
tells_then a b None t u p q = tt
tells_then a None (Some n) t u p q = absurd q
tells_then None (Some m) (Some n) t u p q = absurd p
tells_then (Some l) (Some m) (Some n) t u p q = q ∙ ap (λ x. x ++ u) p ∙ append_assoc l t u

pub passes_then : {S : Type 0} (gives : S → Access → S → Type 0) (old mid new : S) (t u : List Access) →
    Passes gives old t mid → Passes gives mid u new → Passes gives old (t ++ u) new
passes_then gives old mid new [] u p q = subst (λ s. Passes gives s u new) (sym p) q
passes_then gives old mid new (a ∷ t) u p q = (p.0, p.1, passes_then gives p.0 mid new t u p.2 q)

-- one access
pub performs_one : {S : Type 0} (log : S → Option (List Access)) (gives : S → Access → S → Type 0) (old : S) (a : Access) (new : S) →
    Tells (log old) (log new) (a ∷ []) → gives old a new → Performs log gives old (a ∷ []) new
performs_one log gives old a new told given = record { told = told; given = (new, given, refl) }

-- no access
pub performs_none : {S : Type 0} (log : S → Option (List Access)) (gives : S → Access → S → Type 0) (s : S) → Performs log gives s [] s
performs_none log gives s = record { told = tells_none (log s); given = refl }
  where
    tells_none : (a : Option (List Access)) → Tells a a []
    tells_none None = tt
    tells_none (Some l) = sym (append-nil l)

-- accesses, and then more
pub performs_then : {S : Type 0} (log : S → Option (List Access)) (gives : S → Access → S → Type 0) (old mid new : S) (t u : List Access) →
    Performs log gives old t mid → Performs log gives mid u new → Performs log gives old (t ++ u) new
performs_then log gives old mid new t u p q = record {
  told = tells_then (log old) (log mid) (log new) t u p.told q.told;
  given = passes_then gives old mid new t u p.given q.given;
}
