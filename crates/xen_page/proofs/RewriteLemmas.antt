-- Writes that come before an access.
use Rattle.std.proofs.Common.{ℕ, ◌≡◌, ◌≢◌, ◌<◌, ◌+◌, List, [], ◌∷◌, ◌++◌, length, take, get_or, Option, ◌∙◌, ap, append_assoc, arith}
use Rattle.std.proofs.lemmas.List.{take_more, append-nil}
use Rattle.std.proofs.lemmas.Bool.{eq-eqb}
use Rattle.std.proofs.lemmas.Bool.Decides.{eqb_tells}
use Rattle.xen_page.proofs.AccessLemmas.{performs_one, performs_then}
use Rattle.xen_page.specs.Access.{Performs, Tells}
use Rattle.xen_page.specs.Rewritten.{Rewrite, due_before}
use Rattle.xen_page.specs.declared.access.Access.{Access}
use Rattle.xen_page.specs.declared.access.Access.TheVariants as access

due_append : (n : ℕ) (a b : List Rewrite) → due_before n (a ++ b) ≡ due_before n a ++ due_before n b
due_append n [] b = grind arith
due_append n (w ∷ a) b = grind (arith, due_append n a b, append_assoc)

due_one : (n : ℕ) (w : Rewrite) → w.0 ≡ n → due_before n (w ∷ []) ≡ access.Write w.1 w.2 ∷ []
due_one n w e = grind (arith, eq-eqb w.0 n e)

due_none : (n : ℕ) (w : Rewrite) → w.0 ≢ n → due_before n (w ∷ []) ≡ []
due_none n w e = grind (arith, eqb_tells w.0 n)

-- one more write of the list, which is due
pub due_write : {S : Type 0} (log : S → Option (List Access)) (gives : S → Access → S → Type 0) (old mid new : S)
    (n : ℕ) (writes : List Rewrite) (i : ℕ) (d : Rewrite) → i < length writes → (get_or writes i d).0 ≡ n →
    Performs log gives old (due_before n (take i writes)) mid →
    Tells (log mid) (log new) (access.Write (get_or writes i d).1 (get_or writes i d).2 ∷ []) →
    gives mid (access.Write (get_or writes i d).1 (get_or writes i d).2) new →
    Performs log gives old (due_before n (take (i + 1) writes)) new
due_write log gives old mid new n writes i d h e p told given =
    let w = get_or writes i d in
    let is : due_before n (take (i + 1) writes) ≡ due_before n (take i writes) ++ access.Write w.1 w.2 ∷ [] =
    ap (due_before n) (take_more writes i d h) ∙ due_append n (take i writes) (w ∷ []) ∙ ap (λ l. due_before n (take i writes) ++ l) (due_one n w e) in
    rw is (performs_then log gives old mid new (due_before n (take i writes)) (access.Write w.1 w.2 ∷ []) p (performs_one log gives mid (access.Write w.1 w.2) new told given))

-- one more write of the list, which isn't due
pub due_other : {S : Type 0} (log : S → Option (List Access)) (gives : S → Access → S → Type 0) (old new : S)
    (n : ℕ) (writes : List Rewrite) (i : ℕ) (d : Rewrite) → i < length writes → (get_or writes i d).0 ≢ n →
    Performs log gives old (due_before n (take i writes)) new →
    Performs log gives old (due_before n (take (i + 1) writes)) new
due_other log gives old new n writes i d h e p =
    let w = get_or writes i d in
    let is : due_before n (take (i + 1) writes) ≡ due_before n (take i writes) =
    ap (due_before n) (take_more writes i d h) ∙ due_append n (take i writes) (w ∷ []) ∙ ap (λ l. due_before n (take i writes) ++ l) (due_none n w e) ∙ append-nil (due_before n (take i writes)) in
    rw is p
