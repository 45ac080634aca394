-- Stated: claims rest on this file.
-- A bus whose words are rewritten between accesses.
use Rattle.std.specs.Prelude.{ℕ, ◌+◌, ◌^◌, ◌≡◌, ◌==◌, List, [], ◌∷◌, ◌++◌, nat_lt, Option, Some, None, if◌then◌else◌}
use Rattle.xen_page.specs.Access.{Performs}
use Rattle.xen_page.specs.declared.access.Access.{Access}
use Rattle.xen_page.specs.declared.access.Access.TheVariants as access
use Rattle.xen_page.specs.declared.place.Place.{Place}
use Rattle.xen_page.specs.declared.rewriter.Rewriter.{Rewriter}

-- the number of an access, the place, and the word that is written there before it
abbrev pub Rewrite : Type 0
Rewrite = ℕ × Place × ℕ

-- the bus inside
abbrev pub bus_in : {B : Type 0} {g : _} → Rewriter B g → B
bus_in r = r.bus

abbrev pub writes_of : {B : Type 0} {g : _} → Rewriter B g → List Rewrite
writes_of r = r.writes.now

-- the number of the next access, if it has one
abbrev pub next_of : {B : Type 0} {g : _} → Rewriter B g → Option ℕ
next_of r = r.next

-- the writes before the access of this number, in the list's order
abbrev pub due_before : ℕ → List Rewrite → List Access
due_before number [] = []
due_before number (w ∷ writes) =
    (if w.0 == number then access.Write w.1 w.2 ∷ [] else []) ++ due_before number writes

abbrev pub due_at : Option ℕ → List Rewrite → List Access
due_at None writes = []
due_at (Some number) writes = due_before number writes

-- the number after this one: the last is 4,294,967,295, and no access after it has a number
abbrev pub number_of : Option ℕ → Option ℕ
number_of None = None
number_of (Some number) = if nat_lt (number + 1) (2 ^ 32) then Some (number + 1) else None

-- The bus inside went through the writes that come before the access, and then the access.
pub record Rewrites {B : Type 0} {g : _} (log : B → Option (List Access)) (gives : B → Access → B → Type 0)
    (old : Rewriter B g) (a : Access) (new : Rewriter B g) : Type 0 where
  pub performs : Performs log gives (bus_in old) (due_at (next_of old) (writes_of old) ++ a ∷ []) (bus_in new)
  pub writes : writes_of new ≡ writes_of old
  pub next : next_of new ≡ number_of (next_of old)
