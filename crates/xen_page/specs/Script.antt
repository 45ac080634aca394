-- Stated: claims rest on this file.
-- A bus that answers from a list.
use Rattle.std.specs.Prelude.{ℕ, ◌≡◌, List, drop, slice_index}
use Rattle.xen_page.specs.Log.{Logged, noted}
use Rattle.xen_page.specs.declared.access.Access.{Access}
use Rattle.xen_page.specs.declared.access.Access.TheVariants as access

pub record Script : Type 0 where
  pub frames : ℕ
  pub answers : List ℕ  -- those that are left
  pub log : Logged

-- A read and an exchange take the next answer, which is 0 once none is left.
abbrev pub Takes : List ℕ → Access → List ℕ → Type 0
Takes old (access.Read at answer) new = (answer ≡ slice_index old 0) × (new ≡ drop 1 old)
Takes old (access.Write at value) new = new ≡ old
Takes old (access.Exchange at before after found) new = (found ≡ slice_index old 0) × (new ≡ drop 1 old)

abbrev pub Answers : Script → Access → Script → Type 0
Answers old a new = Takes old.answers a new.answers × (new.log ≡ noted old.log a) × (new.frames ≡ old.frames)
