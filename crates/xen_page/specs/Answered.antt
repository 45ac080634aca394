-- Stated: claims rest on this file.
-- What an access was answered.
use Rattle.std.specs.Prelude.{ℕ, Option, Some, None}
use Rattle.xen_page.specs.declared.access.Access.{Access}
use Rattle.xen_page.specs.declared.access.Access.TheVariants as access

-- the word that a read or an exchange returned; a write has no answer
abbrev pub answer_of : Access → Option ℕ
answer_of (access.Read at answer) = Some answer
answer_of (access.Write at value) = None
answer_of (access.Exchange at old new found) = Some found
