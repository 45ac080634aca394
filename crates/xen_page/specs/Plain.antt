-- Stated: claims rest on this file.
-- A bus over plain words that one thread owns: a word holds what was written there last.
-- Rows worked by hand guard it: crates/xen_page_tests/src/tests/plain.rt.
use Rattle.std.specs.Prelude.{ℕ, ◌≡◌, ◌==◌, List, slice_index, slice_set, if◌then◌else◌}
use Rattle.xen_page.specs.Numbered.{index_of}
use Rattle.xen_page.specs.declared.access.Access.{Access}
use Rattle.xen_page.specs.declared.access.Access.TheVariants as access

-- A read answers the word that stands there, a write changes that word alone, and an exchange writes if it found what it compares with.
abbrev pub Holds : List ℕ → Access → List ℕ → Type 0
Holds old (access.Read at answer) new = (answer ≡ slice_index old (index_of at)) × (new ≡ old)
Holds old (access.Write at value) new = new ≡ slice_set old (index_of at) value
Holds old (access.Exchange at before after found) new =
    (found ≡ slice_index old (index_of at)) × (new ≡ (if found == before then slice_set old (index_of at) after else old))
