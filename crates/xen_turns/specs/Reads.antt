-- For proofs: no claim rests on this file.
-- Words of a page that a driver reads.
use Rattle.std.specs.Prelude.{ℕ, List, Option}
use Rattle.xen_page.specs.Access.{Performs}
use Rattle.xen_page.specs.declared.access.Access.{Access}
use Rattle.xen_steps.specs.Drive.{accesses}
use Rattle.xen_steps.specs.Pages.{AreWords, page_reads}

-- These words were read over a bus, each once and in rising order, from a place of a frame on.
pub record AreReadFrom {S : Type 0} (log : S → Option (List Access)) (gives : S → Access → S →
    Type 0) (frame place : ℕ) (words : List ℕ) (bus bus' : S) : Type 0 where
  pub below : AreWords words
  pub performed : Performs log gives bus (accesses (page_reads frame place words)) bus'
