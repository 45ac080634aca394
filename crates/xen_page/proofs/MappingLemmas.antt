-- The accesses of a mapping.
use Rattle.std.proofs.Common.{◌≡◌, ℕ, List, [], ◌∷◌, Option, bit_or, subst}
use Rattle.xen_page.specs.Access.{Performs, Tells}
use Rattle.xen_page.specs.Mapping.{Mapping, frame_place, marking, marks, reads_of, unmarking}
use Rattle.xen_page.specs.declared.access.Access.{Access}
use Rattle.xen_page.specs.declared.access.Access.TheVariants as access
use Rattle.xen_page.specs.declared.entry.Rights.{Rights}
use Rattle.xen_page.specs.declared.place.Place.{Place}
use Rattle.xen_page.proofs.AccessLemmas.{performs_one, performs_then}

-- the reads of an entry's two words
pub performs_reads : {S : Type 0} (log : S → Option (List Access)) (gives : S → Access → S → Type 0) (old mid new : S) (at second : Place) (a b : ℕ) →
    second ≡ frame_place at →
    Tells (log old) (log mid) (access.Read at a ∷ []) → gives old (access.Read at a) mid →
    Tells (log mid) (log new) (access.Read second b ∷ []) → gives mid (access.Read second b) new →
    Performs log gives old (reads_of at a b []) new
performs_reads log gives old mid new at second a b is told given told' given' =
    performs_then log gives old mid new (access.Read at a ∷ []) (access.Read (frame_place at) b ∷ [])
    (performs_one log gives old (access.Read at a) mid told given)
    (subst (λ p. Performs log gives mid (access.Read p b ∷ []) new) is
    (performs_one log gives mid (access.Read second b) new told' given'))

-- the reads, and the exchange that marks the entry
pub performs_marking : {S : Type 0} (log : S → Option (List Access)) (gives : S → Access → S → Type 0) (old mid new : S) (at : Place) (a b found marked : ℕ) (rights : Rights) →
    marked ≡ marks rights → Performs log gives old (reads_of at a b []) mid →
    Tells (log mid) (log new) (access.Exchange at a (bit_or a marked) found ∷ []) → gives mid (access.Exchange at a (bit_or a marked) found) new →
    Performs log gives old (reads_of at a b (marking at a found rights ∷ [])) new
performs_marking log gives old mid new at a b found marked rights is reads told given =
    performs_then log gives old mid new (reads_of at a b []) (marking at a found rights ∷ []) reads
    (subst (λ m. Performs log gives mid (access.Exchange at a (bit_or a m) found ∷ []) new) is
    (performs_one log gives mid (access.Exchange at a (bit_or a marked) found) new told given))

-- the exchange that takes the marks away
pub performs_unmarking : {S : Type 0} (log : S → Option (List Access)) (gives : S → Access → S → Type 0) (old new : S) (m : Mapping) (found marked : ℕ) →
    marked ≡ marks m.rights →
    Tells (log old) (log new) (access.Exchange m.at (bit_or m.word marked) m.word found ∷ []) → gives old (access.Exchange m.at (bit_or m.word marked) m.word found) new →
    Performs log gives old (unmarking m found ∷ []) new
performs_unmarking log gives old new m found marked is told given =
    subst (λ b. Performs log gives old (access.Exchange m.at (bit_or m.word b) m.word found ∷ []) new) is
    (performs_one log gives old (access.Exchange m.at (bit_or m.word marked) m.word found) new told given)
