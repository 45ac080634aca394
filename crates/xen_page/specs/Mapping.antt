-- Stated: claims rest on this file.
-- Mappings of granted frames (grant_table.h: a mapping marks its entry GTF_reading, and GTF_writing if it may write;
-- the marks are set and taken away by a compare-exchange of the flags).
-- Rows worked by hand guard it: crates/xen_page_tests/src/tests/mappings.rt.
use Rattle.std.specs.Prelude.{ℕ, ◌+◌, ◌≡◌, ◌≢◌, not, List, [], ◌∷◌, ◌++◌, None, Some, Result, Ok, Err, bit_or, slice_get}
use Rattle.xen_page.specs.Entry.{entry_of, is_marked}
use Rattle.xen_page.specs.Grant.{demands, first_fault}
use Rattle.xen_page.specs.Table.{entry_place}
use Rattle.xen_page.specs.declared.access.Access.{Access}
use Rattle.xen_page.specs.declared.access.Access.TheVariants as access
use Rattle.xen_page.specs.declared.entry.Entry.{Entry}
use Rattle.xen_page.specs.declared.entry.Rights.{Rights}
use Rattle.xen_page.specs.declared.entry.Rights.TheVariants.{ReadOnly, ReadWrite}
use Rattle.xen_page.specs.declared.fault.GrantFault.{GrantFault}
use Rattle.xen_page.specs.declared.fault.GrantFault.TheVariants.{BadGntref, Eagain}
use Rattle.xen_page.specs.declared.place.Place.{Place}

-- A mapped frame: the domain that lends it, the rights that it is mapped with, and the place of the entry's flags word with that
-- word as it is without marks.
pub record Mapping : Type 0 where
  pub granter : ℕ
  pub frame : ℕ
  pub rights : Rights
  pub at : Place
  pub word : ℕ

-- a mapping of a frame that this domain owns and lent
pub record IsMappedBy (owners : List ℕ) (granter : ℕ) (m : Mapping) : Type 0 where
  pub owned : slice_get owners m.frame ≡ Some granter
  pub by_granter : m.granter ≡ granter

-- the marks of a mapping: GTF_reading 8, and GTF_writing 16 beside it
abbrev pub marks : Rights → ℕ
marks ReadOnly = 8
marks ReadWrite = 24

-- the place of an entry's frame word, which follows its flags word
abbrev pub frame_place : Place → Place
frame_place at = record at { word = at.word + 1 }

-- The check of an entry that is to be mapped: beside what is asked of each entry, it carries no mark.
abbrev pub mappable : List ℕ → (granter user : ℕ) → Entry → Rights → Result ℕ GrantFault
mappable owners granter user e rights =
    first_fault (demands owners granter user e rights ++ (not (is_marked e), Eagain) ∷ []) e.frame

-- the reads of an entry's two words, and the exchange that marks it
abbrev pub reads_of : Place → (a b : ℕ) → List Access → List Access
reads_of at a b later = access.Read at a ∷ access.Read (frame_place at) b ∷ later

abbrev pub marking : Place → (word found : ℕ) → Rights → Access
marking at word found rights = access.Exchange at word (bit_or word (marks rights)) found

-- The accesses of mapping a reference, and its answer.
pub data IsMap (table owners : List ℕ) (granter user gref : ℕ) (rights : Rights) : List Access → Result Mapping GrantFault → Type 0 where
  outside : entry_place table gref ≡ None → IsMap table owners granter user gref rights [] (Err BadGntref)
  refused : (at : Place) (a b : ℕ) (fault : GrantFault) → entry_place table gref ≡ Some at →
      mappable owners granter user (entry_of a b) rights ≡ Err fault →
      IsMap table owners granter user gref rights (reads_of at a b []) (Err fault)
  changed : (at : Place) (a b frame found : ℕ) → entry_place table gref ≡ Some at →
      mappable owners granter user (entry_of a b) rights ≡ Ok frame → found ≢ a →
      IsMap table owners granter user gref rights (reads_of at a b (marking at a found rights ∷ [])) (Err Eagain)
  mapped : (at : Place) (a b frame : ℕ) → entry_place table gref ≡ Some at →
      mappable owners granter user (entry_of a b) rights ≡ Ok frame →
      IsMap table owners granter user gref rights (reads_of at a b (marking at a a rights ∷ []))
      (Ok (record { granter = granter; frame = frame; rights = rights; at = at; word = a }))

-- The access of ending a mapping: the exchange of the marked word for the word without marks.
abbrev pub unmarking : Mapping → (found : ℕ) → Access
unmarking m found = access.Exchange m.at (bit_or m.word (marks m.rights)) m.word found

-- The access of ending a mapping, and its answer: the mapping itself if the word was another.
pub data IsUnmap (m : Mapping) : List Access → Result (Unit {0}) Mapping → Type 0 where
  unmapped : IsUnmap m (unmarking m (bit_or m.word (marks m.rights)) ∷ []) (Ok tt)
  kept : (found : ℕ) → found ≢ bit_or m.word (marks m.rights) → IsUnmap m (unmarking m found ∷ []) (Err m)
