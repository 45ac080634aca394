-- Stated: claims rest on this file.
-- What the op shows that a queue goes on from. For a grant entry it has a reference of that entry, and whether the page is to be read or to be
-- written. A store and the read after it are one op, a PUSH, in which the host has a fence between the two.
-- Rows worked by hand guard it: examples/host-queue/ops.c.
use Rattle.std.specs.Prelude.{ℕ, ◌≡◌, List, Some}
use Rattle.xen_page.specs.Table.{entry_place}
use Rattle.xen_page.specs.declared.entry.Rights.{Rights}
use Rattle.xen_page.specs.declared.entry.Rights.TheVariants.{ReadOnly, ReadWrite}
use Rattle.xen_host.specs.Asks.{Ask, Entry, Push}
use Rattle.xen_host.specs.declared.stage.Fill.{Fill}
use Rattle.xen_host.specs.declared.stage.Fill.TheVariants as fill
use Rattle.xen_host.specs.declared.stage.Stage.{Stage}
use Rattle.xen_host.specs.declared.stage.Stage.TheVariants as stage

-- The entry of a reference of this table, whose page has to be granted with these rights.
abbrev pub IsEntry : List ℕ → Rights → Ask → Type 0
IsEntry table rights (Entry at reference wanted) = (entry_place table reference ≡ Some at) × (wanted ≡ rights)
IsEntry table rights a = ⊥

-- A PUSH that stores in this word of a ring's page (ring.h, struct sring: req_event is word 1, rsp_prod is word 2).
abbrev pub IsPush : ℕ → Ask → Type 0
IsPush n (Push at word read) = at.word ≡ n
IsPush n a = ⊥

-- Neither an entry nor a PUSH.
abbrev pub IsOther : Ask → Type 0
IsOther (Entry at reference rights) = ⊥
IsOther (Push at word read) = ⊥
IsOther a = Unit {0}

abbrev pub IsToldFilling : List ℕ → Fill → Ask → Type 0
IsToldFilling table (fill.Grant left id at) a = IsEntry table ReadWrite a
IsToldFilling table (fill.Push grants) a = IsPush 2 a
IsToldFilling table f a = IsOther a

-- What was said last, by the stage that it leads to.
abbrev pub IsToldAt : List ℕ → Stage → Ask → Type 0
IsToldAt table stage.Announce a = IsPush 1 a
IsToldAt table (stage.Entry i at) a = IsEntry table ReadOnly a
IsToldAt table (stage.Fill f p) a = IsToldFilling table f a
IsToldAt table stage.Push a = IsPush 2 a
IsToldAt table (stage.WaitLook pages) a = IsPush 1 a
IsToldAt table g a = IsOther a
