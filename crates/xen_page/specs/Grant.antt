-- Stated: claims rest on this file.
-- What a grant has to be before it is used (grant_table.h: the grant table's flags and status codes).
-- Rows from grant_table.h guard the numbers: `faults` of crates/outside_rows. Rows worked by hand guard the order:
-- crates/xen_page_tests/src/tests/entries.rt.
use Rattle.std.specs.Prelude.{ℕ, ℤ, negsuc, Bool, true, false, not, ◌==◌, List, [], ◌∷◌, Option, Some, None, Result, Ok, Err}
use Rattle.std.specs.Prelude.{slice_get, codes, if◌then◌else◌}
use Rattle.xen_page.specs.Entry.{is_readonly, permits_access}
use Rattle.xen_page.specs.declared.entry.Entry.{Entry}
use Rattle.xen_page.specs.declared.entry.Rights.{Rights}
use Rattle.xen_page.specs.declared.entry.Rights.TheVariants.{ReadOnly, ReadWrite}
use Rattle.xen_page.specs.declared.fault.GrantFault.{GrantFault}
use Rattle.xen_page.specs.declared.fault.GrantFault.TheVariants.{BadGntref, PermissionDenied, BadPage, Eagain}

-- the status codes GNTST_bad_gntref -3, GNTST_permission_denied -8, GNTST_bad_page -9 and GNTST_eagain -12
abbrev pub number_of : GrantFault → ℤ
number_of BadGntref = negsuc 2
number_of PermissionDenied = negsuc 7
number_of BadPage = negsuc 8
number_of Eagain = negsuc 11

-- what is printed of a fault
abbrev pub text_of : GrantFault → List ℕ
text_of BadGntref = codes "no access is granted under this reference"
text_of PermissionDenied = codes "permission denied"
text_of BadPage = codes "the granted frame isn't the granter's"
text_of Eagain = codes "the entry is in use"

abbrev pub is_domain : Option ℕ → ℕ → Bool
is_domain None domain = false
is_domain (Some owner) domain = owner == domain

-- the frame exists and is this domain's
abbrev pub owns : List ℕ → (domain frame : ℕ) → Bool
owns owners domain frame = is_domain (slice_get owners frame) domain

-- An entry that is read-only allows no writing.
abbrev pub allows : Entry → Rights → Bool
allows e ReadOnly = true
allows e ReadWrite = not (is_readonly e)

-- What is required of an entry, in this order, each with the fault if it isn't so.
abbrev pub demands : List ℕ → (granter user : ℕ) → Entry → Rights → List (Bool × GrantFault)
demands owners granter user e rights =
    (permits_access e, BadGntref) ∷
    (e.domid == user, PermissionDenied) ∷
    (allows e rights, PermissionDenied) ∷
    (owns owners granter e.frame, BadPage) ∷
    []

-- the value, or the fault of the first demand that isn't met
abbrev pub first_fault : List (Bool × GrantFault) → ℕ → Result ℕ GrantFault
first_fault [] value = Ok value
first_fault (demand ∷ later) value = if demand.0 then first_fault later value else Err demand.1

-- the check of an entry: its frame, or a fault
abbrev pub checked : List ℕ → (granter user : ℕ) → Entry → Rights → Result ℕ GrantFault
checked owners granter user e rights = first_fault (demands owners granter user e rights) e.frame
