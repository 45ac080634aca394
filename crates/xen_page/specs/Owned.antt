-- Stated: claims rest on this file.
-- Who owns each frame of extents, as in Xen's memory.h: an extent is a number of frames, one after another.
-- Rows worked by hand guard it: crates/xen_page_tests/src/tests/extents.rt.
use Rattle.std.specs.Prelude.{ℕ, ◌≡◌, ◌+◌, ◌^◌, ◌<◌, ◌≤◌, List, [], ◌∷◌, ◌++◌, length, replicate}
use Rattle.xen_page.specs.declared.extents.Extent.{Extent}
use Rattle.xen_page.specs.declared.owners.Kept.{Kept}
use Rattle.xen_page.specs.declared.owners.Kept.TheVariants.{Each, InExtents}
use Rattle.xen_page.specs.declared.owners.OwnersFault.{OwnersFault}
use Rattle.xen_page.specs.declared.owners.OwnersFault.TheVariants.{Memory, Frames}

-- the domain of each frame, from frame 0 on: the frames of an extent follow those of the one before
abbrev pub domains_of : List Extent → List ℕ
domains_of [] = []
domains_of (extent ∷ later) = replicate extent.frames extent.domain ++ domains_of later

-- frames have numbers of 32 bits, and so has their count
abbrev pub AreCounted : List ℕ → Type 0
AreCounted domains = length domains < 2 ^ 32

abbrev pub domains_in : Kept → List ℕ
domains_in (Each domains) = domains.items
domains_in (InExtents extents _) = domains_of extents.items

-- the frame behind each extent's last one; the first extent begins with this frame
abbrev pub ends_of : ℕ → List Extent → List ℕ
ends_of first [] = []
ends_of first (extent ∷ later) = (first + extent.frames) ∷ ends_of (first + extent.frames) later

-- the ends that are kept beside extents
abbrev pub HasEnds : Kept → Type 0
HasEnds (Each _) = Unit
HasEnds (InExtents extents ends) = ends.items ≡ ends_of 0 extents.items

-- memory is asked for only if the frames can be counted
abbrev pub IsFaultOf : List Extent → OwnersFault → Type 0
IsFaultOf extents Memory = AreCounted (domains_of extents)
IsFaultOf extents Frames = 2 ^ 32 ≤ length (domains_of extents)
