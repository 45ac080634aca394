-- Stated: claims rest on this file.
-- Who owns each frame, and how many frames there may be, in each form that a host gives the owners in.
-- Rows worked by hand guard it: examples/host-queue/extents.c.
use Rattle.std.specs.Prelude.{ℕ, List}
use Rattle.xen_page.specs.Owned.{domains_of}
use Rattle.xen_host.specs.declared.frame_owners.FrameOwners.{FrameOwners}
use Rattle.xen_host.specs.declared.frame_owners.FrameOwners.TheVariants.{Each, Extents}

-- the domain of each frame, from frame 0 on
abbrev pub owners_in : FrameOwners → List ℕ
owners_in (Each domains) = domains.now
owners_in (Extents extents) = domains_of extents.now

-- the most frames that there may be, and the most of them that a grant table may have
pub record Limits : Type 0 where
  pub frames : ℕ
  pub table : ℕ

abbrev pub list_limits : Limits
list_limits = record { frames = 8192; table = 16 }

-- frames have numbers of 32 bits, and so has their count
abbrev pub extent_limits : Limits
extent_limits = record { frames = 4294967295; table = 64 }

abbrev pub limits_of : FrameOwners → Limits
limits_of (Each domains) = list_limits
limits_of (Extents extents) = extent_limits
