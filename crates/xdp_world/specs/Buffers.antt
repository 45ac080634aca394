-- Stated: claims rest on this file.
-- The buffers of a front: each is the page that its reference grants.
use Rattle.std.specs.Prelude.{ℕ, List, map}
use Rattle.std.specs.List.{range_with_len}
use Rattle.xen_buffers.specs.declared.wiring.GrantedPage.{GrantedPage}
use Rattle.xdp_world.specs.Frames.{frame_of}

-- the buffer that a reference grants
abbrev pub granted : ℕ → GrantedPage
granted gref = record { gref = gref; frame = frame_of gref }

-- the 256 buffers with the references from this one on
abbrev pub granted_from : ℕ → List GrantedPage
granted_from first = map granted (range_with_len first 256)
