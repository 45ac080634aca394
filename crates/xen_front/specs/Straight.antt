-- For proofs: no claim rests on this file.
-- Writes that are made in one go.
use Rattle.std.specs.Prelude.{ℕ, ◌<◌, List, [], ◌∷◌}
use Rattle.xen_page.specs.declared.access.Access.{Access}
use Rattle.xen_steps.specs.Drive.{accesses}
use Rattle.xen_steps.specs.Pages.{PageWrite, writes}

-- they lie on a bus of `frames` frames
abbrev pub AreOnBus : ℕ → List PageWrite → Type 0
AreOnBus frames [] = Unit {0}
AreOnBus frames (n ∷ ns) = (n.at.frame < frames) × (n.at.word < 1024) × AreOnBus frames ns

-- their accesses
abbrev pub touched : List PageWrite → List Access
touched ns = accesses (writes ns)
