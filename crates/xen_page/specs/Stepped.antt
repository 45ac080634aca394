-- Stated: claims rest on this file.
-- Words that keep their steps.
use Rattle.std.specs.Prelude.{◌≡◌, List, [], ◌∷◌, Option, take}
use Rattle.xen_page.specs.Access.{Tells}
use Rattle.xen_page.specs.Log.{Logged, noted}
use Rattle.xen_page.specs.declared.access.Access.{Access}
use Rattle.xen_page.specs.declared.word_recorder.WordRecorder.{WordRecorder}

-- the words inside
abbrev pub words_of : {W : Type 0} → WordRecorder W → W
words_of r = r.words

-- the first steps, of which there is room for sixteen
abbrev pub steps_of : {W : Type 0} → WordRecorder W → Logged
steps_of r = record { kept = take r.count r.kept; room = 16; full = r.full }

-- The step is one of the words inside, and is noted with their answer.
abbrev pub Notes : {W : Type 0} → (W → Option (List Access)) → (W → Access → W → Type 0) →
    WordRecorder W → Access → WordRecorder W → Type 0
Notes tells gives old step new =
    gives (words_of old) step (words_of new) ×
    Tells (tells (words_of old)) (tells (words_of new)) (step ∷ []) ×
    (steps_of new ≡ noted (steps_of old) step)
