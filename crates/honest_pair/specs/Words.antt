-- For proofs: no claim rests on this file.
-- The words of all frames, one frame after another.
use Rattle.std.specs.Prelude.{ℕ, ◌<◌, ◌+◌, ◌*◌, false, List, get_or, nat_lt, if◌then◌else◌}
use Rattle.honest_pair.specs.Machine.Memory.{Memory, put}
use Rattle.honest_pair.specs.declared.awaits.Awaits.TheVariants as awaits
use Rattle.xen_page.specs.declared.place.Place.{Place}
use Rattle.xen_steps.specs.Places.{add32, page_word}
use Rattle.xen_steps.specs.declared.want.Want.{Want}
use Rattle.xen_steps.specs.declared.want.Want.TheVariants as want

-- the word at a place; 0 if there is none
abbrev pub words_at : List ℕ → Place → ℕ
words_at words at = if nat_lt at.word 1024 then get_or words (1024 * at.frame + at.word) 0 else 0

-- a new ring's header is written, in a frame
abbrev pub opened : (frame start : ℕ) → (Place → ℕ) → Place → ℕ
opened frame start word =
    put (put (put (put word (page_word frame 0) start) (page_word frame 1) (add32 start 1)) (page_word frame 2) start)
    (page_word frame 3) (add32 start 1)

abbrev pub empty_memory : Memory
empty_memory = record { word = (λ at. 0); pending = false; awaits = awaits.Nothing }

-- a notice that is pending was taken
abbrev pub taken : Memory → Memory
taken m = record m { pending = false; awaits = if m.pending then awaits.Nothing else m.awaits }

-- a place of the 531 frames
abbrev pub IsHeld : Place → Type 0
IsHeld at = (at.frame < 531) × (at.word < 1024)

abbrev pub WantsHeld : Want → Type 0
WantsHeld (want.Read at) = IsHeld at
WantsHeld (want.Write at v) = IsHeld at
WantsHeld w = Unit {0}
