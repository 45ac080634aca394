-- Stated: claims rest on this file.
-- The memory that both ends share: the words of all frames, and whether the back's port is pending; and of which posts the back asked to
-- be told.
use Rattle.std.specs.Prelude.{ℕ, zero, suc, Bool, true, false, ◌==◌, ◌&&◌, if◌then◌else◌}
use Rattle.xen_page.specs.declared.place.Place.{Place}
use Rattle.xen_steps.specs.Places.{add32}
use Rattle.xen_steps.specs.declared.want.Want.{Want}
use Rattle.xen_steps.specs.declared.want.Want.TheVariants as want
use Rattle.honest_pair.specs.declared.awaits.Awaits.{Awaits}
use Rattle.honest_pair.specs.declared.awaits.Awaits.TheVariants as awaits

pub record Memory : Type 0 where
  pub word : Place → ℕ
  pub pending : Bool
  pub awaits : Awaits

abbrev pub same : Place → Place → Bool
same a b = a.frame == b.frame && a.word == b.word

abbrev pub put : (Place → ℕ) → Place → ℕ → Place → ℕ
put word at v x = if same x at then v else word x

-- Port 0 wakes the back; nobody takes the front's port.
abbrev pub told : ℕ → Bool → Bool
told zero pending = true
told (suc port) pending = pending

-- The memory after what an end wanted was done.
abbrev pub after : Want → Memory → Memory
after (want.Read at) m = m
after (want.Write at v) m = record m { word = put m.word at v }
after want.Instr m = m
after (want.Load i k j) m = m
after (want.Add i k j delta) m = m
after (want.Notify port) m = record m { pending = told port m.pending }
after want.Done m = m

-- What it is answered: a read the word that stands there, a counter's load or add any number n.
abbrev pub answer : Want → Memory → ℕ → ℕ
answer (want.Read at) m n = m.word at
answer (want.Write at v) m n = 0
answer want.Instr m n = 0
answer (want.Load i k j) m n = n
answer (want.Add i k j delta) m n = n
answer (want.Notify port) m n = 0
answer want.Done m n = 0

-- A new ring's header from its index on: both producers are the index, and both events one more.
abbrev pub header_word : ℕ → ℕ → ℕ
header_word start zero = start
header_word start (suc zero) = add32 start 1
header_word start (suc (suc zero)) = start
header_word start (suc (suc (suc zero))) = add32 start 1
header_word start (suc (suc (suc (suc k)))) = 0

-- What stands in the words before the first event: new rings in frames 17 and 18, and 0 in all else.
abbrev pub opening_word : ℕ → Place → ℕ
opening_word start at = if at.frame == 17 then header_word start at.word else if at.frame == 18 then header_word start at.word else 0

abbrev pub opening_memory : ℕ → Memory
opening_memory start = record { word = opening_word start; pending = false; awaits = awaits.Nothing }
