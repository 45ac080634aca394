use Rattle.std.proofs.Common.{ap, false, ℕ}
use Rattle.xen_page.specs.declared.place.Place.{Place}
use Rattle.honest_pair.specs.declared.awaits.Awaits.TheVariants as awaits
use Rattle.honest_pair.proofs.WordLemmas.{empty_words}
use Rattle.honest_pair.proofs.memory.Memory.empty.Goals as goal

pub returns : goal.returns
returns c = ap (λ (w : Place → ℕ). record { word = w; pending = false; awaits = awaits.Nothing }) (empty_words 543744 _ c.in_ok-zeros.ensures.items)
