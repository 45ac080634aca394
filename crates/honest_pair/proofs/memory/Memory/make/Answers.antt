use Rattle.std.proofs.Common.{◌∙◌, ap, ℕ, false}
use Rattle.honest_pair.specs.Machine.Memory.{Memory}
use Rattle.xen_page.specs.declared.place.Place.{Place}
use Rattle.honest_pair.specs.Words.{opened}
use Rattle.honest_pair.specs.declared.awaits.Awaits.TheVariants as awaits
use Rattle.honest_pair.proofs.WordLemmas.{opened_words}
use Rattle.honest_pair.proofs.memory.Memory.make.Goals as goal

pub returns : goal.returns
returns c =
    let s = c.args.start in
    let ring : ℕ → Memory → Memory = λ f m. record m { word = opened f s m.word } in
    c.open_ring-2.ensures ∙ ap (ring 18) (c.open_ring.ensures ∙ ap (ring 17) c.in_ok-memory.ensures)
    ∙ ap (λ (w : Place → ℕ). record { word = w; pending = false; awaits = awaits.Nothing }) (opened_words s)
