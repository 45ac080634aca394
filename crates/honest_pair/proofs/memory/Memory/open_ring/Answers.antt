use Rattle.std.proofs.Common.{◌≡◌, ◌∙◌, ap, ℕ}
use Rattle.honest_pair.specs.Machine.Memory.{Memory, put}
use Rattle.xen_page.specs.declared.place.Place.{Place}
use Rattle.xen_steps.specs.Places.{add32, page_word}
use Rattle.honest_pair.proofs.memory.Memory.open_ring.Goals as goal

-- a word written at a place that a call gave
there : (at wanted : Place) (v : ℕ) (m : Memory) → at ≡ wanted → record m { word = put m.word at v } ≡ record m { word = put m.word wanted v }
there at wanted v m e = ap (λ p. record m { word = put m.word p v }) e

pub returns : goal.returns
returns c =
    let f = c.args.frame in
    let s = c.args.start in
    let wrote : ℕ → ℕ → Memory → Memory = λ k v m. record m { word = put m.word (page_word f k) v } in
    (c.write-4.ensures ∙ there _ _ (add32 s 1) _ c.header-4.ensures)
    ∙ ap (wrote 3 (add32 s 1)) ((c.write-3.ensures ∙ there _ _ s _ c.header-3.ensures)
    ∙ ap (wrote 2 s) ((c.write-2.ensures ∙ there _ _ (add32 s 1) _ c.header-2.ensures)
    ∙ ap (wrote 1 (add32 s 1)) (c.write.ensures ∙ there _ _ s _ c.header.ensures)))
