-- The runs of reading an entry are its part of a trace.
use Rattle.std.proofs.Common.{◌≡◌, ℕ, List, [], ◌∷◌, Option, Some, None, Result, Err, refl, sym, subst}
use Rattle.xen_page.specs.Entry.{entry_of}
use Rattle.xen_page.specs.Grant.{checked}
use Rattle.xen_page.specs.Mapping.{frame_place}
use Rattle.xen_page.specs.Table.{entry_place}
use Rattle.xen_page.specs.declared.fault.GrantFault.{GrantFault}
use Rattle.xen_page.specs.declared.fault.GrantFault.TheVariants.{BadGntref}
use Rattle.xen_page.specs.declared.place.Place.{Place}
use Rattle.xen_page.specs.declared.entry.Rights.{Rights}
use Rattle.xen_steps.specs.Event.{Event, Read}
use Rattle.xen_steps.specs.Steps.{Runs}
use Rattle.xen_rx_fill.specs.Entries.{entry, entry_at}
use Rattle.xen_rx_fill.specs.Shared.{IsEntry, outside, inside}
use Rattle.xen_rx_fill.specs.declared.vif.Vif.{Vif}

-- an entry
entry_by : (w : Vif) (rights : Rights) (gref : ℕ) (o : Option Place) → entry_place w.table.now gref ≡ o → (p : List Event) (r : Result ℕ GrantFault) → Runs (entry_at w rights o) p r → IsEntry w rights gref p r
entry_by w rights gref None e [] r h = subst (λ r. IsEntry w rights gref [] r) h (outside e)
entry_by w rights gref None e (x ∷ p) r h = absurd h
entry_by w rights gref (Some at) e [] r h = absurd h
entry_by w rights gref (Some at) e (x ∷ []) r h = absurd h.2
entry_by w rights gref (Some at) e (x ∷ y ∷ []) r h = rw (h.1.1, h.2.1.1, ← h.2.2) (inside at h.0 h.2.0 e h.1.0 h.2.1.0)
entry_by w rights gref (Some at) e (x ∷ y ∷ z ∷ p) r h = absurd h.2.2

pub entry_parts : (w : Vif) (rights : Rights) (gref : ℕ) (p : List Event) (r : Result ℕ GrantFault) → Runs (entry w rights gref) p r → IsEntry w rights gref p r
entry_parts w rights gref p r h = entry_by w rights gref (entry_place w.table.now gref) refl p r h

pub runs_entry : (w : Vif) (rights : Rights) (gref : ℕ) (p : List Event) (r : Result ℕ GrantFault) → IsEntry w rights gref p r → Runs (entry w rights gref) p r
runs_entry w rights gref _ _ (outside e) = subst (λ (o : Option Place). Runs (entry_at w rights o) [] (Err BadGntref)) (sym e) refl
runs_entry w rights gref _ _ (inside at a b e la lb) =
    subst (λ (o : Option Place). Runs (entry_at w rights o) (Read at a ∷ Read (frame_place at) b ∷ []) (checked w.owners.now w.granter w.user (entry_of a b) rights)) (sym e) (a, (la, refl), (b, (lb, refl), refl))
