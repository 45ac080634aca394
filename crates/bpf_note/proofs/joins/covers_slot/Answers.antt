use Rattle.std.proofs.Common.{◌≡◌, ◌∙◌, ap, sym, subst, List, Bool, false, refl, ◌&&◌, ◌<◌, ℕ}
use Rattle.std.specs.Prelude.{slice_index_or}
use Rattle.bpf_note.specs.declared.slot.Slot.{Slot}
use Rattle.bpf_note.specs.declared.slot.Slot.TheVariants.{Kept, Bytes}
use Rattle.bpf_note.specs.Parts.{set_of}
use Rattle.bpf_note.specs.Slots.{set_bytes, IsCovered}
use Rattle.bpf_note.proofs.FactLemmas.{set_read}
use Rattle.bpf_note.proofs.joins.covers_slot.Goals as goal

-- the bytes of the second slot, by its reads
bytes_read : (xs bs : List Bool) (t : Slot) (k : ℕ) → bs ≡ set_bytes t → k < 8 → (slice_index_or xs k false && slice_index_or bs k false) ≡ (slice_index_or xs k false && set_of t k)
bytes_read xs bs t k e lt = ap (λ (b : Bool). slice_index_or xs k false && b) (ap (λ (zs : List Bool). slice_index_or zs k false) e ∙ set_read t k lt)

kept_none : (xs : List Bool) (t : Slot) → ((k : ℕ) → k < 8 → (slice_index_or xs k false && set_of t k) ≡ slice_index_or xs k false) → IsCovered (Bytes xs) t
kept_none xs (Kept v) h = record { kept = refl; set = h }
kept_none xs (Bytes ys) h = record { kept = refl; set = h }

pub returns-in-Bytes-default : goal.returns-in-Bytes-default
returns-in-Bytes-default c =
    let xs = c.in-Bytes-default.a in (
      λ t. subst (λ (s : Slot). IsCovered s c.args.b) (sym c.in-Bytes-default.is-0)
          (kept_none xs c.args.b (λ k lt. sym (bytes_read xs c.set_bytes.result c.args.b k c.set_bytes.ensures lt) ∙ c.covers_bytes.ensures.0 t k lt)),
      λ h. let g : IsCovered (Bytes c.in-Bytes-default.a) c.args.b = subst (λ (s : Slot). IsCovered s c.args.b) c.in-Bytes-default.is-0 h in
          c.covers_bytes.ensures.1 (λ k lt. bytes_read xs c.set_bytes.result c.args.b k c.set_bytes.ensures lt ∙ g.set k lt),
    )
