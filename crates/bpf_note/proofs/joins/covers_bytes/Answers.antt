use Rattle.std.proofs.Common.{◌∙◌, ap, sym, List, Bool, false, refl}
use Rattle.std.specs.Prelude.{slice_index_or}
use Rattle.std.proofs.lemmas.Slice.Eq.{slice_eq-Decides}
use Rattle.bpf_note.specs.Slots.{both}
use Rattle.bpf_note.proofs.EqualLemmas.{bools_equal}
use Rattle.bpf_note.proofs.FactLemmas.{both_read, same_bytes}
use Rattle.bpf_note.proofs.joins.covers_bytes.Goals as goal

pub returns : goal.returns
returns c =
    let xs = c.args.a.now in let ys = c.args.b.now in
    let d = slice_eq-Decides bools_equal c.both.result xs c.eq.result c.eq.ensures in (
      λ t k lt. sym (both_read xs ys k lt) ∙ ap (λ (zs : List Bool). slice_index_or zs k false) (sym c.both.ensures ∙ d.0 t),
      λ h. d.1 (c.both.ensures ∙ same_bytes (both xs ys) xs refl c.told-a (λ k lt. both_read xs ys k lt ∙ h k lt)),
    )
