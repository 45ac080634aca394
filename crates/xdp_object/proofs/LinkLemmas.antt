-- One more reference of a program.
use Rattle.std.proofs.Common.{ℕ, ◌≡◌, ◌+◌, ◌-◌, ◌*◌, ◌<◌, List, Some, length, get_or, drop, ap, sym, ◌∙◌}
use Rattle.std.proofs.lemmas.List.{drop_more}
use Rattle.bpf_note.specs.Constants.{constant_address}
use Rattle.bpf_object.specs.declared.reference.ConstantReference.{ConstantReference}
use Rattle.bpf_object.specs.declared.reference.MapReference.{MapReference}
use Rattle.xdp_object.specs.Link.{linked, linked_by, numbered, placed, placed_by, with_address, with_map}

pub linked_more : (maps program next : List ℕ) (number : ℕ) (rs : List MapReference) (i : ℕ) (d : MapReference) → i < length rs →
    numbered 16 maps (get_or rs i d).map ≡ Some (number, next) →
    linked maps program (drop i rs) ≡ linked next (with_map program (8 * (get_or rs i d).slot) number) (drop (i + 1) rs)
linked_more maps program next number rs i d lt e =
    ap (linked maps program) (drop_more rs i d lt)
    ∙ ap (linked_by (λ ms p. linked ms p (drop (i + 1) rs)) program (get_or rs i d).slot) e

pub placed_more : (first : ℕ) (sections program next new : List ℕ) (number address : ℕ) (cs : List ConstantReference) (i : ℕ)
    (d : ConstantReference) → i < length cs → numbered (16 - first) sections (get_or cs i d).section ≡ Some (number, next) →
    address ≡ constant_address (first + number) (get_or cs i d).place → new ≡ with_address program (8 * (get_or cs i d).slot) address →
    placed first next new (drop (i + 1) cs) ≡ placed first sections program (drop i cs)
placed_more first sections program next new number address cs i d lt e at is =
    let rest = drop (i + 1) cs in
    ap (λ (p : List ℕ). placed first next p rest) is
    ∙ ap (λ (a : ℕ). placed first next (with_address program (8 * (get_or cs i d).slot) a) rest) at
    ∙ sym (ap (placed first sections program) (drop_more cs i d lt) ∙ ap (placed_by (λ ss p. placed first ss p rest) first program (get_or cs i d)) e)
