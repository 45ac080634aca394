-- Where a reference's entry is.
use Rattle.std.proofs.Common.{◌≡◌, ℕ, ◌+◌, ◌*◌, ◌/◌, ◌%◌, ◌<◌, List, Option, Some, None, All, Contains, subst, ap, arith}
use Rattle.std.proofs.lemmas.Option.{slice_get_within, get_or_from_slice_get}
use Rattle.std.specs.Prelude.{slice_get}
use Rattle.xen_page.specs.Table.{entry_place, place_in}
use Rattle.xen_page.specs.declared.place.Place.{Place}

place_in-frame : (o : Option ℕ) (gref : ℕ) (at : Place) → place_in o gref ≡ Some at → o ≡ Some at.frame
place_in-frame None gref at is = cc
place_in-frame (Some frame) gref at is =
    let same : record { frame = frame; word = 2 * (gref % 512) } ≡ at = cc in
    ap (λ (p : Place). Some p.frame) same

-- what holds of each frame of the table holds of the entry's
pub entry_frame_in : (P : ℕ → Type 0) (frames : List ℕ) (gref : ℕ) (at : Place) → entry_place frames gref ≡ Some at → All P frames → P at.frame
entry_frame_in P frames gref at is all =
    let got : slice_get frames (gref / 512) ≡ Some at.frame = place_in-frame (slice_get frames (gref / 512)) gref at is in
    subst P (get_or_from_slice_get frames (gref / 512) at.frame at.frame got)
    (all (gref / 512) at.frame (slice_get_within frames (gref / 512) at.frame got))

place_in-word : (o : Option ℕ) (gref : ℕ) (at : Place) → place_in o gref ≡ Some at → at.word ≡ 2 * (gref % 512)
place_in-word None gref at is = cc
place_in-word (Some frame) gref at is =
    let same : at ≡ record { frame = frame; word = 2 * (gref % 512) } = cc in
    ap (λ (p : Place). p.word) same

-- the entry's words lie in a page of the table
pub entry_in_table : (frames : List ℕ) (gref : ℕ) (at : Place) → entry_place frames gref ≡ Some at → (at.word + 1 < 1024) × Contains frames at.frame
entry_in_table frames gref at is =
    let got : slice_get frames (gref / 512) ≡ Some at.frame = place_in-frame (slice_get frames (gref / 512)) gref at is in
    let word = place_in-word (slice_get frames (gref / 512)) gref at is in
    (omega (arith, word), (gref / 512, slice_get_within frames (gref / 512) at.frame got, get_or_from_slice_get frames (gref / 512) at.frame at.frame got))
