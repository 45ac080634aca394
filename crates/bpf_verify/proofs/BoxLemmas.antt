-- Notes in boxes.
use Rattle.std.proofs.Common.{◌≡◌, ◌<◌, ℕ, List, [], ◌∷◌, ◌++◌, Some, length, map, refl, sym, ap, ◌∙◌, subst, arith}
use Rattle.std.proofs.lemmas.List.{map-append, map-set, length-map}
use Rattle.std.specs.Prelude.{slice_get, slice_set, slice_index_or, Contains}
use Rattle.std.specs.Global.{Box}
use Rattle.bpf_note.specs.Parts.{Noted, facts}
use Rattle.bpf_note.specs.Facts.{Facts}
use Rattle.bpf_note.specs.Join.{joined}
use Rattle.bpf_verify.specs.Gathered.{Arrives}
use Rattle.bpf_verify.specs.Tables.{facts_at}
use Rattle.bpf_verify.proofs.ArrivalLemmas.{arrives_appended, arrives_merged}
use Rattle.bpf_verify.proofs.FollowLemmas.{get_is, get_map, list_at}

-- what they say, out of their boxes or in them
pub said : (bs : List (Box Noted)) → map facts (map (λ b. b.value) bs) ≡ map (λ b. facts b.value) bs
said [] = refl
said (b ∷ bs) = ap (λ (ns : List Facts). facts b.value ∷ ns) (said bs)

-- box k, of a slice that is the same list
pub box_at : (boxes items : List (Box Noted)) (k : ℕ) (b : Box Noted) → items ≡ boxes → k < length items → b ≡ slice_index_or items k b → slice_get boxes k ≡ Some b
box_at boxes items k b same low is = subst (λ (bs : List (Box Noted)). slice_get bs k ≡ Some b) same (get_is items k b low ∙ ap Some (sym is))

-- and the note in it
pub in_box_at : (notes : List Noted) (boxes items : List (Box Noted)) (k : ℕ) (b : Box Noted) → map (λ b. b.value) boxes ≡ notes → items ≡ boxes → k < length items → b ≡ slice_index_or items k b → slice_get notes k ≡ Some b.value
in_box_at notes boxes items k b view same low is = subst (λ (ns : List Noted). slice_get ns k ≡ Some b.value) view (get_map (λ b. b.value) boxes k b (box_at boxes items k b same low is))

-- note i of a slot's list, taken out of the table
pub taken_at : (items : List (List Noted)) (pc i : ℕ) (there taken : List Noted) (boxes : List (Box Noted)) (b : Box Noted) → pc < length items → there ≡ slice_index_or items pc there → taken ≡ there → map (λ b. b.value) boxes ≡ taken →
    (i < length boxes) × (b ≡ slice_index_or boxes i b) → slice_get (facts_at items pc) i ≡ Some (facts b.value)
taken_at items pc i there taken boxes b inside is got view at =
    let here : facts_at items pc ≡ map facts taken = list_at items pc there inside is ∙ ap (map facts) (sym got) in
    subst (λ (ns : List Facts). slice_get ns i ≡ Some (facts b.value)) (sym here) (get_map facts taken i b.value (in_box_at taken boxes boxes i b view refl at.0 at.1))

-- a list with room gets a note in a box
pub arrives_in_box : (notes : List Noted) (boxes items : List (Box Noted)) (b : Box Noted) → map (λ b. b.value) boxes ≡ notes → length boxes < 8 → items ≡ boxes ++ b ∷ [] → (Contains (map facts notes) (facts b.value) → ⊥) →
    Arrives (map facts notes) (facts b.value) (map facts (map (λ b. b.value) items))
arrives_in_box notes boxes items b view room pushed new =
    let few : length notes < 8 = omega (arith, ap length view, length-map boxes (λ (b : Box Noted). b.value), room) in
    let is : map (λ b. b.value) items ≡ notes ++ b.value ∷ [] = ap (map (λ b. b.value)) pushed ∙ (map-append (λ b. b.value) boxes (b ∷ []) ∙ ap (λ (ns : List Noted). ns ++ b.value ∷ []) view) in
    subst (λ (ns : List Noted). Arrives (map facts notes) (facts b.value) (map facts ns)) (sym is) (arrives_appended notes b.value new few)

-- the eighth box of a full list gets the join with a note
pub merges_in_box : (notes : List Noted) (boxes : List (Box Noted)) (eighth joint : Box Noted) (n : Noted) → map (λ b. b.value) boxes ≡ notes → length boxes ≡ 8 → eighth ≡ slice_index_or boxes 7 eighth → (Contains (map facts notes) (facts n) → ⊥) →
    facts joint.value ≡ joined (facts eighth.value) (facts n) → Arrives (map facts notes) (facts n) (map facts (map (λ b. b.value) (slice_set boxes 7 joint)))
merges_in_box notes boxes eighth joint n view full at new is =
    let seven : length notes ≡ 8 = omega (arith, ap length view, length-map boxes (λ (b : Box Noted). b.value), full) in
    let here = in_box_at notes boxes boxes 7 eighth view refl (omega (arith, full)) at in
    let put : slice_set notes 7 joint.value ≡ map (λ b. b.value) (slice_set boxes 7 joint) = ap (λ (ns : List Noted). slice_set ns 7 joint.value) (sym view) ∙ sym (map-set (λ b. b.value) boxes 7 joint) in
    subst (λ (ns : List Noted). Arrives (map facts notes) (facts n) (map facts ns)) put (arrives_merged notes n joint.value eighth.value new seven here is)
