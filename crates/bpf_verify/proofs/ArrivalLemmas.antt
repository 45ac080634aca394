-- A note that comes to a list.
use Rattle.std.proofs.Common.{◌≡◌, ◌<◌, List, [], ◌∷◌, ◌++◌, Some, length, map, sym, ap, ◌∙◌, arith, subst}
use Rattle.std.specs.Prelude.{slice_get, slice_set, Contains}
use Rattle.std.proofs.lemmas.List.{map-append, length-map}
use Rattle.bpf_note.specs.Parts.{Noted, facts}
use Rattle.bpf_note.specs.Facts.{Facts}
use Rattle.bpf_note.specs.Join.{joined}
use Rattle.bpf_verify.specs.Gathered.{Arrives, appended, merged}
use Rattle.bpf_verify.proofs.ListLemmas.{with_last}

pub arrives_appended : (xs : List Noted) (n : Noted) → (Contains (map facts xs) (facts n) → ⊥) → length xs < 8 → Arrives (map facts xs) (facts n) (map facts (xs ++ n ∷ []))
arrives_appended xs n new room =
    subst (λ (ys : List Facts). Arrives (map facts xs) (facts n) ys) (sym (map-append facts xs (n ∷ []))) (appended new (omega (arith, length-map xs facts, room)))

pub arrives_merged : (xs : List Noted) (n m e : Noted) → (Contains (map facts xs) (facts n) → ⊥) → length xs ≡ 8 → slice_get xs 7 ≡ Some e → facts m ≡ joined (facts e) (facts n) →
    Arrives (map facts xs) (facts n) (map facts (slice_set xs 7 m))
arrives_merged xs n m e new full at is =
    let r = with_last facts xs 7 m full in
    let same : r.1 ≡ e = let t : Some r.1 ≡ Some e = sym r.4 ∙ at in cc in
    let last : joined (facts r.1) (facts n) ≡ facts m = ap (λ (x : Noted). joined (facts x) (facts n)) same ∙ sym is in
    subst (λ (ys : List Facts). Arrives (map facts xs) (facts n) ys) (ap (λ (x : Facts). r.0 ++ x ∷ []) last ∙ sym r.5) (merged r.0 (facts r.1) new r.2 r.3)
