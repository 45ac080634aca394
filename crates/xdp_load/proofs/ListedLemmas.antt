-- The keys of lists, one after another, and the first list that is none.
use Rattle.std.proofs.Common.{append_assoc, add-one, suc, arith, ◌≡◌, ◌<◌, ◌≤◌, ◌+◌, ◌++◌, ℕ, List, [], ◌∷◌, length, get_or, drop, take, map, option_map, slice_get, Option, Some, None, Result, Ok, Err, refl, ap, sym, subst, ◌∙◌, ◌⊎◌, inl, inr}
use Rattle.std.proofs.lemmas.List.{drop_more, length-map, map-append, take_all, take_more}
use Rattle.std.proofs.lemmas.Option.{slice_get-get_or, slice_get-map}
use Rattle.std.proofs.lemmas.Bool.{cases_order}
use Rattle.bpf_lists.specs.Keys.{Keyed}
use Rattle.bpf_lists.specs.Refusals.{AreListed}
use Rattle.bpf_lists.specs.declared.list.MapList.{MapList}
use Rattle.bpf_lists.specs.declared.list.MapList.TheVariants.{Rows, Constants}
use Rattle.bpf_note.specs.Shape.{Shape}
use Rattle.toml.specs.declared.value.Value.{Value}
use Rattle.xdp_load.specs.Document.{Text}
use Rattle.xdp_load.specs.Gives.{seen_by, ◌>>=◌}
use Rattle.xdp_load.specs.Listed.{AreListedBelow, IsFirstUnlisted, list_of, lists_of, row_bytes}
use Rattle.xdp_load.specs.ListedFault.{IsListed, IsListError, IsUnlistedError}
use Rattle.xdp_load.specs.ListedSeen.{list_seen, lists_seen, row_texts}
use Rattle.xdp_load.specs.MapKeys.{ListedText}
use Rattle.xdp_load.specs.Seen.{row_numbers}
use Rattle.xdp_load.specs.Setup.{bytes_in}
use Rattle.xdp_load.specs.Spot.{Refused}
use Rattle.xdp_load.specs.declared.fault.LoadError.{LoadError}
use Rattle.xdp_load.specs.declared.fault.LoadError.TheVariants as error
use Rattle.xdp_load.specs.declared.key.Key.TheVariants as key
use Rattle.xdp_load.specs.declared.lists.ListBytes.{ListBytes}

-- each value is a text
pub texts_counted : (vs : List Value) → length (row_texts vs) ≡ length vs
texts_counted [] = refl
texts_counted (v ∷ vs) = ap suc (texts_counted vs)

-- each value is a number
pub numbers_counted : (vs : List Value) → length (row_numbers vs) ≡ length vs
numbers_counted [] = refl
numbers_counted (v ∷ vs) = ap suc (numbers_counted vs)

-- ---- lists

-- a key that is read
pub bytes_more : {A : Type 0} (n : ℕ) (g : A → Text) (xs : List A) (i : ℕ) (d : A) (done bytes : List ℕ) → i < length xs → bytes_in key.Rows n (g (get_or xs i d)) ≡ Ok bytes
    → seen_by (λ rest. done ++ rest) (row_bytes n (map g (drop i xs))) ≡ seen_by (λ rest. (done ++ bytes) ++ rest) (row_bytes n (map g (drop (i + 1) xs)))
bytes_more n g xs i d done bytes h e = rw (drop_more xs i d h, e, add-one) (last (row_bytes n (map g (drop (suc i) xs))))
  where
    last : (r : Result (List ℕ) Refused) → seen_by (λ rest. done ++ rest) (r >>= (λ rest. Ok (bytes ++ rest))) ≡ seen_by (λ rest. (done ++ bytes) ++ rest) r
    last (Ok rest) = ap Ok (sym (append_assoc done bytes rest))
    last (Err e) = refl

-- a list that is read
pub lists_more : {A : Type 0} (g : A → ListedText) (ss : List Shape) (xs : List A) (i : ℕ) (s : Shape) (d : A) (done : List (Option MapList)) (l : Option MapList) → i < length ss → i < length xs
    → list_of i (get_or ss i s).key (g (get_or xs i d)).key.rows ≡ Ok l
    → seen_by (λ ls. done ++ ls) (lists_of i (drop i ss) (map g (drop i xs))) ≡ seen_by (λ ls. (done ++ (l ∷ [])) ++ ls) (lists_of (i + 1) (drop (i + 1) ss) (map g (drop (i + 1) xs)))
lists_more g ss xs i s d done l h k e = rw (drop_more ss i s h, drop_more xs i d k, e, add-one) (last (lists_of (suc i) (drop (suc i) ss) (map g (drop (suc i) xs))))
  where
    last : (r : Result (List (Option MapList)) Refused) → seen_by (λ ls. done ++ ls) (r >>= (λ ls. Ok (l ∷ ls))) ≡ seen_by (λ ls. (done ++ (l ∷ [])) ++ ls) r
    last (Ok ls) = ap Ok (sym (append_assoc done (l ∷ []) ls))
    last (Err e) = refl

-- the same, where the lists done are seen, the shape and the map are those at the place
pub lists_kept : {A : Type 0} (g : A → ListedText) (ss : List Shape) (xs : List A) (i : ℕ) (s : Shape) (d : A) (shape : Shape) (item : A) (done : List (Option ListBytes)) (l : Option ListBytes) → i < length ss → i < length xs
    → shape ≡ get_or ss i s → item ≡ get_or xs i d → list_of i shape.key (g item).key.rows ≡ Ok (option_map list_seen l)
    → seen_by (λ ls. lists_seen done ++ ls) (lists_of i (drop i ss) (map g (drop i xs))) ≡ seen_by (λ ls. lists_seen (done ++ (l ∷ [])) ++ ls) (lists_of (i + 1) (drop (i + 1) ss) (map g (drop (i + 1) xs)))
lists_kept g ss xs i s d shape item done l h k same here e =
    let read : list_of i (get_or ss i s).key (g (get_or xs i d)).key.rows ≡ Ok (option_map list_seen l) =
    subst (λ (x : Shape). list_of i x.key (g (get_or xs i d)).key.rows ≡ Ok (option_map list_seen l)) same (subst (λ x. list_of i shape.key (g x).key.rows ≡ Ok (option_map list_seen l)) here e) in
    lists_more g ss xs i s d (lists_seen done) (option_map list_seen l) h k read
    ∙ ap (λ zs. seen_by (λ ls. zs ++ ls) (lists_of (i + 1) (drop (i + 1) ss) (map g (drop (i + 1) xs)))) (sym (map-append (option_map list_seen) done (l ∷ [])))

-- ---- rows

-- the lists before the next place
pub lists_taken : (ls : List (Option ListBytes)) (i : ℕ) (d : Option ListBytes) → i < length ls → lists_seen (take (i + 1) ls) ≡ lists_seen (take i ls) ++ (option_map list_seen (get_or ls i d) ∷ [])
lists_taken ls i d h = ap lists_seen (take_more ls i d h) ∙ map-append (option_map list_seen) (take i ls) (get_or ls i d ∷ [])

list_at : (ls : List (Option ListBytes)) (i : ℕ) (d : Option ListBytes) → i < length ls → slice_get (lists_seen ls) i ≡ Some (option_map list_seen (get_or ls i d))
list_at ls i d h = slice_get-map (option_map list_seen) ls i ∙ ap (option_map (option_map list_seen)) (slice_get-get_or ls i d h)

listed_list : (o : Option MapList) (list : Keyed) → IsListed o → ◌≡◌ {A = Option (Option MapList)} (Some o) (Some (Some (Rows list))) → AreListed list.kind list.keys
listed_list None list h e = absurd (cc)
listed_list (Some (Rows l)) list h e = subst (λ (x : Keyed). AreListed x.kind x.keys) (cc) h
listed_list (Some (Constants bytes)) list h e = absurd (cc)

-- one list more is one that a map can have
pub below_more : (ls : List (Option ListBytes)) (i : ℕ) (d : Option ListBytes) → i < length ls → AreListedBelow (lists_seen ls) i → IsListed (option_map list_seen (get_or ls i d)) → AreListedBelow (lists_seen ls) (i + 1)
below_more ls i d h a l k list less there = go (cases_order k i)
  where
    go : (k ≡ i) ⊎ ((k < i) ⊎ (i < k)) → AreListed list.kind list.keys
    go (inl e) = listed_list (option_map list_seen (get_or ls i d)) list l (sym (list_at ls i d h) ∙ (rw e at there))
    go (inr (inl m)) = a k list m there
    go (inr (inr m)) = absurd (omega (arith, m, less))

-- all lists are such as maps can have
pub all_listed : (ls : List (Option ListBytes)) (i : ℕ) (made : List (Option MapList)) → length ls ≤ i → made ≡ lists_seen (take i ls) → AreListedBelow (lists_seen ls) i → AreListedBelow made (length made)
all_listed ls i made h is below k rows less there =
    let whole : made ≡ lists_seen ls = is ∙ ap lists_seen (take_all i ls h) in
    let counted : length made ≡ length ls = ap length whole ∙ length-map ls (option_map list_seen) in
    below k rows (omega (arith, less, counted, h)) (subst (λ (xs : List (Option MapList)). slice_get xs k ≡ Some (Some (Rows rows))) whole there)

-- the next list is the first that is none
first_unlisted : (ls : List (Option MapList)) (i : ℕ) (o : Option MapList) → slice_get ls i ≡ Some o → AreListedBelow ls i → (IsListed o → ⊥) → IsFirstUnlisted ls i
first_unlisted ls i None there a h = absurd (h tt)
first_unlisted ls i (Some (Rows rows)) there a h = record { rows = rows; there = there; unlisted = h; before = a }
first_unlisted ls i (Some (Constants bytes)) there a h = absurd (h tt)

pub first_error : (ls : List (Option ListBytes)) (i : ℕ) (d item : Option ListBytes) (e : LoadError) → i < length ls → item ≡ get_or ls i d → AreListedBelow (lists_seen ls) i → IsUnlistedError i (option_map list_seen item) e → IsListError (lists_seen ls) e
first_error ls i d item error.Memory h here a u = tt
first_error ls i d item (error.Refused r) h here a u =
    let same : option_map list_seen item ≡ option_map list_seen (get_or ls i d) = ap (option_map list_seen) here in
    (i, u.0, first_unlisted (lists_seen ls) i (option_map list_seen (get_or ls i d)) (list_at ls i d h) a (subst (λ (o : Option MapList). IsListed o → ⊥) same u.1))
