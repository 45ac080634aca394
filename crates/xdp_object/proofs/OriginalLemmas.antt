-- One more reference of a program to what is given.
use Rattle.std.proofs.Common.{Bool, ℕ, ap, cond, map, not, position, refl, ◌≡◌, ◌+◌, ◌*◌, ◌<◌, List, [], ◌∷◌, ◌++◌, length, get_or, take, sym, subst}
use Rattle.std.proofs.lemmas.List.{length-map, take_more}
use Rattle.std.proofs.lemmas.Option.{slice_get-get_or}
use Rattle.std.specs.List.{prefix_len}
use Rattle.bpf_note.specs.Constants.{constant_address}
use Rattle.bpf_object.specs.Object.{Parts}
use Rattle.bpf_object.specs.declared.reference.ConstantReference.{ConstantReference}
use Rattle.bpf_object.specs.declared.reference.MapReference.{MapReference}
use Rattle.xdp_object.specs.Constants.{MapsView}
use Rattle.xdp_object.specs.Link.{with_address, with_map}
use Rattle.xdp_object.specs.Original.{AreConstantsGiven, AreConstantsNotGiven, AreNumbered, ArePlaced, IsFirstUnnumbered, IsFirstUnplaced, IsMapGiven, IsMapNotGiven}
use Rattle.xdp_object.specs.declared.fault.GivenCause.{GivenCause}
use Rattle.xdp_object.specs.Original.AreNumbered.{more as more_maps, none as no_maps}
use Rattle.xdp_object.specs.Original.ArePlaced.{more as more_constants}

pub numbered_more : (o : Parts) (given : MapsView) (code program new : List ℕ) (rs : List MapReference) (k n : ℕ) (d : MapReference) →
    k < length rs → AreNumbered o given code (take k rs) program → IsMapGiven o given (get_or rs k d).map n →
    new ≡ with_map program (8 * (get_or rs k d).slot) n → AreNumbered o given code (take (k + 1) rs) new
numbered_more o given code program new rs k n d lt before here e =
    subst (λ (xs : List MapReference). AreNumbered o given code xs new) (sym (take_more rs k d lt))
    (subst (λ (p : List ℕ). AreNumbered o given code (take k rs ++ get_or rs k d ∷ []) p) (sym e)
    (more_maps (take k rs) program (get_or rs k d) n before here))

pub placed_more : (o : Parts) (given : MapsView) (code program new : List ℕ) (cs : List ConstantReference) (k n address : ℕ) (d : ConstantReference) →
    k < length cs → ArePlaced o given code (take k cs) program → AreConstantsGiven o given (get_or cs k d).section n →
    address ≡ constant_address n (get_or cs k d).place → new ≡ with_address program (8 * (get_or cs k d).slot) address →
    ArePlaced o given code (take (k + 1) cs) new
placed_more o given code program new cs k n address d lt before here at e =
    subst (λ (xs : List ConstantReference). ArePlaced o given code xs new) (sym (take_more cs k d lt))
    (subst (λ (p : List ℕ). ArePlaced o given code (take k cs ++ get_or cs k d ∷ []) p) (sym e)
    (subst (λ (a : ℕ). ArePlaced o given code (take k cs ++ get_or cs k d ∷ []) (with_address program (8 * (get_or cs k d).slot) a)) (sym at)
    (more_constants (take k cs) program (get_or cs k d) n before here)))

prefix_map : {A B : Type 0} (test : B → Bool) (f : A → B) (xs : List A) → prefix_len (λ x. not (test (f x))) xs ≡ prefix_len (λ y. not (test y)) (map f xs)
prefix_map test f [] = refl
prefix_map test f (x ∷ xs) = ap (λ n. cond (not (test (f x))) (1 + n) 0) (prefix_map test f xs)

-- the first of some that f makes to what is sought
pub position_map : {A B : Type 0} (test : B → Bool) (f : A → B) (xs : List A) → position (λ x. test (f x)) xs ≡ position test (map f xs)
position_map test f xs = rw (prefix_map test f xs, length-map)

-- the first reference to a map that isn't given
pub first_unnumbered : (o : Parts) (given : MapsView) (code program : List ℕ) (rs : List MapReference) (k : ℕ) (d : MapReference) (why : GivenCause) →
    k < length rs → AreNumbered o given code (take k rs) program → IsMapNotGiven o given (get_or rs k d).map why →
    IsFirstUnnumbered o given code rs (get_or rs k d).slot why
first_unnumbered o given code program rs k d why lt before none =
    record { k = k; r = get_or rs k d; there = slice_get-get_or rs k d lt; at = refl; before = (program, before); none = none }

pub first_unplaced : (o : Parts) (given : MapsView) (code program : List ℕ) (cs : List ConstantReference) (k : ℕ) (d : ConstantReference)
    (why : GivenCause) → k < length cs → ArePlaced o given code (take k cs) program → AreConstantsNotGiven o given (get_or cs k d).section why →
    IsFirstUnplaced o given code cs (get_or cs k d).slot why
first_unplaced o given code program cs k d why lt before none =
    record { k = k; c = get_or cs k d; there = slice_get-get_or cs k d lt; at = refl; before = (program, before); none = none }

-- nothing is referred to
pub none_numbered : (o : Parts) (given : MapsView) (code : List ℕ) (rs : List MapReference) → length rs ≡ 0 → AreNumbered o given code rs code
none_numbered o given code [] e = no_maps
none_numbered o given code (r ∷ rs) e = absurd (cc)
