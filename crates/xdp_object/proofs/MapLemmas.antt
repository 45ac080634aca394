-- One more map of a program.
use Rattle.std.proofs.Common.{ℕ, ◌≡◌, ◌+◌, ◌<◌, inl, List, [], ◌∷◌, ◌++◌, length, get_or, sym, subst, ap, ◌∙◌, below_more}
use Rattle.std.specs.Prelude.{slice_index}
use Rattle.std.proofs.lemmas.List.{get_or_append_left, length-append}
use Rattle.std.proofs.Math.Seq.{get_or-append_seam}
use Rattle.bpf_note.specs.Shape.{Shape}
use Rattle.bpf_object.specs.Object.{Parts}
use Rattle.xdp_object.specs.Maps.{HasName, HasShape, HaveMaps, IsCause, IsNoMapAt, IsNoMaps, IsNoneAmong, no_shape}
use Rattle.xdp_object.specs.Setup.{IsLinked, IsNoSetupIn}
use Rattle.xdp_object.specs.Link.{Links}
use Rattle.xdp_object.specs.declared.fault.SetupFault.{SetupFault}
use Rattle.xdp_object.specs.declared.fault.SetupFault.TheVariants.{Object, Program, Maps, Types, Map, Memory}

each_more : {Y : Type 0} (P : ℕ → Y → Type 0) (ys : List Y) (y d : Y) (n : ℕ) → length ys ≡ n →
    ((k : ℕ) → k < n → P k (get_or ys k d)) → P n y → (k : ℕ) → k < n + 1 → P k (get_or (ys ++ y ∷ []) k d)
each_more P ys y d n e before here =
    below_more (λ (k : ℕ). P k (get_or (ys ++ y ∷ []) k d)) n
    (λ k lt. subst (P k) (sym (get_or_append_left ys (y ∷ []) d k (subst (λ (m : ℕ). k < m) (sym e) lt))) (before k lt))
    (subst (P n) (sym (ap (λ (m : ℕ). get_or (ys ++ y ∷ []) m d) (sym e) ∙ get_or-append_seam ys y [] d)) here)

pub named_more : (o : Parts) (symbols : List ℕ) (names : List (List ℕ)) (name : List ℕ) (n : ℕ) → length names ≡ n →
    ((k : ℕ) → k < n → HasName o (slice_index symbols k) (get_or names k [])) → HasName o (slice_index symbols n) name →
    (k : ℕ) → k < n + 1 → HasName o (slice_index symbols k) (get_or (names ++ name ∷ []) k [])
named_more o symbols names name n e = each_more (λ k x. HasName o (slice_index symbols k) x) names name [] n e

pub shaped_more : (o : Parts) (symbols : List ℕ) (shapes : List Shape) (s : Shape) (n : ℕ) → length shapes ≡ n →
    ((k : ℕ) → k < n → HasShape o (slice_index symbols k) (get_or shapes k no_shape)) → HasShape o (slice_index symbols n) s →
    (k : ℕ) → k < n + 1 → HasShape o (slice_index symbols k) (get_or (shapes ++ s ∷ []) k no_shape)
shaped_more o symbols shapes s n e = each_more (λ k x. HasShape o (slice_index symbols k) x) shapes s no_shape n e

-- one more is counted
pub counted_more : {Y : Type 0} (ys : List Y) (y : Y) (n : ℕ) → length ys ≡ n → length (ys ++ y ∷ []) ≡ n + 1
counted_more ys y n e = length-append ys (y ∷ []) ∙ ap (λ (m : ℕ). m + 1) e

-- names and shapes of the first maps
pub have_maps : (o : Parts) (symbols : List ℕ) (names : List (List ℕ)) (shapes : List Shape) (n : ℕ) →
    ((k : ℕ) → k < n → HasName o (slice_index symbols k) (get_or names k [])) →
    ((k : ℕ) → k < n → HasShape o (slice_index symbols k) (get_or shapes k no_shape)) → HaveMaps o symbols n
have_maps o symbols names shapes n named shaped =
    λ k lt. ((get_or names k [], named k lt), (get_or shapes k no_shape, shaped k lt))

-- the first map that can't be one here
pub none_at : (o : Parts) (symbols : List ℕ) (n : ℕ) (fault : SetupFault) → n < length symbols → HaveMaps o symbols n →
    IsNoMapAt o n (slice_index symbols n) fault → IsNoneAmong o symbols fault
none_at o symbols n (Map m cause) lt have h =
    subst (λ (k : ℕ). (k < length symbols) × HaveMaps o symbols k × IsCause o (slice_index symbols k) cause) (sym h.0) (lt, have, h.1)
none_at o symbols n Memory lt have h = tt
none_at o symbols n (Object fault) lt have h = h
none_at o symbols n (Program fault) lt have h = h
none_at o symbols n Maps lt have h = h
none_at o symbols n (Types fault) lt have h = h

-- a program whose maps can't be maps here
pub no_maps : (o : Parts) (name : List ℕ) (l : Links) (fault : SetupFault) → IsLinked o name l → IsNoMaps o l.maps fault → IsNoSetupIn o name fault
no_maps o name l (Map m cause) linked h = inl (record { links = l; link = linked; no_maps = h })
no_maps o name l (Types fault) linked h = inl (record { links = l; link = linked; no_maps = h })
no_maps o name l Memory linked h = tt
no_maps o name l (Object fault) linked h = h
no_maps o name l (Program fault) linked h = absurd h
no_maps o name l Maps linked h = absurd h
