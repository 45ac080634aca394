-- The first key of a table that isn't one of those.
use Rattle.std.proofs.Common.{Bool, Global, String, string_bytes, slice_index_or, ap, ◌∙◌, ◌≤◌, ◌≡◌, ◌<◌, arith, ℕ, zero, suc, List, [], ◌∷◌, length, Some, None, true, false, refl}
use Rattle.std.specs.List.{list_any}
use Rattle.std.specs.Map.{keys_of}
use Rattle.std.specs.Str.{bytes_eq}
use Rattle.toml.proofs.Views.{Entry}
use Rattle.toml.specs.View.{members_view}
use Rattle.xdp_load.specs.Document.{unknown_key}
use Rattle.xdp_load.specs.Keys.{name}
use Rattle.xdp_load.specs.declared.key.Key.{Key}

abbrev pub is_known : List Key → String Global → Bool
is_known known k = list_any (λ key. bytes_eq (string_bytes k) (name key)) known

-- each key is one of those
pub none_unknown : (known : List Key) (es : List Entry) → ((k : ℕ) (d : String Global) → 0 ≤ k → k < length (keys_of es) → is_known known (slice_index_or (keys_of es) k d) ≡ true)
    → unknown_key known (members_view es) ≡ None
none_unknown known [] h = refl
none_unknown known (e ∷ es) h =
    let head : is_known known e.0 ≡ true = h 0 e.0 (omega arith) (omega arith) in
    rw (head, none_unknown known es (λ k d low high. h (suc k) d (omega arith) (omega (arith, high))))

-- the one at i isn't, and each before it is
pub first_unknown : (known : List Key) (es : List Entry) (i : ℕ) (x : String Global) → i < length (keys_of es)
    → ((k : ℕ) (d : String Global) → 0 ≤ k → k < i → is_known known (slice_index_or (keys_of es) k d) ≡ true)
    → ((d : String Global) → slice_index_or (keys_of es) i d ≡ x) → is_known known x ≡ false
    → unknown_key known (members_view es) ≡ Some (string_bytes x)
first_unknown known [] i x h before at other = absurd (omega (arith, h))
first_unknown known (e ∷ es) zero x h before at other =
    let same : e.0 ≡ x = at e.0 in
    let head : is_known known e.0 ≡ false = ap (is_known known) same ∙ other in
    rw (head, same)
first_unknown known (e ∷ es) (suc i) x h before at other =
    let head : is_known known e.0 ≡ true = before 0 e.0 (omega arith) (omega arith) in
    rw (head, first_unknown known es i x (omega (arith, h)) (λ k d low high. before (suc k) d (omega arith) (omega (arith, high))) at other)
