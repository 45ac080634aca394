-- The number of `--turns`, as `u32` reads it.
use Rattle.std.proofs.Common.{◌≡◌, ◌∙◌, ℕ, ◌&&◌, Bool, true, false, List, [], ◌∷◌, length, nat_lt, Option, Some, None, option_and_then, Result, Ok, Err, refl, ap, lt-ltb, ltb-true}
use Rattle.std.specs.Char.{digit_value}
use Rattle.std.specs.List.{list_all}
use Rattle.std.specs.Str.Parse.{AllDigits, ParsesUnsigned, digits_value, without_leading_plus}
use Rattle.clap.specs.Words.{ReadsOne, Text, one_of, one_text, rows_of}
use Rattle.clap.specs.declared.parser.matches.Found.{Found}
use Rattle.clap.proofs.WalkLemmas.{both, one_text-rows}
use Rattle.xdp_commands.specs.Words.{is_decimal, turns_number}

digits_pass : (ds : List ℕ) → AllDigits 10 ds → list_all (λ d. nat_lt (digit_value d) 10) ds ≡ true
digits_pass [] h = refl
digits_pass (d ∷ ds) h = rw (lt-ltb (digit_value d) 10 h.0) (digits_pass ds h.1)

digits_from : (ds : List ℕ) → list_all (λ d. nat_lt (digit_value d) 10) ds ≡ true → AllDigits 10 ds
digits_from [] e = tt
digits_from (d ∷ ds) e =
    let parts = both _ _ e in
    (ltb-true _ _ parts.0, digits_from ds parts.1)

abbrev is_number : List ℕ → Bool
is_number ds = is_decimal ds && nat_lt (digits_value 10 ds) 4294967296

read_some : (E : Type 0) (text : Text) (n : ℕ) → ParsesUnsigned {E = E} 32 10 text (Ok n) → Some n ≡ turns_number text
read_some E text n h =
    let ds = without_leading_plus text in
    rw (lt-ltb 0 (length ds) h.0.0.0, digits_pass ds h.0.0.1, lt-ltb (digits_value 10 ds) 4294967296 h.0.1) (ap Some h.1)

read_none : {E : Type 0} (text : Text) (e : E) → ParsesUnsigned 32 10 text (Err e) → None ≡ turns_number text
read_none text e h = go (is_number (without_leading_plus text)) refl
  where
    go : (b : Bool) → is_number (without_leading_plus text) ≡ b → None ≡ turns_number text
    go false t = rw t refl
    go true t =
        let outer = both _ _ t in
        let inner = both _ _ outer.0 in
        absurd (h ((ltb-true _ _ inner.0, digits_from (without_leading_plus text) inner.1), ltb-true _ _ outer.1))

number_read : {E : Type 0} (gives : List ℕ → Result ℕ E → Type 0) (text : Text) (r : Option ℕ) → ((t : Text) (x : Result ℕ E) → gives t x → ParsesUnsigned 32 10 t x)
    → ReadsOne gives text r → r ≡ turns_number text
number_read {E} gives text (Some n) parses reads = read_some E text n (parses text (Ok n) reads)
number_read gives text None parses reads = read_none text reads.0 (parses text (Err reads.0) reads.1)

-- what `get_one` reads is the number of what was found
pub number_found : {E : Type 0} (gives : List ℕ → Result ℕ E → Type 0) (f : Found) (id : Text) (r : Option ℕ) → ((t : Text) (x : Result ℕ E) → gives t x → ParsesUnsigned 32 10 t x)
    → (one_text f id ≡ None → r ≡ None) → ((t : Text) → one_text f id ≡ Some t → ReadsOne gives t r) → r ≡ option_and_then turns_number (one_of id (rows_of f))
number_found gives f id r parses none value = go (one_of id (rows_of f)) refl
  where
    go : (o : Option Text) → one_of id (rows_of f) ≡ o → r ≡ option_and_then turns_number o
    go None e = none (one_text-rows f id ∙ e)
    go (Some t) e = number_read gives t r parses (value t (one_text-rows f id ∙ e))
