-- Settings with none of the keys for lists are read as ever.
use Rattle.std.proofs.Common.{◌≡◌, ◌||◌, ◌++◌, ◌∙◌, ℕ, pos, Bool, true, false, cond, codes, suc, List, [], ◌∷◌, length, map, Option, Some, None, Result, Ok, Err, refl, ap, sym, arith}
use Rattle.std.specs.List.{AllByRecursion, list_any}
use Rattle.std.specs.Option.{option_map_or}
use Rattle.std.specs.Ordering.{is_eq, match_ordering, nat_cmp}
use Rattle.std.specs.Cmp.Lexicographic.{slice_cmp}
use Rattle.std.specs.Str.{bytes_eq}
use Rattle.std.specs.declared.cmp.Ordering.{Ordering}
use Rattle.std.specs.declared.cmp.Ordering.TheVariants.{Less, Equal, Greater}
use Rattle.std.proofs.lemmas.Cmp.{nat_list_eq_equiv}
use Rattle.std.proofs.lemmas.List.Folds.{list_any-append}
use Rattle.std.proofs.lemmas.Map.Text.{is_eq-slice_cmp}
use Rattle.bpf_lists.specs.declared.list.MapList.{MapList}
use Rattle.bpf_note.specs.Shape.{IsNarrow, Shape}
use Rattle.toml.specs.Data.{Data, Members, member, no_members, string, integer, float, boolean, datetime, array, table}
use Rattle.xdp_load.specs.Document.{MapText, Text, found, has_only, map_keys, map_of_fields, map_of_table, map_row, rows, unknown_key, values_at}
use Rattle.xdp_load.specs.Gives.{each, in_key, in_row, or_refused, seen_by, ◌>>=◌}
use Rattle.xdp_load.specs.Keys.{name, top_keys}
use Rattle.xdp_load.specs.Limits.{LimitedText, bad_name, limited_lists, limited_of, limited_rows, limited_shape}
use Rattle.xdp_load.specs.Listed.{ListedWritten, listed_limits, listed_limits_of, listed_limits_with, listed_of, listed_of_table, listed_rows_of, listed_setup_of, listed_setup_with, listed_shape, listed_written, lists_of}
use Rattle.xdp_load.specs.MapKeys.{KeyText, ListedText, key_of_fields, listed_of_fields, listed_row}
use Rattle.xdp_load.specs.MapKeys.{listed_of_table as listed_map_of_table}
use Rattle.xdp_load.specs.Numbers.{limited_numbers, numbers_of}
use Rattle.xdp_load.specs.Plain.{IsPlain, IsPlainMap, IsPlainRow, IsPlainText, IsReadAsEver, ArePlainRows, without_lists}
use Rattle.xdp_load.specs.Setup.{Packet, SetupView, decoded_of, document_of, loaded_program, names_of, relocated_setup, setup_of, setup_of_limited, setup_of_table, text_of}
use Rattle.xdp_load.specs.Spot.{Refused, refused, row, unknown, whole}
use Rattle.xdp_load.specs.Written.{WrittenText, program_of, rows_of, rows_of_table, written_of, written_with}
use Rattle.xdp_load.specs.declared.fault.Fault.{Fault}
use Rattle.xdp_load.specs.declared.fault.Fault.TheVariants as fault
use Rattle.xdp_load.specs.declared.key.Key.{Key}
use Rattle.xdp_load.specs.declared.key.Key.TheVariants as key
use Rattle.xdp_load.specs.declared.numbers.Limits.{Limits}
use Rattle.xdp_load.specs.declared.numbers.Numbers.{Numbers}
use Rattle.xdp_load.proofs.ListedSoundLemmas.{with_maps}
use Rattle.xdp_load.proofs.SoundLemmas.{bind_ok, of_limited, same_Ok}

-- ---- keys that aren't there

free_member : (k : Key) (l : Text) (d : Data) (ms : Members) → found k (member l d ms) ≡ None → (bytes_eq l (name k) ≡ false) × (found k ms ≡ None)
free_member k l d ms e = go (slice_cmp nat_cmp (name k) l) refl e
  where
    apart : (o : Ordering) → slice_cmp nat_cmp (name k) l ≡ o → is_eq o ≡ false → bytes_eq l (name k) ≡ false
    apart o is n = nat_list_eq_equiv.symm l (name k) ∙ sym (is_eq-slice_cmp (name k) l) ∙ ap is_eq is ∙ n

    go : (o : Ordering) → slice_cmp nat_cmp (name k) l ≡ o → match_ordering o (found k ms) (Some d) (found k ms) ≡ None → (bytes_eq l (name k) ≡ false) × (found k ms ≡ None)
    go Less is h = (apart Less is refl, h)
    go Equal is h = absurd (cc)
    go Greater is h = (apart Greater is refl, h)

-- a table has none of those keys
abbrev HasNone : List Key → Members → Type 0
HasNone [] ms = Unit {0}
HasNone (k ∷ ks) ms = (found k ms ≡ None) × HasNone ks ms

free_members : (ks : List Key) (l : Text) (d : Data) (ms : Members) → HasNone ks (member l d ms) → (list_any (λ key. bytes_eq l (name key)) ks ≡ false) × HasNone ks ms
free_members [] l d ms a = (refl, tt)
free_members (k ∷ ks) l d ms a =
    let (one, rest) = free_member k l d ms a.0 in
    let (more, others) = free_members ks l d ms a.1 in
    (rw (one, more) refl, (rest, others))

or_no : (b : Bool) → (b || false) ≡ b
or_no true = refl
or_no false = refl

unknown_free : (known ks : List Key) (ms : Members) → HasNone ks ms → unknown_key (known ++ ks) ms ≡ unknown_key known ms
unknown_free known ks no_members a = refl
unknown_free known ks (member l d ms) a =
    let (none, rest) = free_members ks l d ms a in
    rw (list_any-append (λ key. bytes_eq l (name key)) known ks, none, or_no (list_any (λ key. bytes_eq l (name key)) known), unknown_free known ks ms rest) refl

-- ---- maps

abbrev plain_key : KeyText
plain_key = record { kind = codes "index"; size = pos 4; rows = []; parts = false }

abbrev plain_text : MapText → ListedText
plain_text m = record { map = m; key = plain_key }

key_plain : (ms : Members) → IsPlainMap ms → key_of_fields ms ≡ Ok plain_key
key_plain ms p = rw (p.kind, p.size, p.rows, p.parts) refl

fields_plain : (ms : Members) → IsPlainMap ms → listed_of_fields ms ≡ seen_by plain_text (map_of_fields ms)
fields_plain ms p = go (map_of_fields ms)
  where
    go : (r : Result MapText Key) → (r >>= (λ m. key_of_fields ms >>= (λ k. Ok (record { map = m; key = k })))) ≡ seen_by plain_text r
    go (Ok m) = rw (key_plain ms p) refl
    go (Err k) = refl

table_plain : (ms : Members) → IsPlainMap ms → listed_map_of_table ms ≡ seen_by plain_text (map_of_table ms)
table_plain ms p = rw (unknown_free map_keys (key.KeyKind ∷ key.KeySize ∷ key.Rows ∷ key.Parts ∷ []) ms (p.kind, (p.size, (p.rows, (p.parts, tt))))) (go (has_only map_keys ms))
  where
    go : (b : Bool) → cond b (listed_of_fields ms) (Err key.Map) ≡ seen_by plain_text (cond b (map_of_fields ms) (Err key.Map))
    go true = fields_plain ms p
    go false = refl

row_plain : (d : Data) → IsPlainRow d → listed_row d ≡ seen_by plain_text (map_row d)
row_plain (string s) p = refl
row_plain (integer z) p = refl
row_plain (float x) p = refl
row_plain (boolean b) p = refl
row_plain (datetime dt) p = refl
row_plain (array ds) p = refl
row_plain (table ms) p = table_plain ms p

each_plain : {A B C : Type 0} (c : Fault) (P : A → Type 0) (f : A → Result B Key) (h : A → Result C Key) (g : B → C) → ((x : A) → P x → h x ≡ seen_by g (f x)) → (n : ℕ) (xs : List A) → AllByRecursion P xs
    → each c h n xs ≡ seen_by (map g) (each c f n xs)
each_plain c P f h g e n [] a = refl
each_plain {B = B} c P f h g e n (x ∷ xs) a = rw (e x a.0, each_plain c P f h g e (suc n) xs a.1) (step (f x) (each c f (suc n) xs))
  where
    step : (r : Result B Key) (q : Result (List B) Refused) → (in_row c n (seen_by g r) >>= (λ y. seen_by (map g) q >>= (λ ys. Ok (y ∷ ys)))) ≡ seen_by (map g) (in_row c n r >>= (λ y. q >>= (λ ys. Ok (y ∷ ys))))
    step (Ok y) (Ok ys) = refl
    step (Ok y) (Err k) = refl
    step (Err k) q = refl

maps_plain : (ms : Members) → ArePlainRows (values_at key.Map ms) → rows_of listed_row key.Map ms ≡ seen_by (map plain_text) (rows_of map_row key.Map ms)
unfolding rows_of
maps_plain ms p = go (values_at key.Map ms) p
  where
    go : (o : Option (List Data)) → ArePlainRows o → rows listed_row key.Map o ≡ seen_by (map plain_text) (rows map_row key.Map o)
    go None a = refl
    go (Some ds) a = each_plain fault.Key IsPlainRow map_row listed_row plain_text row_plain 0 ds a

maps_back : (ms : List MapText) → map (λ m. m.map) (map plain_text ms) ≡ ms
maps_back [] = refl
maps_back (m ∷ ms) = ap (λ xs. m ∷ xs) (maps_back ms)

-- ---- what is written

abbrev plain_written : WrittenText → ListedWritten
plain_written w = record { written = w; maps = map plain_text w.maps; wide = false }

rows_plain : (ms : Members) → IsPlain ms → listed_rows_of ms ≡ seen_by plain_written (rows_of_table ms)
unfolding listed_rows_of rows_of_table
rows_plain ms p = rw (maps_plain ms p.maps, p.wide) (go (program_of ms) (in_key fault.Key (numbers_of ms)) (rows_of map_row key.Map ms))
  where
    last : (maps : List MapText) (r : Result WrittenText Refused) → ((w : WrittenText) → r ≡ Ok w → w.maps ≡ maps)
        → (r >>= (λ w. Ok (record { written = w; maps = map plain_text maps; wide = false }))) ≡ seen_by plain_written r
    last maps (Ok w) k = ap (λ (xs : List MapText). Ok (record { written = w; maps = map plain_text xs; wide = false })) (sym (k w refl))
    last maps (Err e) k = refl

    go : (r1 : Result (List Text) Refused) (r2 : Result Numbers Refused) (r3 : Result (List MapText) Refused)
        → (r1 >>= (λ program. r2 >>= (λ numbers. seen_by (map plain_text) r3 >>= (λ maps. written_with program numbers (map (λ m. m.map) maps) ms >>= (λ w. Ok (record { written = w; maps = maps; wide = false }))))))
        ≡ seen_by plain_written (r1 >>= (λ program. r2 >>= (λ numbers. r3 >>= (λ maps. written_with program numbers maps ms))))
    go (Err e) r2 r3 = refl
    go (Ok program) (Err e) r3 = refl
    go (Ok program) (Ok numbers) (Err e) = refl
    go (Ok program) (Ok numbers) (Ok maps) = rw (maps_back maps) (last maps (written_with program numbers maps ms) (λ w e. with_maps program numbers maps ms w e))

written_plain : (ms : Members) → IsPlain ms → listed_written ms ≡ seen_by plain_written (written_of ms)
unfolding listed_written written_of
written_plain ms p = rw (unknown_free top_keys (key.Wide ∷ []) ms (p.wide, tt)) (go (unknown_key top_keys ms))
  where
    go : (o : Option Text) → option_map_or (λ k. Err (refused fault.Key (unknown k))) o (listed_rows_of ms) ≡ seen_by plain_written (option_map_or (λ k. Err (refused fault.Key (unknown k))) o (rows_of_table ms))
    go None = rows_plain ms p
    go (Some k) = refl

-- ---- limits

each_same : {A B C : Type 0} (c : Fault) (f : A → Result C Key) (h : B → Result C Key) (g : A → B) → ((x : A) → h (g x) ≡ f x) → (n : ℕ) (xs : List A) → each c h n (map g xs) ≡ each c f n xs
each_same c f h g e n [] = refl
each_same c f h g e n (x ∷ xs) = rw (e x, each_same c f h g e (suc n) xs) refl

shape_plain : (m : MapText) → listed_shape false (plain_text m) ≡ limited_shape m
shape_plain m = refl

limits_plain : (w : WrittenText) → listed_limits (plain_written w) ≡ limited_of w
unfolding listed_limits listed_limits_of listed_limits_with limited_of limited_lists limited_rows
limits_plain w = go (in_key fault.Limit (limited_numbers w.numbers))
  where
    go : (r : Result Limits Refused) → (r >>= listed_limits_of (plain_written w)) ≡ (r >>= limited_lists w)
    go (Ok n) = rw (each_same fault.Limit limited_shape (listed_shape false) plain_text shape_plain 0 w.maps) refl
    go (Err e) = refl

-- ---- the whole

no_list : Shape → Option MapList
no_list s = None

lists_plain : (n : ℕ) (ss : List Shape) (ms : List MapText) → length ss ≡ length ms → AllByRecursion IsNarrow ss → lists_of n ss (map plain_text ms) ≡ Ok (map (λ _. None) ss)
lists_plain n [] ms e a = refl
lists_plain n (s ∷ ss) [] e a = absurd (omega (arith, e))
lists_plain n (s ∷ ss) (m ∷ ms) e a = rw (a.0.index, lists_plain (suc n) ss ms (omega (arith, e)) a.1) refl

shapes_kept : (w : WrittenText) (l : LimitedText) (d : List ℕ × List Packet) (s : SetupView) → relocated_setup w l d ≡ Ok s → s.shapes ≡ l.shapes
unfolding relocated_setup
shapes_kept w l d s e = bind_ok (loaded_program (names_of w.maps) w.relocs d.0) _ s e (λ program e1 last. sym (ap (λ (x : SetupView). x.shapes) (same_Ok _ _ last)))

setup_plain : (w : WrittenText) (l : LimitedText) → lists_of 0 l.shapes (map plain_text w.maps) ≡ Ok (map (λ _. None) l.shapes) → listed_setup_of (plain_written w) l ≡ seen_by without_lists (setup_of_limited w l)
unfolding listed_setup_of listed_setup_with setup_of_limited
setup_plain w l none = go (bad_name 0 (names_of w.maps)) (decoded_of w l)
  where
    last : (r : Result SetupView Refused) → ((s : SetupView) → r ≡ Ok s → s.shapes ≡ l.shapes) → (r >>= (λ s. Ok (record { setup = s; lists = map (λ _. None) l.shapes }))) ≡ seen_by without_lists r
    last (Ok s) k = ap (λ (ss : List Shape). Ok (record { setup = s; lists = map (λ _. None) ss })) (sym (k s refl))
    last (Err e) k = refl

    go : (o : Option ℕ) (r : Result (List ℕ × List Packet) Refused) → option_map_or (λ n. Err (refused fault.Name (row key.Name n))) o (r >>= listed_setup_with (plain_written w) l)
        ≡ seen_by without_lists (option_map_or (λ n. Err (refused fault.Name (row key.Name n))) o (r >>= relocated_setup w l))
    go (Some n) r = refl
    go None (Err e) = refl
    go None (Ok d) = rw none (last (relocated_setup w l d) (shapes_kept w l d))

of_table : (ms : Members) → IsPlain ms → listed_of_table ms ≡ seen_by without_lists (setup_of_table ms)
unfolding listed_of_table setup_of_table
of_table ms p = rw (written_plain ms p) (go (written_of ms))
  where
    limited : (w : WrittenText) (r : Result LimitedText Refused) → limited_of w ≡ r → (r >>= listed_setup_of (plain_written w)) ≡ seen_by without_lists (r >>= setup_of_limited w)
    limited w (Ok l) e = let held = of_limited w l e in setup_plain w l (lists_plain 0 l.shapes w.maps held.counted held.shapes)
    limited w (Err e) h = refl

    go : (r : Result WrittenText Refused) → (seen_by plain_written r >>= (λ x. listed_limits x >>= listed_setup_of x)) ≡ seen_by without_lists (r >>= (λ w. limited_of w >>= setup_of_limited w))
    go (Ok w) = rw (limits_plain w) (limited w (limited_of w) refl)
    go (Err e) = refl

pub read_as_ever : (bytes : List ℕ) → IsPlainText bytes → IsReadAsEver bytes
unfolding listed_of setup_of
read_as_ever bytes p = go (text_of bytes) refl
  where
    document : (text : Text) (r : Result Members Refused) → text_of bytes ≡ Some text → document_of text ≡ r → (r >>= listed_of_table) ≡ seen_by without_lists (r >>= setup_of_table)
    document text (Ok ms) t e = of_table ms (p text ms t e)
    document text (Err e) t h = refl

    go : (o : Option Text) → text_of bytes ≡ o → (or_refused fault.Text whole o >>= (λ text. document_of text >>= listed_of_table)) ≡ seen_by without_lists (or_refused fault.Text whole o >>= (λ text. document_of text >>= setup_of_table))
    go (Some text) t = document text (document_of text) t refl
    go None t = refl
