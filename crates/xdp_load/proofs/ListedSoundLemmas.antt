-- Each setup with lists is sound.
use Rattle.std.proofs.Common.{◌≡◌, ◌<◌, ◌≤◌, ◌||◌, ◌*◌, ◌+◌, ◌∙◌, ◌++◌, ℕ, ℤ, pos, Bool, true, false, cond, not, codes, suc, List, [], ◌∷◌, length, map, Option, Some, None, Result, Ok, Err, refl, ap, sym, subst, arith, ◌/◌}
use Rattle.std.specs.Prelude.{nat_le}
use Rattle.std.specs.List.{AllByRecursion, list_any}
use Rattle.std.specs.Option.{option_map_or}
use Rattle.std.specs.Ordering.{int_eq}
use Rattle.std.specs.Str.{bytes_eq}
use Rattle.std.proofs.lemmas.List.{length-append, length-map}
use Rattle.std.proofs.lemmas.Bool.{and_parts, leb-true, eqb-true}
use Rattle.std.proofs.Math.Nat.{add_comm, mul-div_left, mul-mod_left, suc-mul}
use Rattle.bpf_lists.specs.declared.list.MapList.{MapList}
use Rattle.bpf_note.specs.Keys.{IsKey, IsKind, size}
use Rattle.bpf_note.specs.Shape.{IsShape, Shape, most_maps}
use Rattle.bpf_note.specs.declared.key.KeyKind.{KeyKind}
use Rattle.bpf_note.specs.declared.key.KeyKind.TheVariants.{Exact, Prefix}
use Rattle.bpf_note.specs.declared.key.MapKey.{MapKey}
use Rattle.bpf_note.specs.declared.key.MapKey.TheVariants.{Index, Listed, Constants}
use Rattle.toml.specs.Data.{Members}
use Rattle.xdp_load.specs.Document.{MapText, Text, packet_row, reloc_row, step_row, unknown_key}
use Rattle.xdp_load.specs.Function.{BesideView, FunctionView, beside_of, beside_of_table, function_of, listed_in_beside, listed_of_function, names_object, of_function, of_function_of_table, of_program}
use Rattle.xdp_load.specs.Gives.{each, in_key, in_original, in_row, or_else, or_refused, ◌>>=◌}
use Rattle.xdp_load.specs.Keys.{least, most}
use Rattle.xdp_load.specs.Limits.{LimitedText, bad_name, limited_with}
use Rattle.xdp_load.specs.Listed.{ListedView, ListedWritten, entries_key, known_keys, list_of, listed_by, listed_limits, listed_limits_of, listed_limits_with, listed_of, listed_of_table, listed_rows_of, listed_setup_of, listed_setup_with, listed_shape, listed_written, lists_of, map_key, most_of, row_bytes}
use Rattle.xdp_load.specs.ListedSound.{AreFitting, Fits, IsListedSound}
use Rattle.xdp_load.specs.MapKeys.{KeyText, ListedText, are_rows, constants_of, exact_of, index_of, is_row_of, limited_key, listed_row, prefix_of, truth_at}
use Rattle.xdp_load.specs.Numbers.{limited, limited_numbers, numbers_of}
use Rattle.xdp_load.specs.Original.{RewrittenView, limited_place, listed_beside, listed_in, original_of, original_program, rewritten_of_table}
use Rattle.xdp_load.specs.Setup.{Packet, bytes_in, bytes_of, decoded_of, document_of, names_of, relocated_setup, text_of}
use Rattle.xdp_load.specs.Spot.{Refused, at, refused, row, unknown, whole}
use Rattle.xdp_load.specs.Written.{WrittenText, program_of, rows_of, written_with}
use Rattle.xdp_load.specs.declared.fault.Fault.TheVariants as fault
use Rattle.xdp_load.specs.declared.key.Key.{Key}
use Rattle.xdp_load.specs.declared.key.Key.TheVariants as key
use Rattle.xdp_load.specs.declared.numbers.Limits.{Limits}
use Rattle.xdp_load.specs.declared.numbers.Numbers.{Numbers}
use Rattle.xdp_load.proofs.SoundLemmas.{IsLimited, bind_ok, bytes_length, cond_ok, each_length, else_ok, key_ok, row_ok, limited_within, maps_filled, numbers_within, of_decoded, same_Ok, values_fit, with_limited}
use Rattle.xdp_load.specs.Values.{AreFilled, are_values, room_of, values_of}

-- ---- a map's key

index_within : (z : ℤ) (k : MapKey) → index_of z ≡ Ok k → IsKey k
index_within z k e = subst IsKey (cond_ok (int_eq z (pos 4)) Index k key.KeySize e).1 tt

exact_within : (z : ℤ) (k : MapKey) → exact_of z ≡ Ok k → IsKey k
exact_within z k e = bind_ok (limited key.KeySize z) _ k e (λ n here same. subst IsKey (same_Ok _ _ same) (limited_within key.KeySize z n here))

prefix_within : (z : ℤ) (k : MapKey) → prefix_of z ≡ Ok k → IsKey k
prefix_within z k e = bind_ok (limited key.KeySize z) _ k e (λ n here same. subst IsKey (same_Ok _ _ same) (limited_within key.KeySize z n here))

constants_within : (z : ℤ) (k : MapKey) → constants_of z ≡ Ok k → IsKey k
constants_within z k e = bind_ok (limited key.ConstantSize z) _ k e (λ n here same. subst IsKey (same_Ok _ _ same) (limited_within key.ConstantSize z n here).1)

-- one of four
chosen : (a b c d : Bool) (x y z w : Result MapKey Key) (k : MapKey) → (x ≡ Ok k → IsKey k) → (y ≡ Ok k → IsKey k) → (z ≡ Ok k → IsKey k) → (w ≡ Ok k → IsKey k)
    → cond a x (cond b y (cond c z (cond d w (Err key.KeyKind)))) ≡ Ok k → IsKey k
chosen true b c d x y z w k f g h i e = f e
chosen false true c d x y z w k f g h i e = g e
chosen false false true d x y z w k f g h i e = h e
chosen false false false true x y z w k f g h i e = i e
chosen false false false false x y z w k f g h i e = absurd (cc)

key_within : (t : KeyText) (k : MapKey) → limited_key t ≡ Ok k → IsKey k
key_within t k e = chosen (bytes_eq t.kind (codes "index")) (bytes_eq t.kind (codes "exact")) (bytes_eq t.kind (codes "prefix")) (bytes_eq t.kind (codes "constants"))
    (index_of t.size) (exact_of t.size) (prefix_of t.size) (constants_of t.size) k (index_within t.size k) (exact_within t.size k) (prefix_within t.size k) (constants_within t.size k) e

entries_most : (wide : Bool) (n : ℕ) → (least (entries_key wide) ≤ n) × (n ≤ most (entries_key wide)) → (1 ≤ n) × (n ≤ 65536)
entries_most true n h = h
entries_most false n h = let low = h.0 in let high = h.1 in (low, omega (arith, high))

-- ---- a map

-- a shape is within its limits, and the map can have the rows that are written
abbrev IsMapWithin : Shape → ListedText → Type 0
IsMapWithin s m = IsShape s × (are_rows s.key s.entries m.key.rows ≡ true) × (length (values_of m.map) ≤ room_of s.key (s.counters * s.entries))

which_ok : {A E P : Type 0} (b : Bool) (r : Result A E) (y : A) (d : E) → cond b r (Err d) ≡ Ok y → (b ≡ true → r ≡ Ok y → P) → P
which_ok true r y d e k = k refl e
which_ok false r y d e k = absurd (cc)

shape_within : (wide : Bool) (m : ListedText) (s : Shape) → listed_shape wide m ≡ Ok s → IsMapWithin s m
shape_within wide m s e =
    bind_ok (limited (entries_key wide) m.map.entries) _ s e (λ entries here rest.
    bind_ok (limited key.Counters m.map.counters) _ s rest (λ counters there more.
    bind_ok (limited_key m.key) _ s more (λ k last end.
    which_ok (are_rows k entries m.key.rows) _ s key.Rows end (λ held filled.
    let (room, same) = cond_ok (are_values (room_of k (counters * entries)) m.map.values) _ s key.Values filled in
    let most = entries_most wide entries (limited_within (entries_key wide) m.map.entries entries here) in
    let each = limited_within key.Counters m.map.counters counters there in
    subst (λ (x : Shape). IsMapWithin x m) same (record { some_entries = most.0; most_entries = most.1; some_counters = each.0; most_counters = each.1; key = key_within m.key k last }, held, values_fit _ m.map.values room)))))

-- each of the shapes is one of the map beside it
abbrev AreWithin : List Shape → List ListedText → Type 0
AreWithin [] [] = Unit {0}
AreWithin [] (m ∷ ms) = ⊥
AreWithin (s ∷ ss) [] = ⊥
AreWithin (s ∷ ss) (m ∷ ms) = IsMapWithin s m × AreWithin ss ms

maps_within : (wide : Bool) (n : ℕ) (ms : List ListedText) (ss : List Shape) → each fault.Limit (listed_shape wide) n ms ≡ Ok ss → AreWithin ss ms
maps_within wide n [] ss e = subst (λ (x : List Shape). AreWithin x []) (same_Ok _ _ e) tt
maps_within wide n (m ∷ ms) ss e =
    bind_ok (in_row fault.Limit n (listed_shape wide m)) _ ss e (λ s here rest.
    bind_ok (each fault.Limit (listed_shape wide) (suc n) ms) _ ss rest (λ more there same.
    subst (λ (x : List Shape). AreWithin x (m ∷ ms)) (same_Ok _ _ same) (shape_within wide m s (row_ok fault.Limit n (listed_shape wide m) s here), maps_within wide (suc n) ms more there)))

shapes_within : (ss : List Shape) (ms : List ListedText) → AreWithin ss ms → AllByRecursion IsShape ss
shapes_within [] ms a = tt
shapes_within (s ∷ ss) [] a = absurd a
shapes_within (s ∷ ss) (m ∷ ms) a = (a.0.0, shapes_within ss ms a.1)

-- ---- its list

refused_ok : {A : Type 0} (d : Refused) (o : Option A) (y : A) → or_else d o ≡ Ok y → o ≡ Some y
refused_ok d o y e = else_ok d o y e

all_long : (n : ℕ) (t : Text) (ts : List Text) → not (list_any (λ t. not (is_row_of n t)) (t ∷ ts)) ≡ true → (is_row_of n t ≡ true) × (not (list_any (λ t. not (is_row_of n t)) ts) ≡ true)
all_long n t ts e = go (is_row_of n t) (list_any (λ t. not (is_row_of n t)) ts) refl e
  where
    go : (a b : Bool) → is_row_of n t ≡ a → not (not a || b) ≡ true → (is_row_of n t ≡ true) × (not b ≡ true)
    go true b h k = (h, k)
    go false b h k = absurd (cc)

none_times : (z : ℕ) → 0 ≡ 0 * z
none_times z = omega arith

one_more : (z n : ℕ) → suc n * z ≡ z + n * z
one_more z n = suc-mul n z ∙ add_comm (n * z) z

-- so many keys, each of so many bytes
rows_long : (z n : ℕ) (ts : List Text) (keys : List ℕ) → not (list_any (λ t. not (is_row_of z t)) ts) ≡ true → row_bytes n ts ≡ Ok keys → length keys ≡ length ts * z
rows_long z n [] keys h e = sym (ap length (same_Ok _ _ e)) ∙ none_times z
rows_long z n (t ∷ ts) keys h e =
    bind_ok (bytes_in key.Rows n t) _ keys e (λ bytes here rest.
    bind_ok (row_bytes n ts) _ keys rest (λ others there same.
    let (long, more) = all_long z t ts h in
    let one : length t / 2 ≡ z = eqb-true _ _ long in
    let count : length t / 2 ≡ length bytes = bytes_length t bytes (else_ok _ (bytes_of t) bytes here) in
    let tail : length others ≡ length ts * z = rows_long z n ts others more there in
    let made : bytes ++ others ≡ keys = same_Ok _ _ same in
    sym (ap length made) ∙ length-append bytes others ∙ ap (λ k. k + length others) (sym count ∙ one) ∙ ap (λ k. z + k) tail ∙ sym (one_more z (length ts))))

size_some : (kind : KeyKind) → IsKind kind → 0 < size kind
size_some (Exact bytes) h = h.0
size_some (Prefix bytes) h = omega arith

one_times : (z m : ℕ) → m ≡ 1 → m * z ≡ z
one_times z m e = rw e (omega arith)

list_fits : (s : Shape) (n : ℕ) (rows : List Text) (l : Option MapList) → IsKey s.key → are_rows s.key s.entries rows ≡ true → list_of n s.key rows ≡ Ok l → Fits s l
list_fits s n rows l good held e = go s.key refl good held e
  where
    go : (k : MapKey) → s.key ≡ k → IsKey k → are_rows k s.entries rows ≡ true → list_of n k rows ≡ Ok l → Fits s l
    go Index is g h e = subst (Fits s) (same_Ok _ _ e) is
    go (Listed kind) is g h e = bind_ok (row_bytes n rows) _ l e (λ keys here same.
        let (few, long) = and_parts _ _ h in
        let most : length rows ≤ s.entries = leb-true _ _ few in
        let count : length keys ≡ length rows * size kind = rows_long (size kind) n rows keys long here in
        let some = size_some kind g in
        subst (Fits s) (same_Ok _ _ same) (
          is,
          rw count (mul-mod_left (length rows) (size kind)),
          rw (count, mul-div_left (length rows) some) most,
        ))
    go (Constants size) is g h e = bind_ok (row_bytes n rows) _ l e (λ bytes here same.
        let (one, long) = and_parts _ _ h in
        let count : length bytes ≡ size = rows_long size n rows bytes long here ∙ one_times size (length rows) (eqb-true _ _ one) in
        subst (Fits s) (same_Ok _ _ same) (is ∙ ap Constants (sym count)))

lists_fit : (n : ℕ) (ss : List Shape) (ms : List ListedText) (ls : List (Option MapList)) → AreWithin ss ms → lists_of n ss ms ≡ Ok ls → AreFitting ss ls
lists_fit n [] ms ls a e = subst (AreFitting []) (same_Ok _ _ e) tt
lists_fit n (s ∷ ss) [] ls a e = absurd a
lists_fit n (s ∷ ss) (m ∷ ms) ls a e =
    bind_ok (list_of n s.key m.key.rows) _ ls e (λ l here rest.
    bind_ok (lists_of (suc n) ss ms) _ ls rest (λ more there same.
    subst (AreFitting (s ∷ ss)) (same_Ok _ _ same) (list_fits s n m.key.rows l a.0.0.key a.0.1 here, lists_fit (suc n) ss ms more a.1 there)))

-- ---- the phases

-- the maps that are written are those with their keys
abbrev AreMaps : ListedWritten → Type 0
AreMaps x = x.written.maps ≡ map (λ m. m.map) x.maps

abbrev IsListedLimited : ListedWritten → LimitedText → Type 0
IsListedLimited x l = IsLimited most_maps IsShape x.written l × AreWithin l.shapes x.maps

few_of : (wide : Bool) (n : ℕ) → n ≤ most_of wide → n ≤ most_maps
few_of true n h = h
few_of false n h = omega (arith, h)

limits_with : (x : ListedWritten) (n : Limits) (l : LimitedText) → AreMaps x → length x.written.maps ≤ most_of x.wide → (1 ≤ n.queues) × (n.queues ≤ 8) → listed_limits_with x n ≡ Ok l → IsListedLimited x l
unfolding listed_limits_with
limits_with x n l are few q e =
    bind_ok (each fault.Limit (listed_shape x.wide) 0 x.maps) (limited_with x.written n) l e (λ shapes e1 rest.
    let all = maps_within x.wide 0 x.maps shapes e1 in
    let counted : length shapes ≡ length x.written.maps = each_length fault.Limit (listed_shape x.wide) 0 x.maps shapes e1 ∙ sym (length-map x.maps (λ m. m.map)) ∙ sym (ap length are) in
    let filled = maps_filled (listed_shape x.wide) (λ m. m.map) (λ m s h. (shape_within x.wide m s h).2) 0 x.maps shapes e1 in
    let (held, same) = with_limited most_maps IsShape x.written n shapes l (few_of x.wide (length x.written.maps) few) q counted (shapes_within shapes x.maps all)
    (subst (λ (ms : List MapText). AreFilled shapes (map values_of ms)) (sym are) filled) rest in
    (held, subst (λ (ss : List Shape). AreWithin ss x.maps) (sym same) all))

limits_of : (x : ListedWritten) (n : Limits) (l : LimitedText) → AreMaps x → (1 ≤ n.queues) × (n.queues ≤ 8) → listed_limits_of x n ≡ Ok l → IsListedLimited x l
unfolding listed_limits_of
limits_of x n l are q e = go (nat_le (length x.written.maps) (most_of x.wide)) refl e
  where
    go : (b : Bool) → nat_le (length x.written.maps) (most_of x.wide) ≡ b → cond b (listed_limits_with x n) (Err (refused fault.Limit (at (map_key x.wide)))) ≡ Ok l → IsListedLimited x l
    go true t h = limits_with x n l are (leb-true _ _ t) q h
    go false t h = absurd (cc)

limited_all : (x : ListedWritten) (l : LimitedText) → AreMaps x → listed_limits x ≡ Ok l → IsListedLimited x l
unfolding listed_limits
limited_all x l are e = bind_ok (in_key fault.Limit (limited_numbers x.written.numbers)) (listed_limits_of x) l e (λ n e1 rest.
    limits_of x n l are (numbers_within x.written.numbers n (key_ok fault.Limit (limited_numbers x.written.numbers) n e1)) rest)

pub with_maps : (program : List Text) (numbers : Numbers) (maps : List MapText) (ms : Members) (w : WrittenText) → written_with program numbers maps ms ≡ Ok w → w.maps ≡ maps
unfolding written_with
with_maps program numbers maps ms w e =
    bind_ok (rows_of reloc_row key.Reloc ms) _ w e (λ relocs e1 rest.
    bind_ok (rows_of step_row key.Step ms) _ w rest (λ script e2 more.
    bind_ok (rows_of packet_row key.Packet ms) _ w more (λ packets e3 last.
    sym (ap (λ (x : WrittenText). x.maps) (same_Ok _ _ last)))))

rows_maps : (ms : Members) (x : ListedWritten) → listed_rows_of ms ≡ Ok x → AreMaps x
unfolding listed_rows_of
rows_maps ms x e =
    bind_ok (program_of ms) _ x e (λ program e1 r1.
    bind_ok (in_key fault.Key (numbers_of ms)) _ x r1 (λ numbers e2 r2.
    bind_ok (rows_of listed_row key.Map ms) _ x r2 (λ maps e3 r3.
    bind_ok (written_with program numbers (map (λ m. m.map) maps) ms) _ x r3 (λ written e4 r4.
    bind_ok (in_key fault.Key (truth_at key.Wide ms)) _ x r4 (λ wide e5 last.
    subst AreMaps (same_Ok _ _ last) (with_maps program numbers (map (λ m. m.map) maps) ms written e4))))))

written_maps : (known : List Key) (ms : Members) (x : ListedWritten) → listed_by known ms ≡ Ok x → AreMaps x
written_maps known ms x e = go (unknown_key known ms) e
  where
    go : (o : Option Text) → option_map_or (λ k. Err (refused fault.Key (unknown k))) o (listed_rows_of ms) ≡ Ok x → AreMaps x
    go None h = rows_maps ms x h
    go (Some k) h = absurd (cc)

sound_with : (x : ListedWritten) (l : LimitedText) (d : List ℕ × List Packet) (y : ListedView) → IsListedLimited x l → bad_name 0 (names_of x.written.maps) ≡ None → decoded_of x.written l ≡ Ok d
    → listed_setup_with x l d ≡ Ok y → IsListedSound y
unfolding listed_setup_with
sound_with x l d y held named e1 e =
    bind_ok (lists_of 0 l.shapes x.maps) _ y e (λ lists e2 rest.
    bind_ok (relocated_setup x.written l d) _ y rest (λ setup e3 last.
    let (given, same) = of_decoded most_maps IsShape x.written l d setup held.0 named e1 e3 in
    let fit : AreFitting setup.shapes lists = subst (λ (ss : List Shape). AreFitting ss lists) (sym same) (lists_fit 0 l.shapes x.maps lists held.1 e2) in
    subst IsListedSound (same_Ok _ _ last) (record {
      some_queues = given.some_queues;
      few_queues = given.few_queues;
      few_maps = given.few_maps;
      shapes = given.shapes;
      values = given.values;
      named = given.named;
      names = given.names;
      script = given.script;
      packets = given.packets;
      lists = fit;
    })))

sound_setup : (x : ListedWritten) (l : LimitedText) (y : ListedView) → IsListedLimited x l → listed_setup_of x l ≡ Ok y → IsListedSound y
unfolding listed_setup_of
sound_setup x l y held e = go (bad_name 0 (names_of x.written.maps)) refl e
  where
    go : (o : Option ℕ) → bad_name 0 (names_of x.written.maps) ≡ o → option_map_or (λ n. Err (refused fault.Name (row key.Name n))) o (decoded_of x.written l >>= listed_setup_with x l) ≡ Ok y → IsListedSound y
    go None t h = bind_ok (decoded_of x.written l) (listed_setup_with x l) y h (λ d e1 rest. sound_with x l d y held t e1 rest)
    go (Some n) t h = absurd (cc)

pub listed_sound : (bytes : List ℕ) (y : ListedView) → listed_of bytes ≡ Ok y → IsListedSound y
unfolding listed_of listed_of_table listed_written
listed_sound bytes y e =
    bind_ok (or_refused fault.Text whole (text_of bytes)) _ y e (λ text e1 rest.
    bind_ok (document_of text) listed_of_table y rest (λ document e2 more.
    bind_ok (listed_written document) _ y more (λ x e3 last.
    bind_ok (listed_limits x) (listed_setup_of x) y last (λ l e4 end. sound_setup x l y (limited_all x l (written_maps known_keys document x e3) e4) end))))

rewritten_table_sound : (document : Members) (r : RewrittenView) → rewritten_of_table document ≡ Ok r → IsListedSound (listed_in r)
unfolding rewritten_of_table listed_beside
rewritten_table_sound document r more =
    bind_ok (original_of document) _ r more (λ o e3 next.
    bind_ok (listed_beside document) _ r next (λ x e4 then.
    bind_ok (in_original (each fault.Limit limited_place 0 o.places)) _ r then (λ places e5 after.
    bind_ok (listed_limits x) _ r after (λ l e6 last.
    bind_ok (listed_setup_of x l) _ r last (λ listed e7 end.
    bind_ok (original_program (names_of x.written.maps) o) _ r end (λ original e8 all.
    subst (λ (v : RewrittenView). IsListedSound (listed_in v)) (same_Ok _ _ all) (sound_setup x l listed (limited_all x l (written_maps (key.Original ∷ known_keys) document x e4) e6) e7)))))))

function_table_sound : (document : Members) (f : FunctionView) → of_function_of_table document ≡ Ok f → IsListedSound (listed_of_function f)
unfolding of_function_of_table listed_beside
function_table_sound document f more =
    bind_ok (function_of document) _ f more (λ o e3 next.
    bind_ok (listed_beside document) _ f next (λ x e4 then.
    bind_ok (in_original (each fault.Limit limited_place 0 o.places)) _ f then (λ places e5 after.
    bind_ok (listed_limits x) _ f after (λ l e6 last.
    bind_ok (listed_setup_of x l) _ f last (λ listed e7 end.
    bind_ok (in_original (bytes_in key.Object 0 o.object)) _ f end (λ object e8 all.
    subst (λ (v : FunctionView). IsListedSound (listed_of_function v)) (same_Ok _ _ all) (sound_setup x l listed (limited_all x l (written_maps (key.Original ∷ known_keys) document x e4) e6) e7)))))))

beside_table_sound : (document : Members) (b : BesideView) → beside_of_table document ≡ Ok b → IsListedSound (listed_in_beside b)
unfolding beside_of_table
beside_table_sound document b e = go (names_object document) e
  where
    go : (t : Bool) → cond t (of_function_of_table document >>= (λ x. Ok (of_function x))) (rewritten_of_table document >>= (λ r. Ok (of_program r))) ≡ Ok b → IsListedSound (listed_in_beside b)
    go true h = bind_ok (of_function_of_table document) _ b h (λ f e1 same.
        subst (λ (v : BesideView). IsListedSound (listed_in_beside v)) (same_Ok _ _ same) (function_table_sound document f e1))
    go false h = bind_ok (rewritten_of_table document) _ b h (λ r e1 same.
        subst (λ (v : BesideView). IsListedSound (listed_in_beside v)) (same_Ok _ _ same) (rewritten_table_sound document r e1))

pub beside_sound : (bytes : List ℕ) (b : BesideView) → beside_of bytes ≡ Ok b → IsListedSound (listed_in_beside b)
unfolding beside_of
beside_sound bytes b e =
    bind_ok (or_refused fault.Text whole (text_of bytes)) _ b e (λ text e1 rest.
    bind_ok (document_of text) beside_of_table b rest (λ document e2 more. beside_table_sound document b more))
