-- The rows of an array, one after another.
use Rattle.std.proofs.Common.{append_assoc, cond, position, take, ◌-◌, Bool, ◌||◌, add-one, not, zero, suc, arith, ◌≡◌, ◌<◌, ◌+◌, ◌++◌, ◌∙◌, ℕ, List, [], ◌∷◌, length, get_or, drop, map, Option, Some, None, Result, Ok, Err, refl, ap, sym}
use Rattle.std.proofs.lemmas.List.{drop_more, length-drop, length-map, map-append}
use Rattle.std.proofs.Math.Seq.{take-length}
use Rattle.std.specs.List.{list_any, prefix_len}
use Rattle.toml.specs.Data.{Data}
use Rattle.toml.specs.View.{items_of}
use Rattle.xdp_load.specs.Document.{Text, items_list}
use Rattle.xdp_load.specs.Gives.{Fails, each, in_original, in_row, or_else, or_refused, original_error, seen_by, ◌>>=◌}
use Rattle.xdp_load.specs.Seen.{map_seen}
use Rattle.xdp_load.specs.Spot.{Refused, row}
use Rattle.xdp_load.specs.SpotSeen.{refused_seen}
use Rattle.xdp_load.specs.declared.fault.Fault.{Fault}
use Rattle.xdp_load.specs.declared.fault.Fault.TheVariants as fault
use Rattle.xdp_load.specs.declared.fault.LoadError.{LoadError}
use Rattle.xdp_load.specs.declared.fault.LoadError.TheVariants as error
use Rattle.xdp_load.specs.declared.key.Key.{Key}
use Rattle.xdp_load.specs.declared.key.Key.TheVariants as key
use Rattle.xdp_load.specs.declared.kinds.MapRow.{MapRow}
use Rattle.xdp_load.specs.Setup.{Packet, bytes_in, bytes_of, joined, names_of, packet_of}
use Rattle.xdp_load.specs.Limits.{HexPacket, bad_name, is_bad_first}

pub items_list-items_of : (ds : List Data) → items_list (items_of ds) ≡ ds
items_list-items_of [] = refl
items_list-items_of (d ∷ ds) = ap (λ xs. d ∷ xs) (items_list-items_of ds)

-- ---- rows

-- the rows done, and those that the rest give
abbrev pub each_done : {A B : Type 0} → Fault → (A → Result B Key) → ℕ → List B → List A → Result (List B) Refused
each_done f read n done xs = seen_by (λ ys. done ++ ys) (each f read n xs)

same_Ok : {A E : Type 0} (x y : A) → ◌≡◌ {A = Result A E} (Ok x) (Ok y) → x ≡ y
same_Ok x y e = cc

-- what is read of a row, seen
seen_read : {C D : Type 0} (f : Fault) (n : ℕ) (h : D → C) (r : Result D Key) (y : D) (q : Result C Key) → seen_by h r ≡ q → in_row f n r ≡ Ok y → in_row f n q ≡ Ok (h y)
seen_read f n h (Ok x) y q s e = ap (in_row f n) (sym s) ∙ ap (λ z. Ok (h z)) (same_Ok x y e)
seen_read f n h (Err k) y q s e = absurd (cc)

-- a row that is read
pub each_more : {A B C : Type 0} (f : Fault) (read : B → Result C Key) (g : A → B) (xs : List A) (i : ℕ) (d : A) (done : List C) (y : C)
    → i < length xs → in_row f i (read (g (get_or xs i d))) ≡ Ok y
    → each_done f read i done (map g (drop i xs)) ≡ each_done f read (i + 1) (done ++ (y ∷ [])) (map g (drop (i + 1) xs))
each_more {C = C} f read g xs i d done y h e = rw (drop_more xs i d h, e, add-one) (last (each f read (suc i) (map g (drop (suc i) xs))))
  where
    last : (r : Result (List C) Refused) → seen_by (λ ys. done ++ ys) (r >>= (λ ys. Ok (y ∷ ys))) ≡ seen_by (λ ys. (done ++ (y ∷ [])) ++ ys) r
    last (Ok ys) = ap Ok (sym (append_assoc done (y ∷ []) ys))
    last (Err e) = refl

-- the same, where the rows done are seen
pub each_kept : {A B C D : Type 0} (f : Fault) (read : B → Result C Key) (g : A → B) (h : D → C) (xs : List A) (i : ℕ) (d : A) (done : List D) (y : D)
    → i < length xs → in_row f i (read (g (get_or xs i d))) ≡ Ok (h y)
    → each_done f read i (map h done) (map g (drop i xs)) ≡ each_done f read (i + 1) (map h (done ++ (y ∷ []))) (map g (drop (i + 1) xs))
each_kept f read g h xs i d done y k e = each_more f read g xs i d (map h done) (h y) k e ∙ ap (λ zs. each_done f read (i + 1) zs (map g (drop (i + 1) xs))) (sym (map-append h done (y ∷ [])))

pub each_seen : {A B C D : Type 0} (f : Fault) (read : B → Result C Key) (g : A → B) (h : D → C) (xs : List A) (i : ℕ) (d : A) (done : List D) (r : Result D Key) (y : D)
    → i < length xs → seen_by h r ≡ read (g (get_or xs i d)) → in_row f i r ≡ Ok y
    → each_done f read i (map h done) (map g (drop i xs)) ≡ each_done f read (i + 1) (map h (done ++ (y ∷ []))) (map g (drop (i + 1) xs))
each_seen f read g h xs i d done r y k s e = each_kept f read g h xs i d done y k (seen_read f i h r y _ s e)

same_Err : {A E : Type 0} (x y : E) → ◌≡◌ {A = Result A E} (Err x) (Err y) → x ≡ y
same_Err x y e = cc

abbrev pub with_bytes : HexPacket → List ℕ → Packet
with_bytes p bytes = record { queue = p.queue; bytes = bytes; times = p.times }

abbrev of_hex : HexPacket → Option (List ℕ) → Result Packet Key
of_hex p o = or_else key.Bytes o >>= (λ bytes. Ok (with_bytes p bytes))

read_hex : (p : HexPacket) (n : ℕ) (o : Option (List ℕ)) (bytes : List ℕ) → or_refused fault.Hex (row key.Bytes n) o ≡ Ok bytes → in_row fault.Hex n (of_hex p o) ≡ Ok (with_bytes p bytes)
read_hex p n (Some b) bytes e = ap (λ (x : List ℕ). Ok (with_bytes p x)) (same_Ok b bytes e)
read_hex p n None bytes e = absurd (cc)

refused_hex : (p : HexPacket) (n : ℕ) (o : Option (List ℕ)) (r : Refused) → or_refused fault.Hex (row key.Bytes n) o ≡ Err r → in_row fault.Hex n (of_hex p o) ≡ Err r
refused_hex p n (Some b) r e = absurd (cc)
refused_hex p n None r e = ap Err (same_Err _ r e)

-- the packet of a hex text that is read
pub packet_read : (p : HexPacket) (n : ℕ) (bytes : List ℕ) → bytes_in key.Bytes n p.bytes ≡ Ok bytes
    → in_row fault.Hex n (packet_of p) ≡ Ok (with_bytes p bytes)
packet_read p n bytes e = read_hex p n (bytes_of p.bytes) bytes e

-- that of one that is refused, or for which memory runs out
pub packet_fails : (e : LoadError) (p : HexPacket) (n : ℕ) → Fails e (bytes_in key.Bytes n p.bytes) → Fails e (in_row fault.Hex n (packet_of p))
packet_fails error.Memory p n h = tt
packet_fails (error.Refused r) p n h = refused_hex p n (bytes_of p.bytes) (refused_seen r) h

-- a hex text that is read
pub joined_more : {A : Type 0} (g : A → Text) (xs : List A) (i : ℕ) (d : A) (done bytes : List ℕ) → i < length xs → bytes_in key.Program i (g (get_or xs i d)) ≡ Ok bytes
    → seen_by (λ rest. done ++ rest) (joined i (map g (drop i xs))) ≡ seen_by (λ rest. (done ++ bytes) ++ rest) (joined (i + 1) (map g (drop (i + 1) xs)))
joined_more g xs i d done bytes h e = rw (drop_more xs i d h, e, add-one) (last (joined (suc i) (map g (drop (suc i) xs))))
  where
    last : (r : Result (List ℕ) Refused) → seen_by (λ rest. done ++ rest) (r >>= (λ rest. Ok (bytes ++ rest))) ≡ seen_by (λ rest. (done ++ bytes) ++ rest) r
    last (Ok rest) = ap Ok (sym (append_assoc done bytes rest))
    last (Err e) = refl

-- ---- names

bad_suc : {A : Type 0} (f : A → Text) (xs : List A) (i n : ℕ) → i < length xs
    → bad_name n (map f (drop i xs)) ≡ cond (is_bad_first (map f (drop i xs))) (Some n) (bad_name (suc n) (map f (drop (suc i) xs)))
bad_suc f [] i n h = absurd (omega arith)
bad_suc f (x ∷ xs) zero n h = refl
bad_suc f (x ∷ xs) (suc i) n h = bad_suc f xs i n (omega arith)

-- the names from a place on
pub bad_more : {A : Type 0} (f : A → Text) (xs : List A) (i : ℕ) → i < length xs
    → bad_name i (map f (drop i xs)) ≡ cond (is_bad_first (map f (drop i xs))) (Some i) (bad_name (i + 1) (map f (drop (i + 1) xs)))
bad_more f xs i h = rw add-one (bad_suc f xs i i h)

-- a test of what f gives
pub any_map : {A B : Type 0} (test : B → Bool) (f : A → B) (xs : List A) → list_any (λ x. test (f x)) xs ≡ list_any test (map f xs)
any_map test f [] = refl
any_map test f (x ∷ xs) = ap (λ b. test (f x) || b) (any_map test f xs)

-- `&xs[i..]`
pub rest_is : {A : Type 0} (xs : List A) (i : ℕ) → take (length xs - i) (drop i xs) ≡ drop i xs
rest_is xs i = rw (← length-drop i xs) (take-length (drop i xs))

pub prefix_map : {A B : Type 0} (test : B → Bool) (f : A → B) (xs : List A) → prefix_len (λ x. not (test (f x))) xs ≡ prefix_len (λ y. not (test y)) (map f xs)
prefix_map test f [] = refl
prefix_map test f (x ∷ xs) = ap (λ n. cond (not (test (f x))) (1 + n) 0) (prefix_map test f xs)

pub position_map : {A B : Type 0} (test : B → Bool) (f : A → B) (xs : List A) → position (λ x. test (f x)) xs ≡ position test (map f xs)
position_map test f xs = rw (prefix_map test f xs, length-map)

-- the names of the maps
pub names_seen : (rows : List MapRow) → names_of (map map_seen rows) ≡ map (λ m. m.name.now) rows
unfolding names_of
names_seen [] = refl
names_seen (m ∷ ms) = ap (λ ns. m.name.now ∷ ns) (names_seen ms)

-- ---- the original's table

pub original_fails : {Y : Type 0} (e : LoadError) (read : Result Y Refused) → Fails e read → Fails (original_error e) (in_original read)
original_fails error.Memory read h = tt
original_fails (error.Refused r) read h = rw h
