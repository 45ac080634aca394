-- Each setup is sound.
use Rattle.std.proofs.Common.{◌≡◌, ◌<◌, ◌≤◌, ◌&&◌, ◌∙◌, ◌*◌, map, ℕ, ℤ, pos, negsuc, Bool, true, false, cond, suc, List, [], ◌∷◌, length, Option, Some, None, Result, Ok, Err, refl, ap, sym, subst, arith, ◌/◌}
use Rattle.std.specs.Prelude.{IfOk, nat_le, nat_lt, unsigned_abs}
use Rattle.std.specs.List.{AllByRecursion}
use Rattle.std.specs.Option.{option_map_or}
use Rattle.std.specs.Result.{result_ok}
use Rattle.std.proofs.lemmas.List.{length-map}
use Rattle.std.proofs.lemmas.Bool.{and_parts, leb-true, ltb-true}
use Rattle.xdp_load.specs.declared.fault.Fault.{Fault}
use Rattle.xdp_load.specs.declared.fault.Fault.TheVariants as fault
use Rattle.xdp_load.specs.Document.{MapText, PacketText, StepText}
use Rattle.xdp_load.specs.Gives.{Gives, each, in_key, in_row, or_else, or_refused, ◌>>=◌}
use Rattle.xdp_load.specs.Keys.{least, most}
use Rattle.xdp_load.specs.Limits.{HexPacket, LimitedText, are_names, bad_name, is_bad_first, is_packet_text, limited_shape, limited_lists, limited_of, limited_packet, limited_rows, limited_step, limited_with, packet_text}
use Rattle.xdp_load.specs.Numbers.{below, limited, limited_numbers}
use Rattle.xdp_load.specs.Setup.{Packet, SetupView, bytes_of, decoded_of, document_of, joined, loaded_program, names_of, text_of, packet_of, relocated_setup, setup_of, setup_of_limited, setup_of_table}
use Rattle.xdp_load.specs.Spot.{at, refused, row, whole}
use Rattle.xdp_load.specs.Written.{WrittenText, written_of}
use Rattle.xdp_load.specs.declared.key.Key.{Key}
use Rattle.xdp_load.specs.declared.numbers.Limits.{Limits}
use Rattle.xdp_load.specs.declared.numbers.Numbers.{Numbers}
use Rattle.xdp_load.specs.declared.key.Key.TheVariants as key
use Rattle.bpf_note.specs.Shape.{Shape, IsNarrow}
use Rattle.hex.proofs.HexLemmas.{decode_of-ok}
use Rattle.xdp_load.specs.Sound.{IsPacket, IsSound}
use Rattle.xdp_load.specs.Values.{AreFilled, are_values, room_of, values_of}
use Rattle.xdp_load.specs.SetupSeen.{setup_view}
use Rattle.xdp_load.specs.declared.setup.Setup.{Setup}
use Rattle.xdp_load.specs.declared.fault.LoadError.{LoadError}

-- ---- the bind, and a fault in place of nothing

pub bind_ok : {A B E P : Type 0} (r : Result A E) (f : A → Result B E) (y : B) → (r >>= f) ≡ Ok y → ((x : A) → r ≡ Ok x → f x ≡ Ok y → P) → P
bind_ok (Ok x) f y e k = k x refl e
bind_ok (Err d) f y e k = absurd (cc)

pub else_ok : {A E : Type 0} (d : E) (o : Option A) (y : A) → or_else d o ≡ Ok y → o ≡ Some y
else_ok d (Some x) y e = cc
else_ok d None y e = absurd (cc)

pub same_Ok : {A E : Type 0} (x y : A) → ◌≡◌ {A = Result A E} (Ok x) (Ok y) → x ≡ y
same_Ok x y e = cc

pub cond_ok : {A E : Type 0} (b : Bool) (x y : A) (d : E) → cond b (Ok x) (Err d) ≡ Ok y → (b ≡ true) × (x ≡ y)
cond_ok true x y d e = (refl, same_Ok x y e)
cond_ok false x y d e = absurd (cc)

pub key_ok : {A : Type 0} (f : Fault) (r : Result A Key) (y : A) → in_key f r ≡ Ok y → r ≡ Ok y
key_ok f (Ok x) y e = cc
key_ok f (Err k) y e = absurd (cc)

pub row_ok : {A : Type 0} (f : Fault) (n : ℕ) (r : Result A Key) (y : A) → in_row f n r ≡ Ok y → r ≡ Ok y
row_ok f n (Ok x) y e = cc
row_ok f n (Err k) y e = absurd (cc)

-- ---- each

each_keeps : {A B : Type 0} (c : Fault) (f : A → Result B Key) (P : A → Type 0) (Q : B → Type 0) → ((x : A) (y : B) → P x → f x ≡ Ok y → Q y)
    → (n : ℕ) (xs : List A) (ys : List B) → AllByRecursion P xs → each c f n xs ≡ Ok ys → AllByRecursion Q ys
each_keeps c f P Q h n [] [] a e = tt
each_keeps c f P Q h n [] (y ∷ ys) a e = absurd (cc)
each_keeps c f P Q h n (x ∷ xs) ys a e = bind_ok (in_row c n (f x)) _ ys e (λ y here rest. bind_ok (each c f (suc n) xs) _ ys rest (λ more tail same.
    subst (AllByRecursion Q) (same_Ok _ _ same) (h x y a.0 (row_ok c n (f x) y here), each_keeps c f P Q h (suc n) xs more a.1 tail)))

pub each_all : {A B : Type 0} (c : Fault) (f : A → Result B Key) (P : B → Type 0) → ((x : A) (y : B) → f x ≡ Ok y → P y) → (n : ℕ) (xs : List A) (ys : List B) → each c f n xs ≡ Ok ys → AllByRecursion P ys
each_all c f P h n [] [] e = tt
each_all c f P h n [] (y ∷ ys) e = absurd (cc)
each_all c f P h n (x ∷ xs) ys e = bind_ok (in_row c n (f x)) _ ys e (λ y here rest. bind_ok (each c f (suc n) xs) _ ys rest (λ more tail same.
    subst (AllByRecursion P) (same_Ok _ _ same) (h x y (row_ok c n (f x) y here), each_all c f P h (suc n) xs more tail)))

pub each_length : {A B : Type 0} (c : Fault) (f : A → Result B Key) (n : ℕ) (xs : List A) (ys : List B) → each c f n xs ≡ Ok ys → length ys ≡ length xs
each_length c f n [] [] e = refl
each_length c f n [] (y ∷ ys) e = absurd (cc)
each_length c f n (x ∷ xs) ys e = bind_ok (in_row c n (f x)) _ ys e (λ y here rest. bind_ok (each c f (suc n) xs) _ ys rest (λ more tail same.
    sym (ap length (same_Ok _ _ same)) ∙ ap suc (each_length c f (suc n) xs more tail)))

-- ---- the limits

pub limited_within : (k : Key) (z : ℤ) (n : ℕ) → limited k z ≡ Ok n → (least k ≤ n) × (n ≤ most k)
limited_within k (pos m) n e =
    let (held, same) = cond_ok (nat_le (least k) m && nat_le m (most k)) m n k e in
    let (low, high) = and_parts _ _ held in
    (subst (λ j. least k ≤ j) same (leb-true (least k) m low), subst (λ j. j ≤ most k) same (leb-true m (most k) high))
limited_within k (negsuc m) n e = absurd (cc)

below_within : (k : Key) (q : ℕ) (z : ℤ) (n : ℕ) → below k q z ≡ Ok n → n < q
below_within k q z n e = bind_ok (limited k z) _ n e (λ m here rest.
    let (held, same) = cond_ok (nat_lt m q) m n k rest in
    subst (λ j. j < q) same (ltb-true m q held))

pub numbers_within : (n : Numbers) (m : Limits) → limited_numbers n ≡ Ok m → (1 ≤ m.queues) × (m.queues ≤ 8)
numbers_within n m e =
    bind_ok (limited key.Queues n.queues) _ m e (λ q here rest.
    bind_ok (limited key.IfIndex n.ifindex) _ m rest (λ i there more.
    bind_ok (limited key.Start n.start) _ m more (λ s last same.
    subst (λ (k : Limits). (1 ≤ k.queues) × (k.queues ≤ 8)) (same_Ok _ _ same) (limited_within key.Queues n.queues q here))))

step_within : (queues : ℕ) (s : StepText) (p : ℕ × ℕ) → limited_step queues s ≡ Ok p → p.0 < queues
step_within queues s p e =
    bind_ok (below key.StepQueue queues s.queue) _ p e (λ q here rest.
    bind_ok (limited key.Answer s.answer) _ p rest (λ a there same.
    subst (λ (r : ℕ × ℕ). r.0 < queues) (same_Ok _ _ same) (below_within key.StepQueue queues s.queue q here)))

shape_within : (m : MapText) (s : Shape) → limited_shape m ≡ Ok s → IsNarrow s
shape_within m s e =
    bind_ok (limited key.Entries m.entries) _ s e (λ entries here rest.
    bind_ok (limited key.Counters m.counters) _ s rest (λ counters there end.
    let most = limited_within key.Entries m.entries entries here in
    let each = limited_within key.Counters m.counters counters there in
    let (held, same) = cond_ok (are_values (counters * entries) m.values) _ s key.Values end in
    subst IsNarrow same (record { some_entries = most.0; most_entries = most.1; some_counters = each.0; most_counters = each.1; index = refl; whole = refl })))

-- so many counters can begin with the numbers
pub values_fit : (n : ℕ) (zs : List ℤ) → are_values n zs ≡ true → length (map unsigned_abs zs) ≤ n
values_fit n zs held = rw (length-map zs unsigned_abs) (leb-true (length zs) n (and_parts _ _ held).0)

shape_filled : (m : MapText) (s : Shape) → limited_shape m ≡ Ok s → length (values_of m) ≤ room_of s.key (s.counters * s.entries)
shape_filled m s e =
    bind_ok (limited key.Entries m.entries) _ s e (λ entries here rest.
    bind_ok (limited key.Counters m.counters) _ s rest (λ counters there end.
    let (held, same) = cond_ok (are_values (counters * entries) m.values) _ s key.Values end in
    subst (λ (x : Shape). length (values_of m) ≤ room_of x.key (x.counters * x.entries)) same (values_fit (counters * entries) m.values held)))

-- each map's counters begin with its numbers
pub maps_filled : {A : Type 0} (f : A → Result Shape Key) (text : A → MapText) → ((m : A) (s : Shape) → f m ≡ Ok s → length (values_of (text m)) ≤ room_of s.key (s.counters * s.entries))
    → (n : ℕ) (ms : List A) (ss : List Shape) → each fault.Limit f n ms ≡ Ok ss → AreFilled ss (map values_of (map text ms))
maps_filled f text h n [] [] e = tt
maps_filled f text h n [] (s ∷ ss) e = absurd (cc)
maps_filled f text h n (m ∷ ms) ss e = bind_ok (in_row fault.Limit n (f m)) _ ss e (λ s here rest. bind_ok (each fault.Limit f (suc n) ms) _ ss rest (λ more tail same.
    subst (λ (x : List Shape). AreFilled x (map values_of (map text (m ∷ ms)))) (same_Ok _ _ same) (h m s (row_ok fault.Limit n (f m) s here), maps_filled f text h (suc n) ms more tail)))

maps_same : (ms : List MapText) → map (λ (m : MapText). m) ms ≡ ms
maps_same [] = refl
maps_same (m ∷ ms) = ap (λ (xs : List MapText). m ∷ xs) (maps_same ms)

-- a packet's numbers, its bytes still being hex
pub record IsHexPacket (queues : ℕ) (p : HexPacket) : Type 0 where
  pub queue : p.queue < queues
  pub long : 14 ≤ length p.bytes / 2
  pub short : length p.bytes / 2 ≤ 65535
  pub some_times : 1 ≤ p.times
  pub few_times : p.times ≤ 100000

packet_within : (queues : ℕ) (t : PacketText) (p : HexPacket) → limited_packet queues t ≡ Ok p → IsHexPacket queues p
packet_within queues t p e =
    bind_ok (below key.PacketQueue queues t.queue) _ p e (λ q here rest.
    bind_ok (packet_text t.bytes) _ p rest (λ b there more.
    bind_ok (limited key.Times t.times) _ p more (λ n last same.
    let (length_held, same_text) = cond_ok (is_packet_text t.bytes) t.bytes b key.Bytes there in
    let length_parts = and_parts _ _ length_held in
    let times = limited_within key.Times t.times n last in
    subst (IsHexPacket queues) (same_Ok _ _ same) (record {
      queue = below_within key.PacketQueue queues t.queue q here;
      long = subst (λ (x : List ℕ). 14 ≤ length x / 2) same_text (leb-true _ _ length_parts.0);
      short = subst (λ (x : List ℕ). length x / 2 ≤ 65535) same_text (leb-true _ _ length_parts.1);
      some_times = times.0;
      few_times = times.1;
    }))))

ok_some : {A E : Type 0} (r : Result A E) (x : A) → result_ok r ≡ Some x → r ≡ Ok x
ok_some (Ok y) x e = cc
ok_some (Err d) x e = absurd (cc)

pub bytes_length : (t bytes : List ℕ) → bytes_of t ≡ Some bytes → length t / 2 ≡ length bytes
bytes_length t bytes e =
    let twice = (decode_of-ok t bytes (ok_some _ bytes e)).2 in
    omega (arith, twice)

bytes_kept : (queues : ℕ) (x : HexPacket) (y : Packet) → IsHexPacket queues x → packet_of x ≡ Ok y → IsPacket queues y
bytes_kept queues x y h e = bind_ok (or_else key.Bytes (bytes_of x.bytes)) _ y e (λ bytes here same.
    let count = bytes_length x.bytes bytes (else_ok key.Bytes (bytes_of x.bytes) bytes here) in
    subst (IsPacket queues) (same_Ok _ _ same) (record {
      queue = h.queue;
      long = subst (λ n. 14 ≤ n) count h.long;
      short = subst (λ n. n ≤ 65535) count h.short;
      some_times = h.some_times;
      few_times = h.few_times;
    }))

-- ---- the phases

-- at most so many maps, each of this kind
pub record IsLimited (most : ℕ) (IsMap : Shape → Type 0) (w : WrittenText) (l : LimitedText) : Type 0 where
  pub some_queues : 1 ≤ l.numbers.queues
  pub few_queues : l.numbers.queues ≤ 8
  pub few_maps : length w.maps ≤ most
  pub counted : length l.shapes ≡ length w.maps
  pub shapes : AllByRecursion IsMap l.shapes
  pub values : AreFilled l.shapes (map values_of w.maps)
  pub script : AllByRecursion (λ p. p.0 < l.numbers.queues) l.script
  pub packets : AllByRecursion (IsHexPacket l.numbers.queues) l.packets

pub with_limited : (most : ℕ) (IsMap : Shape → Type 0) (w : WrittenText) (n : Limits) (shapes : List Shape) (l : LimitedText) → length w.maps ≤ most → (1 ≤ n.queues) × (n.queues ≤ 8)
    → length shapes ≡ length w.maps → AllByRecursion IsMap shapes → AreFilled shapes (map values_of w.maps) → limited_with w n shapes ≡ Ok l → IsLimited most IsMap w l × (l.shapes ≡ shapes)
unfolding limited_with
with_limited most IsMap w n shapes l few q counted all filled e =
    bind_ok (each fault.Limit (limited_step n.queues) 0 w.script) _ l e (λ script e2 more.
    bind_ok (each fault.Limit (limited_packet n.queues) 0 w.packets) _ l more (λ packets e3 last.
    let made : ◌≡◌ {A = LimitedText} (record { numbers = n; shapes = shapes; script = script; packets = packets }) l = same_Ok _ _ last in
    subst (λ (x : LimitedText). IsLimited most IsMap w x × (x.shapes ≡ shapes)) made (
      record {
        some_queues = q.0;
        few_queues = q.1;
        few_maps = few;
        counted = counted;
        shapes = all;
        values = filled;
        script = each_all fault.Limit (limited_step n.queues) _ (step_within n.queues) 0 w.script script e2;
        packets = each_all fault.Limit (limited_packet n.queues) _ (packet_within n.queues) 0 w.packets packets e3;
      },
      refl,
    )))

rows_limited : (w : WrittenText) (n : Limits) (l : LimitedText) → length w.maps ≤ 4 → (1 ≤ n.queues) × (n.queues ≤ 8) → limited_rows w n ≡ Ok l → IsLimited 4 IsNarrow w l
unfolding limited_rows
rows_limited w n l few q e =
    bind_ok (each fault.Limit limited_shape 0 w.maps) (limited_with w n) l e (λ shapes e1 rest.
    (with_limited 4 IsNarrow w n shapes l few q (each_length fault.Limit limited_shape 0 w.maps shapes e1) (each_all fault.Limit limited_shape _ shape_within 0 w.maps shapes e1)
    (subst (λ (ms : List MapText). AreFilled shapes (map values_of ms)) (maps_same w.maps) (maps_filled limited_shape (λ m. m) shape_filled 0 w.maps shapes e1)) rest).0)

lists_limited : (w : WrittenText) (n : Limits) (l : LimitedText) → (1 ≤ n.queues) × (n.queues ≤ 8) → limited_lists w n ≡ Ok l → IsLimited 4 IsNarrow w l
unfolding limited_lists
lists_limited w n l q e = go (nat_le (length w.maps) 4) refl e
  where
    go : (b : Bool) → nat_le (length w.maps) 4 ≡ b → cond b (limited_rows w n) (Err (refused fault.Limit (at key.Map))) ≡ Ok l → IsLimited 4 IsNarrow w l
    go true t h = rows_limited w n l (leb-true _ _ t) q h
    go false t h = absurd (cc)

pub of_limited : (w : WrittenText) (l : LimitedText) → limited_of w ≡ Ok l → IsLimited 4 IsNarrow w l
unfolding limited_of
of_limited w l e = bind_ok (in_key fault.Limit (limited_numbers w.numbers)) (limited_lists w) l e (λ n e1 rest.
    lists_limited w n l (numbers_within w.numbers n (key_ok fault.Limit (limited_numbers w.numbers) n e1)) rest)

decoded_packets : (w : WrittenText) (l : LimitedText) (d : List ℕ × List Packet) → decoded_of w l ≡ Ok d → each fault.Hex packet_of 0 l.packets ≡ Ok d.1
unfolding decoded_of
decoded_packets w l d e =
    bind_ok (joined 0 w.program) _ d e (λ program e1 rest.
    bind_ok (each fault.Hex packet_of 0 l.packets) _ d rest (λ packets e2 last.
    let made : ◌≡◌ {A = List ℕ × List Packet} (program, packets) d = same_Ok _ _ last in
    e2 ∙ ap (λ (p : List ℕ × List Packet). Ok p.1) made))

names_length : (maps : List MapText) → length (names_of maps) ≡ length maps
unfolding names_of
names_length maps = length-map maps (λ m. m.name)

-- no name is a bad one
pub good_names : (n : ℕ) (ts : List (List ℕ)) → bad_name n ts ≡ None → are_names ts ≡ true
good_names n [] e = refl
good_names n (t ∷ ts) e = go (is_bad_first (t ∷ ts)) refl e (λ k. good_names (suc n) ts k)
  where
    go : (b : Bool) → is_bad_first (t ∷ ts) ≡ b → cond b (Some n) (bad_name (suc n) ts) ≡ None → (bad_name (suc n) ts ≡ None → are_names ts ≡ true) → are_names (t ∷ ts) ≡ true
    go true h k rest = absurd (cc)
    go false h k rest = rw (h, rest k)

-- a setup with at most so many maps, each of this kind
pub record IsGiven (most : ℕ) (IsMap : Shape → Type 0) (s : SetupView) : Type 0 where
  pub some_queues : 1 ≤ s.queues
  pub few_queues : s.queues ≤ 8
  pub few_maps : length s.shapes ≤ most
  pub shapes : AllByRecursion IsMap s.shapes
  pub values : AreFilled s.shapes s.values
  pub named : length s.names ≡ length s.shapes
  pub names : are_names s.names ≡ true
  pub script : AllByRecursion (λ p. p.0 < s.queues) s.script
  pub packets : AllByRecursion (IsPacket s.queues) s.packets

of_relocated : (most : ℕ) (IsMap : Shape → Type 0) (w : WrittenText) (l : LimitedText) (d : List ℕ × List Packet) (s : SetupView) → IsLimited most IsMap w l → are_names (names_of w.maps) ≡ true
    → each fault.Hex packet_of 0 l.packets ≡ Ok d.1 → relocated_setup w l d ≡ Ok s → IsGiven most IsMap s × (s.shapes ≡ l.shapes)
unfolding relocated_setup
of_relocated most IsMap w l d s held names bytes e =
    bind_ok (loaded_program (names_of w.maps) w.relocs d.0) _ s e (λ program e1 last.
    let made : ◌≡◌ {A = SetupView} (record {
      program = program;
      shapes = l.shapes;
      values = map values_of w.maps;
      names = names_of w.maps;
      queues = l.numbers.queues;
      ifindex = l.numbers.ifindex;
      start = l.numbers.start;
      script = l.script;
      packets = d.1;
    }) s = same_Ok _ _ last in
    subst (λ (x : SetupView). IsGiven most IsMap x × (x.shapes ≡ l.shapes)) made (
      record {
        some_queues = held.some_queues;
        few_queues = held.few_queues;
        few_maps = rw held.counted held.few_maps;
        shapes = held.shapes;
        values = held.values;
        named = names_length w.maps ∙ sym held.counted;
        names = names;
        script = held.script;
        packets = each_keeps fault.Hex packet_of _ _ (bytes_kept l.numbers.queues) 0 l.packets d.1 held.packets bytes;
      },
      refl,
    ))

pub of_decoded : (most : ℕ) (IsMap : Shape → Type 0) (w : WrittenText) (l : LimitedText) (d : List ℕ × List Packet) (s : SetupView) → IsLimited most IsMap w l → bad_name 0 (names_of w.maps) ≡ None
    → decoded_of w l ≡ Ok d → relocated_setup w l d ≡ Ok s → IsGiven most IsMap s × (s.shapes ≡ l.shapes)
of_decoded most IsMap w l d s held named e rest = of_relocated most IsMap w l d s held (good_names 0 (names_of w.maps) named) (decoded_packets w l d e) rest

sound_of : (s : SetupView) → IsGiven 4 IsNarrow s → IsSound s
sound_of s g = record {
  some_queues = g.some_queues;
  few_queues = g.few_queues;
  few_maps = g.few_maps;
  shapes = g.shapes;
  values = g.values;
  named = g.named;
  names = g.names;
  script = g.script;
  packets = g.packets;
}

of_setup : (w : WrittenText) (l : LimitedText) (s : SetupView) → IsLimited 4 IsNarrow w l → setup_of_limited w l ≡ Ok s → IsSound s
unfolding setup_of_limited
of_setup w l s held e = go (bad_name 0 (names_of w.maps)) refl e
  where
    go : (o : Option ℕ) → bad_name 0 (names_of w.maps) ≡ o → option_map_or (λ n. Err (refused fault.Name (row key.Name n))) o (decoded_of w l >>= relocated_setup w l) ≡ Ok s → IsSound s
    go None t h = bind_ok (decoded_of w l) (relocated_setup w l) s h (λ d e1 rest. sound_of s (of_decoded 4 IsNarrow w l d s held t e1 rest).0)
    go (Some n) t h = absurd (cc)

pub setup_sound : (bytes : List ℕ) (s : SetupView) → setup_of bytes ≡ Ok s → IsSound s
unfolding setup_of setup_of_table
setup_sound bytes s e =
    bind_ok (or_refused fault.Text whole (text_of bytes)) _ s e (λ text e1 rest.
    bind_ok (document_of text) setup_of_table s rest (λ document e2 more.
    bind_ok (written_of document) _ s more (λ w e3 last.
    bind_ok (limited_of w) (setup_of_limited w) s last (λ l e4 end. of_setup w l s (of_limited w l e4) end))))

pub given_sound : (bytes : List ℕ) (r : Result Setup LoadError) → Gives setup_view r (setup_of bytes) → IfOk r (λ s. IsSound (setup_view s))
given_sound bytes (Ok s) h = setup_sound bytes (setup_view s) h
given_sound bytes (Err e) h = tt
