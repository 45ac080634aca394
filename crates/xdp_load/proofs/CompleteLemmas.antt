-- Each sound setup is that of a document: the one that spells its fields.
use Rattle.std.proofs.Common.{append-nil, not, false, subst, true, ◌*◌, ℤ, None, Result, ◌≡◌, ◌<◌, ◌≤◌, ◌/◌, ℕ, pos, List, [], ◌∷◌, length, map, codes, Ok, refl, ap, sym, ◌∙◌, arith, suc, Bool}
use Rattle.std.specs.Prelude.{unsigned_abs}
use Rattle.std.proofs.lemmas.Bool.{and_parts, le-leb, lt-ltb, not-true}
use Rattle.std.specs.List.{AllByRecursion, list_any}
use Rattle.std.proofs.lemmas.List.{length-map}
use Rattle.bpf_note.specs.declared.key.MapKey.{MapKey}
use Rattle.bpf_note.specs.Shape.{Shape, IsNarrow}
use Rattle.hex.specs.Hex.{IsBytes, encode_lower}
use Rattle.hex.proofs.HexLemmas.{decode_of-encode_lower, decode_of-ok}
use Rattle.toml.specs.Data.{Data, string, integer, array, table, Members, no_members, member}
use Rattle.toml.specs.View.{items_of}
use Rattle.xdp_load.specs.Complete.{HasFields, IsWritten}
use Rattle.xdp_load.specs.Values.{AreFilled, are_values, is_negative, room_of, values_of}
use Rattle.xdp_load.specs.Document.{Text, MapText, PacketText, StepText, is_no_number, number_in, map_row, packet_row, step_row}
use Rattle.xdp_load.specs.Gives.{each}
use Rattle.xdp_load.specs.Keys.{least, most}
use Rattle.xdp_load.specs.Limits.{HexPacket, LimitedText, are_names, bad_name, is_bad_first, limited_shape, limited_step, limited_packet, limited_of, limited_lists, limited_rows, limited_with}
use Rattle.xdp_load.specs.Numbers.{limited, limited_numbers}
use Rattle.xdp_load.specs.declared.fault.Fault.{Fault}
use Rattle.xdp_load.specs.declared.fault.Fault.TheVariants as fault
use Rattle.xdp_load.specs.declared.key.Key.{Key}
use Rattle.xdp_load.specs.declared.key.Key.TheVariants as key
use Rattle.xdp_load.specs.Setup.{Packet, SetupView, packet_of, names_of, decoded_of, relocated_setup, setup_of_limited, setup_of_table}
use Rattle.xdp_load.specs.Sound.{IsPacket, IsSound}
use Rattle.xdp_load.specs.Written.{WrittenText, written_of, rows_of_table, written_with, program_of, rows_of}
use Rattle.xdp_load.proofs.RowLemmas.{items_list-items_of}

-- ---- rows

each_read : {A B C : Type 0} (c : Fault) (f : B → Result C Key) (g : A → B) (h : A → C) → ((x : A) → f (g x) ≡ Ok (h x)) → (n : ℕ) (xs : List A) → each c f n (map g xs) ≡ Ok (map h xs)
each_read c f g h e n [] = refl
each_read c f g h e n (x ∷ xs) = rw (e x, each_read c f g h e (suc n) xs) refl

-- ---- what is written

abbrev Named : Type 0
Named = Text × Shape × List ℕ

abbrev map_text : Named → MapText
map_text p = record { name = p.0; entries = pos p.1.entries; counters = pos p.1.counters; values = map pos p.2 }

abbrev number_data : ℕ → Data
number_data n = integer (pos n)

all_numbers : (ns : List ℕ) → list_any is_no_number (map number_data ns) ≡ false
all_numbers [] = refl
all_numbers (n ∷ ns) = all_numbers ns

numbers_back : (ns : List ℕ) → map number_in (map number_data ns) ≡ map pos ns
numbers_back [] = refl
numbers_back (n ∷ ns) = ap (λ (zs : List ℤ). pos n ∷ zs) (numbers_back ns)

abbrev map_data : Named → Data
map_data p = table (member (codes "name") (string p.0) (member (codes "entries") (integer (pos p.1.entries)) (member (codes "counters") (integer (pos p.1.counters)) (member (codes "values") (array (items_of (map number_data p.2))) no_members))))

map_read : (p : Named) → map_row (map_data p) ≡ Ok (map_text p)
map_read p = rw (items_list-items_of (map number_data p.2), all_numbers p.2, numbers_back p.2) refl

abbrev step_text : ℕ × ℕ → StepText
step_text s = record { queue = pos s.0; answer = pos s.1 }

abbrev step_data : ℕ × ℕ → Data
step_data s = array (items_of (integer (pos s.0) ∷ integer (pos s.1) ∷ []))

step_read : (s : ℕ × ℕ) → step_row (step_data s) ≡ Ok (step_text s)
step_read s = refl

abbrev packet_text : Packet → PacketText
packet_text p = record { queue = pos p.queue; bytes = encode_lower p.bytes; times = pos p.times }

abbrev packet_data : Packet → Data
packet_data p = table (member (codes "queue") (integer (pos p.queue)) (member (codes "bytes") (string (encode_lower p.bytes)) (member (codes "times") (integer (pos p.times)) no_members)))

packet_read : (p : Packet) → packet_row (packet_data p) ≡ Ok (packet_text p)
packet_read p = refl

abbrev named : List Text → List Shape → List (List ℕ) → List Named
named (n ∷ ns) (s ∷ ss) (v ∷ vs) = (n, s, v) ∷ named ns ss vs
named ns ss vs = []

abbrev document : SetupView → Members
document s =
    member (codes "program") (array (items_of (string (encode_lower s.program) ∷ [])))
    (member (codes "queues") (integer (pos s.queues))
    (member (codes "ifindex") (integer (pos s.ifindex))
    (member (codes "start") (integer (pos s.start))
    (member (codes "map") (array (items_of (map map_data (named s.names s.shapes s.values))))
    (member (codes "script") (array (items_of (map step_data s.script)))
    (member (codes "packet") (array (items_of (map packet_data s.packets))) no_members))))))

abbrev written : SetupView → WrittenText
written s = record {
  program = encode_lower s.program ∷ [];
  numbers = record { queues = pos s.queues; ifindex = pos s.ifindex; start = pos s.start };
  maps = map map_text (named s.names s.shapes s.values);
  relocs = [];
  script = map step_text s.script;
  packets = map packet_text s.packets;
}

document_written : (s : SetupView) → written_of (document s) ≡ Ok (written s)
unfolding written_of rows_of_table written_with program_of rows_of
document_written s =
    rw (
      items_list-items_of (map map_data (named s.names s.shapes s.values)),
      items_list-items_of (map step_data s.script),
      items_list-items_of (map packet_data s.packets),
      each_read fault.Key map_row map_data map_text map_read 0 (named s.names s.shapes s.values),
      each_read fault.Key step_row step_data step_text step_read 0 s.script,
      each_read fault.Key packet_row packet_data packet_text packet_read 0 s.packets,
    ) refl

-- ---- the limits

limited_all : (k : Key) (n : ℕ) → least k ≤ n → n ≤ most k → limited k (pos n) ≡ Ok n
limited_all k n a b = rw (le-leb (least k) n a, le-leb n (most k) b) refl

none_negative : (ns : List ℕ) → list_any is_negative (map pos ns) ≡ false
none_negative [] = refl
none_negative (n ∷ ns) = none_negative ns

back_from : (ns : List ℕ) → map unsigned_abs (map pos ns) ≡ ns
back_from [] = refl
back_from (n ∷ ns) = ap (λ (xs : List ℕ). n ∷ xs) (back_from ns)

values_fit : (n : ℕ) (v : List ℕ) → length v ≤ n → are_values n (map pos v) ≡ true
values_fit n v few = rw (length-map v pos, none_negative v, le-leb (length v) n few) refl

shape_limited : (n : Text) (s : Shape) (v : List ℕ) → IsNarrow s → length v ≤ s.counters * s.entries → limited_shape (map_text (n, s, v)) ≡ Ok s
shape_limited n s v h few =
    rw (limited_all key.Entries s.entries h.some_entries h.most_entries, limited_all key.Counters s.counters h.some_counters h.most_counters, values_fit (s.counters * s.entries) v few)
    (ap (λ (k : MapKey). Ok (record { entries = s.entries; counters = s.counters; key = k; parts = false })) (sym h.index)
    ∙ ap (λ (p : Bool). Ok (record { entries = s.entries; counters = s.counters; key = s.key; parts = p })) (sym h.whole))

-- of an array as many as counters
narrow_room : (s : Shape) (v : List ℕ) → IsNarrow s → length v ≤ room_of s.key (s.counters * s.entries) → length v ≤ s.counters * s.entries
narrow_room s v h few = subst (λ (k : MapKey). length v ≤ room_of k (s.counters * s.entries)) h.index few

shapes_limited : (i : ℕ) (ns : List Text) (ss : List Shape) (vs : List (List ℕ)) → length ns ≡ length ss → AllByRecursion IsNarrow ss → AreFilled ss vs → each fault.Limit limited_shape i (map map_text (named ns ss vs)) ≡ Ok ss
shapes_limited i [] [] vs e a f = refl
shapes_limited i [] (s ∷ ss) vs e a f = absurd (omega (arith, e))
shapes_limited i (n ∷ ns) [] vs e a f = absurd (omega (arith, e))
shapes_limited i (n ∷ ns) (s ∷ ss) [] e a f = absurd f
shapes_limited i (n ∷ ns) (s ∷ ss) (v ∷ vs) e a f = rw (shape_limited n s v a.0 (narrow_room s v a.0 f.0), shapes_limited (suc i) ns ss vs (omega (arith, e)) a.1 f.1) refl

names_back : (ns : List Text) (ss : List Shape) (vs : List (List ℕ)) → length ns ≡ length ss → AreFilled ss vs → names_of (map map_text (named ns ss vs)) ≡ ns
unfolding names_of
names_back [] [] vs e f = refl
names_back [] (s ∷ ss) vs e f = absurd (omega (arith, e))
names_back (n ∷ ns) [] vs e f = absurd (omega (arith, e))
names_back (n ∷ ns) (s ∷ ss) [] e f = absurd f
names_back (n ∷ ns) (s ∷ ss) (v ∷ vs) e f = ap (λ (xs : List Text). n ∷ xs) (names_back ns ss vs (omega (arith, e)) f.1)

values_back : (ns : List Text) (ss : List Shape) (vs : List (List ℕ)) → length ns ≡ length ss → AreFilled ss vs → map values_of (map map_text (named ns ss vs)) ≡ vs
values_back [] [] [] e f = refl
values_back [] [] (v ∷ vs) e f = absurd f
values_back [] (s ∷ ss) vs e f = absurd (omega (arith, e))
values_back (n ∷ ns) [] vs e f = absurd (omega (arith, e))
values_back (n ∷ ns) (s ∷ ss) [] e f = absurd f
values_back (n ∷ ns) (s ∷ ss) (v ∷ vs) e f = rw (back_from v, values_back ns ss vs (omega (arith, e)) f.1) refl

maps_counted : (ns : List Text) (ss : List Shape) (vs : List (List ℕ)) → length ns ≡ length ss → AreFilled ss vs → length (map map_text (named ns ss vs)) ≡ length ss
maps_counted [] [] vs e f = refl
maps_counted [] (s ∷ ss) vs e f = absurd (omega (arith, e))
maps_counted (n ∷ ns) [] vs e f = absurd (omega (arith, e))
maps_counted (n ∷ ns) (s ∷ ss) [] e f = absurd f
maps_counted (n ∷ ns) (s ∷ ss) (v ∷ vs) e f = ap suc (maps_counted ns ss vs (omega (arith, e)) f.1)

step_limited : (q : ℕ) (p : ℕ × ℕ) → q ≤ 8 → p.0 < q → p.1 < 4294967296 → limited_step q (step_text p) ≡ Ok p
step_limited q p few a b = rw (limited_all key.StepQueue p.0 (omega arith) (omega (arith, a, few)), lt-ltb p.0 q a, limited_all key.Answer p.1 (omega arith) (omega (arith, b))) refl

steps_limited : (q i : ℕ) (ps : List (ℕ × ℕ)) → q ≤ 8 → AllByRecursion (λ p. p.0 < q) ps → AllByRecursion (λ p. p.1 < 4294967296) ps → each fault.Limit (limited_step q) i (map step_text ps) ≡ Ok ps
steps_limited q i [] few a b = refl
steps_limited q i (p ∷ ps) few a b = rw (step_limited q p few a.0 b.0, steps_limited q (suc i) ps few a.1 b.1) refl

abbrev hex_packet : Packet → HexPacket
hex_packet p = record { queue = p.queue; bytes = encode_lower p.bytes; times = p.times }

-- two digits a byte
digits_counted : (xs : List ℕ) → IsBytes xs → length (encode_lower xs) / 2 ≡ length xs
digits_counted xs h =
    let twice = (decode_of-ok (encode_lower xs) xs (decode_of-encode_lower xs h)).2 in
    omega (arith, twice)

packet_limited : (q : ℕ) (p : Packet) → q ≤ 8 → IsPacket q p → IsBytes p.bytes → limited_packet q (packet_text p) ≡ Ok (hex_packet p)
packet_limited q p few h b =
    let queue = h.queue in
    rw (limited_all key.PacketQueue p.queue (omega arith) (omega (arith, queue, few)), lt-ltb p.queue q queue, limited_all key.Times p.times h.some_times h.few_times, digits_counted p.bytes b, le-leb 14 (length p.bytes) h.long, le-leb (length p.bytes) 65535 h.short) refl

packets_limited : (q i : ℕ) (ps : List Packet) → q ≤ 8 → AllByRecursion (IsPacket q) ps → AllByRecursion (λ p. IsBytes p.bytes) ps → each fault.Limit (limited_packet q) i (map packet_text ps) ≡ Ok (map hex_packet ps)
packets_limited q i [] few a b = refl
packets_limited q i (p ∷ ps) few a b = rw (packet_limited q p few a.0 b.0, packets_limited q (suc i) ps few a.1 b.1) refl

packet_decoded : (p : Packet) → IsBytes p.bytes → packet_of (hex_packet p) ≡ Ok p
packet_decoded p b = rw (decode_of-encode_lower p.bytes b) refl

packets_decoded : (i : ℕ) (ps : List Packet) → AllByRecursion (λ p. IsBytes p.bytes) ps → each fault.Hex packet_of i (map hex_packet ps) ≡ Ok ps
packets_decoded i [] b = refl
packets_decoded i (p ∷ ps) b = rw (packet_decoded p b.0, packets_decoded (suc i) ps b.1) refl

-- a name that is no right one is a bad one
names_good : (n : ℕ) (ts : List Text) → are_names ts ≡ true → bad_name n ts ≡ None
names_good n [] e = refl
names_good n (t ∷ ts) e =
    let (free, rest) = and_parts (not (is_bad_first (t ∷ ts))) (are_names ts) e in
    rw (not-true _ free, names_good (suc n) ts rest)

-- ---- the whole

abbrev limits_of : SetupView → LimitedText
limits_of s = record {
  numbers = record { queues = s.queues; ifindex = s.ifindex; start = s.start };
  shapes = s.shapes;
  script = s.script;
  packets = map hex_packet s.packets;
}

numbers_limited : (s : SetupView) → IsSound s → HasFields s → limited_numbers (written s).numbers ≡ Ok (limits_of s).numbers
numbers_limited s h f =
    let i = f.ifindex in
    let b = f.start in
    rw (limited_all key.Queues s.queues h.some_queues h.few_queues, limited_all key.IfIndex s.ifindex (omega arith) (omega (arith, i)), limited_all key.Start s.start (omega arith) (omega (arith, b))) refl

rows_limited : (s : SetupView) → IsSound s → HasFields s → limited_rows (written s) (limits_of s).numbers ≡ Ok (limits_of s)
unfolding limited_rows limited_with
rows_limited s h f =
    rw (shapes_limited 0 s.names s.shapes s.values h.named h.shapes h.values, steps_limited s.queues 0 s.script h.few_queues h.script f.answers, packets_limited s.queues 0 s.packets h.few_queues h.packets f.packets) refl

lists_limited : (s : SetupView) → IsSound s → HasFields s → limited_lists (written s) (limits_of s).numbers ≡ Ok (limits_of s)
unfolding limited_lists
lists_limited s h f =
    let few : length (map map_text (named s.names s.shapes s.values)) ≤ 4 = rw (maps_counted s.names s.shapes s.values h.named h.values) h.few_maps in
    rw (le-leb (length (map map_text (named s.names s.shapes s.values))) 4 few) (rows_limited s h f)

written_limited : (s : SetupView) → IsSound s → HasFields s → limited_of (written s) ≡ Ok (limits_of s)
unfolding limited_of
written_limited s h f = rw (numbers_limited s h f) (lists_limited s h f)

written_decoded : (s : SetupView) → HasFields s → decoded_of (written s) (limits_of s) ≡ Ok (s.program, s.packets)
unfolding decoded_of
written_decoded s f = rw (decode_of-encode_lower s.program f.program, append-nil s.program, packets_decoded 0 s.packets f.packets) refl

written_relocated : (s : SetupView) → IsSound s → relocated_setup (written s) (limits_of s) (s.program, s.packets) ≡ Ok s
unfolding relocated_setup
written_relocated s h = rw (names_back s.names s.shapes s.values h.named h.values, values_back s.names s.shapes s.values h.named h.values) refl

limited_setup : (s : SetupView) → IsSound s → HasFields s → setup_of_limited (written s) (limits_of s) ≡ Ok s
unfolding setup_of_limited
limited_setup s h f = rw (names_back s.names s.shapes s.values h.named h.values, names_good 0 s.names h.names, written_decoded s f) (written_relocated s h)

whole_setup : (s : SetupView) → IsSound s → HasFields s → setup_of_table (document s) ≡ Ok s
unfolding setup_of_table
whole_setup s h f = rw (document_written s, written_limited s h f) (limited_setup s h f)

pub is_written : (s : SetupView) → IsSound s → HasFields s → IsWritten s
is_written s h f = (document s, whole_setup s h f)
