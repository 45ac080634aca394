-- Where loads of fewer than eight bytes find a counter.
use Rattle.std.proofs.Common.{ℕ, ◌+◌, ◌-◌, ◌*◌, ◌/◌, ◌%◌, ◌≡◌, ◌≢◌, ◌<◌, ◌≤◌, List, Option, None, Some, refl, sym, ap, ◌∙◌, arith}
use Rattle.std.specs.Prelude.{if◌then◌else◌, ◌==◌, ◌&&◌, nat_le, nat_lt, slice_get, Bool, true, false}
use Rattle.std.proofs.lemmas.Bool.Decides.{nat_tests}
use Rattle.bpf_note.specs.Shape.{Shape, IsShape, most_maps}
use Rattle.bpf_note.specs.State.{packet_start, stack_start, stack_end, context_start, values_start}
use Rattle.bpf_note.specs.Regions.{Place, InPacket, InStack, InContext, InCounter, Nowhere, region, lies_in, counter_from, counter_at, counter_address, map_near, map_offset, is_small, has_parts, is_part, load_place, HaveNoParts, counter_in, counter_past}
use Rattle.bpf_note.proofs.RegionLemmas.{chosen, number_within, small_number, large_number, near_small, near_large, counter_at_address}

-- what isn't nowhere lies below the values, if it has fewer than eight bytes
narrow_low : (len : ℕ) (shapes : List Shape) (a z : ℕ) → len ≤ 65535 → nat_lt z 8 ≡ true → region len shapes a z ≢ Nowhere → a < values_start
unfolding region
narrow_low len shapes a z short few n =
    by (lies_in packet_start (packet_start + len) a z) (lies_in stack_start stack_end a z) (lies_in context_start (context_start + 20) a z && z == 4 && a % 4 == 0) (z == 8) refl refl refl refl n
  where
    by : (p s c e : Bool) → lies_in packet_start (packet_start + len) a z ≡ p → lies_in stack_start stack_end a z ≡ s → (lies_in context_start (context_start + 20) a z && z == 4 && a % 4 == 0) ≡ c → (z == 8) ≡ e →
        ((if p then InPacket (a - packet_start) else if s then InStack (a - stack_start) else if c then InContext (a - context_start) else if e then counter_at shapes a else Nowhere) ≢ Nowhere) → a < values_start
    by true s c e f g h w n = grind (arith, nat_tests)
    by false true c e f g h w n = grind (arith, nat_tests)
    by false false true e f g h w n = grind (arith, nat_tests)
    by false false false true f g h w n = absurd (grind (arith, nat_tests))
    by false false false false f g h w n = absurd (n refl)

none_below : (shapes : List Shape) (a z : ℕ) → a < values_start → is_part shapes a z ≡ false
unfolding is_part
none_below shapes a z h = by (nat_le values_start a) refl
  where
    by : (b : Bool) → b ≡ nat_le values_start a → (b && nat_le (a % 8 + z) 8 && has_parts (slice_get shapes (map_near (a - values_start)))) ≡ false
    by true e = absurd (grind (arith, nat_tests))
    by false e = refl

neither : (shapes : List Shape) (a z : ℕ) (len : ℕ) → is_part shapes a z ≡ false → load_place len shapes a z ≡ region len shapes a z
neither shapes a z len e = by (nat_lt z 8) (is_part shapes a z) e
  where
    by : (n p : Bool) → p ≡ false → (if n && p then counter_at shapes (a - a % 8) else region len shapes a z) ≡ region len shapes a z
    by true true e = cc
    by true false e = refl
    by false p e = refl

-- below the values a load finds what a region holds
pub below_values : (len : ℕ) (shapes : List Shape) (a z : ℕ) → a < values_start → load_place len shapes a z ≡ region len shapes a z
below_values len shapes a z low = neither shapes a z len (none_below shapes a z low)

-- a load of what a region holds finds it there
pub in_region : (len : ℕ) (shapes : List Shape) (a z : ℕ) → len ≤ 65535 → region len shapes a z ≢ Nowhere → load_place len shapes a z ≡ region len shapes a z
in_region len shapes a z short n = by (nat_lt z 8) refl
  where
    by : (b : Bool) → nat_lt z 8 ≡ b → (if b && is_part shapes a z then counter_at shapes (a - a % 8) else region len shapes a z) ≡ region len shapes a z
    by true e = ap (λ (p : Bool). if p then counter_at shapes (a - a % 8) else region len shapes a z) (none_below shapes a z (narrow_low len shapes a z short e n))
    by false e = refl

no_parts_of : (shapes : List Shape) (m : ℕ) (o : Option Shape) → slice_get shapes m ≡ o → HaveNoParts shapes → has_parts o ≡ false
no_parts_of shapes m None e h = refl
no_parts_of shapes m (Some shape) e h = h m shape e

-- without parts a load finds what a region holds
pub without_parts : (len : ℕ) (shapes : List Shape) (a z : ℕ) → HaveNoParts shapes → load_place len shapes a z ≡ region len shapes a z
unfolding is_part
without_parts len shapes a z h = neither shapes a z len (by (nat_le values_start a) (nat_le (a % 8 + z) 8) (has_parts (slice_get shapes (map_near (a - values_start)))) (no_parts_of shapes (map_near (a - values_start)) (slice_get shapes (map_near (a - values_start))) refl h))
  where
    by : (v f p : Bool) → p ≡ false → (v && f && p) ≡ false
    by true true p e = e
    by true false p e = refl
    by false f p e = refl

-- a byte of a counter of map m is near map m alone
near_byte : (s : Shape) (m n b : ℕ) → IsShape s → m < most_maps → n < s.counters * s.entries → b < 8 → map_near (map_offset s m + (8 * n + b)) ≡ m
near_byte s m n b is few inside low = by (is_small s) refl
  where
    by : (t : Bool) → t ≡ is_small s → map_near ((if t then 0x10000 * m else 0x400000 * (m + 1)) + (8 * n + b)) ≡ m
    by true e = near_small m (8 * n + b) few (omega (arith, low, small_number (s.counters * s.entries) n e inside))
    by false e = near_large m (8 * n + b) (omega (arith, low, large_number s.counters s.entries n is.most_counters is.most_entries inside))

offset_whole : (s : Shape) (m n : ℕ) → (values_start + map_offset s m + 8 * n) % 8 ≡ 0
offset_whole s m n = by (is_small s)
  where
    by : (t : Bool) → (values_start + (if t then 0x10000 * m else 0x400000 * (m + 1)) + 8 * n) % 8 ≡ 0
    by true = omega arith
    by false = omega arith

byte_of_eight : (x b : ℕ) → x % 8 ≡ 0 → b < 8 → (x + b) % 8 ≡ b
byte_of_eight x b e h = omega (arith, e, h)

back_to_eight : (x b : ℕ) → x % 8 ≡ 0 → b < 8 → x + b - (x + b) % 8 ≡ x
back_to_eight x b e h = omega (arith, e, h)

is_byte : (shapes : List Shape) (a m z b : ℕ) (s : Shape) → values_start ≤ a → a % 8 ≡ b → b + z ≤ 8 → map_near (a - values_start) ≡ m → slice_get shapes m ≡ Some s → s.parts ≡ true → is_part shapes a z ≡ true
unfolding is_part
is_byte shapes a m z b s high at fits near e parts =
    let there : has_parts (slice_get shapes (map_near (a - values_start))) ≡ true = ap (λ (x : ℕ). has_parts (slice_get shapes x)) near ∙ ap has_parts e ∙ parts in
    by (nat_le values_start a) (nat_le (a % 8 + z) 8) (has_parts (slice_get shapes (map_near (a - values_start)))) (grind (arith, nat_tests)) (grind (arith, nat_tests)) there
  where
    by : (v f p : Bool) → v ≡ true → f ≡ true → p ≡ true → (v && f && p) ≡ true
    by v f p d e g = cc

picked : (len : ℕ) (shapes : List Shape) (a z x : ℕ) → z < 8 → is_part shapes a z ≡ true → a - a % 8 ≡ x → load_place len shapes a z ≡ counter_at shapes x
picked len shapes a z x few part back = by (nat_lt z 8) (is_part shapes a z) (grind (arith, nat_tests)) part ∙ ap (counter_at shapes) back
  where
    by : (n p : Bool) → n ≡ true → p ≡ true → (if n && p then counter_at shapes (a - a % 8) else region len shapes a z) ≡ counter_at shapes (a - a % 8)
    by n p d e = chosen (n && p) _ _ cc

-- each part of a counter of a map that has parts is found in that counter
pub part_found : (len : ℕ) (shapes : List Shape) (m k j b z : ℕ) (s : Shape) → m < most_maps → slice_get shapes m ≡ Some s → IsShape s → k < s.entries → j < s.counters → s.parts ≡ true → 1 ≤ z → z < 8 → b + z ≤ 8 →
    load_place len shapes (counter_address s m k j + b) z ≡ InCounter m k j
part_found len shapes m k j b z s few e is hk hj parts some narrow fits =
    let n : ℕ = s.counters * k + j in
    let inside : s.counters * k + j < s.counters * s.entries = number_within s.counters s.entries k j hk hj in
    let low : b < 8 = omega (arith, some, fits) in
    let whole : counter_address s m k j % 8 ≡ 0 = offset_whole s m (s.counters * k + j) in
    let near : map_near (counter_address s m k j + b - values_start) ≡ m =
    ap map_near (past (map_offset s m) (s.counters * k + j) b) ∙ near_byte s m (s.counters * k + j) b is few inside low in
    picked len shapes (counter_address s m k j + b) z (counter_address s m k j) narrow
    (is_byte shapes (counter_address s m k j + b) m z b s (high (map_offset s m) (s.counters * k + j) b) (byte_of_eight (counter_address s m k j) b whole low) fits near e parts)
    (back_to_eight (counter_address s m k j) b whole low)
    ∙ counter_at_address shapes m k j s few e is hk hj
  where
    past : (o n b : ℕ) → values_start + o + 8 * n + b - values_start ≡ o + (8 * n + b)
    past o n b = omega arith

    high : (o n b : ℕ) → values_start ≤ values_start + o + 8 * n + b
    high o n b = omega arith

past_apart : (s : Shape) (m r j : ℕ) → counter_past s m r ≡ InStack j → ⊥
past_apart s m r j e = by (r % 8 == 0 && nat_lt r (8 * (s.counters * s.entries))) e
  where
    by : (b : Bool) → (if b then InCounter m (r / 8 / s.counters) (r / 8 % s.counters) else Nowhere) ≡ InStack j → ⊥
    by true e = cc
    by false e = cc

counter_apart : (o : Option Shape) (m at j : ℕ) → counter_in o m at ≡ InStack j → ⊥
counter_apart None m at j e = cc
counter_apart (Some s) m at j e = by (nat_le (map_offset s m) at) e
  where
    by : (b : Bool) → (if b then counter_past s m (at - map_offset s m) else Nowhere) ≡ InStack j → ⊥
    by true e = past_apart s m (at - map_offset s m) j e
    by false e = cc

-- what a load finds on the stack lies there
pub on_stack : (len : ℕ) (shapes : List Shape) (a z j : ℕ) → load_place len shapes a z ≡ InStack j → region len shapes a z ≡ InStack j
on_stack len shapes a z j e = by (nat_lt z 8 && is_part shapes a z) e
  where
    apart : (b : Bool) (x : ℕ) → (if b then counter_from shapes x else Nowhere) ≡ InStack j → ⊥
    apart true x e = counter_apart (slice_get shapes (map_near x)) (map_near x) x j e
    apart false x e = cc

    by : (b : Bool) → (if b then counter_at shapes (a - a % 8) else region len shapes a z) ≡ InStack j → region len shapes a z ≡ InStack j
    by true e = absurd (apart (nat_le values_start (a - a % 8)) (a - a % 8 - values_start) e)
    by false e = e
