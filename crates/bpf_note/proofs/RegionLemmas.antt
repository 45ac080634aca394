-- Counters and their addresses, and the packet's region.
use Rattle.std.proofs.Common.{ℕ, ◌+◌, ◌-◌, ◌*◌, ◌/◌, ◌%◌, ◌≡◌, ◌<◌, ◌≤◌, List, length, Option, None, Some, refl, sym, ap, subst, ◌∙◌, arith, mul-le-mul}
use Rattle.std.specs.Prelude.{if◌then◌else◌, ◌==◌, ◌&&◌, nat_le, nat_lt, slice_get, Bool, true, false}
use Rattle.std.proofs.lemmas.Nat.{div-mul-add, mod-mul-add}
use Rattle.std.proofs.lemmas.Option.{slice_get_past, slice_get_within}
use Rattle.std.proofs.Math.Nat.{mul_comm, mul-le-mul_left, div-lt_iff_lt-mul, div-add-mod}
use Rattle.std.proofs.lemmas.Bool.Decides.{nat_tests}
use Rattle.bpf_note.specs.Narrow as narrow
use Rattle.bpf_note.specs.Narrow.{AreNarrow}
use Rattle.bpf_note.specs.Shape.{Shape, IsShape, AreShapes, IsNarrow, most_maps}
use Rattle.bpf_note.specs.State.{values_start}
use Rattle.bpf_note.specs.Regions.{Place, InCounter, InPacket, Nowhere, is_small, map_offset, map_near, counter_at, counter_from, counter_in, counter_past, counter_address, region, LiesAt}

pub value_of_number : (c k j : ℕ) → j < c → (c * k + j) / c ≡ k
value_of_number c k j h = rw (mul_comm c k) (div-mul-add k c j h)

pub counter_of_number : (c k j : ℕ) → j < c → (c * k + j) % c ≡ j
counter_of_number c k j h = rw (mul_comm c k) (mod-mul-add k c j h)

pub number_within : (c e k j : ℕ) → k < e → j < c → c * k + j < c * e
number_within c e k j h g = omega (arith, mul-le-mul_left c h)

pub chosen : {A : Type 0} (b : Bool) (x y : A) → b ≡ true → (if b then x else y) ≡ x
chosen true x y e = refl
chosen false x y e = cc

is_number : (at n size : ℕ) → at ≡ 8 * n → n < size → (at % 8 == 0 && nat_lt at (8 * size)) ≡ true
is_number at n size e h = grind (arith, nat_tests)

eighth : (at n : ℕ) → at ≡ 8 * n → at / 8 ≡ n
eighth at n e = omega arith

other : {A : Type 0} (b : Bool) (x y : A) → b ≡ false → (if b then x else y) ≡ y
other true x y e = cc
other false x y e = refl

pub counter_past_number : (s : Shape) (m n at : ℕ) → at ≡ 8 * n → n < s.counters * s.entries → counter_past s m at ≡ InCounter m (n / s.counters) (n % s.counters)
counter_past_number s m n at e h =
    chosen _ _ _ (is_number at n (s.counters * s.entries) e h) ∙ ap (λ x. InCounter m (x / s.counters) (x % s.counters)) (eighth at n e)

pub packet_reached : (len : ℕ) (shapes : List Shape) (a z i : ℕ) → region len shapes a z ≡ InPacket i → i + z ≤ len
unfolding region
packet_reached len shapes a z i e = grind (arith, nat_tests)

pub small_number : (size n : ℕ) → true ≡ nat_le size 8192 → n < size → 8 * n < 0x10000
small_number size n e h = grind (arith, nat_tests)

pub large_number : (c e n : ℕ) → c ≤ 8 → e ≤ 65536 → n < c * e → 8 * n < 0x400000
large_number c e n hc he h = omega (arith, mul-le-mul hc he)

pub near_small : (m r : ℕ) → m < most_maps → r < 0x10000 → map_near (0x10000 * m + r) ≡ m
near_small m r h g = chosen (nat_lt (0x10000 * m + r) 0x400000) _ _ (grind (arith, nat_tests)) ∙ omega arith

pub near_large : (m r : ℕ) → r < 0x400000 → map_near (0x400000 * (m + 1) + r) ≡ m
near_large m r g = other (nat_lt (0x400000 * (m + 1) + r) 0x400000) _ _ (grind (arith, nat_tests)) ∙ omega arith

-- a counter of map m is near map m alone
near_offset : (s : Shape) (m n : ℕ) → IsShape s → m < most_maps → n < s.counters * s.entries → map_near (map_offset s m + 8 * n) ≡ m
near_offset s m n is few inside = by (is_small s) refl
  where
    by : (b : Bool) → b ≡ is_small s → map_near ((if b then 0x10000 * m else 0x400000 * (m + 1)) + 8 * n) ≡ m
    by true e = near_small m (8 * n) few (small_number (s.counters * s.entries) n e inside)
    by false e = near_large m (8 * n) (large_number s.counters s.entries n is.most_counters is.most_entries inside)

in_map : (shapes : List Shape) (at n m : ℕ) (s : Shape) → n ≡ m → slice_get shapes m ≡ Some s → counter_in (slice_get shapes n) n at ≡ counter_in (Some s) m at
in_map shapes at n m s d e = ap (λ (x : ℕ). counter_in (slice_get shapes x) x at) d ∙ ap (λ (o : Option Shape). counter_in o m at) e

after_start : (s : Shape) (m o r : ℕ) → (if nat_le o (o + r) then counter_past s m (o + r - o) else Nowhere) ≡ counter_past s m r
after_start s m o r = chosen (nat_le o (o + r)) _ _ (grind (arith, nat_tests)) ∙ ap (counter_past s m) (omega arith)

counter_at_from : (shapes : List Shape) (at : ℕ) → counter_at shapes (values_start + at) ≡ counter_from shapes at
counter_at_from shapes at =
    chosen (nat_le values_start (values_start + at)) _ _ (grind (arith, nat_tests)) ∙ ap (counter_from shapes) (omega arith)

address_split : (o r : ℕ) → values_start + o + r ≡ values_start + (o + r)
address_split o r = omega arith

pub counter_at_address : (shapes : List Shape) (m k j : ℕ) (s : Shape) → m < most_maps → slice_get shapes m ≡ Some s → IsShape s → k < s.entries → j < s.counters → counter_at shapes (counter_address s m k j) ≡ InCounter m k j
counter_at_address shapes m k j s few e h hk hj =
    let n : ℕ = s.counters * k + j in
    let o : ℕ = map_offset s m in
    let inside : n < s.counters * s.entries = number_within s.counters s.entries k j hk hj in
    ap (counter_at shapes) (address_split o (8 * n)) ∙ counter_at_from shapes (o + 8 * n)
    ∙ in_map shapes (o + 8 * n) (map_near (o + 8 * n)) m s (near_offset s m n h few inside) e
    ∙ after_start s m o (8 * n) ∙ counter_past_number s m n (8 * n) refl inside
    ∙ ap (λ x. InCounter m x (n % s.counters)) (value_of_number s.counters k j hj) ∙ ap (InCounter m k) (counter_of_number s.counters k j hj)

-- what is said of the place of a counter that is found `at` bytes from the start of a map's values
pub record IsFound (s : Shape) (m at n k j : ℕ) : Type 0 where
  pub same_map : m ≡ n
  pub whole : at % 8 ≡ 0
  pub inside : at < 8 * (s.counters * s.entries)
  pub value : at / 8 / s.counters ≡ k
  pub counter : at / 8 % s.counters ≡ j

picked : (b : Bool) (m n k j k' j' : ℕ) → (if b then InCounter m k' j' else Nowhere) ≡ InCounter n k j → (b ≡ true) × (m ≡ n) × (k' ≡ k) × (j' ≡ j)
picked true m n k j k' j' e = (refl, cc, cc, cc)
picked false m n k j k' j' e = cc

whole_and_inside : (at size : ℕ) → (at % 8 == 0 && nat_lt at (8 * size)) ≡ true → (at % 8 ≡ 0) × (at < 8 * size)
whole_and_inside at size e = (grind (arith, nat_tests), grind (arith, nat_tests))

found_in : (s : Shape) (m at n k j : ℕ) → counter_past s m at ≡ InCounter n k j → IsFound s m at n k j
found_in s m at n k j e =
    let p = picked _ m n k j _ _ e in
    let q = whole_and_inside at (s.counters * s.entries) p.0 in
    record { same_map = p.1; whole = q.0; inside = q.1; value = p.2; counter = p.3 }

started : (b : Bool) (p : Place) (m k j : ℕ) → (if b then p else Nowhere) ≡ InCounter m k j → (b ≡ true) × (p ≡ InCounter m k j)
started true p m k j e = (refl, e)
started false p m k j e = cc

above : (start a : ℕ) → nat_le start a ≡ true → start ≤ a
above start a e = grind (arith, nat_tests)

-- the counter that is found at an address is one of the maps', and lies there
pub found_by : (o : Option Shape) (m at n k j : ℕ) → counter_in o m at ≡ InCounter n k j → (s : Shape) × (o ≡ Some s) × (map_offset s m ≤ at) × IsFound s m (at - map_offset s m) n k j
found_by None m at n k j e = cc
found_by (Some s) m at n k j e =
    let p = started (nat_le (map_offset s m) at) _ n k j e in
    (s, refl, above (map_offset s m) at p.0, found_in s m (at - map_offset s m) n k j p.1)

value_inside : (at c e : ℕ) → 1 ≤ c → at < 8 * (c * e) → at / 8 / c < e
value_inside at c e h g =
    let lt : at / 8 < e * c = omega (arith, mul_comm e c) in
    (div-lt_iff_lt-mul h).1 lt

counter_inside : (n c : ℕ) → 1 ≤ c → n % c < c
counter_inside n c h = omega arith

number_is : (n c : ℕ) → c * (n / c) + n % c ≡ n
number_is n c = div-add-mod n c

address_of : (a o r n : ℕ) → values_start ≤ a → o ≤ a - values_start → a - values_start - o ≡ r → r % 8 ≡ 0 → r / 8 ≡ n → a ≡ values_start + o + 8 * n
address_of a o r n h d q e f = omega arith

lies_at : (s : Shape) (a m k j : ℕ) → IsShape s → values_start ≤ a → map_offset s m ≤ a - values_start → IsFound s m (a - values_start - map_offset s m) m k j → LiesAt s m k j a
lies_at s a m k j h g start f =
    let r : ℕ = a - values_start - map_offset s m in
    let n : r / 8 ≡ s.counters * k + j = sym (number_is (r / 8) s.counters) ∙ ap (λ x. s.counters * x + r / 8 % s.counters) f.value ∙ ap (λ x. s.counters * k + x) f.counter in
    record {
      value = subst (λ x. x < s.entries) f.value (value_inside r s.counters s.entries h.some_counters f.inside);
      counter = subst (λ x. x < s.counters) f.counter (counter_inside (r / 8) s.counters h.some_counters);
      address = address_of a (map_offset s m) r (s.counters * k + j) g start refl f.whole n;
    }

-- the map is the one that is near
found_near : (shapes : List Shape) (at n m k j : ℕ) → n ≡ m → counter_in (slice_get shapes n) n at ≡ InCounter m k j → counter_in (slice_get shapes m) m at ≡ InCounter m k j
found_near shapes at n m k j d e = subst (λ (x : ℕ). counter_in (slice_get shapes x) x at ≡ InCounter m k j) d e

pub counter_found : (shapes : List Shape) (a m k j : ℕ) → AreShapes shapes →
    counter_at shapes a ≡ InCounter m k j → (s : Shape) × (slice_get shapes m ≡ Some s) × LiesAt s m k j a
counter_found shapes a m k j h e =
    let p = started (nat_le values_start a) _ m k j e in
    let n : ℕ = map_near (a - values_start) in
    let q = found_by (slice_get shapes n) n (a - values_start) m k j p.1 in
    let same : n ≡ m = q.3.same_map in
    let r = found_by (slice_get shapes m) m (a - values_start) m k j (found_near shapes (a - values_start) n m k j same p.1) in
    (r.0, r.1, lies_at r.0 a m k j (h m r.0 r.1) (above values_start a p.0) r.2 r.3)

-- narrow maps lie where they lay
narrow_size : (s : Shape) → IsNarrow s → s.counters * s.entries ≤ 8192
narrow_size s h = omega (arith, mul-le-mul h.most_counters h.most_entries)

is_at_most : (a b : ℕ) → a ≤ b → nat_le a b ≡ true
is_at_most a b h = grind (arith, nat_tests)

narrow_offset : (s : Shape) (m : ℕ) → IsNarrow s → map_offset s m ≡ 0x10000 * m
narrow_offset s m h = chosen (is_small s) _ _ (is_at_most (s.counters * s.entries) 8192 (narrow_size s h))

pub narrow_address : (s : Shape) (m k j : ℕ) → IsNarrow s → counter_address s m k j ≡ narrow.counter_address s.counters m k j
narrow_address s m k j h = ap (λ (o : ℕ). values_start + o + 8 * (s.counters * k + j)) (narrow_offset s m h)

narrow_start : (s : Shape) (m at o : ℕ) → o ≡ 0x10000 * m → at / 0x10000 ≡ m → (if nat_le o at then counter_past s m (at - o) else Nowhere) ≡ counter_past s m (at % 0x10000)
narrow_start s m at o e d = chosen (nat_le o at) _ _ (grind (arith, nat_tests)) ∙ ap (counter_past s m) (omega arith)

narrow_low : (o : Option Shape) (m at : ℕ) → ((s : Shape) → o ≡ Some s → IsNarrow s) → at / 0x10000 ≡ m → counter_in o m at ≡ narrow.counter_in o m (at % 0x10000)
narrow_low None m at h d = refl
narrow_low (Some s) m at h d = narrow_start s m at (map_offset s m) (narrow_offset s m (h s refl)) d

outside : (r size : ℕ) → size ≤ 8192 → 0x10000 ≤ r → (r % 8 == 0 && nat_lt r (8 * size)) ≡ false
outside r size h g = grind (arith, nat_tests)

narrow_past : (s : Shape) (m r : ℕ) → IsNarrow s → 0x10000 ≤ r → counter_past s m r ≡ Nowhere
narrow_past s m r h g = other _ _ _ (outside r (s.counters * s.entries) (narrow_size s h) g)

nowhere_either : (b : Bool) (p : Place) → p ≡ Nowhere → (if b then p else Nowhere) ≡ Nowhere
nowhere_either true p e = e
nowhere_either false p e = refl

narrow_high : (shapes : List Shape) (o : Option Shape) (m at : ℕ) → slice_get shapes m ≡ o → length shapes ≤ 4 → ((s : Shape) → o ≡ Some s → IsNarrow s) → 0x400000 ≤ at → counter_in o m at ≡ Nowhere
narrow_high shapes None m at e few h high = refl
narrow_high shapes (Some s) m at e few h high =
    let inside : m < length shapes = slice_get_within shapes m s e in
    let start : map_offset s m ≡ 0x10000 * m = narrow_offset s m (h s refl) in
    nowhere_either (nat_le (map_offset s m) at) _ (narrow_past s m (at - map_offset s m) (h s refl) (omega (arith, start, inside, few)))

narrow_by : (shapes : List Shape) (at : ℕ) (low : Bool) → low ≡ nat_lt at 0x400000 → AreNarrow shapes → length shapes ≤ 4 →
    (if low then counter_in (slice_get shapes (at / 0x10000)) (at / 0x10000) at else counter_in (slice_get shapes (at / 0x400000 - 1)) (at / 0x400000 - 1) at) ≡ narrow.counter_from shapes at
narrow_by shapes at true e h few = narrow_low (slice_get shapes (at / 0x10000)) (at / 0x10000) at (h (at / 0x10000)) refl
narrow_by shapes at false e h few =
    let high : 0x400000 ≤ at = grind (arith, nat_tests) in
    let past : length shapes ≤ at / 0x10000 = omega arith in
    narrow_high shapes (slice_get shapes (at / 0x400000 - 1)) (at / 0x400000 - 1) at refl few (h (at / 0x400000 - 1)) high
    ∙ sym (ap (λ (o : Option Shape). narrow.counter_in o (at / 0x10000) (at % 0x10000)) (slice_get_past shapes (at / 0x10000) past))

near_either : (shapes : List Shape) (at x y : ℕ) (low : Bool) → counter_in (slice_get shapes (if low then x else y)) (if low then x else y) at ≡ (if low then counter_in (slice_get shapes x) x at else counter_in (slice_get shapes y) y at)
near_either shapes at x y true = refl
near_either shapes at x y false = refl

narrow_from : (shapes : List Shape) (at : ℕ) → AreNarrow shapes → length shapes ≤ 4 → counter_from shapes at ≡ narrow.counter_from shapes at
narrow_from shapes at h few = near_either shapes at (at / 0x10000) (at / 0x400000 - 1) (nat_lt at 0x400000) ∙ narrow_by shapes at (nat_lt at 0x400000) refl h few

pub narrow_counter : (shapes : List Shape) (a : ℕ) → AreNarrow shapes → length shapes ≤ 4 → counter_at shapes a ≡ narrow.counter_at shapes a
narrow_counter shapes a h few = ap (λ (p : Place). if nat_le values_start a then p else Nowhere) (narrow_from shapes (a - values_start) h few)
