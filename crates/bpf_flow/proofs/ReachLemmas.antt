-- What an access that the rule allows reaches.
use Rattle.std.proofs.Common.{◌≡◌, ℕ, zero, suc, ◌+◌, ◌-◌, ◌*◌, ◌/◌, ◌%◌, ◌^◌, ◌<◌, ◌≤◌, Bool, true, false, refl, Option, Some, None, List, [], ◌∷◌, length, subst, sym, ap, ◌∙◌, arith, mul-le-mul, ℤ, pos, negsuc, ◌+ℤ◌}
use Rattle.std.specs.Prelude.{if◌then◌else◌, nat_le, slice_get, Ok}
use Rattle.std.proofs.lemmas.Bool.Decides.{nat_tests}
use Rattle.std.proofs.lemmas.Int.{ints}
use Rattle.bpf_note.specs.declared.val.Val.{Val}
use Rattle.bpf_note.specs.declared.val.Val.TheVariants.{Unset, Num, Pkt, PktEnd, Stack, Ctx, Map, MaybeValue, Value}
use Rattle.bpf_note.specs.Shape.{Shape, IsShape, most_maps}
use Rattle.bpf_note.specs.State.{State, packet_start, stack_start, stack_end, context_start, values_start}
use Rattle.bpf_note.specs.Regions.{Place, InStack, InCounter, Nowhere, region, is_small, map_offset, counter_at, counter_address}
use Rattle.bpf_note.specs.Regions as place
use Rattle.bpf_note.specs.Facts.{Facts}
use Rattle.bpf_note.specs.Describes.{meaning, Describes, IsReading, IsValueOf}
use Rattle.bpf_note.proofs.RegionLemmas.{counter_at_address}
use Rattle.bpf_flow.specs.Step.{address, reached}
use Rattle.bpf_flow.specs.Memory.{place_in, packet_place, in_packet, on_stack, reach}
use Rattle.bpf_flow.specs.declared.access.Access.{Access}
use Rattle.bpf_flow.specs.declared.access.Access.TheVariants.{InPacket, OnStack, InContext, AtValue}
use Rattle.bpf_flow.proofs.AnswerLemmas.{same_ok, same_some}

pub some_inside : {A : Type 0} (xs : List A) (k : ℕ) (x : A) → slice_get xs k ≡ Some x → k < length xs
some_inside [] k x e = cc
some_inside (y ∷ ys) zero x e = omega arith
some_inside (y ∷ ys) (suc k) x e = let r = some_inside ys k x e in omega (arith, r)

shift_up : (a n p : ℕ) → a + n ≡ p → p < 2 ^ 64 → (a + n % 2 ^ 64) % 2 ^ 64 ≡ p
shift_up a n p e f = omega arith

shift_down : (a n p : ℕ) → a ≡ p + suc n → a < 2 ^ 64 → (a + (2 ^ 64 - 1 - n % 2 ^ 64)) % 2 ^ 64 ≡ p
shift_down a n p e f = omega arith

-- an address plus an offset, where the sum is a word
pub shift_is : (a p : ℕ) (o : ℤ) → pos a +ℤ o ≡ pos p → a < 2 ^ 64 → p < 2 ^ 64 → address a o ≡ p
shift_is a p (pos n) e fa fp = shift_up a n p (omega (arith, ints)) fp
shift_is a p (negsuc n) e fa fp = shift_down a n p (omega (arith, ints)) fa

pub place_in_ok : (at : ℤ) (z limit p : ℕ) → place_in at z limit ≡ Some p → (at ≡ pos p) × (p + z ≤ limit)
place_in_ok (pos q) z limit p h = by (nat_le (q + z) limit) refl h
  where
    by : (b : Bool) → b ≡ nat_le (q + z) limit → (if b then Some q else None) ≡ Some p → (pos q ≡ pos p) × (p + z ≤ limit)
    by true e h = let s : q ≡ p = same_some q p h in (ap pos s, subst (λ (p : ℕ). p + z ≤ limit) s (grind (arith, nat_tests)))
    by false e h = absurd (cc)
place_in_ok (negsuc m) z limit p h = absurd (cc)

region_packet : (len : ℕ) (shapes : List Shape) (i z : ℕ) → i + z ≤ len → region len shapes (packet_start + i) z ≡ place.InPacket i
unfolding region
region_packet len shapes i z h = grind (arith, nat_tests)

pub region_stack : (len : ℕ) (shapes : List Shape) (i z : ℕ) → len ≤ 65535 → i + z ≤ 512 → region len shapes (stack_start + i) z ≡ InStack i
unfolding region
region_stack len shapes i z short h = grind (arith, nat_tests)

region_context : (len : ℕ) (shapes : List Shape) (at : ℕ) → len ≤ 65535 → at ≤ 16 → at % 4 ≡ 0 → region len shapes (context_start + at) 4 ≡ place.InContext at
unfolding region
region_context len shapes at short most whole = grind (arith, nat_tests)

region_value : (len : ℕ) (shapes : List Shape) (a : ℕ) → len ≤ 65535 → values_start ≤ a → region len shapes a 8 ≡ counter_at shapes a
unfolding region
region_value len shapes a short h = grind (arith, nat_tests)

-- what the access reaches, where the address plus the offset lies in this place
abbrev pub Reaches : State → Access → ℕ → Place → Type 0
Reaches s InPacket z p = (i : ℕ) × (p ≡ place.InPacket i) × (i + z ≤ length s.packet)
Reaches s (OnStack i) z p = (p ≡ InStack i) × (i + z ≤ 512)
Reaches s (InContext o) z p = (at : ℕ) → o ≡ pos at → at ≤ 16 → at % 4 ≡ 0 → z ≡ 4 → p ≡ place.InContext at
Reaches s (AtValue m o) z p = (c : Shape) (at : ℕ) → slice_get s.shapes m ≡ Some c → o ≡ pos at → at % 8 ≡ 0 → at < 8 * c.counters → z ≡ 8 → (k : ℕ) × (j : ℕ) × (p ≡ InCounter m k j)

in_packet_ok : (safe : Option ℕ) (at : ℤ) (z : ℕ) (a : Access) → in_packet safe at z ≡ Ok a → (b : ℕ) × (p : ℕ) × (safe ≡ Some b) × (at ≡ pos p) × (p + z ≤ b) × (a ≡ InPacket)
in_packet_ok None at z a h = absurd (cc)
in_packet_ok (Some b) at z a h = by (place_in at z b) refl h
  where
    by : (o : Option ℕ) → o ≡ place_in at z b → packet_place o ≡ Ok a → (c : ℕ) × (p : ℕ) × (Some b ≡ Some c) × (at ≡ pos p) × (p + z ≤ c) × (a ≡ InPacket)
    by None e h = absurd (cc)
    by (Some p) e h = let q = place_in_ok at z b p (sym e) in (b, p, refl, q.0, q.1, sym (same_ok InPacket a h))

on_stack_ok : (at : ℤ) (z : ℕ) (a : Access) → on_stack (place_in at z 512) ≡ Ok a → (p : ℕ) × (at ≡ pos p) × (p + z ≤ 512) × (a ≡ OnStack p)
on_stack_ok at z a h = by (place_in at z 512) refl h
  where
    by : (o : Option ℕ) → o ≡ place_in at z 512 → on_stack o ≡ Ok a → (p : ℕ) × (at ≡ pos p) × (p + z ≤ 512) × (a ≡ OnStack p)
    by None e h = absurd (cc)
    by (Some p) e h = let q = place_in_ok at z 512 p (sym e) in (p, q.0, q.1, sym (same_ok (OnStack p) a h))

moved_packet : (a b off p : ℕ) (o : ℤ) → a ≡ packet_start + b + off → pos off +ℤ o ≡ pos p → pos a +ℤ o ≡ pos (packet_start + (b + p))
moved_packet a b off p o e f = omega (arith, ints, e, f)

moved_stack : (a p : ℕ) (off o : ℤ) → pos a ≡ pos stack_end +ℤ off → pos 512 +ℤ off +ℤ o ≡ pos p → pos a +ℤ o ≡ pos (stack_start + p)
moved_stack a p off o e f = omega (arith, ints, e, f)

further : (start n at a : ℕ) → a ≡ start + 8 * (n + 0) → at % 8 ≡ 0 → a + at ≡ start + 8 * (n + at / 8)
further start n at a e whole = omega (arith, e, whole)

counter_further : (c : Shape) (m k at a : ℕ) → a ≡ counter_address c m k 0 → at % 8 ≡ 0 → a + at ≡ counter_address c m k (at / 8)
counter_further c m k at a e whole = further (values_start + map_offset c m) (c.counters * k) at a e whole

pub map_small : (shapes : List Shape) (m : ℕ) (c : Shape) → slice_get shapes m ≡ Some c → length shapes ≤ most_maps → m < most_maps
map_small shapes m c e few = omega (arith, some_inside shapes m c e, few)

offset_below : (small : Bool) (m : ℕ) → m < most_maps → (if small then 0x10000 * m else 0x400000 * (m + 1)) ≤ 0x4000000
offset_below true m few = omega arith
offset_below false m few = omega arith

address_below : (start n j : ℕ) → start ≤ 0x4000000 → n ≤ 8 * 65536 → j < 8 → values_start + start + 8 * (n + j) < 0x45000000
address_below start n j h g l = omega arith

-- all counters lie below the references
pub counter_below : (c : Shape) (m k j : ℕ) → m < most_maps → IsShape c → k < c.entries → j < c.counters → counter_address c m k j < 0x45000000
counter_below c m k j few is hk hj =
    let few' : k ≤ 65536 = omega (arith, hk, is.most_entries) in
    let some : c.counters * k ≤ 8 * 65536 = mul-le-mul is.most_counters few' in
    address_below (map_offset c m) (c.counters * k) j (offset_below (is_small c) m few) some (omega (arith, hj, is.most_counters))

pub counter_fits : (c : Shape) (m k j : ℕ) → m < most_maps → IsShape c → k < c.entries → j < c.counters → counter_address c m k j < 2 ^ 64
counter_fits c m k j few is hk hj = omega (arith, counter_below c m k j few is hk hj)

above_start : (start n : ℕ) → values_start ≤ values_start + start + 8 * n
above_start start n = omega arith

module _ (n : Facts) (s : State) (d : Describes n s) (a : ℕ) (fits : a < 2 ^ 64) (o : ℤ) (z : ℕ) where
  abbrev there : Place
  there = reached s a o z

  packet_reaches : (id off : ℕ) (access : Access) → IsReading (meaning s d.base d.address) (Pkt id off) a → in_packet (n.safe id) (pos off +ℤ o) z ≡ Ok access → Reaches s access z there
  packet_reaches id off access r h =
      let q = in_packet_ok (n.safe id) (pos off +ℤ o) z access h in
      let bound = d.safes id q.0 q.2 in
      let inside : d.base id + q.1 + z ≤ length s.packet = omega (arith, bound, q.4) in
      let at : address a o ≡ packet_start + (d.base id + q.1) = shift_is a (packet_start + (d.base id + q.1)) o (moved_packet a (d.base id) off q.1 o r.0 q.3) fits (omega (arith, d.state.packet_size, inside)) in
      subst (λ (x : Access). Reaches s x z there) (sym q.5)
      (d.base id + q.1, ap (λ (b : ℕ). region (length s.packet) s.shapes b z) at ∙ region_packet (length s.packet) s.shapes (d.base id + q.1) z inside, inside)

  stack_reaches : (off : ℤ) (access : Access) → IsReading (meaning s d.base d.address) (Stack off) a → on_stack (place_in (pos 512 +ℤ off +ℤ o) z 512) ≡ Ok access → Reaches s access z there
  stack_reaches off access r h =
      let q = on_stack_ok (pos 512 +ℤ off +ℤ o) z access h in
      let at : address a o ≡ stack_start + q.0 = shift_is a (stack_start + q.0) o (moved_stack a q.0 off o r.0 q.1) fits (omega (arith, q.2)) in
      subst (λ (x : Access). Reaches s x z there) (sym q.3)
      (ap (λ (b : ℕ). region (length s.packet) s.shapes b z) at ∙ region_stack (length s.packet) s.shapes q.0 z d.state.packet_size q.2, q.2)

  context_reaches : IsReading (meaning s d.base d.address) Ctx a → Reaches s (InContext o) z there
  context_reaches r at e most whole four =
      let sum : pos a +ℤ o ≡ pos (context_start + at) = ap (λ (o : ℤ). pos a +ℤ o) e ∙ omega (arith, ints, r) in
      let is : address a o ≡ context_start + at = shift_is a (context_start + at) o sum fits (omega (arith, most)) in
      ap (λ (b : ℕ). region (length s.packet) s.shapes b z) is ∙ (ap (region (length s.packet) s.shapes (context_start + at)) four ∙ region_context (length s.packet) s.shapes at d.state.packet_size most whole)

  value_by : (m : ℕ) (shape : Option Shape) → slice_get s.shapes m ≡ shape → IsValueOf shape m a → Reaches s (AtValue m o) z there
  value_by m None e r c at f g whole inside eight = absurd r
  value_by m (Some shape) e r c at f g whole inside eight =
      let same : c ≡ shape = same_some c shape (sym f ∙ e) in
      let j : at / 8 < shape.counters = subst (λ (c : Shape). at / 8 < c.counters) same (omega (arith, inside)) in
      let is_shape = d.state.shapes m shape e in
      let place : address a o ≡ counter_address shape m r.0 (at / 8) =
      shift_is a (counter_address shape m r.0 (at / 8)) o
      (ap (λ (o : ℤ). pos a +ℤ o) g ∙ ap pos (counter_further shape m r.0 at a r.2 whole)) fits
      (counter_fits shape m r.0 (at / 8) (map_small s.shapes m shape e d.state.maps) is_shape r.1 j) in (
        r.0,
        at / 8,
        ap (λ (b : ℕ). region (length s.packet) s.shapes b z) place
            ∙ (ap (region (length s.packet) s.shapes (counter_address shape m r.0 (at / 8))) eight
            ∙ (region_value (length s.packet) s.shapes (counter_address shape m r.0 (at / 8)) d.state.packet_size (above_start (map_offset shape m) (shape.counters * r.0 + at / 8))
            ∙ counter_at_address s.shapes m r.0 (at / 8) shape (map_small s.shapes m shape e d.state.maps) e is_shape r.1 j)),
      )

  -- an access that the rule allows lies where it says
  pub access_reaches : (v : Val) (access : Access) → IsReading (meaning s d.base d.address) v a → reach n v o z ≡ Ok access → Reaches s access z there
  access_reaches Unset access r h = absurd (cc)
  access_reaches (Num lo hi) access r h = absurd (cc)
  access_reaches (Pkt id off) access r h = packet_reaches id off access r h
  access_reaches PktEnd access r h = absurd (cc)
  access_reaches (Stack off) access r h = stack_reaches off access r h
  access_reaches Ctx access r h = subst (λ (x : Access). Reaches s x z there) (same_ok (InContext o) access h) (context_reaches r)
  access_reaches (Map m) access r h = absurd (cc)
  access_reaches (MaybeValue m id) access r h = absurd (cc)
  access_reaches (Value m) access r h = subst (λ (x : Access). Reaches s x z there) (same_ok (AtValue m o) access h) (value_by m (slice_get s.shapes m) refl r)
