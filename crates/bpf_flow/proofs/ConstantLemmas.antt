-- Loads through a value: of constants, of a part of a counter, or of what the value's region holds.
use Rattle.std.proofs.Common.{◌≡◌, ◌≢◌, ℕ, zero, suc, ◌+◌, ◌-◌, ◌*◌, ◌/◌, ◌%◌, ◌^◌, ◌<◌, ◌≤◌, Bool, true, false, refl, Option, Some, None, List, length, nat_eq, subst, sym, ap, ◌∙◌, arith, ℤ, pos, negsuc}
use Rattle.std.specs.Prelude.{if◌then◌else◌, ◌&&◌, nat_le, nat_lt, slice_get, Ok}
use Rattle.std.proofs.lemmas.Bool.Decides.{nat_tests}
use Rattle.bpf_insn.specs.Signed.{sign_extended}
use Rattle.bpf_insn.specs.Size.{size_bytes}
use Rattle.bpf_insn.specs.declared.size.Size.{Size}
use Rattle.bpf_insn.specs.declared.size.Size.TheVariants.{Byte, Half, Word, Double}
use Rattle.bpf_note.specs.declared.val.Val.{Val}
use Rattle.bpf_note.specs.declared.val.Val.TheVariants.{Unset, Num, Pkt, PktEnd, Stack, Ctx, Map, MaybeValue, Value}
use Rattle.bpf_note.specs.Bytes.{bytes_of, number_of}
use Rattle.bpf_note.specs.Keys.{constant_bytes}
use Rattle.bpf_note.specs.Constants.{bytes_in, bytes_left, map_of, place_of, are_constants, constant_byte, constants_from, constants_at}
use Rattle.bpf_note.specs.Describes.{meaning, Describes, IsReading, IsValueOf}
use Rattle.bpf_note.specs.Facts.{Facts, with_reg}
use Rattle.bpf_note.specs.Regions.{Place, Nowhere, region, InCounter, load_place, counter_address, map_offset, HaveNoParts}
use Rattle.bpf_note.specs.Shape.{Shape, AreShapes}
use Rattle.bpf_note.specs.State.{State, constants_start, values_start}
use Rattle.bpf_note.specs.Constants.{HaveNoConstants}
use Rattle.bpf_note.proofs.ConstantLemmas.{none_at_all, left_further, left_small, none_above, none_elsewhere}
use Rattle.bpf_flow.specs.Step.{Outcome, address, is_frame, load_at, load_constants, load_from, taken}
use Rattle.bpf_flow.specs.Edges.{Edges, and_then, goes_to}
use Rattle.bpf_flow.specs.Memory.{any_loaded, is_data, load_value, loaded_value, reach, is_part_of}
use Rattle.bpf_flow.specs.Sound.{Accounts}
use Rattle.bpf_flow.proofs.AnswerLemmas.{and_then_ok, same_ok, unless_again}
use Rattle.bpf_flow.proofs.LoadLemmas.{load_sound, loaded_reads, power_suc, taken_fits, part_arrives}
use Rattle.bpf_flow.proofs.ReachLemmas.{access_reaches, shift_is, map_small, counter_below}
use Rattle.bpf_flow.proofs.RegisterLemmas.{sets_sound}
use Rattle.bpf_insn.specs.declared.refusal.Cause.TheVariants as cause
use Rattle.bpf_note.proofs.LoadPlaceLemmas.{in_region, part_found, without_parts}

some_bytes : (size : Size) → 1 ≤ size_bytes size
some_bytes Byte = omega arith
some_bytes Half = omega arith
some_bytes Word = omega arith
some_bytes Double = omega arith

byte_small : (o : Option ℕ) → constant_byte o < 256
byte_small None = omega arith
byte_small (Some b) = omega arith

-- constants hold a number of their size
constants_number : (find : ℕ → List ℕ → Option ℕ) (m i z : ℕ) → number_of (constants_from find m i z) < 256 ^ z
constants_number find m i zero = omega arith
constants_number find m i (suc z) = omega (arith, power_suc z, byte_small (find m (bytes_of 4 i)), constants_number find m (i + 1) z)

is_left : (shapes : List Shape) (a z : ℕ) → are_constants shapes a z ≡ true → z ≤ bytes_left shapes a
is_left shapes a z e = grind (arith, nat_tests)

are_left : (shapes : List Shape) (a z : ℕ) → z ≤ bytes_left shapes a → are_constants shapes a z ≡ true
are_left shapes a z h = grind (arith, nat_tests)

none_left : (shapes : List Shape) (a z : ℕ) → 1 ≤ z → bytes_left shapes a ≡ 0 → are_constants shapes a z ≡ false
none_left shapes a z h e = grind (arith, nat_tests)

below_values : (shapes : List Shape) (a : ℕ) → 0 < bytes_left shapes a → a < values_start
below_values shapes a some = by (nat_le values_start a) refl
  where
    by : (b : Bool) → b ≡ nat_le values_start a → a < values_start
    by true e = absurd (omega (arith, some, none_above shapes a (grind (arith, nat_tests))))
    by false e = grind (arith, nat_tests)

sum_moved : (lo x s : ℕ) → lo ≤ x → (lo + s) % 2 ^ 64 + (x - lo) < 2 ^ 64 → (x + s) % 2 ^ 64 ≡ (lo + s) % 2 ^ 64 + (x - lo)
sum_moved lo x s h fits = omega arith

-- a load of what lies elsewhere is no load of constants
pub plain_load : (s : State) (a : ℕ) (signed : Bool) (size : Size) (k : ℕ) → bytes_left s.shapes a ≡ 0 → load_at s a signed size k ≡ load_from a (load_place (length s.packet) s.shapes a (size_bytes size)) s signed size k
plain_load s a signed size k none =
    ap (λ (b : Bool). if b then load_constants s a signed size k else load_from a (load_place (length s.packet) s.shapes a (size_bytes size)) s signed size k) (none_left s.shapes a (size_bytes size) (some_bytes size) none)

-- whichever number of the range it is
constant_there : (shapes : List Shape) (lo hi x z : ℕ) (o : ℤ) → AreShapes shapes → 1 ≤ z → lo ≤ x → x ≤ hi →
    are_constants shapes (address lo o) (hi - lo + z) ≡ true → are_constants shapes (address x o) z ≡ true
constant_there shapes lo hi x z o are some low high e =
    let a : ℕ = address lo o in
    let left : hi - lo + z ≤ bytes_left shapes (address lo o) = is_left shapes (address lo o) (hi - lo + z) e in
    let small : bytes_left shapes (address lo o) ≤ 65536 = left_small shapes (address lo o) are in
    let below : address lo o < values_start = below_values shapes (address lo o) (omega (arith, left, some)) in
    let near : x - lo + z ≤ hi - lo + z = omega (arith, low, high) in
    let moved : address x o ≡ address lo o + (x - lo) = sum_moved lo x (sign_extended o) low (omega (arith, left, small, below, near)) in
    let further : bytes_left shapes (address lo o + (x - lo)) ≡ bytes_left shapes (address lo o) - (x - lo) = left_further shapes (address lo o) (x - lo) are (omega (arith, left, near, some)) in
    let rest : z ≤ bytes_left shapes (address lo o + (x - lo)) = omega (arith, further, left, near) in
    ap (λ (b : ℕ). are_constants shapes b z) moved ∙ are_left shapes (address lo o + (x - lo)) z rest

there_by : (shapes : List Shape) (a : ℕ) (o : Option Shape) → slice_get shapes (map_of a) ≡ o → 0 < bytes_in o → (shape : Shape) × (slice_get shapes (map_of a) ≡ Some shape) × (0 < constant_bytes shape.key)
there_by shapes a None e h = absurd (omega arith)
there_by shapes a (Some shape) e h = (shape, e, h)

left_in : (shapes : List Shape) (a : ℕ) → 0 < bytes_left shapes a → 0 < bytes_in (slice_get shapes (map_of a))
unfolding bytes_left
left_in shapes a h = by (nat_le constants_start a && nat_lt a values_start) h
  where
    by : (b : Bool) → 0 < (if b then bytes_in (slice_get shapes (map_of a)) - place_of a else 0) → 0 < bytes_in (slice_get shapes (map_of a))
    by true h = omega (arith, h)
    by false h = absurd (omega arith)

-- where constants lie, a map has some
pub constants_there : (shapes : List Shape) (a z : ℕ) → 0 < z → are_constants shapes a z ≡ true → (shape : Shape) × (slice_get shapes (map_of a) ≡ Some shape) × (0 < constant_bytes shape.key)
constants_there shapes a z some e =
    there_by shapes a (slice_get shapes (map_of a)) refl (left_in shapes a (omega (arith, some, is_left shapes a z e)))

-- where no map has constants or parts
pub plain_step : (s : State) (a : ℕ) (signed : Bool) (size : Size) (k : ℕ) → HaveNoConstants s.shapes → HaveNoParts s.shapes → load_at s a signed size k ≡ load_from a (region (length s.packet) s.shapes a (size_bytes size)) s signed size k
plain_step s a signed size k none whole = plain_load s a signed size k (none_at_all s.shapes a none) ∙ ap (λ (p : Place). load_from a p s signed size k) (without_parts (length s.packet) s.shapes a (size_bytes size) whole)

none_of_shape : (parts narrow fits inside : Bool) → parts ≡ false → (parts && narrow && fits && inside) ≡ false
none_of_shape true narrow fits inside e = cc
none_of_shape false narrow fits inside e = refl

no_part : (shapes : List Shape) (m : ℕ) (shape : Option Shape) (o : ℤ) (z : ℕ) → slice_get shapes m ≡ shape → HaveNoParts shapes → is_part_of shape o z ≡ false
no_part shapes m None o z e none = refl
no_part shapes m (Some shape) (pos at) z e none = none_of_shape shape.parts (nat_lt z 8) (nat_le (at % 8 + z) 8) (nat_lt at (8 * shape.counters)) (none m shape e)
no_part shapes m (Some shape) (negsuc q) z e none = refl

more_bytes : (n z : ℕ) → 1 ≤ z → 1 ≤ n + z
more_bytes n z h = omega (arith, h)

no_data : (shapes : List Shape) (v : Val) (o : ℤ) (z : ℕ) → 1 ≤ z → HaveNoConstants shapes → HaveNoParts shapes → is_data shapes v o z ≡ false
no_data shapes (Num lo hi) o z some none whole = none_left shapes (address lo o) (hi - lo + z) (more_bytes (hi - lo) z some) (none_at_all shapes (address lo o) none)
no_data shapes Unset o z some none whole = refl
no_data shapes (Pkt id off) o z some none whole = refl
no_data shapes PktEnd o z some none whole = refl
no_data shapes (Stack off) o z some none whole = refl
no_data shapes Ctx o z some none whole = refl
no_data shapes (Map m) o z some none whole = refl
no_data shapes (MaybeValue m id) o z some none whole = refl
no_data shapes (Value m) o z some none whole = no_part shapes m (slice_get shapes m) o z refl whole

pub plain_rule : (n : Facts) (shapes : List Shape) (v : Val) (o : ℤ) (signed : Bool) (size : Size) → HaveNoConstants shapes → HaveNoParts shapes → load_value n shapes v o signed size ≡ and_then (reach n v o (size_bytes size)) (loaded_value n shapes signed size)
plain_rule n shapes v o signed size none whole =
    ap (λ (b : Bool). if b then Ok (any_loaded signed size) else and_then (reach n v o (size_bytes size)) (loaded_value n shapes signed size)) (no_data shapes v o (size_bytes size) (some_bytes size) none whole)

-- what the rule says of a part
record IsPartOf (s : Shape) (at z : ℕ) : Type 0 where
  pub parts : s.parts ≡ true
  pub narrow : z < 8
  pub fits : at % 8 + z ≤ 8
  pub inside : at < 8 * s.counters

all_four : (p n f i : Bool) → (p && n && f && i) ≡ true → (p ≡ true) × (n ≡ true) × (f ≡ true) × (i ≡ true)
all_four true true true true e = (refl, refl, refl, refl)
all_four true true true false e = cc
all_four true true false i e = cc
all_four true false f i e = cc
all_four false n f i e = cc

part_of_ok : (s : Shape) (at z : ℕ) → is_part_of (Some s) (pos at) z ≡ true → IsPartOf s at z
part_of_ok s at z e =
    let q = all_four s.parts (nat_lt z 8) (nat_le (at % 8 + z) 8) (nat_lt at (8 * s.counters)) e in
    record { parts = q.0; narrow = is_less z 8 q.1; fits = is_most (at % 8 + z) 8 q.2; inside = is_less at (8 * s.counters) q.3 }
  where
    is_less : (x y : ℕ) → nat_lt x y ≡ true → x < y
    is_less x y e = grind (arith, nat_tests)

    is_most : (x y : ℕ) → nat_le x y ≡ true → x ≤ y
    is_most x y e = grind (arith, nat_tests)

byte_further : (start n at a : ℕ) → a ≡ start + 8 * (n + 0) → a + at ≡ start + 8 * (n + at / 8) + at % 8
byte_further start n at a e = omega (arith, e)

byte_low : (c at : ℕ) → c < 0x45000000 → c + at % 8 < 2 ^ 64
byte_low c at h = omega (arith, h)

byte_high : (start n b : ℕ) → values_start ≤ values_start + start + 8 * n + b
byte_high start n b = omega arith

module _ (n : Facts) (s : State) (d : Describes n s) where
  constants_sound : (a : ℕ) (signed : Bool) (size : Size) (k : ℕ) (v : Val) (es : Edges) → k < 11 → is_frame k ≡ false → are_constants s.shapes a (size_bytes size) ≡ true →
      any_loaded signed size ≡ v → goes_to (s.pc + 1) (with_reg n k v) ≡ Ok es → Accounts es (load_at s a signed size k)
  constants_sound a signed size k v es small frame e same h =
      let fits : number_of (constants_at s.find a (size_bytes size)) < 256 ^ size_bytes size = constants_number s.find _ _ (size_bytes size) in
      let reads = loaded_reads (meaning s d.base d.address) signed size _ fits in
      subst (λ (b : Bool). Accounts es (if b then load_constants s a signed size k else load_from a (load_place (length s.packet) s.shapes a (size_bytes size)) s signed size k)) (sym e)
      (sets_sound n s (s.pc + 1) k _ v es d small (taken_fits signed size _ fits) (subst (λ (v : Val). IsReading (meaning s d.base d.address) v (taken signed size (number_of (constants_at s.find a (size_bytes size))))) same reads)
      (unless_again (is_frame k) cause.FramePointer (goes_to (s.pc + 1) (with_reg n k v)) es frame h))

  -- where the load of a region is accounted for, there are no constants
  region_sound : (a : ℕ) (signed : Bool) (size : Size) (k : ℕ) (es : Edges) → Accounts es (load_from a (region (length s.packet) s.shapes a (size_bytes size)) s signed size k) → Accounts es (load_at s a signed size k)
  region_sound a signed size k es h =
      let there : region (length s.packet) s.shapes a (size_bytes size) ≢ Nowhere = λ e. subst (λ (p : Place). Accounts es (load_from a p s signed size k)) e h in
      let none = none_elsewhere (length s.packet) s.shapes a (size_bytes size) d.state.packet_size there in
      let same = in_region (length s.packet) s.shapes a (size_bytes size) d.state.packet_size there in
      subst (λ (o : Outcome). Accounts es o) (sym (plain_load s a signed size k none ∙ ap (λ (p : Place). load_from a p s signed size k) same)) h

  -- a load of a part of a counter
  part_by : (m : ℕ) (shape : Option Shape) (x : ℕ) (o : ℤ) (signed : Bool) (size : Size) (k : ℕ) (es : Edges) → slice_get s.shapes m ≡ shape → IsValueOf shape m x → x < 2 ^ 64 → is_part_of shape o (size_bytes size) ≡ true → k < 11 → is_frame k ≡ false →
      goes_to (s.pc + 1) (with_reg n k (any_loaded signed size)) ≡ Ok es → Accounts es (load_at s (address x o) signed size k)
  part_by m None x o signed size k es e r fits t small frame h = absurd r
  part_by m (Some shape) x (negsuc q) signed size k es e r fits t small frame h = absurd (cc)
  part_by m (Some shape) x (pos at) signed size k es e r fits t small frame h =
      let q = part_of_ok shape at (size_bytes size) t in
      let j : at / 8 < shape.counters = omega (arith, q.inside) in
      let is_shape = d.state.shapes m shape e in
      let few = map_small s.shapes m shape e d.state.maps in
      let below = counter_below shape m r.0 (at / 8) few is_shape r.1 j in
      let place : address x (pos at) ≡ counter_address shape m r.0 (at / 8) + at % 8 =
      shift_is x (counter_address shape m r.0 (at / 8) + at % 8) (pos at) (ap pos (byte_further (values_start + map_offset shape m) (shape.counters * r.0) at x r.2)) fits (byte_low (counter_address shape m r.0 (at / 8)) at below) in
      let high : values_start ≤ address x (pos at) = subst (λ (a : ℕ). values_start ≤ a) (sym place) (byte_high (map_offset shape m) (shape.counters * r.0 + at / 8) (at % 8)) in
      let found : load_place (length s.packet) s.shapes (address x (pos at)) (size_bytes size) ≡ InCounter m r.0 (at / 8) =
      ap (λ (a : ℕ). load_place (length s.packet) s.shapes a (size_bytes size)) place
      ∙ part_found (length s.packet) s.shapes m r.0 (at / 8) (at % 8) (size_bytes size) shape few e is_shape r.1 j q.parts (some_bytes size) q.narrow q.fits in
      subst (λ (o : Outcome). Accounts es o) (sym (plain_load s (address x (pos at)) signed size k (none_above s.shapes (address x (pos at)) high) ∙ ap (λ (p : Place). load_from (address x (pos at)) p s signed size k) found))
      (part_arrives n s d (address x (pos at)) m r.0 (at / 8) k signed size es (is_frame k) refl small frame h)

  -- a load of constants, or of a part of a counter
  data_sound : (v : Val) (x : ℕ) (o : ℤ) (signed : Bool) (size : Size) (k : ℕ) (w : Val) (es : Edges) → x < 2 ^ 64 → k < 11 → is_frame k ≡ false → IsReading (meaning s d.base d.address) v x → is_data s.shapes v o (size_bytes size) ≡ true →
      any_loaded signed size ≡ w → goes_to (s.pc + 1) (with_reg n k w) ≡ Ok es → Accounts es (load_at s (address x o) signed size k)
  data_sound (Num lo hi) x o signed size k w es fits small frame r t same h = constants_sound (address x o) signed size k w es small frame (constant_there s.shapes lo hi x (size_bytes size) o d.state.shapes (some_bytes size) r.0 r.1 t) same h
  data_sound Unset x o signed size k w es fits small frame r t same h = absurd (cc)
  data_sound (Pkt id off) x o signed size k w es fits small frame r t same h = absurd (cc)
  data_sound PktEnd x o signed size k w es fits small frame r t same h = absurd (cc)
  data_sound (Stack off) x o signed size k w es fits small frame r t same h = absurd (cc)
  data_sound Ctx x o signed size k w es fits small frame r t same h = absurd (cc)
  data_sound (Map m) x o signed size k w es fits small frame r t same h = absurd (cc)
  data_sound (MaybeValue m id) x o signed size k w es fits small frame r t same h = absurd (cc)
  data_sound (Value m) x o signed size k w es fits small frame r t same h = part_by m (slice_get s.shapes m) x o signed size k es refl r fits t small frame (subst (λ (w : Val). goes_to (s.pc + 1) (with_reg n k w) ≡ Ok es) (sym same) h)

  -- a load that the rule allows
  pub value_sound : (v : Val) (x : ℕ) (o : ℤ) (signed : Bool) (size : Size) (k : ℕ) (w : Val) (es : Edges) → x < 2 ^ 64 → k < 11 → is_frame k ≡ false → IsReading (meaning s d.base d.address) v x →
      load_value n s.shapes v o signed size ≡ Ok w → goes_to (s.pc + 1) (with_reg n k w) ≡ Ok es → Accounts es (load_at s (address x o) signed size k)
  value_sound v x o signed size k w es fits small frame r e h = by (is_data s.shapes v o (size_bytes size)) refl e
    where
      by : (b : Bool) → is_data s.shapes v o (size_bytes size) ≡ b → (if b then Ok (any_loaded signed size) else and_then (reach n v o (size_bytes size)) (loaded_value n s.shapes signed size)) ≡ Ok w →
          Accounts es (load_at s (address x o) signed size k)
      by true t e = data_sound v x o signed size k w es fits small frame r t (same_ok (any_loaded signed size) w e) h
      by false t e =
          let a = and_then_ok (reach n v o (size_bytes size)) (loaded_value n s.shapes signed size) w e in
          region_sound (address x o) signed size k es
          (load_sound n s d (address x o) a.0 (region (length s.packet) s.shapes (address x o) (size_bytes size)) signed size k w es small frame
          (access_reaches n s d x fits o (size_bytes size) v a.0 r a.1) a.2 h)
