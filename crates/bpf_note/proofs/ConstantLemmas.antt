-- Where constants lie.
use Rattle.std.proofs.Common.{ℕ, ◌+◌, ◌-◌, ◌%◌, ◌≡◌, ◌≢◌, ◌<◌, ◌≤◌, List, Option, None, Some, refl, ap, ◌∙◌, arith, ◌⊎◌, inl, inr}
use Rattle.std.specs.Prelude.{if◌then◌else◌, ◌==◌, ◌&&◌, nat_le, nat_lt, slice_get, Bool, true, false}
use Rattle.std.proofs.lemmas.Bool.Decides.{nat_tests}
use Rattle.bpf_note.specs.Keys.{IsKey, constant_bytes}
use Rattle.bpf_note.specs.declared.key.MapKey.{MapKey}
use Rattle.bpf_note.specs.declared.key.MapKey.TheVariants.{Index, Listed, Constants}
use Rattle.bpf_note.specs.Constants.{bytes_in, bytes_left, constant_address, map_of, place_of, HaveNoConstants}
use Rattle.bpf_note.specs.Regions.{InPacket, InStack, InContext, Nowhere, region, lies_in, counter_from}
use Rattle.bpf_note.specs.Shape.{Shape, IsShape, AreShapes, most_maps}
use Rattle.bpf_note.specs.State.{packet_start, stack_start, stack_end, context_start, constants_start, values_start}
use Rattle.bpf_note.proofs.RegionLemmas.{chosen}

constants_fit : (key : MapKey) → IsKey key → constant_bytes key ≤ 65536
constants_fit Index h = omega arith
constants_fit (Listed kind) h = omega arith
constants_fit (Constants bytes) h = h

-- what is left, where the address isn't below all constants
left_of : (shapes : List Shape) (a m i : ℕ) (o : Option Shape) → constants_start ≤ a → a < values_start → map_of a ≡ m → place_of a ≡ i → slice_get shapes m ≡ o → bytes_left shapes a ≡ bytes_in o - i
unfolding bytes_left
left_of shapes a m i o h low map at e =
    chosen (nat_le constants_start a && nat_lt a values_start) _ _ (grind (arith, nat_tests))
    ∙ ap (λ (x : ℕ). bytes_in (slice_get shapes x) - place_of a) map
    ∙ ap (λ (x : Option Shape). bytes_in x - place_of a) e
    ∙ ap (λ (x : ℕ). bytes_in o - x) at

pub left_at : (shapes : List Shape) (m i : ℕ) (shape : Shape) → m < most_maps → slice_get shapes m ≡ Some shape → IsKey shape.key → i < constant_bytes shape.key → bytes_left shapes (constant_address m i) ≡ constant_bytes shape.key - i
left_at shapes m i shape few e key h =
    let small : i < 65536 = omega (arith, h, constants_fit shape.key key) in
    left_of shapes (constant_address m i) m i (Some shape) (omega arith) (omega (arith, few, small)) (omega arith) (omega arith) e

-- none are left below all constants
pub none_below : (shapes : List Shape) (a : ℕ) → a < constants_start → bytes_left shapes a ≡ 0
unfolding bytes_left
none_below shapes a h = by (nat_le constants_start a) (nat_lt a values_start) refl
  where
    by : (b c : Bool) → b ≡ nat_le constants_start a → (if b && c then bytes_in (slice_get shapes (map_of a)) - place_of a else 0) ≡ 0
    by true c e = absurd (grind (arith, nat_tests))
    by false c e = refl

nothing_left : (n : ℕ) → 0 - n ≡ 0
nothing_left n = omega arith

-- none are left where the maps' values begin
pub none_above : (shapes : List Shape) (a : ℕ) → values_start ≤ a → bytes_left shapes a ≡ 0
unfolding bytes_left
none_above shapes a h = by (nat_le constants_start a) (nat_lt a values_start) refl
  where
    by : (b c : Bool) → c ≡ nat_lt a values_start → (if b && c then bytes_in (slice_get shapes (map_of a)) - place_of a else 0) ≡ 0
    by true true e = absurd (grind (arith, nat_tests))
    by true false e = refl
    by false c e = refl

-- what isn't nowhere lies below all constants or above them
outside : (len : ℕ) (shapes : List Shape) (a z : ℕ) → len ≤ 65535 → region len shapes a z ≢ Nowhere → (a < constants_start) ⊎ (values_start ≤ a)
unfolding region
outside len shapes a z short n =
    by (lies_in packet_start (packet_start + len) a z) (lies_in stack_start stack_end a z) (lies_in context_start (context_start + 20) a z && z == 4 && a % 4 == 0) (z == 8) (nat_le values_start a) refl refl refl refl n
  where
    by : (p s c e v : Bool) → lies_in packet_start (packet_start + len) a z ≡ p → lies_in stack_start stack_end a z ≡ s → (lies_in context_start (context_start + 20) a z && z == 4 && a % 4 == 0) ≡ c → nat_le values_start a ≡ v →
        ((if p then InPacket (a - packet_start) else if s then InStack (a - stack_start) else if c then InContext (a - context_start) else if e then (if v then counter_from shapes (a - values_start) else Nowhere) else Nowhere) ≢ Nowhere) → (a < constants_start) ⊎ (values_start ≤ a)
    by true s c e v f g h w n = inl (grind (arith, nat_tests))
    by false true c e v f g h w n = inl (grind (arith, nat_tests))
    by false false true e v f g h w n = inl (grind (arith, nat_tests))
    by false false false true true f g h w n = inr (grind (arith, nat_tests))
    by false false false true false f g h w n = absurd (n refl)
    by false false false false v f g h w n = absurd (n refl)

pub none_elsewhere : (len : ℕ) (shapes : List Shape) (a z : ℕ) → len ≤ 65535 → region len shapes a z ≢ Nowhere → bytes_left shapes a ≡ 0
none_elsewhere len shapes a z short n = elim (outside len shapes a z short n) [ inl h ↦ none_below shapes a h | inr h ↦ none_above shapes a h ]

none_of : (shapes : List Shape) (m : ℕ) (o : Option Shape) → slice_get shapes m ≡ o → HaveNoConstants shapes → bytes_in o ≡ 0
none_of shapes m None e h = refl
none_of shapes m (Some shape) e h = h m shape e

pub none_at_all : (shapes : List Shape) (a : ℕ) → HaveNoConstants shapes → bytes_left shapes a ≡ 0
unfolding bytes_left
none_at_all shapes a h = by (nat_le constants_start a && nat_lt a values_start)
  where
    by : (b : Bool) → (if b then bytes_in (slice_get shapes (map_of a)) - place_of a else 0) ≡ 0
    by true = ap (λ (x : ℕ). x - place_of a) (none_of shapes (map_of a) (slice_get shapes (map_of a)) refl h) ∙ nothing_left (place_of a)
    by false = refl

-- further on in the constants of a map
record IsFurther (shapes : List Shape) (a d : ℕ) : Type 0 where
  pub map : map_of (a + d) ≡ map_of a
  pub place : place_of (a + d) ≡ place_of a + d
  pub low : a + d < values_start

further_by : (shapes : List Shape) (a d : ℕ) (o : Option Shape) → AreShapes shapes → constants_start ≤ a → a < values_start → slice_get shapes (map_of a) ≡ o → d < bytes_in o - place_of a → IsFurther shapes a d
further_by shapes a d None are h low e lt = absurd (omega arith)
further_by shapes a d (Some shape) are h low e lt =
    let is : IsShape shape = are (map_of a) shape e in
    let fits : constant_bytes shape.key ≤ 65536 = constants_fit shape.key is.key in
    let inside : place_of a + d < 65536 = omega (arith, lt, fits) in
    record { map = omega (arith, h, inside); place = omega (arith, h, inside); low = omega (arith, h, low, inside) }

pub left_further : (shapes : List Shape) (a d : ℕ) → AreShapes shapes → d < bytes_left shapes a → bytes_left shapes (a + d) ≡ bytes_left shapes a - d
left_further shapes a d are lt = by (nat_le constants_start a) (nat_lt a values_start) refl refl
  where
    by : (b c : Bool) → b ≡ nat_le constants_start a → c ≡ nat_lt a values_start → bytes_left shapes (a + d) ≡ bytes_left shapes a - d
    by false c e g = absurd (omega (arith, lt, none_below shapes a (grind (arith, nat_tests))))
    by true false e g = absurd (omega (arith, lt, none_above shapes a (grind (arith, nat_tests))))
    by true true e g =
        let h : constants_start ≤ a = grind (arith, nat_tests) in
        let low : a < values_start = grind (arith, nat_tests) in
        let here : bytes_left shapes a ≡ bytes_in (slice_get shapes (map_of a)) - place_of a = left_of shapes a (map_of a) (place_of a) (slice_get shapes (map_of a)) h low refl refl refl in
        let f = further_by shapes a d (slice_get shapes (map_of a)) are h low refl (omega (arith, lt, here)) in
        let there : bytes_left shapes (a + d) ≡ bytes_in (slice_get shapes (map_of a)) - (place_of a + d) = left_of shapes (a + d) (map_of a) (place_of a + d) (slice_get shapes (map_of a)) (omega (arith, h)) f.low f.map f.place refl in
        omega (arith, here, there)

pub left_small : (shapes : List Shape) (a : ℕ) → AreShapes shapes → bytes_left shapes a ≤ 65536
unfolding bytes_left
left_small shapes a are = by (nat_le constants_start a && nat_lt a values_start)
  where
    fits : (o : Option Shape) → slice_get shapes (map_of a) ≡ o → bytes_in o ≤ 65536
    fits None e = omega arith
    fits (Some shape) e = constants_fit shape.key (are (map_of a) shape e).key

    by : (b : Bool) → (if b then bytes_in (slice_get shapes (map_of a)) - place_of a else 0) ≤ 65536
    by true = omega (arith, fits (slice_get shapes (map_of a)) refl)
    by false = omega arith
