-- Types by their numbers: where they begin, and what is behind their names.
use Rattle.std.proofs.Common.{ℕ, zero, suc, ◌≡◌, ◌+◌, ◌-◌, ◌*◌, ◌<◌, ◌≤◌, List, [], ◌∷◌, ◌++◌, length, map, slice_index, Option, None, Some, Bool, true, false, cond, nat_eq, nat_lt, nat_le, ◌&&◌, refl, ap, sym, ◌∙◌, subst, zero-add, add-one, length-append, below_more, arith}
use Rattle.std.specs.List.{range_with_len}
use Rattle.std.proofs.lemmas.Bool.Decides.{nat_tests}
use Rattle.std.proofs.lemmas.List.FromFn.{map-range_with_len_more, get_or-map-range_with_len}
use Rattle.bpf_object.specs.declared.types.TypeRow.{TypeRow}
use Rattle.bpf_object.specs.Types.{Table, row_at, row_bytes, IsWhole, place, AreFirst, AreTypes, row, is_sized, is_alias, plain_from, plain}
use Rattle.bpf_object.specs.Definition.{element, elements, array_size, size_from, size}
use Rattle.bpf_object.specs.Map.{IsMaps}

pub place_more : (bytes : List ℕ) (n : ℕ) → place bytes (n + 1) ≡ place bytes n + row_bytes (row_at bytes (place bytes n))
unfolding place
place_more bytes n = rw add-one refl

pub length_more : (xs : List ℕ) (x : ℕ) → length (xs ++ x ∷ []) ≡ length xs + 1
length_more xs x = length-append xs (x ∷ [])

pub first_more : (bytes places : List ℕ) (p : ℕ) → AreFirst bytes places → p ≡ place bytes (length places) → IsWhole bytes p →
    AreFirst bytes (places ++ p ∷ [])
first_more bytes places p h e w = record {
  placed =
      ap (λ (xs : List ℕ). xs ++ p ∷ []) h.placed
      ∙ ap (λ (x : ℕ). map (place bytes) (range_with_len 0 (length places)) ++ x ∷ []) e
      ∙ sym (map-range_with_len_more (place bytes) 0 (length places) (length places) (zero-add (length places)))
      ∙ ap (λ (n : ℕ). map (place bytes) (range_with_len 0 n)) (sym (length_more places p));
  whole = λ n lt.
      below_more (λ (k : ℕ). IsWhole bytes (place bytes k)) (length places) h.whole (subst (λ (x : ℕ). IsWhole bytes x) e w) n
      (omega (arith, length_more places p));
}

located : (bytes places : List ℕ) (i : ℕ) → AreTypes bytes places → i < length places → IsWhole bytes (slice_index places i)
located bytes places i h lt =
    subst (λ (x : ℕ). IsWhole bytes x)
    (sym (ap (λ (xs : List ℕ). slice_index xs i) h.first.placed ∙ get_or-map-range_with_len (place bytes) 0 (length places) i i 0 lt (zero-add i)))
    (h.first.whole i lt)

pub located_header : (bytes places : List ℕ) (i : ℕ) → AreTypes bytes places → i < length places → slice_index places i + 12 ≤ length bytes
located_header bytes places i h lt = (located bytes places i h lt).header

pub located_row : (bytes places : List ℕ) (i : ℕ) (r : TypeRow) → AreTypes bytes places → i < length places →
    r ≡ row_at bytes (slice_index places i) → r.at + row_bytes r ≤ length bytes
unfolding row_at
located_row bytes places i r h lt e =
    subst (λ (x : TypeRow). x.at + row_bytes x ≤ length bytes) (sym e) (located bytes places i h lt).inside

pub none_first : (bytes places : List ℕ) → places ≡ [] → AreFirst bytes places
none_first bytes places e =
    subst (λ (xs : List ℕ). AreFirst bytes xs) (sym e) (record { placed = refl; whole = λ n lt. absurd (omega arith) })

pub none_place : (bytes places : List ℕ) → places ≡ [] → 0 ≡ place bytes (length places)
unfolding place
none_place bytes places e = subst (λ (xs : List ℕ). 0 ≡ place bytes (length xs)) (sym e) refl

pub array_inside : (r : TypeRow) → r.kind ≡ 3 → 24 ≤ row_bytes r
unfolding row_bytes
array_inside r e = rw e (omega arith)

pub struct_inside : (r : TypeRow) → r.kind ≡ 4 → 12 + 12 * r.count ≤ row_bytes r
unfolding row_bytes
struct_inside r e = rw e (omega arith)

pub variable_inside : (r : TypeRow) → r.kind ≡ 14 → 16 ≤ row_bytes r
unfolding row_bytes
variable_inside r e = rw e (omega arith)

pub section_inside : (r : TypeRow) → r.kind ≡ 15 → 12 + 12 * r.count ≤ row_bytes r
unfolding row_bytes
section_inside r e = rw e (omega arith)

some_then : (b : Bool) (x r : TypeRow) → cond b (Some x) None ≡ Some r → b ≡ true
some_then true x r e = refl
some_then false x r e = absurd (cc)

pub row_below : (t : Table) (n : ℕ) (r : TypeRow) → row t n ≡ Some r → n ≤ length t.places
unfolding row
row_below t n r e =
    let h = some_then (nat_lt 0 n && nat_le n (length t.places)) (row_at t.bytes (slice_index t.places (n - 1))) r e in grind (arith, nat_tests)

pub maps_below : (t : Table) (n : ℕ) → IsMaps t n → n ≤ length t.places
maps_below t n h = row_below t n h.type h.is

pub plain_none : (t : Table) (n : ℕ) → plain t 0 n ≡ None
unfolding plain
plain_none t n = refl

plain_more : (t : Table) (limit n : ℕ) → 0 < limit → plain t limit n ≡ plain_from (λ m. plain t (limit - 1) m) (row t n)
unfolding plain
plain_more t zero n lt = absurd (omega arith)
plain_more t (suc limit) n lt =
    let e : limit ≡ suc limit - 1 = omega arith in ap (λ (k : ℕ). plain_from (λ m. plain t k m) (row t n)) e

pub plain_missing : (t : Table) (limit n : ℕ) → 0 < limit → row t n ≡ None → plain t limit n ≡ None
plain_missing t limit n lt e = plain_more t limit n lt ∙ ap (λ (o : Option TypeRow). plain_from (λ m. plain t (limit - 1) m) o) e

pub plain_alias : (t : Table) (limit n : ℕ) (r : TypeRow) → 0 < limit → row t n ≡ Some r → is_alias r.kind ≡ true →
    plain t limit n ≡ plain t (limit - 1) r.of
plain_alias t limit n r lt e a =
    plain_more t limit n lt ∙ ap (λ (o : Option TypeRow). plain_from (λ m. plain t (limit - 1) m) o) e
    ∙ ap (λ (b : Bool). cond b (plain t (limit - 1) r.of) (Some r)) a

pub plain_some : (t : Table) (limit n : ℕ) (r : TypeRow) → 0 < limit → row t n ≡ Some r → is_alias r.kind ≡ false →
    plain t limit n ≡ Some r
plain_some t limit n r lt e a =
    plain_more t limit n lt ∙ ap (λ (o : Option TypeRow). plain_from (λ m. plain t (limit - 1) m) o) e
    ∙ ap (λ (b : Bool). cond b (plain t (limit - 1) r.of) (Some r)) a

pub size_none : (t : Table) (n : ℕ) → size t 0 n ≡ None
unfolding size
size_none t n = refl

size_more : (t : Table) (limit n : ℕ) → 0 < limit → size t limit n ≡ size_from t (λ m. size t (limit - 1) m) (row t n)
unfolding size
size_more t zero n lt = absurd (omega arith)
size_more t (suc limit) n lt =
    let e : limit ≡ suc limit - 1 = omega arith in ap (λ (k : ℕ). size_from t (λ m. size t k m) (row t n)) e

pub size_missing : (t : Table) (limit n : ℕ) → 0 < limit → row t n ≡ None → size t limit n ≡ None
size_missing t limit n lt e = size_more t limit n lt ∙ ap (λ (o : Option TypeRow). size_from t (λ m. size t (limit - 1) m) o) e

abbrev pick : Bool → Bool → Bool → Bool → ℕ → Option ℕ → Option ℕ → Option ℕ
pick sized pointer array alias own of_array of_alias =
    cond sized (Some own) (cond pointer (Some 8) (cond array of_array (cond alias of_alias None)))

size_pick : (t : Table) (limit n : ℕ) (r : TypeRow) (s p y a : Bool) → 0 < limit → row t n ≡ Some r → is_sized r.kind ≡ s →
    nat_eq r.kind 2 ≡ p → nat_eq r.kind 3 ≡ y → is_alias r.kind ≡ a →
    pick s p y a r.of (array_size (elements t r) (size t (limit - 1) (element t r))) (size t (limit - 1) r.of) ≡ size t limit n
size_pick t limit n r s p y a lt e es ep ey ea =
    let of_array : Option ℕ = array_size (elements t r) (size t (limit - 1) (element t r)) in
    let of_alias : Option ℕ = size t (limit - 1) r.of in
    sym
    (size_more t limit n lt
    ∙ ap (λ (o : Option TypeRow). size_from t (λ m. size t (limit - 1) m) o) e
    ∙ ap (λ (b : Bool). pick b (nat_eq r.kind 2) (nat_eq r.kind 3) (is_alias r.kind) r.of of_array of_alias) es
    ∙ ap (λ (b : Bool). pick s b (nat_eq r.kind 3) (is_alias r.kind) r.of of_array of_alias) ep
    ∙ ap (λ (b : Bool). pick s p b (is_alias r.kind) r.of of_array of_alias) ey
    ∙ ap (λ (b : Bool). pick s p y b r.of of_array of_alias) ea)

pub size_sized : (t : Table) (limit n : ℕ) (r : TypeRow) → 0 < limit → row t n ≡ Some r → is_sized r.kind ≡ true →
    Some r.of ≡ size t limit n
size_sized t limit n r lt e es = size_pick t limit n r true (nat_eq r.kind 2) (nat_eq r.kind 3) (is_alias r.kind) lt e es refl refl refl

pub size_pointer : (t : Table) (limit n : ℕ) (r : TypeRow) → 0 < limit → row t n ≡ Some r → is_sized r.kind ≡ false → r.kind ≡ 2 →
    Some 8 ≡ size t limit n
size_pointer t limit n r lt e es k =
    size_pick t limit n r false true (nat_eq r.kind 3) (is_alias r.kind) lt e es (ap (λ (x : ℕ). nat_eq x 2) k) refl refl

pub size_array : (t : Table) (limit n : ℕ) (r : TypeRow) → 0 < limit → row t n ≡ Some r → is_sized r.kind ≡ false → r.kind ≡ 3 →
    array_size (elements t r) (size t (limit - 1) (element t r)) ≡ size t limit n
size_array t limit n r lt e es k =
    size_pick t limit n r false false true (is_alias r.kind) lt e es (ap (λ (x : ℕ). nat_eq x 2) k) (ap (λ (x : ℕ). nat_eq x 3) k) refl

pub size_alias : (t : Table) (limit n : ℕ) (r : TypeRow) → 0 < limit → row t n ≡ Some r → is_sized r.kind ≡ false →
    nat_eq r.kind 2 ≡ false → nat_eq r.kind 3 ≡ false → is_alias r.kind ≡ true → size t (limit - 1) r.of ≡ size t limit n
size_alias t limit n r lt e es ep ey ea = size_pick t limit n r false false false true lt e es ep ey ea

pub size_other : (t : Table) (limit n : ℕ) (r : TypeRow) → 0 < limit → row t n ≡ Some r → is_sized r.kind ≡ false →
    nat_eq r.kind 2 ≡ false → nat_eq r.kind 3 ≡ false → is_alias r.kind ≡ false → None ≡ size t limit n
size_other t limit n r lt e es ep ey ea = size_pick t limit n r false false false false lt e es ep ey ea
