-- A lookup has one answer, and it is the one that is computed.
use Rattle.std.proofs.Common.{◌≡◌, ℕ, zero, suc, ◌-◌, ◌*◌, ◌/◌, ◌%◌, ◌^◌, ◌<◌, ◌≤◌, inl, inr, Bool, true, false, ◌&&◌, List, [], ◌∷◌, Option, None, Some, length, drop, arith, sym, ◌∙◌, ap, subst, refl}
use Rattle.std.specs.Prelude.{if◌then◌else◌, ◌==◌, nat_le, nat_lt}
use Rattle.std.proofs.lemmas.Bool.Decides.{nat_tests}
use Rattle.bpf_note.specs.declared.key.KeyKind.{KeyKind}
use Rattle.bpf_note.specs.declared.key.KeyKind.TheVariants.{Exact, Prefix}
use Rattle.bpf_note.specs.Keys.{size, word, bits_of, data_of}
use Rattle.bpf_lists.specs.Keys.{Keyed, value, first, row, count, Holds, IsLongest, IsFound}
use Rattle.bpf_lists.specs.Refusals.{AreListed, IsPlain}
use Rattle.bpf_lists.specs.Find.{are_same, holds, longer, found_among, row_for}
use Rattle.bpf_lists.proofs.ValueLemmas.{AreBytes, value_injective}
use Rattle.bpf_lists.proofs.KeyLemmas.{data_width, data_are_bytes, row_long, row_bytes, first_is}
use Rattle.bpf_lists.proofs.NestLemmas.{plain_is, le_or_lt}
use Rattle.bpf_lists.proofs.OrderLemmas.{equal_or_less}

each : (a b : Bool) → (a && b) ≡ true → (a ≡ true) × (b ≡ true)
each true b e = (refl, e)
each false b e = absurd (cc)

both : (a b : Bool) → a ≡ true → b ≡ true → (a && b) ≡ true
both true b e f = f
both false b e f = absurd (cc)

le_is : (a b : ℕ) → nat_le a b ≡ true → a ≤ b
le_is a b e = grind (arith, nat_tests)

le_holds : (a b : ℕ) → a ≤ b → nat_le a b ≡ true
le_holds a b h = grind (arith, nat_tests)

lt_is : (a b : ℕ) → true ≡ nat_lt a b → a < b
lt_is a b e = grind (arith, nat_tests)

not_lt_is : (a b : ℕ) → false ≡ nat_lt a b → b ≤ a
not_lt_is a b e = grind (arith, nat_tests)

eq_is : (a b : ℕ) → (a == b) ≡ true → a ≡ b
eq_is a b e = grind (arith, nat_tests)

eq_holds : (a b : ℕ) → a ≡ b → (a == b) ≡ true
eq_holds a b h = grind (arith, nat_tests)

same_is : (xs ys : List ℕ) → are_same xs ys ≡ true → xs ≡ ys
same_is [] [] e = refl
same_is [] (y ∷ ys) e = absurd (cc)
same_is (x ∷ xs) [] e = absurd (cc)
same_is (x ∷ xs) (y ∷ ys) e =
    let parts = each (x == y) (are_same xs ys) e in
    let head : x ≡ y = eq_is x y parts.0 in
    let tail : xs ≡ ys = same_is xs ys parts.1 in
    cc

same_self : (xs : List ℕ) → are_same xs xs ≡ true
same_self [] = refl
same_self (x ∷ xs) = both (x == x) (are_same xs xs) (eq_holds x x refl) (same_self xs)

holds_is : (kind : KeyKind) (r key : List ℕ) → holds kind r key ≡ true → Holds kind r key
holds_is (Exact bytes) r key e = same_is r key e
holds_is (Prefix bytes) r key e =
    let a = each (nat_le (word r) (word key)) (nat_le (word key) (8 * bytes) && (first (word r) (drop 4 r) == first (word r) (drop 4 key))) e in
    let b = each (nat_le (word key) (8 * bytes)) (first (word r) (drop 4 r) == first (word r) (drop 4 key)) a.1 in
    (le_is (word r) (word key) a.0, le_is (word key) (8 * bytes) b.0, eq_is (first (word r) (drop 4 r)) (first (word r) (drop 4 key)) b.1)

is_holds : (kind : KeyKind) (r key : List ℕ) → Holds kind r key → holds kind r key ≡ true
is_holds (Exact bytes) r key same = subst (λ (xs : List ℕ). are_same r xs ≡ true) same (same_self r)
is_holds (Prefix bytes) r key h =
    both (nat_le (word r) (word key)) (nat_le (word key) (8 * bytes) && (first (word r) (drop 4 r) == first (word r) (drop 4 key))) (le_holds (word r) (word key) h.0)
    (both (nat_le (word key) (8 * bytes)) (first (word r) (drop 4 r) == first (word r) (drop 4 key)) (le_holds (word key) (8 * bytes) h.1) (eq_holds (first (word r) (drop 4 r)) (first (word r) (drop 4 key)) h.2))

-- what a lookup among the first n rows answers
abbrev Among : KeyKind → List ℕ → List ℕ → ℕ → Option ℕ → Type 0
Among kind keys key n None = (s : ℕ) → s < n → Holds kind (row kind keys s) key → ⊥
Among kind keys key n (Some r) = (r < n) × Holds kind (row kind keys r) key × ((s : ℕ) → s < n → Holds kind (row kind keys s) key → bits_of kind (row kind keys s) ≤ bits_of kind (row kind keys r))

module _ (kind : KeyKind) (keys key : List ℕ) where
  abbrev bits : ℕ → ℕ
  bits r = bits_of kind (row kind keys r)

  next_longer : (n r : ℕ) (b : Bool) → Holds kind (row kind keys n) key → b ≡ nat_lt (bits r) (bits n) → Among kind keys key n (Some r) → Among kind keys key (suc n) (if b then Some n else Some r)
  next_longer n r true here e f = (
    omega arith,
    here,
    λ s lt h. elim (equal_or_less s n (omega arith)) [
      | inl same ↦ subst (λ (k : ℕ). bits k ≤ bits n) (sym same) (omega arith)
      | inr less ↦ (let a : bits s ≤ bits r = f.2 s less h in let b : bits r < bits n = lt_is (bits r) (bits n) e in omega (arith, a, b))
    ],
  )
  next_longer n r false here e f = (
    omega (arith, f.0),
    f.1,
    λ s lt h. elim (equal_or_less s n (omega arith)) [
      | inl same ↦ subst (λ (k : ℕ). bits k ≤ bits r) (sym same) (not_lt_is (bits r) (bits n) e)
      | inr less ↦ f.2 s less h
    ],
  )

  next : (n : ℕ) (b : Bool) → holds kind (row kind keys n) key ≡ b → (o : Option ℕ) → Among kind keys key n o → Among kind keys key (suc n) (if b then longer kind keys n o else o)
  next n true e None f = (
    omega arith,
    holds_is kind (row kind keys n) key e,
    λ s lt h. elim (equal_or_less s n (omega arith)) [
      | inl same ↦ subst (λ (k : ℕ). bits k ≤ bits n) (sym same) (omega arith)
      | inr less ↦ absurd (f s less h)
    ],
  )
  next n true e (Some r) f = next_longer n r (nat_lt (bits r) (bits n)) (holds_is kind (row kind keys n) key e) refl f
  next n false e None f = λ s lt h. elim (equal_or_less s n (omega arith)) [
    | inl same ↦ (let there : holds kind (row kind keys n) key ≡ true = is_holds kind (row kind keys n) key (subst (λ (k : ℕ). Holds kind (row kind keys k) key) same h) in absurd (cc))
    | inr less ↦ f s less h
  ]
  next n false e (Some r) f = (
    omega (arith, f.0),
    f.1,
    λ s lt h. elim (equal_or_less s n (omega arith)) [
      | inl same ↦ (let there : holds kind (row kind keys n) key ≡ true = is_holds kind (row kind keys n) key (subst (λ (k : ℕ). Holds kind (row kind keys k) key) same h) in absurd (cc))
      | inr less ↦ f.2 s less h
    ],
  )

  among : (n : ℕ) → Among kind keys key n (found_among kind keys key n)
  among zero = λ s lt h. absurd (omega arith)
  among (suc n) = next n (holds kind (row kind keys n) key) refl (found_among kind keys key n) (among n)

  found_by : (o : Option ℕ) → Among kind keys key (count kind keys) o → IsFound kind keys key o
  found_by None f = f
  found_by (Some r) f = record { within = f.0; holds = f.1; longest = f.2 }

-- what is computed is what a lookup finds
pub computed_found : (keyed : Keyed) (key : List ℕ) → IsFound keyed.kind keyed.keys key (row_for keyed key)
computed_found keyed key = found_by keyed.kind keyed.keys key (row_for keyed key) (among keyed.kind keyed.keys key (count keyed.kind keyed.keys))

plain_same : (s v w : ℕ) → v % 2 ^ s ≡ 0 → w % 2 ^ s ≡ 0 → v / 2 ^ s ≡ w / 2 ^ s → v ≡ w
plain_same s v w a b same = plain_is s v a ∙ ap (λ (n : ℕ). n * 2 ^ s) same ∙ sym (plain_is s w b)

-- plain rows of one length that both hold for a key have the same data
same_data : (kind : KeyKind) (a b key : List ℕ) → length a ≡ size kind → length b ≡ size kind → AreBytes a → AreBytes b → IsPlain kind a → IsPlain kind b →
    bits_of kind a ≡ bits_of kind b → Holds kind a key → Holds kind b key → data_of kind a ≡ data_of kind b
same_data (Exact n) a b key a_long b_long f g a_plain b_plain e h k = h ∙ sym k
same_data (Prefix n) a b key a_long b_long f g a_plain b_plain e h k =
    let alike : value (drop 4 a) / 2 ^ (8 * n - word a) ≡ value (drop 4 b) / 2 ^ (8 * n - word a) =
    sym (first_is (Prefix n) (word a) a a_long) ∙ h.2 ∙ ap (λ (m : ℕ). first m (drop 4 key)) e ∙ sym k.2 ∙ ap (λ (m : ℕ). first m (drop 4 b)) (sym e) ∙ first_is (Prefix n) (word a) b b_long in
    value_injective (drop 4 a) (drop 4 b) (data_width (Prefix n) a a_long ∙ sym (data_width (Prefix n) b b_long)) (data_are_bytes (Prefix n) a f) (data_are_bytes (Prefix n) b g)
    (plain_same (8 * n - word a) (value (drop 4 a)) (value (drop 4 b)) a_plain (subst (λ (m : ℕ). value (drop 4 b) % 2 ^ (8 * n - m) ≡ 0) (sym e) b_plain) alike)

one_row : (kind : KeyKind) (keys key : List ℕ) → AreListed kind keys → AreBytes keys → (r s : ℕ) → IsLongest kind keys key r → IsLongest kind keys key s → r ≡ s
one_row kind keys key l f r s a b =
    let e : bits_of kind (row kind keys r) ≡ bits_of kind (row kind keys s) = omega (arith, a.longest s b.within b.holds, b.longest r a.within a.holds) in
    let d = same_data kind (row kind keys r) (row kind keys s) key (row_long kind keys r a.within) (row_long kind keys s b.within) (row_bytes kind keys r f) (row_bytes kind keys s f)
    (l.rows.rows r a.within).plain (l.rows.rows s b.within).plain e a.holds b.holds in
    elim (le_or_lt r s) as (λ c. r ≡ s) [
      | inl le ↦ elim (equal_or_less r s le) as (λ c. r ≡ s) [
        | inl same ↦ same
        | inr less ↦ absurd (l.distinct r s less b.within (record { bits = e; bytes = d }))
      ]
      | inr less ↦ absurd (l.distinct s r less a.within (record { bits = sym e; bytes = sym d }))
    ]

-- a lookup has one answer
pub one_answer : (kind : KeyKind) (keys key : List ℕ) → AreListed kind keys → AreBytes keys → (a b : Option ℕ) → IsFound kind keys key a → IsFound kind keys key b → a ≡ b
one_answer kind keys key l f None None g h = refl
one_answer kind keys key l f None (Some s) g h = absurd (g s h.within h.holds)
one_answer kind keys key l f (Some r) None g h = absurd (h r g.within g.holds)
one_answer kind keys key l f (Some r) (Some s) g h = ap Some (one_row kind keys key l f r s g h)
