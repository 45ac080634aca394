-- Where the counters lie: each in a word of its own, within the table.
use Rattle.std.proofs.Common.{take, get_or, length, ◌≡◌, ℕ, zero, suc, ◌+◌, ◌*◌, ◌<◌, ◌≤◌, List, [], ◌∷◌, refl, ap, arith, mul-le-mul_left}
use mathlib.Core.Logic.{dite}
use native.Mathlib.Decide.{ℕ_discrete, dec_lt}
use Rattle.bpf_note.specs.Shape.{Shape, IsCounter}
use Rattle.bpf_maps.specs.Layout.{size, place_of, total}
use Rattle.bpf_maps.specs.Rule.{word_of}

-- one value more is past all counters of this one
past : (c k j e : ℕ) → k < e → j < c → c * k + j < c * e
past c k j e h i = let m : c * (k + 1) ≤ c * e = mul-le-mul_left c (let h' : k + 1 ≤ e = omega arith in h') in let x : ℕ = c * e in let n : c * (k + 1) ≤ x = m in omega arith

pub within : (ss : List Shape) (m k j : ℕ) → IsCounter ss m k j → place_of ss m k j < total ss
within [] m k j h = absurd h
within (s ∷ ss) zero k j h = let p = past s.counters k j s.entries h.0 h.1 in let x : ℕ = s.counters * s.entries in let q : s.counters * k + j < x = p in omega arith
within (s ∷ ss) (suc m) k j h = let r = within ss m k j h in omega arith

one_value : (c k j k' j' : ℕ) → j < c → j' < c → c * k + j ≡ c * k' + j' → (k ≡ k') × (j ≡ j')
one_value c k j k' j' h i e = dite (ℕ_discrete k k')
    (λ same. let z : c * k ≡ c * k' = ap (λ (n : ℕ). c * n) same in (same, omega arith))
    (λ apart. dite (dec_lt k k')
    (λ less. let p = past c k j k' less h in let x : ℕ = c * k' in let q : c * k + j < x = p in let f : c * k + j ≡ x + j' = e in absurd (omega arith))
    (λ more. let p = past c k' j' k (omega arith) i in let x : ℕ = c * k in let q : c * k' + j' < x = p in let f : x + j ≡ c * k' + j' = e in absurd (omega arith)))

pub apart : (ss : List Shape) (m k j m' k' j' : ℕ) → IsCounter ss m k j → IsCounter ss m' k' j' → place_of ss m k j ≡ place_of ss m' k' j' → (m ≡ m') × (k ≡ k') × (j ≡ j')
apart [] m k j m' k' j' h i e = absurd h
apart (s ∷ ss) zero k j zero k' j' h i e = let t = one_value s.counters k j k' j' h.1 i.1 e in (refl, t.0, t.1)
apart (s ∷ ss) zero k j (suc m') k' j' h i e = let p = past s.counters k j s.entries h.0 h.1 in let x : ℕ = s.counters * s.entries in let q : s.counters * k + j < x = p in let f : s.counters * k + j ≡ x + place_of ss m' k' j' = e in absurd (omega arith)
apart (s ∷ ss) (suc m) k j zero k' j' h i e = let p = past s.counters k' j' s.entries i.0 i.1 in let x : ℕ = s.counters * s.entries in let q : s.counters * k' + j' < x = p in let f : x + place_of ss m k j ≡ s.counters * k' + j' = e in absurd (omega arith)
apart (s ∷ ss) (suc m) k j (suc m') k' j' h i e = let t = apart ss m k j m' k' j' h i (omega arith) in (ap suc t.0, t.1, t.2)

pub place_within : (ss : List Shape) (m k j : ℕ) → IsCounter ss m k j → place_of ss m k j < total ss
place_within = within

pub word_within : (ss : List Shape) (m k j : ℕ) → IsCounter ss m k j → word_of ss m k j < 1 + total ss
word_within ss m k j h = let r = within ss m k j h in omega arith

pub one_place : (ss : List Shape) (m k j m' k' j' : ℕ) → IsCounter ss m k j → IsCounter ss m' k' j' → word_of ss m k j ≡ word_of ss m' k' j' → (m ≡ m') × (k ≡ k') × (j ≡ j')
one_place ss m k j m' k' j' a b e = apart ss m k j m' k' j' a b (omega arith)

pub place_is : (ss : List Shape) (m k j : ℕ) (d : Shape) → IsCounter ss m k j → (m < length ss) × (k < (get_or ss m d).entries) × (j < (get_or ss m d).counters) × (place_of ss m k j ≡ total (take m ss) + ((get_or ss m d).counters * k + j))
place_is [] m k j d h = absurd h
place_is (s ∷ ss) zero k j d h = (omega arith, h.0, h.1, omega arith)
place_is (s ∷ ss) (suc m) k j d h = let r = place_is ss m k j d h in (omega arith, r.1, r.2, (let e = r.3 in omega arith))

-- one map more has its counters more
pub total_more : (ss : List Shape) (i : ℕ) (d : Shape) → i < length ss → total (take (suc i) ss) ≡ total (take i ss) + size (get_or ss i d)
total_more [] i d h = absurd (omega arith)
total_more (s ∷ ss) zero d h = omega arith
total_more (s ∷ ss) (suc i) d h = let r = total_more ss i d (omega arith) in omega (arith, r)
