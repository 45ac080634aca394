-- Bounds in chunks: what they say together.
use Rattle.std.proofs.Common.{◌≡◌, ℕ, zero, suc, ◌+◌, ◌*◌, ◌/◌, ◌<◌, ◌≤◌, refl, Option, List, [], ◌∷◌, ◌++◌, nat_eq, sym, ap, ◌∙◌, arith, cond, subst, length, get_or, inl, inr, append_assoc}
use Rattle.bpf_note.specs.declared.bound.Bound.{Bound}
use Rattle.bpf_note.specs.Parts.{top_in, safe_in, IsNormal, IsNormalFrom}
use Rattle.bpf_note.specs.Chunks.{together, IsQuiet, IsChunk, AreChunks}
use Rattle.bpf_note.proofs.BoundLemmas.{IsFront, front_rises, absent, normal_lower, here_is, there_is, speaks}
use Rattle.bpf_note.proofs.PlaceLemmas.{le_cases}

-- the first of the bounds isn't where nothing is said
unquiet : (x : Bound) (xs : List Bound) (least : ℕ) → IsNormalFrom least (x ∷ xs) → IsQuiet (x ∷ xs) x.id → ⊥
unquiet x xs least n q = let here = here_is x xs in speaks x n.1 (sym here.0 ∙ q.0) (sym here.1 ∙ q.1)

not_below : (m : ℕ) (x : Bound) (xs : List Bound) (least : ℕ) → IsNormalFrom least (x ∷ xs) → ((id : ℕ) → id < m → IsQuiet (x ∷ xs) id) → m < x.id + 1
not_below m x xs least n q = elim (le_cases m x.id) [ inl h ↦ omega arith | inr lt ↦ absurd (unquiet x xs least n (q x.id lt)) ]

not_above : (m : ℕ) (x : Bound) (xs : List Bound) (least : ℕ) → IsNormalFrom least (x ∷ xs) → ((id : ℕ) → m ≤ id → IsQuiet (x ∷ xs) id) → x.id + 1 ≤ m
not_above m x xs least n q = elim (le_cases m x.id) [ inl h ↦ absurd (unquiet x xs least n (q x.id h)) | inr lt ↦ omega arith ]

later_quiet : (x : Bound) (xs : List Bound) (id : ℕ) → x.id < id → IsQuiet (x ∷ xs) id → IsQuiet xs id
later_quiet x xs id h q = let away = there_is x xs id (omega arith) in (sym away.0 ∙ q.0, sym away.1 ∙ q.1)

-- normal bounds that say nothing below lo and from hi on
front_from : (least lo hi : ℕ) (xs : List Bound) → lo ≤ hi → IsNormalFrom least xs → ((id : ℕ) → id < lo → IsQuiet xs id) → ((id : ℕ) → hi ≤ id → IsQuiet xs id) → IsFront lo hi xs
front_from least lo hi [] h n below above = h
front_from least lo hi (x ∷ xs) h n below above =
    let inside : x.id + 1 ≤ hi = not_above hi x xs least n above in (
      not_below lo x xs least n below,
      n.1,
      front_from (x.id + 1) (x.id + 1) hi xs inside n.2 (λ id lt. absent (x.id + 1) xs id n.2 lt) (λ id ge. later_quiet x xs id (omega arith) (above id ge)),
    )

normal_from : (m least : ℕ) (xs : List Bound) → IsNormalFrom least xs → ((id : ℕ) → id < m → IsQuiet xs id) → IsNormalFrom m xs
normal_from m least [] n q = tt
normal_from m least (x ∷ xs) n q = (not_below m x xs least n q, n.1, n.2)

front_lower : (least lower most : ℕ) (xs : List Bound) → lower ≤ least → IsFront least most xs → IsFront lower most xs
front_lower least lower most [] h f = omega arith
front_lower least lower most (x ∷ xs) h f = (omega arith, f.1, f.2)

front_append : (a b c : ℕ) (xs ys : List Bound) → IsFront a b xs → IsFront b c ys → IsFront a c (xs ++ ys)
front_append a b c [] ys f g = front_lower b a c ys f g
front_append a b c (x ∷ xs) ys f g = (f.0, f.1, front_append (x.id + 1) b c xs ys f.2 g)

front_normal : (a b : ℕ) (xs ys : List Bound) → IsFront a b xs → IsNormalFrom b ys → IsNormalFrom a (xs ++ ys)
front_normal a b [] ys f n = normal_lower b a ys f n
front_normal a b (x ∷ xs) ys f n = (f.0, f.1, front_normal (x.id + 1) b xs ys f.2 n)

-- what is said of an id, the second bounds being of greater ones, or the first of lesser ones
said_before : (b id : ℕ) (xs ys : List Bound) → IsNormalFrom b ys → id < b → (top_in (xs ++ ys) id ≡ top_in xs id) × (safe_in (xs ++ ys) id ≡ safe_in xs id)
said_before b id [] ys n h = absent b ys id n h
said_before b id (x ∷ xs) ys n h =
    let ih = said_before b id xs ys n h in
    (ap (λ (t : ℕ). cond (nat_eq id x.id) x.top t) ih.0, ap (λ (s : Option ℕ). cond (nat_eq id x.id) x.safe s) ih.1)

said_past : (a b id : ℕ) (xs ys : List Bound) → IsFront a b xs → b ≤ id → (top_in (xs ++ ys) id ≡ top_in ys id) × (safe_in (xs ++ ys) id ≡ safe_in ys id)
said_past a b id [] ys f h = (refl, refl)
said_past a b id (x ∷ xs) ys f h =
    let lt : x.id + 1 ≤ b = front_rises (x.id + 1) b xs f.2 in
    let away = there_is x (xs ++ ys) id (omega arith) in
    let ih = said_past (x.id + 1) b id xs ys f.2 h in
    (away.0 ∙ ih.0, away.1 ∙ ih.1)

-- chunks that are numbered from k
abbrev From : ℕ → List (List Bound) → Type 0
From k cs = (j : ℕ) → IsChunk (k + j) (get_or cs j [])

from_next : (k : ℕ) (c : List Bound) (cs : List (List Bound)) → From k (c ∷ cs) → From (k + 1) cs
from_next k c cs h j = let e : k + suc j ≡ k + 1 + j = omega arith in subst (λ (n : ℕ). IsChunk n (get_or cs j [])) e (h (suc j))

first_front : (k : ℕ) (c : List Bound) (cs : List (List Bound)) → From k (c ∷ cs) → IsFront (32 * k) (32 * (k + 1)) c
first_front k c cs h =
    let e : k + 0 ≡ k = omega arith in
    let is : IsChunk k c = subst (λ (n : ℕ). IsChunk n c) e (h 0) in
    front_from 0 (32 * k) (32 * (k + 1)) c (omega arith) is.normal is.below (λ id ge. is.above id (omega arith))

together_front : (k : ℕ) (cs : List (List Bound)) → From k cs → IsFront (32 * k) (32 * (k + length cs)) (together cs)
together_front k [] h = omega arith
together_front k (c ∷ cs) h =
    let rest = together_front (k + 1) cs (from_next k c cs h) in
    let e : 32 * (k + 1 + length cs) ≡ 32 * (k + suc (length cs)) = omega arith in
    front_append (32 * k) (32 * (k + 1)) (32 * (k + suc (length cs))) c (together cs) (first_front k c cs h) (subst (λ (n : ℕ). IsFront (32 * (k + 1)) n (together cs)) e rest)

-- bounds that say of one id what others do
abbrev pub SaySameOf : ℕ → List Bound → List Bound → Type 0
SaySameOf id xs ys = (top_in xs id ≡ top_in ys id) × (safe_in xs id ≡ safe_in ys id)

said_in : (k j id m : ℕ) (cs : List (List Bound)) (ys : List Bound) → From k cs → IsNormalFrom m ys → 32 * (k + length cs) ≤ m → 32 * (k + j) ≤ id → id < 32 * (k + j) + 32 → id < m →
    SaySameOf id (together cs ++ ys) (get_or cs j [])
said_in k j id m [] ys h n fits lo hi lt = absent m ys id n lt
said_in k zero id m (c ∷ cs) ys h n fits lo hi lt =
    let below : IsNormalFrom (32 * (k + 1 + length cs)) ys = normal_lower m (32 * (k + 1 + length cs)) ys (omega arith) n in
    let rest : IsNormalFrom (32 * (k + 1)) (together cs ++ ys) = front_normal (32 * (k + 1)) (32 * (k + 1 + length cs)) (together cs) ys (together_front (k + 1) cs (from_next k c cs h)) below in
    subst (λ (zs : List Bound). SaySameOf id zs c) (sym (append_assoc c (together cs) ys)) (said_before (32 * (k + 1)) id c (together cs ++ ys) rest (omega arith))
said_in k (suc j) id m (c ∷ cs) ys h n fits lo hi lt =
    let past = said_past (32 * k) (32 * (k + 1)) id c (together cs ++ ys) (first_front k c cs h) (omega arith) in
    let ih = said_in (k + 1) j id m cs ys (from_next k c cs h) n (omega arith) (omega arith) (omega arith) lt in
    subst (λ (zs : List Bound). SaySameOf id zs (get_or cs j [])) (sym (append_assoc c (together cs) ys)) (past.0 ∙ ih.0, past.1 ∙ ih.1)

from_zero : (cs : List (List Bound)) (high : List Bound) → AreChunks cs high → From 0 cs
from_zero cs high a j = let e : j ≡ 0 + j = omega arith in subst (λ (n : ℕ). IsChunk n (get_or cs j [])) e (a.chunk j)

high_from : (cs : List (List Bound)) (high : List Bound) → AreChunks cs high → IsNormalFrom 4096 high
high_from cs high a = normal_from 4096 0 high a.normal a.quiet

pub view_normal : (cs : List (List Bound)) (high : List Bound) → AreChunks cs high → IsNormal (together cs ++ high)
view_normal cs high a =
    let few = a.few in
    front_normal 0 (32 * (0 + length cs)) (together cs) high (together_front 0 cs (from_zero cs high a)) (normal_lower 4096 (32 * (0 + length cs)) high (omega arith) (high_from cs high a))

pub low_says : (cs : List (List Bound)) (high : List Bound) (id : ℕ) → AreChunks cs high → id < 4096 → SaySameOf id (together cs ++ high) (get_or cs (id / 32) [])
low_says cs high id a lt =
    let few = a.few in
    said_in 0 (id / 32) id 4096 cs high (from_zero cs high a) (high_from cs high a) (omega arith) (omega arith) (omega arith) lt

pub high_says : (cs : List (List Bound)) (high : List Bound) (id : ℕ) → AreChunks cs high → 4096 ≤ id → SaySameOf id (together cs ++ high) high
high_says cs high id a ge =
    let few = a.few in
    said_past 0 (32 * (0 + length cs)) id (together cs) high (together_front 0 cs (from_zero cs high a)) (omega arith)
