-- What the order of the second pass is like.
use Rattle.std.proofs.Common.{◌≡◌, ◌<◌, ◌≤◌, ◌+◌, ℕ, zero, suc, length, List, [], ◌∷◌, ◌++◌, arith, sym, ◌∙◌, refl, subst, ap, inl, inr, get_or}
use Rattle.std.specs.Prelude.{◌⊎◌, Contains, slice_index_or, slice_index}
use Rattle.std.proofs.lemmas.Bool.{cases_lt, cases_order}
use Rattle.std.proofs.lemmas.List.Elements.{Contains-append_left, Contains-append_cases}
use Rattle.std.proofs.Math.Seq.{get_or-append_seam}
use Rattle.std.proofs.lemmas.List.{get_or_append_left}
use Rattle.bpf_verify.specs.Paths.{IsRank, Steps, stay, step}
use Rattle.bpf_verify.specs.Orders.{Takes, none, more, IsReady}
use Rattle.bpf_verify.proofs.SearchLemmas.{the_one}
use Rattle.bpf_verify.proofs.TakeLemmas.{same_or_other}
use Rattle.bpf_verify.proofs.RankLemmas.{last_length}

-- a slot of x ∷ xs is x or one of xs
apart : (x : ℕ) (xs : List ℕ) (q : ℕ) → Contains (x ∷ xs) q → (q ≡ x) ⊎ Contains xs q
apart x xs q (zero, low, is) = inl (sym is)
apart x xs q (suc k, low, is) = inr (k, omega arith, is)

pub contains_or : (xs : List ℕ) (q : ℕ) → Contains xs q ⊎ (Contains xs q → ⊥)
contains_or [] q = inr (λ at. absurd (omega (arith, at.1)))
contains_or (x ∷ xs) q = elim (same_or_other x q) [
  | inl e ↦ inl (0, omega arith, sym e)
  | inr other ↦ elim (contains_or xs q) [
    | inl at ↦ inl (suc at.0, (let l = at.1 in omega (arith, l)), at.2)
    | inr out ↦ inr (λ at. elim (apart x xs q at) [ inl e ↦ other e | inr rest ↦ out rest ])
  ]
]

-- where all edges go up, what is ready first is the lowest that isn't taken
lowest_open : {Edge : ℕ → ℕ → Type 0} {In : ℕ → Type 0} (taken : List ℕ) (c : ℕ) → ((p q : ℕ) → Edge p q → p < q) → ((q : ℕ) → IsReady Edge In taken q → c ≤ q) →
    (n q : ℕ) → q < n → In q → (Contains taken q → ⊥) → q < c → ⊥
lowest_open taken c up low zero q l on out below = absurd (omega arith)
lowest_open {Edge = Edge} {In = In} taken c up low (suc n) q l on out below =
    let ready : IsReady Edge In taken q = record {
      within = on;
      open' = out;
      preds = λ p on' e. elim (contains_or taken p) [
        | inl at ↦ at
        | inr out' ↦ let rise = up p q e in absurd (lowest_open taken c up low n p (omega (arith, rise)) on' out' (omega (arith, rise)))
      ];
    } in
    let h = low q ready in absurd (omega (arith, h))

pub get_or_same : (xs : List ℕ) (i d : ℕ) → i < length xs → slice_index_or xs i (get_or xs i d) ≡ get_or xs i d
get_or_same [] i d l = absurd (omega arith)
get_or_same (x ∷ xs) zero d l = refl
get_or_same (x ∷ xs) (suc i) d l = get_or_same xs i d (omega arith)

-- then each slot not taken is above all that is taken
pub above : {Edge : ℕ → ℕ → Type 0} {In : ℕ → Type 0} {xs : List ℕ} → ((p q : ℕ) → Edge p q → p < q) → Takes Edge In xs → (x y : ℕ) → Contains xs x → In y → (Contains xs y → ⊥) → x < y
above up none x y at on out = absurd (omega (arith, at.1))
above up (more {taken = taken} {p = c} t ready low) x y at on out =
    let out' : Contains taken y → ⊥ = λ in'. out (Contains-append_left taken (c ∷ []) y in') in
    elim (Contains-append_cases taken (c ∷ []) x at) [
      | inl old ↦ above up t x y old on out'
      | inr new ↦
          let same = the_one c x new in
          elim (cases_order x y) [
            | inl e ↦ absurd (out (subst (λ (r : ℕ). Contains (taken ++ c ∷ []) r) e at))
            | inr o ↦ elim o [
              | inl l ↦ l
              | inr l ↦ absurd (lowest_open taken c up low (suc y) y (omega arith) on out' (omega arith))
            ]
          ]
    ]

-- and the order is the rising one
pub rising : {Edge : ℕ → ℕ → Type 0} {In : ℕ → Type 0} {xs : List ℕ} → ((p q : ℕ) → Edge p q → p < q) → Takes Edge In xs → (i j : ℕ) → i < j → j < length xs → slice_index xs i < slice_index xs j
rising up none i j l l' = absurd (omega arith)
rising up (more {taken = taken} {p = c} t ready low) i j l l' =
    let len = last_length taken c in
    let before : get_or (taken ++ c ∷ []) i 0 ≡ get_or taken i 0 = get_or_append_left taken (c ∷ []) 0 i (omega (arith, len)) in
    elim (cases_lt j (length taken)) [
      | inl old ↦
          let rest = rising up t i j l old in
          let here' : get_or (taken ++ c ∷ []) j 0 ≡ get_or taken j 0 = get_or_append_left taken (c ∷ []) 0 j old in
          omega (arith, rest, before, here')
      | inr past ↦
          let last : j ≡ length taken = omega (arith, len) in
          let here' : get_or (taken ++ c ∷ []) j 0 ≡ c = ap (λ (k : ℕ). get_or (taken ++ c ∷ []) k 0) last ∙ get_or-append_seam taken c [] 0 in
          let up' = above up t (get_or taken i 0) c (i, omega arith, get_or_same taken i 0 (omega arith)) ready.within ready.open' in
          omega (arith, before, here', up')
    ]

-- one list of a length alone is such an order
pub same_order : {Edge : ℕ → ℕ → Type 0} {In : ℕ → Type 0} {xs ys : List ℕ} → Takes Edge In xs → Takes Edge In ys → length xs ≡ length ys → xs ≡ ys
same_order none none e = refl
same_order none (more {taken = taken} {p = c} t ready low) e = let len = last_length taken c in absurd (omega (arith, e, len))
same_order (more {taken = taken} {p = c} t ready low) none e = let len = last_length taken c in absurd (omega (arith, e, len))
same_order {Edge = Edge} {In = In} (more {taken = taken} {p = c} t ready low) (more {taken = taken'} {p = c'} t' ready' low') e =
    let len = last_length taken c in
    let len' = last_length taken' c' in
    let same = same_order t t' (omega (arith, e, len, len')) in
    let a = low c' (subst (λ (zs : List ℕ). IsReady Edge In zs c') (sym same) ready') in
    let b = low' c (subst (λ (zs : List ℕ). IsReady Edge In zs c) same ready) in
    let is : c ≡ c' = omega (arith, a, b) in
    ap (λ (zs : List ℕ). zs ++ c ∷ []) same ∙ ap (λ (k : ℕ). taken' ++ k ∷ []) is

-- the beginning of an order of a length, and what was ready then
record Beginning (Edge : ℕ → ℕ → Type 0) (In : ℕ → Type 0) (k : ℕ) : Type 0 where
  front : List ℕ
  takes : Takes Edge In front
  len : length front ≡ k
  slot : ℕ
  ready : IsReady Edge In front slot

beginning : {Edge : ℕ → ℕ → Type 0} {In : ℕ → Type 0} {xs : List ℕ} → Takes Edge In xs → (k : ℕ) → k < length xs → Beginning Edge In k
beginning none k l = absurd (omega arith)
beginning (more {taken = taken} {p = c} t ready low) k l =
    let len' = last_length taken c in
    elim (cases_lt k (length taken)) [
      | inl shorter ↦ beginning t k shorter
      | inr h ↦ record { front = taken; takes = t; len = omega (arith, len'); slot = c; ready = ready }
    ]

not_longer : {Edge : ℕ → ℕ → Type 0} {In : ℕ → Type 0} {xs ys : List ℕ} → Takes Edge In xs → ((q : ℕ) → In q → Contains xs q) → Takes Edge In ys → length xs < length ys → ⊥
not_longer {Edge = Edge} {In = In} {xs = xs} t whole t' l =
    let b = beginning t' (length xs) l in
    let same = same_order b.takes t b.len in
    b.ready.open' (subst (λ (zs : List ℕ). Contains zs b.slot) (sym same) (whole b.slot b.ready.within))

-- there is one whole order
pub one_order : {Edge : ℕ → ℕ → Type 0} {In : ℕ → Type 0} {xs ys : List ℕ} → Takes Edge In xs → ((q : ℕ) → In q → Contains xs q) → Takes Edge In ys → ((q : ℕ) → In q → Contains ys q) → xs ≡ ys
one_order {xs = xs} {ys = ys} t whole t' whole' = elim (cases_order (length xs) (length ys)) [
  | inl e ↦ same_order t t' e
  | inr o ↦ elim o [ inl l ↦ absurd (not_longer t whole t' l) | inr l ↦ absurd (not_longer t' whole' t l) ]
]

-- takes no more of them than the rank falls
pub steps_fall : {Edge : ℕ → ℕ → Type 0} {rank : ℕ → ℕ} {k p q : ℕ} → IsRank Edge rank → Steps Edge k p q → k + rank q ≤ rank p
steps_fall r stay = omega arith
steps_fall r (step {k = k} {p = p} {q = q} e s) = let rest = steps_fall r s in let one = r.falls p q e in omega (arith, rest, one)

-- only slots of the set are taken
pub takes_within : {Edge : ℕ → ℕ → Type 0} {In : ℕ → Type 0} {xs : List ℕ} → Takes Edge In xs → (q : ℕ) → Contains xs q → In q
takes_within none q at = absurd (omega (arith, at.1))
takes_within {In = In} (more {taken = taken} {p = c} t ready low) q at = elim (Contains-append_cases taken (c ∷ []) q at) [
  | inl old ↦ takes_within t q old
  | inr new ↦ subst In (sym (the_one c q new)) ready.within
]
