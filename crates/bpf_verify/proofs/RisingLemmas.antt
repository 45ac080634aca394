-- Where no jump goes back every edge goes up: the program is ordered, and what is reached is taken upwards.
use Rattle.std.proofs.Common.{◌≡◌, ◌<◌, ◌+◌, ℕ, ℤ, pos, negsuc, zero, suc, length, List, [], ◌∷◌, ◌++◌, arith, sym, ◌∙◌, refl, subst, ap, inl, inr, Option, Some, Bool, true, false}
use Rattle.std.specs.Prelude.{◌⊎◌, ◌↔◌, Contains, if◌then◌else◌}
use Rattle.std.proofs.lemmas.Bool.{cases_lt}
use Rattle.std.proofs.lemmas.List.Elements.{Contains-append_left, Contains-append_right, Contains-append_cases}
use Rattle.bpf_insn.specs.declared.insn.Insn.{Insn}
use Rattle.bpf_insn.specs.declared.insn.Insn.TheVariants.{Second}
use Rattle.bpf_flow.specs.Step.{target}
use Rattle.bpf_verify.specs.Consistent.{worth, instructions, IsOrdered}
use Rattle.bpf_verify.specs.Edges.{Edge, Flows, IsPassOrder}
use Rattle.bpf_verify.specs.Marks.{marked}
use Rattle.bpf_verify.specs.Orders.{Takes, none, more}
use Rattle.bpf_verify.specs.Paths.{here}
use Rattle.bpf_verify.specs.Rising.{is_negative, IsRising}
use Rattle.bpf_verify.specs.Structure.{begins}
use Rattle.bpf_verify.specs.Ways.{fall_to, jump_to}
use Rattle.bpf_verify.proofs.CycleLemmas.{one_more}
use Rattle.bpf_verify.proofs.GraphLemmas.{begun_worth, next_above, way, Falls, Jumps}
use Rattle.bpf_verify.proofs.OrderLemmas.{takes_same}
use Rattle.bpf_verify.proofs.SearchLemmas.{the_one, spread}
use Rattle.bpf_verify.proofs.WayLemmas.{Stands, marked_inside, edge_way, fall_edge, jump_edge}

jump_up : (p q : ℕ) (off : ℤ) → target p off ≡ Some q → is_negative (Some off) ≡ false → p < q
jump_up p q (pos n) t h = let same : p + 1 + n ≡ q = cc in omega (arith, same)
jump_up p q (negsuc n) t h = absurd (cc)

pub rising_up : (code : List Insn) → IsRising code → (p q : ℕ) → Edge code p q → p < q
rising_up code up p q e = elim (way e.insn p q e.leads) [
  | Falls t s ↦ let h = next_above p e.insn in omega (arith, h, s)
  | Jumps off j t ↦ jump_up p q off t (subst (λ (o : Option ℤ). is_negative o ≡ false) j (up p e.insn e.here))
]

-- how many instructions stand behind slot k
abbrev after : List Insn → ℕ → ℕ
after [] k = 0
after (i ∷ code) zero = instructions code
after (i ∷ code) (suc k) = after code k

after_below : (code : List Insn) (q : ℕ) → Stands code q → after code q < instructions code
after_below [] q s = absurd (cc)
after_below (i ∷ code) zero s = let w = begun_worth i s in omega (arith, w)
after_below (i ∷ code) (suc q) s = let low = after_below code q s in omega (arith, low)

after_falls : (code : List Insn) (p q : ℕ) → p < q → Stands code q → after code q < after code p
after_falls [] p q l s = absurd (cc)
after_falls (i ∷ code) p zero l s = absurd (omega (arith, l))
after_falls (i ∷ code) zero (suc q) l s = after_below code q s
after_falls (i ∷ code) (suc p) (suc q) l s = after_falls code p q (omega (arith, l)) s

worth_begun : (i : Insn) → worth i ≡ 1 → begins (Some i) ≡ true
worth_begun Second w = absurd (omega (arith, w))
worth_begun i w = refl

pub rising_ordered : (code : List Insn) → IsRising code → IsOrdered code
rising_ordered code up = record {
  rank = after code;
  below = λ pc i e w. after_below code pc (ap begins e ∙ worth_begun i w);
  falls = record { falls = λ p q e. after_falls code p q (rising_up code up p q e) e.lands };
}

-- the marked slots below k, upwards
abbrev pub rising : List Bool → ℕ → List ℕ
rising m zero = []
rising m (suc k) = if marked m k then rising m k ++ k ∷ [] else rising m k

-- q is one of them
abbrev IsBelow : List Bool → ℕ → ℕ → Type 0
IsBelow m k q = (q < k) × (marked m q ≡ true)

only_by : (m : List Bool) (k q : ℕ) (b : Bool) → marked m k ≡ b → (Contains (rising m k) q → IsBelow m k q) → Contains (if b then rising m k ++ k ∷ [] else rising m k) q → IsBelow m (suc k) q
only_by m k q true on old c = elim (Contains-append_cases (rising m k) (k ∷ []) q c) [
  | inl was ↦ let h = old was in let low = h.0 in (omega (arith, low), h.1)
  | inr new ↦ let e = the_one k q new in (omega (arith, e), subst (λ (r : ℕ). marked m r ≡ true) (sym e) on)
]
only_by m k q false on old c = let h = old c in let low = h.0 in (omega (arith, low), h.1)

rising_only : (m : List Bool) (k q : ℕ) → Contains (rising m k) q → IsBelow m k q
rising_only m zero q c = let low = c.1 in absurd (omega (arith, low))
rising_only m (suc k) q c = only_by m k q (marked m k) refl (rising_only m k q) c

has_by : (m : List Bool) (k q : ℕ) (b : Bool) → marked m k ≡ b → (q < k → Contains (rising m k) q) → IsBelow m (suc k) q → Contains (if b then rising m k ++ k ∷ [] else rising m k) q
has_by m k q true on old h = elim (cases_lt q k) [
  | inl low ↦ Contains-append_left (rising m k) (k ∷ []) q (old low)
  | inr high ↦ let low = h.0 in let e : k ≡ q = omega (arith, low, high) in Contains-append_right (rising m k) (k ∷ []) q (0, omega arith, e)
]
has_by m k q false on old h = elim (cases_lt q k) [
  | inl low ↦ old low
  | inr high ↦ let low = h.0 in let e : q ≡ k = omega (arith, low, high) in let is : marked m k ≡ true = subst (λ (r : ℕ). marked m r ≡ true) e h.1 in absurd (cc)
]

rising_has : (m : List Bool) (k q : ℕ) → q < k → marked m q ≡ true → Contains (rising m k) q
rising_has m zero q low on = absurd (omega (arith, low))
rising_has m (suc k) q low on = has_by m k q (marked m k) refl (λ l. rising_has m k q l on) (low, on)

takes_by : {Edge : ℕ → ℕ → Type 0} (m : List Bool) (k : ℕ) (b : Bool) → marked m k ≡ b → ((p q : ℕ) → Edge p q → p < q) → Takes Edge (λ q. marked m q ≡ true) (rising m k) →
    Takes Edge (λ q. marked m q ≡ true) (if b then rising m k ++ k ∷ [] else rising m k)
takes_by m k true on up t = more t (record {
  within = on;
  open' = λ c. let low = (rising_only m k k c).0 in absurd (omega (arith, low));
  preds = λ p at e. rising_has m k p (up p k e) at;
}) (λ q r. elim (cases_lt q k) [ inl low ↦ absurd (r.open' (rising_has m k q low r.within)) | inr high ↦ high ])
takes_by m k false on up t = t

rising_takes : {Edge : ℕ → ℕ → Type 0} (m : List Bool) (k : ℕ) → ((p q : ℕ) → Edge p q → p < q) → Takes Edge (λ q. marked m q ≡ true) (rising m k)
rising_takes m zero up = none
rising_takes m (suc k) up = takes_by m k (marked m k) refl up (rising_takes m k up)

rising_same : (m m' : List Bool) (k : ℕ) → ((q : ℕ) → q < k → marked m q ≡ marked m' q) → rising m k ≡ rising m' k
rising_same m m' zero same = refl
rising_same m m' (suc k) same =
    ap (λ (b : Bool). if b then rising m k ++ k ∷ [] else rising m k) (same k (omega arith))
    ∙ ap (λ (xs : List ℕ). if marked m' k then xs ++ k ∷ [] else xs) (rising_same m m' k (λ q low. same q (omega (arith, low))))

-- the slots below k were looked at: what leads on from those that are marked is marked, and they are taken
pub record IsRisen (code : List Insn) (m : List Bool) (taken : List ℕ) (k : ℕ) : Type 0 where
  pub len : length m ≡ length code
  pub first : marked m 0 ≡ true
  pub sound : (q : ℕ) → marked m q ≡ true → Flows code 0 q
  pub closed : (p q : ℕ) → p < k → marked m p ≡ true → Edge code p q → marked m q ≡ true
  pub upwards : taken ≡ rising m k

-- one slot is marked, and nothing else
abbrev pub Marks : List Bool → Option ℕ → List Bool → Type 0
Marks m to m' = (q : ℕ) → (marked m' q ≡ true) ↔ ((marked m q ≡ true) ⊎ (to ≡ Some q))

-- before the first slot
pub risen_first : (code : List Insn) (fresh m : List Bool) (taken : List ℕ) → ((q : ℕ) → marked fresh q ≡ true → ⊥) → length m ≡ length code → taken ≡ [] → Marks fresh (Some 0) m → IsRisen code m taken 0
risen_first code fresh m taken clear len empty marks = record {
  len = len;
  first = (marks 0).1 (inr refl);
  sound = λ q on. elim ((marks q).0 on) [ inl old ↦ absurd (clear q old) | inr is ↦ let same : 0 ≡ q = cc in subst (λ (r : ℕ). Flows code 0 r) same here ];
  closed = λ p q low on e. absurd (omega (arith, low));
  upwards = empty;
}

next : (k : ℕ) → suc k ≡ k + 1
next k = omega arith

-- slot k isn't marked
pub risen_past : (code : List Insn) (m : List Bool) (taken : List ℕ) (k : ℕ) → IsRisen code m taken k → marked m k ≡ false → IsRisen code m taken (k + 1)
risen_past code m taken k r off = subst (λ (n : ℕ). IsRisen code m taken n) (next k) (record {
  len = r.len;
  first = r.first;
  sound = r.sound;
  closed = λ p q low on e. elim (cases_lt p k) [
    | inl old ↦ r.closed p q old on e
    | inr high ↦ let same : p ≡ k = omega (arith, low, high) in let is : marked m k ≡ true = subst (λ (r : ℕ). marked m r ≡ true) same on in absurd (cc)
  ];
  upwards = r.upwards ∙ ap (λ (b : Bool). if b then rising m k ++ k ∷ [] else rising m k) (sym off);
})

same_truth : (a b : Bool) → (a ≡ true → b ≡ true) → (b ≡ true → a ≡ true) → a ≡ b
same_truth true b to from = sym (to refl)
same_truth false true to from = from refl
same_truth false false to from = refl

module _ (code : List Insn) (up : IsRising code) (m m' m'' : List Bool) (k : ℕ) (fall : Marks m (fall_to code k) m') (jump : Marks m' (jump_to code k) m'') where
  kept : (q : ℕ) → marked m q ≡ true → marked m'' q ≡ true
  kept q on = (jump q).1 (inl ((fall q).1 (inl on)))

  low_only : (q : ℕ) → q < suc k → marked m'' q ≡ true → marked m q ≡ true
  low_only q low on = elim ((jump q).0 on) [
    | inr is ↦ let h = rising_up code up k q (jump_edge code k q is) in absurd (omega (arith, low, h))
    | inl on' ↦ elim ((fall q).0 on') [ inl old ↦ old | inr is ↦ let h = rising_up code up k q (fall_edge code k q is) in absurd (omega (arith, low, h)) ]
  ]

  same_low : (q : ℕ) → q < suc k → marked m q ≡ marked m'' q
  same_low q low = same_truth (marked m q) (marked m'' q) (kept q) (low_only q low)

  -- slot k is marked: it is taken, and its edges are followed
  pub risen_on : (taken : List ℕ) → IsRisen code m taken k → marked m k ≡ true → length m'' ≡ length code → IsRisen code m'' (taken ++ k ∷ []) (k + 1)
  risen_on taken r on len = subst (λ (n : ℕ). IsRisen code m'' (taken ++ k ∷ []) n) (next k) (record {
    len = len;
    first = kept 0 r.first;
    sound = λ q on''. elim ((jump q).0 on'') [
      | inr is ↦ one_more (r.sound k on) (jump_edge code k q is)
      | inl on' ↦ elim ((fall q).0 on') [ inl old ↦ r.sound q old | inr is ↦ one_more (r.sound k on) (fall_edge code k q is) ]
    ];
    closed = λ p q low on'' e.
        let was = low_only p low on'' in
        elim (cases_lt p k) [
          | inl old ↦ kept q (r.closed p q old was e)
          | inr high ↦
              let same : p ≡ k = omega (arith, low, high) in
              elim (edge_way code k q (subst (λ (s : ℕ). Edge code s q) same e)) [ inl is ↦ (jump q).1 (inl ((fall q).1 (inr is))) | inr is ↦ (jump q).1 (inr is) ]
        ];
    upwards =
        ap (λ (xs : List ℕ). xs ++ k ∷ []) r.upwards
        ∙ (ap (λ (b : Bool). if b then rising m k ++ k ∷ [] else rising m k) (sym on) ∙ rising_same m m'' (suc k) same_low);
  })

-- all slots were looked at
pub risen_passes : (code : List Insn) (m : List Bool) (taken : List ℕ) → IsRising code → IsRisen code m taken (length code) → IsPassOrder code taken
risen_passes code m taken up r =
    let inside : (p : ℕ) → marked m p ≡ true → p < length code = λ p on. let low = marked_inside m p on in omega (arith, low, r.len) in
    let whole : (q : ℕ) → Flows code 0 q → marked m q ≡ true = λ q f. spread m (λ p s on e. r.closed p s (inside p on) on e) f r.first in
    subst (λ (xs : List ℕ). IsPassOrder code xs) (sym r.upwards) (record {
      takes = takes_same r.sound whole (rising_takes m (length code) (rising_up code up));
      whole = λ q f. rising_has m (length code) q (inside q (whole q f)) (whole q f);
    })
