-- One slot taken, and the end.
use Rattle.std.proofs.Common.{◌≡◌, ◌≢◌, ◌<◌, ◌≤◌, ◌+◌, ℕ, length, List, [], ◌∷◌, ◌++◌, arith, sym, ◌∙◌, refl, subst, ap, inl, inr, Option, Some, None, Bool, true, false, get_or-set_same, get_or-set_other, length-set, length-append, cond}
use Rattle.std.specs.Prelude.{◌⊎◌, Contains, slice_index, slice_set, IfSome}
use Rattle.std.proofs.lemmas.Bool.{cases_lt, cases_order}
use Rattle.std.proofs.lemmas.List.Elements.{Contains-append_left, Contains-append_right, Contains-append_cases}
use Rattle.std.proofs.lemmas.List.Sums.{sum_by-set}
use Rattle.bpf_insn.specs.declared.insn.Insn.{Insn}
use Rattle.bpf_verify.specs.Ways.{jump_to}
use Rattle.bpf_verify.specs.Edges.{Edge}
use Rattle.bpf_verify.specs.Marks.{marked, IsLeft}
use Rattle.bpf_verify.specs.Orders.{more, IsReady}
use Rattle.bpf_verify.specs.Waits.{hits, IsFree, IsTaking}
use Rattle.bpf_verify.proofs.WayLemmas.{marked_inside, fall_up}
use Rattle.bpf_verify.proofs.SearchLemmas.{the_one}
use Rattle.bpf_verify.proofs.WaitLemmas.{hits_way, edge_hits, into_edge, into_none, into_some, into_taken}

pub if_some : (o : Option ℕ) (n t : ℕ) → IfSome o (λ to. n ≤ to) → o ≡ Some t → n ≤ t
if_some None n t h e = cc
if_some (Some s) n t h e = let same : s ≡ t = cc in omega (arith, h)

gone_here : (m : List Bool) (p : ℕ) → p < length m → marked (slice_set m p false) p ≡ false
gone_here m p low = get_or-set_same m p false false low

gone_other : (m : List Bool) (p q : ℕ) → q ≢ p → marked (slice_set m p false) q ≡ marked m q
gone_other m p q other = get_or-set_other m p q false false other

pub same_or_other : (p q : ℕ) → (q ≡ p) ⊎ (q ≢ p)
same_or_other p q = elim (cases_order q p) [ inl e ↦ inl e | inr o ↦ inr (λ e. elim o [ inl l ↦ absurd (omega arith) | inr l ↦ absurd (omega arith) ]) ]

-- what is live after p was taken was live, and isn't p
still : (m : List Bool) (p q : ℕ) → p < length m → marked (slice_set m p false) q ≡ true → (marked m q ≡ true) × (q ≢ p)
still m p q low is = elim (same_or_other p q) [
  | inl e ↦ let no' : false ≡ true = sym (gone_here m p low) ∙ (ap (λ (r : ℕ). marked (slice_set m p false) r) (sym e) ∙ is) in absurd (cc)
  | inr other ↦ (sym (gone_other m p q other) ∙ is, other)
]

module _ (code : List Insn) (start live : List Bool) (taken waits : List ℕ) (from p : ℕ) (t : IsTaking code start live taken waits from) (free : IsFree live waits p) (first : (q : ℕ) → from ≤ q → q < p → IsFree live waits q → ⊥) where
  inside : p < length live
  inside = marked_inside live p free.0

  below : (q : ℕ) → q < p → IsFree live waits q → ⊥
  below q low f = elim (cases_lt q from) [ inl l ↦ t.low q l f | inr h ↦ first q h low f ]

  ready : IsReady (Edge code) (λ q. marked start q ≡ true) taken p
  ready = record {
    within = (t.kept p free.0).0;
    open' = (t.kept p free.0).1;
    preds = λ r on e. elim (t.rest r on) [
      | inl done ↦ done
      | inr alive ↦
          let some = edge_hits code r p e in
          let low = marked_inside live r alive in
          let all = into_edge code (marked live) (length code) r p (omega (arith, t.len.0)) alive in
          absurd (omega (arith, some, all, t.counts p, free.1))
    ];
  }

  lowest : (q : ℕ) → IsReady (Edge code) (λ q. marked start q ≡ true) taken q → p ≤ q
  lowest q r = elim (cases_lt q p) [
    | inr h ↦ h
    | inl low ↦ elim (t.rest q r.within) [
      | inl done ↦ absurd (r.open' done)
      | inr alive ↦
          let nothing = into_none code (marked live) (length code) q (λ s on e. (t.kept s on).1 (r.preds s (t.kept s on).0 e)) in
          absurd (below q low (alive, t.counts q ∙ nothing))
    ]
  ]

  pub taking_on : (waits' : List ℕ) (from' : ℕ) → length waits' ≡ length waits → ((q : ℕ) → slice_index waits' q + hits code p q ≡ slice_index waits q) →
      from' ≤ p → ((q : ℕ) → jump_to code p ≡ Some q → from' ≤ q) → IsTaking code start (slice_set live p false) (taken ++ p ∷ []) waits' from'
  taking_on waits' from' len fewer down jump = record {
    len = (length-set live p false ∙ t.len.0, len ∙ t.len.1);
    takes = more t.takes ready lowest;
    kept = λ q on. let was = still live p q inside on in
        ((t.kept q was.0).0, λ done. elim (Contains-append_cases taken (p ∷ []) q done) [ inl old ↦ (t.kept q was.0).1 old | inr new ↦ was.1 (the_one p q new) ]);
    rest = λ q on. elim (t.rest q on) [
      | inl done ↦ inl (Contains-append_left taken (p ∷ []) q done)
      | inr alive ↦ elim (same_or_other p q) [
        | inl e ↦ inl (subst (λ (r : ℕ). Contains (taken ++ p ∷ []) r) (sym e) (Contains-append_right taken (p ∷ []) p (0, omega arith, refl)))
        | inr other ↦ inr (gone_other live p q other ∙ alive)
      ]
    ];
    counts = λ q.
        let one_less = into_taken code (marked live) (marked (slice_set live p false)) p (length code) q (λ r other. gone_other live p r other) free.0 (gone_here live p inside) (omega (arith, inside, t.len.0)) in
        omega (arith, one_less, fewer q, t.counts q);
    size =
        let one_less = sum_by-set (λ (b : Bool). cond b 1 0) live p false false inside in
        let was : ◌≡◌ {A = ℕ} (cond (marked live p) 1 0) 1 = ap (λ (b : Bool). cond b 1 0) free.0 in
        let len' = length-append taken (p ∷ []) in
        omega (arith, one_less, was, len', t.size);
    low = λ q l f. let was = still live p q inside f.0 in
        elim (cases_lt 0 (hits code p q)) [
          | inr nothing ↦ below q (omega arith) (was.0, omega (arith, fewer q, f.1))
          | inl some ↦ elim (hits_way code p q some) [ inl next ↦ let up = fall_up code p q next in absurd (omega (arith, up)) | inr to ↦ let h = jump q to in absurd (omega (arith, h)) ]
        ];
  }

-- nothing is free any more
pub taking_ended : (code : List Insn) (start live : List Bool) (taken waits : List ℕ) (from : ℕ) → length start ≡ length code → IsTaking code start live taken waits from →
    ((q : ℕ) → from ≤ q → IsFree live waits q → ⊥) → IsLeft (Edge code) start taken live
taking_ended code start live taken waits from len t end = record {
  len = t.len.0 ∙ sym len;
  kept = t.kept;
  size = omega (arith, t.size);
  rest = t.rest;
  waits = λ q on. elim (cases_lt 0 (slice_index waits q)) [
    | inl some ↦ let r = into_some code (marked live) (length code) q (omega (arith, t.counts q)) in (r.0, r.2, r.3)
    | inr nothing ↦ elim (cases_lt q from) [ inl l ↦ absurd (t.low q l (on, omega arith)) | inr h ↦ absurd (end q h (on, omega arith)) ]
  ];
}
