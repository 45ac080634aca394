-- What slots have heard from those before them in an order.
use Rattle.std.proofs.Common.{◌≡◌, inl, inr, ℕ, suc, List, [], ◌∷◌, ◌++◌, refl, sym, arith, subst}
use Rattle.std.specs.Prelude.{Contains}
use Rattle.bpf_insn.specs.declared.insn.Insn.{Insn}
use Rattle.bpf_note.specs.Shape.{Shape}
use Rattle.bpf_note.specs.Facts.{Facts}
use Rattle.bpf_flow.specs.Edges.{Edges}
use Rattle.bpf_flow.proofs.LeadLemmas.{Speaks}
use Rattle.bpf_verify.specs.Gathered.{Hears, told, Gathers, AreNotes}

pub hears_append : (ns : List Facts) (q : ℕ) (es fs : Edges) (m r : List Facts) → Hears ns q es m → Hears m q fs r → Hears ns q (es ++ fs) r
hears_append ns q [] fs m r h g = subst (λ (ns : List Facts). Hears ns q fs r) (sym h) g
hears_append ns q (e ∷ es) fs m r (inl (same, (n, a, h))) g = inl (same, (n, a, hears_append n q es fs m r h g))
hears_append ns q (e ∷ es) fs m r (inr (other, h)) g = inr (other, hears_append ns q es fs m r h g)

pub hears_quiet : (ns : List Facts) (q : ℕ) (es : Edges) (r : List Facts) → (Speaks es q → ⊥) → Hears ns q es r → ns ≡ r
hears_quiet ns q [] r quiet h = h
hears_quiet ns q (e ∷ es) r quiet (inl (same, rest)) = absurd (quiet (inl same))
hears_quiet ns q (e ∷ es) r quiet (inr (other, h)) = hears_quiet ns q es r (λ s. quiet (inr s)) h

module _ (code : List Insn) (shapes : List Shape) where
  pub gathers_same : (notes notes' : ℕ → List Facts) (q : ℕ) (ns : List Facts) (ps : List ℕ) (r : List Facts) → ((p : ℕ) → Contains ps p → notes p ≡ notes' p) → Gathers code shapes notes q ns ps r → Gathers code shapes notes' q ns ps r
  gathers_same notes notes' q ns [] r same h = h
  gathers_same notes notes' q ns (p ∷ ps) r same (m, h, g) = (
    m,
    subst (λ (xs : List Facts). Hears ns q (told code shapes p xs) m) (same p (0, omega arith, refl)) h,
    gathers_same notes notes' q m ps r (λ k at. same k (suc at.0, (let l = at.1 in omega (arith, l)), at.2)) g,
  )

  gathers_last : (notes : ℕ → List Facts) (q : ℕ) (ns : List Facts) (ps : List ℕ) (c : ℕ) (m r : List Facts) → Gathers code shapes notes q ns ps m → Hears m q (told code shapes c (notes c)) r → Gathers code shapes notes q ns (ps ++ c ∷ []) r
  gathers_last notes q ns [] c m r h g = (r, subst (λ (xs : List Facts). Hears xs q (told code shapes c (notes c)) r) (sym h) g, refl)
  gathers_last notes q ns (p ∷ ps) c m r (k, h, g) f = (k, h, gathers_last notes q k ps c m r g f)

  -- one slot more tells its edges
  pub notes_more : (ps : List ℕ) (c : ℕ) (notes notes' : ℕ → List Facts) → ((p : ℕ) → Contains ps p → Speaks (told code shapes c (notes c)) p → ⊥) → (Speaks (told code shapes c (notes c)) c → ⊥) →
      ((q : ℕ) → Hears (notes q) q (told code shapes c (notes c)) (notes' q)) → AreNotes code shapes ps notes → AreNotes code shapes (ps ++ c ∷ []) notes'
  notes_more ps c notes notes' quiet self hears are q =
      let kept : (p : ℕ) → Contains ps p → notes p ≡ notes' p = λ p at. hears_quiet (notes p) p (told code shapes c (notes c)) (notes' p) (quiet p at) (hears p) in
      let same : notes c ≡ notes' c = hears_quiet (notes c) c (told code shapes c (notes c)) (notes' c) self (hears c) in
      gathers_last notes' q _ ps c (notes q) (notes' q) (gathers_same notes notes' q _ ps (notes q) kept (are q))
      (subst (λ (xs : List Facts). Hears (notes q) q (told code shapes c xs) (notes' q)) same (hears q))
