-- What the notes of a slot keep as others arrive.
use Rattle.std.proofs.Common.{◌≡◌, ℕ, zero, suc, List, [], ◌∷◌, ◌++◌, refl, sym, ap, ◌∙◌, subst, arith, inl, inr}
use Rattle.std.specs.Prelude.{◌⊎◌, Contains, Ok, Err}
use Rattle.bpf_insn.specs.declared.insn.Insn.{Insn}
use Rattle.bpf_note.specs.Shape.{Shape}
use Rattle.bpf_note.specs.Facts.{Facts}
use Rattle.bpf_note.specs.Join.{joined}
use Rattle.bpf_flow.specs.Edges.{Edges, Answer}
use Rattle.bpf_verify.specs.Gathered.{Arrives, dropped, appended, merged, Hears, Gathers, told, rule_at, allowed, AreAllowed}

-- one note of the list has it
abbrev pub OneHas : (Facts → Type 0) → List Facts → Type 0
OneHas P [] = ⊥
OneHas P (n ∷ ns) = P n ⊎ OneHas P ns

-- each note of the list has it
abbrev pub EachHas : (Facts → Type 0) → List Facts → Type 0
EachHas P [] = Unit {0}
EachHas P (n ∷ ns) = P n × EachHas P ns

-- an edge to slot q brings it
abbrev pub Brings : (Facts → Type 0) → ℕ → Edges → Type 0
Brings P q [] = ⊥
Brings P q (e ∷ es) = ((q ≡ e.0) × P e.1) ⊎ Brings P q es

-- each edge to slot q brings it
abbrev pub BringsOnly : (Facts → Type 0) → ℕ → Edges → Type 0
BringsOnly P q [] = Unit {0}
BringsOnly P q (e ∷ es) = (q ≡ e.0 → P e.1) × BringsOnly P q es

pub further : {A : Type 0} (x : A) (xs : List A) (y : A) → Contains xs y → Contains (x ∷ xs) y
further x xs y at = (suc at.0, (let l = at.1 in omega (arith, l)), at.2)

module _ (P : Facts → Type 0) where
  pub one_stands : (ns : List Facts) (n : Facts) → Contains ns n → P n → OneHas P ns
  one_stands [] n at h = absurd (omega (arith, at.1))
  one_stands (m ∷ ns) n (zero, low, is) h = inl (subst P (sym is) h)
  one_stands (m ∷ ns) n (suc k, low, is) h = inr (one_stands ns n (k, omega arith, is) h)

  pub one_found : (ns : List Facts) → OneHas P ns → (n : Facts) × Contains ns n × P n
  one_found [] h = absurd h
  one_found (m ∷ ns) (inl h) = (m, (0, omega arith, refl), h)
  one_found (m ∷ ns) (inr h) = let r = one_found ns h in (r.0, further m ns r.0 r.1, r.2)

  pub each_at : (ns : List Facts) → EachHas P ns → (n : Facts) → Contains ns n → P n
  each_at [] h n at = absurd (omega (arith, at.1))
  each_at (m ∷ ns) h n (zero, low, is) = subst P is h.0
  each_at (m ∷ ns) h n (suc k, low, is) = each_at ns h.1 n (k, omega arith, is)

  one_left : (xs ys : List Facts) → OneHas P xs → OneHas P (xs ++ ys)
  one_left [] ys h = absurd h
  one_left (x ∷ xs) ys (inl h) = inl h
  one_left (x ∷ xs) ys (inr h) = inr (one_left xs ys h)

  one_right : (xs ys : List Facts) → OneHas P ys → OneHas P (xs ++ ys)
  one_right [] ys h = h
  one_right (x ∷ xs) ys h = inr (one_right xs ys h)

  one_parts : (xs ys : List Facts) → OneHas P (xs ++ ys) → OneHas P xs ⊎ OneHas P ys
  one_parts [] ys h = inr h
  one_parts (x ∷ xs) ys (inl h) = inl (inl h)
  one_parts (x ∷ xs) ys (inr h) = elim (one_parts xs ys h) [ inl l ↦ inl (inr l) | inr r ↦ inr r ]

  each_both : (xs ys : List Facts) → EachHas P xs → EachHas P ys → EachHas P (xs ++ ys)
  each_both [] ys h g = g
  each_both (x ∷ xs) ys h g = (h.0, each_both xs ys h.1 g)

  each_first : (xs ys : List Facts) → EachHas P (xs ++ ys) → EachHas P xs × EachHas P ys
  each_first [] ys h = (tt, h)
  each_first (x ∷ xs) ys h = let r = each_first xs ys h.1 in ((h.0, r.0), r.1)

  brings_left : (q : ℕ) (xs ys : Edges) → Brings P q xs → Brings P q (xs ++ ys)
  brings_left q [] ys h = absurd h
  brings_left q (x ∷ xs) ys (inl h) = inl h
  brings_left q (x ∷ xs) ys (inr h) = inr (brings_left q xs ys h)

  brings_right : (q : ℕ) (xs ys : Edges) → Brings P q ys → Brings P q (xs ++ ys)
  brings_right q [] ys h = h
  brings_right q (x ∷ xs) ys h = inr (brings_right q xs ys h)

  brings_both : (q : ℕ) (xs ys : Edges) → BringsOnly P q xs → BringsOnly P q ys → BringsOnly P q (xs ++ ys)
  brings_both q [] ys h g = g
  brings_both q (x ∷ xs) ys h g = (h.0, brings_both q xs ys h.1 g)

  -- what the rule lets one note of a slot bring, the slot tells
  pub told_brings : (code : List Insn) (shapes : List Shape) (p q : ℕ) (ns : List Facts) (n : Facts) (es : Edges) → Contains ns n → rule_at code shapes p n ≡ Ok es → Brings P q es → Brings P q (told code shapes p ns)
  told_brings code shapes p q [] n es at e h = absurd (omega (arith, at.1))
  told_brings code shapes p q (m ∷ ns) n es (zero, low, is) e h =
      let same : rule_at code shapes p m ≡ Ok es = ap (rule_at code shapes p) is ∙ e in
      brings_left q (allowed (rule_at code shapes p m)) (told code shapes p ns) (subst (λ (a : Answer). Brings P q (allowed a)) (sym same) h)
  told_brings code shapes p q (m ∷ ns) n es (suc k, low, is) e h = brings_right q (allowed (rule_at code shapes p m)) (told code shapes p ns) (told_brings code shapes p q ns n es (k, omega arith, is) e h)

  allowed_only : (q : ℕ) (a : Answer) → ((es : Edges) → a ≡ Ok es → BringsOnly P q es) → BringsOnly P q (allowed a)
  allowed_only q (Ok es) f = f es refl
  allowed_only q (Err c) f = tt

  -- what the rule brings of each note is all that the slot tells
  pub told_only : (code : List Insn) (shapes : List Shape) (p q : ℕ) (ns : List Facts) → ((n : Facts) → Contains ns n → (es : Edges) → rule_at code shapes p n ≡ Ok es → BringsOnly P q es) → BringsOnly P q (told code shapes p ns)
  told_only code shapes p q [] f = tt
  told_only code shapes p q (m ∷ ns) f =
      brings_both q (allowed (rule_at code shapes p m)) (told code shapes p ns)
      (allowed_only q (rule_at code shapes p m) (f m (0, omega arith, refl)))
      (told_only code shapes p q ns (λ n at. f n (further m ns n at)))

  module _ (either : (a b : Facts) → P a ⊎ P b → P (joined a b)) where
    -- one note had it, so one has it still
    pub arrival_kept : (ns : List Facts) (n : Facts) (ms : List Facts) → Arrives ns n ms → OneHas P ns → OneHas P ms
    arrival_kept ns n ms (dropped at) h = h
    arrival_kept ns n ms (appended out few) h = one_left ns (n ∷ []) h
    arrival_kept ns n ms (merged first eighth out seven same) h =
        elim (one_parts first (eighth ∷ []) (subst (OneHas P) same h)) [
          | inl old ↦ one_left first (joined eighth n ∷ []) old
          | inr last ↦ elim last [ inl x ↦ one_right first (joined eighth n ∷ []) (inl (either eighth n (inl x))) | inr none ↦ absurd none ]
        ]

    -- the note that arrives has it, so one has it
    pub arrival_stands : (ns : List Facts) (n : Facts) (ms : List Facts) → Arrives ns n ms → P n → OneHas P ms
    arrival_stands ns n ms (dropped at) h = one_stands ns n at h
    arrival_stands ns n ms (appended out few) h = one_right ns (n ∷ []) (inl h)
    arrival_stands ns n ms (merged first eighth out seven same) h = one_right first (joined eighth n ∷ []) (inl (either eighth n (inr h)))

    pub hearing_kept : (q : ℕ) (es : Edges) (ns r : List Facts) → Hears ns q es r → OneHas P ns → OneHas P r
    hearing_kept q [] ns r h o = subst (OneHas P) h o
    hearing_kept q (e ∷ es) ns r (inl h) o = hearing_kept q es h.1.0 r h.1.2 (arrival_kept ns e.1 h.1.0 h.1.1 o)
    hearing_kept q (e ∷ es) ns r (inr h) o = hearing_kept q es ns r h.1 o

    pub hearing_stands : (q : ℕ) (es : Edges) (ns r : List Facts) → Hears ns q es r → Brings P q es → OneHas P r
    hearing_stands q [] ns r h b = absurd b
    hearing_stands q (e ∷ es) ns r (inl h) (inl b) = hearing_kept q es h.1.0 r h.1.2 (arrival_stands ns e.1 h.1.0 h.1.1 b.1)
    hearing_stands q (e ∷ es) ns r (inl h) (inr b) = hearing_stands q es h.1.0 r h.1.2 b
    hearing_stands q (e ∷ es) ns r (inr h) (inl b) = absurd (h.0 b.0)
    hearing_stands q (e ∷ es) ns r (inr h) (inr b) = hearing_stands q es ns r h.1 b

    pub gathering_kept : (code : List Insn) (shapes : List Shape) (notes : ℕ → List Facts) (q : ℕ) (ps : List ℕ) (ns r : List Facts) → Gathers code shapes notes q ns ps r → OneHas P ns → OneHas P r
    gathering_kept code shapes notes q [] ns r g o = subst (OneHas P) g o
    gathering_kept code shapes notes q (p ∷ ps) ns r g o = gathering_kept code shapes notes q ps g.0 r g.2 (hearing_kept q (told code shapes p (notes p)) ns g.0 g.1 o)

    pub gathering_stands : (code : List Insn) (shapes : List Shape) (notes : ℕ → List Facts) (q : ℕ) (ps : List ℕ) (ns r : List Facts) (p : ℕ) → Gathers code shapes notes q ns ps r → Contains ps p → Brings P q (told code shapes p (notes p)) → OneHas P r
    gathering_stands code shapes notes q [] ns r p g at b = absurd (omega (arith, at.1))
    gathering_stands code shapes notes q (s ∷ ps) ns r p g (zero, low, is) b =
        gathering_kept code shapes notes q ps g.0 r g.2 (hearing_stands q (told code shapes s (notes s)) ns g.0 g.1 (subst (λ (p : ℕ). Brings P q (told code shapes p (notes p))) (sym is) b))
    gathering_stands code shapes notes q (s ∷ ps) ns r p g (suc k, low, is) b = gathering_stands code shapes notes q ps g.0 r p g.2 (k, omega arith, is) b

  module _ (each : (a b : Facts) → P a → P b → P (joined a b)) where
    -- each note has it, and so has the one that arrives
    pub arrival_each : (ns : List Facts) (n : Facts) (ms : List Facts) → Arrives ns n ms → EachHas P ns → P n → EachHas P ms
    arrival_each ns n ms (dropped at) h x = h
    arrival_each ns n ms (appended out few) h x = each_both ns (n ∷ []) h (x, tt)
    arrival_each ns n ms (merged first eighth out seven same) h x =
        let parts = each_first first (eighth ∷ []) (subst (EachHas P) same h) in
        each_both first (joined eighth n ∷ []) parts.0 (each eighth n parts.1.0 x, tt)

    pub hearing_each : (q : ℕ) (es : Edges) (ns r : List Facts) → Hears ns q es r → EachHas P ns → BringsOnly P q es → EachHas P r
    hearing_each q [] ns r h o b = subst (EachHas P) h o
    hearing_each q (e ∷ es) ns r (inl h) o b = hearing_each q es h.1.0 r h.1.2 (arrival_each ns e.1 h.1.0 h.1.1 o (b.0 h.0)) b.1
    hearing_each q (e ∷ es) ns r (inr h) o b = hearing_each q es ns r h.1 o b.1

    pub gathering_each : (code : List Insn) (shapes : List Shape) (notes : ℕ → List Facts) (q : ℕ) (ps : List ℕ) (ns r : List Facts) → Gathers code shapes notes q ns ps r → EachHas P ns →
        ((p : ℕ) → Contains ps p → BringsOnly P q (told code shapes p (notes p))) → EachHas P r
    gathering_each code shapes notes q [] ns r g o f = subst (EachHas P) g o
    gathering_each code shapes notes q (p ∷ ps) ns r g o f =
        gathering_each code shapes notes q ps g.0 r g.2 (hearing_each q (told code shapes p (notes p)) ns g.0 g.1 o (f p (0, omega arith, refl))) (λ s at. f s (further p ps s at))

-- the rule refuses no note of the list
pub allowed_at : (code : List Insn) (shapes : List Shape) (p : ℕ) (ns : List Facts) → AreAllowed code shapes p ns → (n : Facts) → Contains ns n → (es : Edges) × (rule_at code shapes p n ≡ Ok es)
allowed_at code shapes p [] h n at = absurd (omega (arith, at.1))
allowed_at code shapes p (m ∷ ns) h n (zero, low, is) = (h.0.0, ap (rule_at code shapes p) (sym is) ∙ h.0.1)
allowed_at code shapes p (m ∷ ns) h n (suc k, low, is) = allowed_at code shapes p ns h.1 n (k, omega arith, is)
