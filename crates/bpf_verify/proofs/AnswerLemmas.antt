-- A program has one answer.
use Rattle.std.proofs.Common.{◌≡◌, inl, inr, ◌<◌, ◌≤◌, ℕ, zero, suc, List, [], ◌∷◌, ◌++◌, length, take, drop, get_or, refl, sym, ap, ◌∙◌, arith, subst}
use Rattle.std.specs.Prelude.{Contains, Ok, Err}
use Rattle.std.proofs.lemmas.Bool.{cases_lt}
use Rattle.std.proofs.lemmas.List.{take_all}
use Rattle.bpf_insn.specs.Code.{IsCode}
use Rattle.bpf_insn.specs.declared.insn.Insn.{Insn}
use Rattle.bpf_insn.specs.declared.refusal.Cause.{Cause}
use Rattle.bpf_insn.specs.declared.refusal.Cause.TheVariants.{Memory, Length, Opcode, Register, Target, BackJump, End, Unset, FramePointer, NoPointer, Packet, Stack, Context, MayBeNull, MapAccess, Helper, MapNumber, Argument, Unsupported}
use Rattle.bpf_note.specs.Shape.{Shape}
use Rattle.bpf_note.specs.Facts.{Facts}
use Rattle.bpf_note.specs.Join.{joined}
use Rattle.bpf_flow.specs.Edges.{Edges}
use Rattle.bpf_flow.proofs.LeadLemmas.{Speaks}
use Rattle.bpf_verify.specs.Edges.{Edge, Flows, IsPassOrder}
use Rattle.bpf_verify.specs.FirstRefusal.{IsFirstFault, IsStructured, IsPassed, IsStopped, IsSecondRefusal, IsRefusal, IsFaultless}
use Rattle.bpf_verify.specs.Gathered.{Arrives, dropped, appended, merged, Hears, told, Gathers, first_notes, AreNotes, AreAllowed, IsFirstCause}
use Rattle.bpf_verify.proofs.GatherLemmas.{hears_quiet, gathers_same}
use Rattle.bpf_verify.proofs.ToldLemmas.{told_edge}
use Rattle.bpf_verify.proofs.RankLemmas.{last_length}
use Rattle.bpf_verify.proofs.LawLemmas.{one_order}
use Rattle.bpf_verify.proofs.PassingLemmas.{taken_at}
use Rattle.bpf_verify.proofs.FaultLemmas.{fine_fault, first_fault_once}

-- lists of one length with one more element each are equal in both parts
last_same : {A : Type 0} (xs ys : List A) (x y : A) → length xs ≡ length ys → xs ++ x ∷ [] ≡ ys ++ y ∷ [] → (xs ≡ ys) × (x ≡ y)
last_same [] [] x y h e = (refl, cc)
last_same [] (b ∷ ys) x y h e = absurd (omega arith)
last_same (a ∷ xs) [] x y h e = absurd (omega arith)
last_same (a ∷ xs) (b ∷ ys) x y h e =
    let head : a ≡ b = cc in
    let tail : xs ++ x ∷ [] ≡ ys ++ y ∷ [] = cc in
    let r = last_same xs ys x y (omega arith) tail in
    (cc (head, r.0), r.1)

too_long : (ns first : List Facts) (e : Facts) → length ns < 8 → length first ≡ 7 → ns ≡ first ++ e ∷ [] → ⊥
too_long ns first e low seven is = let same : length ns ≡ length (first ++ e ∷ []) = ap length is in let r = last_length first e in omega (arith, low, seven, same, r)

-- what a note's coming makes of a list
arrives_one : (ns : List Facts) (n : Facts) (r r' : List Facts) → Arrives ns n r → Arrives ns n r' → r ≡ r'
arrives_one ns n _ _ (dropped h) (dropped g) = refl
arrives_one ns n _ _ (dropped h) (appended new low) = absurd (new h)
arrives_one ns n _ _ (dropped h) (merged first e new seven is) = absurd (new h)
arrives_one ns n _ _ (appended new low) (dropped h) = absurd (new h)
arrives_one ns n _ _ (appended new low) (appended new' low') = refl
arrives_one ns n _ _ (appended new low) (merged first e new' seven is) = absurd (too_long ns first e low seven is)
arrives_one ns n _ _ (merged first e new seven is) (dropped h) = absurd (new h)
arrives_one ns n _ _ (merged first e new seven is) (appended new' low) = absurd (too_long ns first e low seven is)
arrives_one ns n _ _ (merged first e new seven is) (merged first' e' new' seven' is') =
    let parts = last_same first first' e e' (seven ∙ sym seven') (sym is ∙ is') in
    ap (λ (f : List Facts). f ++ joined e n ∷ []) parts.0 ∙ ap (λ (x : Facts). first' ++ joined x n ∷ []) parts.1

hears_one : (ns : List Facts) (q : ℕ) (es : Edges) (r r' : List Facts) → Hears ns q es r → Hears ns q es r' → r ≡ r'
hears_one ns q [] r r' h g = sym h ∙ g
hears_one ns q (e ∷ es) r r' (inl (same, (m, a, h))) (inl (same', (m', a', h'))) =
    hears_one m q es r r' h (subst (λ (m : List Facts). Hears m q es r') (arrives_one ns e.1 m' m a' a) h')
hears_one ns q (e ∷ es) r r' (inl (same, h)) (inr (other, g)) = absurd (other same)
hears_one ns q (e ∷ es) r r' (inr (other, h)) (inl (same, g)) = absurd (other same)
hears_one ns q (e ∷ es) r r' (inr (other, h)) (inr (other', g)) = hears_one ns q es r r' h g

take_cut : (xs : List ℕ) (j k : ℕ) → j ≤ k → take k xs ≡ take j xs ++ drop j (take k xs)
take_cut xs zero k h = refl
take_cut xs (suc j) zero h = absurd (omega arith)
take_cut [] (suc j) (suc k) h = refl
take_cut (x ∷ xs) (suc j) (suc k) h = ap (λ (ys : List ℕ). x ∷ ys) (take_cut xs j k (omega arith))

-- what stands behind the first j of the first k stands at a place from j on
behind : (xs : List ℕ) (j k p : ℕ) → Contains (drop j (take k xs)) p → (i : ℕ) × (j ≤ i) × (i < length xs) × (get_or xs i 0 ≡ p)
behind [] zero zero p (n, low, at) = absurd (omega arith)
behind [] zero (suc k) p (n, low, at) = absurd (omega arith)
behind [] (suc j) zero p (n, low, at) = absurd (omega arith)
behind [] (suc j) (suc k) p (n, low, at) = absurd (omega arith)
behind (x ∷ xs) zero zero p (n, low, at) = absurd (omega arith)
behind (x ∷ xs) (suc j) zero p (n, low, at) = absurd (omega arith)
behind (x ∷ xs) zero (suc k) p (zero, low, at) = (0, omega arith, omega arith, at)
behind (x ∷ xs) zero (suc k) p (suc n, low, at) = let r = behind xs zero k p (n, omega arith, at) in (suc r.0, omega arith, (let l = r.2 in omega (arith, l)), r.3)
behind (x ∷ xs) (suc j) (suc k) p c = let r = behind xs j k p c in (suc r.0, (let l = r.1 in omega (arith, l)), (let l = r.2 in omega (arith, l)), r.3)

-- what stands among the first j stands at a place below j
among : (xs : List ℕ) (j p : ℕ) → Contains (take j xs) p → (i : ℕ) × (i < j) × (i < length xs) × (get_or xs i 0 ≡ p)
among [] zero p (n, low, at) = absurd (omega arith)
among [] (suc j) p (n, low, at) = absurd (omega arith)
among (x ∷ xs) zero p (n, low, at) = absurd (omega arith)
among (x ∷ xs) (suc j) p (zero, low, at) = (0, omega arith, omega arith, at)
among (x ∷ xs) (suc j) p (suc n, low, at) = let r = among xs j p (n, omega arith, at) in (suc r.0, (let l = r.1 in omega (arith, l)), (let l = r.2 in omega (arith, l)), r.3)

there : (xs : List ℕ) (i j : ℕ) → i < j → i < length xs → Contains (take j xs) (get_or xs i 0)
there [] i j low inside = absurd (omega arith)
there (x ∷ xs) i zero low inside = absurd (omega arith)
there (x ∷ xs) zero (suc j) low inside = (0, omega arith, refl)
there (x ∷ xs) (suc i) (suc j) low inside = let r = there xs i j (omega arith) (omega arith) in (suc r.0, (let l = r.1 in omega (arith, l)), r.2)

module _ (code : List Insn) (shapes : List Shape) where
  gathers_one : (notes : ℕ → List Facts) (q : ℕ) (ns : List Facts) (ps : List ℕ) (r r' : List Facts) → Gathers code shapes notes q ns ps r → Gathers code shapes notes q ns ps r' → r ≡ r'
  gathers_one notes q ns [] r r' h g = sym h ∙ g
  gathers_one notes q ns (p ∷ ps) r r' (m, h, g) (m', h', g') =
      gathers_one notes q m ps r r' g (subst (λ (m : List Facts). Gathers code shapes notes q m ps r') (hears_one ns q (told code shapes p (notes p)) m' m h' h) g')

  -- slots that tell q nothing
  gathers_quiet : (notes : ℕ → List Facts) (q : ℕ) (ns : List Facts) (ps : List ℕ) (r : List Facts) → ((p : ℕ) → Contains ps p → Speaks (told code shapes p (notes p)) q → ⊥) → Gathers code shapes notes q ns ps r → ns ≡ r
  gathers_quiet notes q ns [] r quiet h = h
  gathers_quiet notes q ns (p ∷ ps) r quiet (m, h, g) =
      hears_quiet ns q (told code shapes p (notes p)) m (quiet p (0, omega arith, refl)) h ∙ gathers_quiet notes q m ps r (λ k at. quiet k (suc at.0, (let l = at.1 in omega (arith, l)), at.2)) g

  gathers_front : (notes : ℕ → List Facts) (q : ℕ) (ns : List Facts) (xs ys : List ℕ) (r : List Facts) → ((p : ℕ) → Contains ys p → Speaks (told code shapes p (notes p)) q → ⊥) → Gathers code shapes notes q ns (xs ++ ys) r → Gathers code shapes notes q ns xs r
  gathers_front notes q ns [] ys r quiet h = gathers_quiet notes q ns ys r quiet h
  gathers_front notes q ns (p ∷ xs) ys r quiet (m, h, g) = (m, h, gathers_front notes q m xs ys r quiet g)

  module _ (order : List ℕ) (laid : IsCode code) (structured : IsStructured code (length shapes)) (is : IsPassOrder code order) where
    -- a slot at place i or above tells the slot at place j, which isn't above it, nothing
    silent : (notes : ℕ → List Facts) (j k p : ℕ) → j < length order → Contains (drop j (take k order)) p → Speaks (told code shapes p (notes p)) (get_or order j 0) → ⊥
    silent notes j k p low at s =
        let place = behind order j k p at in
        let here = taken_at is.takes place.0 place.2 in
        let reached : Flows code 0 p = subst (λ (q : ℕ). Flows code 0 q) place.3 here.ready.within in
        let edge : Edge code p (get_or order j 0) = told_edge code shapes laid structured p (get_or order j 0) (notes p) s in
        let before = among order j p ((taken_at is.takes j low).ready.preds p reached edge) in
        let early : Contains (take place.0 order) p = subst (λ (q : ℕ). Contains (take place.0 order) q) before.3 (there order before.0 place.0 (let a = before.1 in let b = place.1 in omega (arith, a, b)) before.2) in
        here.ready.open' (subst (λ (q : ℕ). Contains (take place.0 order) q) (sym place.3) early)

    -- at place j stands what the slots before it told
    so_far : (notes : ℕ → List Facts) (k j : ℕ) → AreNotes code shapes (take k order) notes → j ≤ k → j < length order → Gathers code shapes notes (get_or order j 0) (first_notes (get_or order j 0)) (take j order) (notes (get_or order j 0))
    so_far notes k j are low inside =
        let q = get_or order j 0 in
        gathers_front notes q (first_notes q) (take j order) (drop j (take k order)) (notes q) (λ p at s. silent notes j k p inside at s)
        (subst (λ (ps : List ℕ). Gathers code shapes notes q (first_notes q) ps (notes q)) (take_cut order j k low) (are q))

    module _ (notes notes' : ℕ → List Facts) (k k' : ℕ) (are : AreNotes code shapes (take k order) notes) (are' : AreNotes code shapes (take k' order) notes') where
      agree_at : (j : ℕ) → j ≤ k → j ≤ k' → j < length order → ((i : ℕ) → i < j → notes (get_or order i 0) ≡ notes' (get_or order i 0)) → notes (get_or order j 0) ≡ notes' (get_or order j 0)
      agree_at j a b inside h =
          let q = get_or order j 0 in
          let same : (p : ℕ) → Contains (take j order) p → notes p ≡ notes' p = λ p at. let r = among order j p at in subst (λ (q : ℕ). notes q ≡ notes' q) r.3 (h r.0 r.1) in
          gathers_one notes' q (first_notes q) (take j order) (notes q) (notes' q) (gathers_same code shapes notes notes' q (first_notes q) (take j order) (notes q) same (so_far notes k j are a inside)) (so_far notes' k' j are' b inside)

      agree_below : (n j : ℕ) → j < n → j ≤ k → j ≤ k' → j < length order → notes (get_or order j 0) ≡ notes' (get_or order j 0)
      agree_below zero j h a b inside = absurd (omega arith)
      agree_below (suc n) j h a b inside = agree_at j a b inside (λ i l. agree_below n i (omega arith) (omega arith) (omega arith) (omega arith))

      pub agree : (j : ℕ) → j ≤ k → j ≤ k' → j < length order → notes (get_or order j 0) ≡ notes' (get_or order j 0)
      agree j a b inside = agree_below (suc j) j (omega arith) a b inside

  allowed_all : (pc : ℕ) (ns : List Facts) (c : Cause) → AreAllowed code shapes pc ns → IsFirstCause code shapes pc ns c → ⊥
  allowed_all pc [] c a f = f
  allowed_all pc (n ∷ ns) c ((es, e), a) (inl f) = let both : Ok es ≡ Err c = sym e ∙ f in cc
  allowed_all pc (n ∷ ns) c (e, a) (inr (h, f)) = allowed_all pc ns c a f

  one_cause : (pc : ℕ) (ns : List Facts) (c c' : Cause) → IsFirstCause code shapes pc ns c → IsFirstCause code shapes pc ns c' → c ≡ c'
  one_cause pc [] c c' f g = absurd f
  one_cause pc (n ∷ ns) c c' (inl f) (inl g) = let both = sym f ∙ g in cc
  one_cause pc (n ∷ ns) c c' (inl f) (inr ((es, e), g)) = let both = sym f ∙ e in cc
  one_cause pc (n ∷ ns) c c' (inr ((es, e), f)) (inl g) = let both = sym e ∙ g in cc
  one_cause pc (n ∷ ns) c c' (inr (h, f)) (inr (k, g)) = one_cause pc ns c c' f g

-- the parts of an order
pub front_of : (order before rest : List ℕ) (pc : ℕ) → order ≡ before ++ pc ∷ rest → (take (length before) order ≡ before) × (length before < length order) × (get_or order (length before) 0 ≡ pc)
front_of order before rest pc e = subst (λ (xs : List ℕ). (take (length before) xs ≡ before) × (length before < length xs) × (get_or xs (length before) 0 ≡ pc)) (sym e) (by before)
  where
    by : (before : List ℕ) → (take (length before) (before ++ pc ∷ rest) ≡ before) × (length before < length (before ++ pc ∷ rest)) × (get_or (before ++ pc ∷ rest) (length before) 0 ≡ pc)
    by [] = (refl, omega arith, refl)
    by (x ∷ xs) = let r = by xs in (ap (λ (ys : List ℕ). x ∷ ys) r.0, (let l = r.1 in omega (arith, l)), r.2)

-- a pass that stopped, its order cut by a number
pub record Cut (code : List Insn) (shapes : List Shape) (order : List ℕ) (pc : ℕ) (cause : Cause) : Type 0 where
  pub at : ℕ
  pub low : at < length order
  pub here : get_or order at 0 ≡ pc
  pub notes : ℕ → List Facts
  pub are_notes : AreNotes code shapes (take at order) notes
  pub allowed : (p : ℕ) → Contains (take at order) p → AreAllowed code shapes p (notes p)
  pub refused : IsFirstCause code shapes pc (notes pc) cause

module _ (code : List Insn) (shapes : List Shape) (laid : IsCode code) (structured : IsStructured code (length shapes)) where
  pub same_pass : (xs ys : List ℕ) → IsPassOrder code xs → IsPassOrder code ys → xs ≡ ys
  same_pass xs ys a b = one_order a.takes a.whole b.takes b.whole

  cut_of : (order : List ℕ) → IsPassOrder code order → (pc : ℕ) (cause : Cause) → IsStopped code shapes pc cause → Cut code shapes order pc cause
  cut_of order is pc cause s =
      let parts = front_of order s.before s.rest pc (same_pass order s.order is s.is_order ∙ s.parts) in
      record {
        at = length s.before;
        low = parts.1;
        here = parts.2;
        notes = s.notes;
        are_notes = subst (λ (ps : List ℕ). AreNotes code shapes ps s.notes) (sym parts.0) s.are_notes;
        allowed = λ p c. s.allowed p (subst (λ (ps : List ℕ). Contains ps p) parts.0 c);
        refused = s.refused;
      }

  module _ (order : List ℕ) (is : IsPassOrder code order) where
    -- a pass that took more slots allowed the notes of this one
    pub passed_by : (pc : ℕ) (cause : Cause) (c : Cut code shapes order pc cause) (k : ℕ) (notes : ℕ → List Facts) → c.at < k → AreNotes code shapes (take k order) notes → ((p : ℕ) → Contains (take k order) p → AreAllowed code shapes p (notes p)) → ⊥
    passed_by pc cause c k notes low are ok =
        let same : c.notes (get_or order c.at 0) ≡ notes (get_or order c.at 0) = agree code shapes order laid structured is c.notes notes c.at k c.are_notes are c.at (omega arith) (omega arith) c.low in
        let mine : c.notes pc ≡ notes pc = subst (λ (q : ℕ). c.notes q ≡ notes q) c.here same in
        let at : Contains (take k order) pc = subst (λ (q : ℕ). Contains (take k order) q) c.here (there order c.at k low c.low) in
        allowed_all code shapes pc (notes pc) cause (ok pc at) (subst (λ (ns : List Facts). IsFirstCause code shapes pc ns cause) mine c.refused)

    one_stop : (pc pc' : ℕ) (cause cause' : Cause) → Cut code shapes order pc cause → Cut code shapes order pc' cause' → (cause ≡ cause') × (pc ≡ pc')
    one_stop pc pc' cause cause' c d = elim (cases_lt c.at d.at) [
      | inl low ↦ absurd (passed_by pc cause c d.at d.notes low d.are_notes d.allowed)
      | inr high ↦ elim (cases_lt d.at c.at) [
        | inl low ↦ absurd (passed_by pc' cause' d c.at c.notes low c.are_notes c.allowed)
        | inr more ↦
            let at : c.at ≡ d.at = omega arith in
            let slot : pc ≡ pc' = sym c.here ∙ ap (λ (i : ℕ). get_or order i 0) at ∙ d.here in
            let same : c.notes (get_or order c.at 0) ≡ d.notes (get_or order c.at 0) = agree code shapes order laid structured is c.notes d.notes c.at d.at c.are_notes d.are_notes c.at (omega arith) (omega arith) c.low in
            let mine : c.notes pc ≡ d.notes pc = subst (λ (q : ℕ). c.notes q ≡ d.notes q) c.here same in
            let other : IsFirstCause code shapes pc (d.notes pc) cause' = subst (λ (q : ℕ). IsFirstCause code shapes q (d.notes q) cause') (sym slot) d.refused in
            (one_cause code shapes pc (d.notes pc) cause cause' (subst (λ (ns : List Facts). IsFirstCause code shapes pc ns cause) mine c.refused) other, slot)
      ]
    ]

  stopped_once : (pc pc' : ℕ) (cause cause' : Cause) → IsStopped code shapes pc cause → IsStopped code shapes pc' cause' → (cause ≡ cause') × (pc ≡ pc')
  stopped_once pc pc' cause cause' s t = one_stop s.order s.is_order pc pc' cause cause' (cut_of s.order s.is_order pc cause s) (cut_of s.order s.is_order pc' cause' t)

  never_stopped : (notes : ℕ → List Facts) (pc : ℕ) (cause : Cause) → IsPassed code shapes notes → IsStopped code shapes pc cause → ⊥
  never_stopped notes pc cause p s =
      let c = cut_of p.order p.is_order pc cause s in
      let whole : take (length p.order) p.order ≡ p.order = take_all (length p.order) p.order (omega arith) in
      passed_by p.order p.is_order pc cause c (length p.order) notes c.low (subst (λ (ps : List ℕ). AreNotes code shapes ps notes) (sym whole) p.are_notes) (λ q at. p.allowed q (subst (λ (ps : List ℕ). Contains ps q) whole at))

-- a refusal other than V0 is of the first pass or of the second
data Reason (code : List Insn) (shapes : List Shape) (cause : Cause) (pc : ℕ) : Type 0 where
  Structure : IsFirstFault code (length shapes) pc cause → Reason code shapes cause pc
  Rule : IsSecondRefusal code shapes pc cause → Reason code shapes cause pc

reason_of : (code : List Insn) (shapes : List Shape) (cause : Cause) (pc : ℕ) → (cause ≡ Memory → ⊥) → IsRefusal code shapes cause pc → Reason code shapes cause pc
reason_of code shapes Memory pc other r = absurd (other refl)
reason_of code shapes Target pc other r = Structure r
reason_of code shapes BackJump pc other r = Structure r
reason_of code shapes End pc other r = Structure r
reason_of code shapes MapNumber pc other r = Structure r
reason_of code shapes Unset pc other r = Rule r.0
reason_of code shapes FramePointer pc other r = Rule r
reason_of code shapes NoPointer pc other r = Rule r
reason_of code shapes Packet pc other r = Rule r
reason_of code shapes Stack pc other r = Rule r
reason_of code shapes Context pc other r = Rule r
reason_of code shapes MayBeNull pc other r = Rule r
reason_of code shapes MapAccess pc other r = Rule r
reason_of code shapes Helper pc other r = Rule r
reason_of code shapes Argument pc other r = Rule r
reason_of code shapes Length pc other r = absurd r
reason_of code shapes Opcode pc other r = absurd r
reason_of code shapes Register pc other r = absurd r
reason_of code shapes Unsupported pc other r = absurd r

one_reason : (code : List Insn) (shapes : List Shape) (cause cause' : Cause) (pc pc' : ℕ) → IsCode code → Reason code shapes cause pc → Reason code shapes cause' pc' → (cause ≡ cause') × (pc ≡ pc')
one_reason code shapes cause cause' pc pc' laid (Structure f) (Structure g) = first_fault_once code (length shapes) pc pc' cause cause' f g
one_reason code shapes cause cause' pc pc' laid (Structure f) (Rule s) = absurd (fine_fault code (length shapes) pc f.insn cause (s.structured pc f.insn f.here) f.fault)
one_reason code shapes cause cause' pc pc' laid (Rule s) (Structure f) = absurd (fine_fault code (length shapes) pc' f.insn cause' (s.structured pc' f.insn f.here) f.fault)
one_reason code shapes cause cause' pc pc' laid (Rule s) (Rule t) = stopped_once code shapes laid s.structured pc pc' cause cause' s.stopped t.stopped

no_reason : (code : List Insn) (shapes : List Shape) (cause : Cause) (pc : ℕ) → IsCode code → IsFaultless code shapes → Reason code shapes cause pc → ⊥
no_reason code shapes cause pc laid f (Structure g) = fine_fault code (length shapes) pc g.insn cause (f.structured pc g.insn g.here) g.fault
no_reason code shapes cause pc laid f (Rule s) = never_stopped code shapes laid f.structured f.notes pc cause f.passed s.stopped

pub one_refusal : (code : List Insn) (shapes : List Shape) (cause cause' : Cause) (pc pc' : ℕ) → IsCode code → (cause ≡ Memory → ⊥) → (cause' ≡ Memory → ⊥) → IsRefusal code shapes cause pc → IsRefusal code shapes cause' pc' → (cause ≡ cause') × (pc ≡ pc')
one_refusal code shapes cause cause' pc pc' laid a b r s = one_reason code shapes cause cause' pc pc' laid (reason_of code shapes cause pc a r) (reason_of code shapes cause' pc' b s)

pub memory_alone : (code : List Insn) (shapes : List Shape) (cause : Cause) (pc : ℕ) → IsCode code → IsFaultless code shapes → IsRefusal code shapes cause pc → cause ≡ Memory
memory_alone code shapes Memory pc laid f r = refl
memory_alone code shapes Length pc laid f r = absurd (no_reason code shapes Length pc laid f (reason_of code shapes Length pc (λ e. cc) r))
memory_alone code shapes Opcode pc laid f r = absurd (no_reason code shapes Opcode pc laid f (reason_of code shapes Opcode pc (λ e. cc) r))
memory_alone code shapes Register pc laid f r = absurd (no_reason code shapes Register pc laid f (reason_of code shapes Register pc (λ e. cc) r))
memory_alone code shapes Target pc laid f r = absurd (no_reason code shapes Target pc laid f (reason_of code shapes Target pc (λ e. cc) r))
memory_alone code shapes BackJump pc laid f r = absurd (no_reason code shapes BackJump pc laid f (reason_of code shapes BackJump pc (λ e. cc) r))
memory_alone code shapes End pc laid f r = absurd (no_reason code shapes End pc laid f (reason_of code shapes End pc (λ e. cc) r))
memory_alone code shapes Unset pc laid f r = absurd (no_reason code shapes Unset pc laid f (reason_of code shapes Unset pc (λ e. cc) r))
memory_alone code shapes FramePointer pc laid f r = absurd (no_reason code shapes FramePointer pc laid f (reason_of code shapes FramePointer pc (λ e. cc) r))
memory_alone code shapes NoPointer pc laid f r = absurd (no_reason code shapes NoPointer pc laid f (reason_of code shapes NoPointer pc (λ e. cc) r))
memory_alone code shapes Packet pc laid f r = absurd (no_reason code shapes Packet pc laid f (reason_of code shapes Packet pc (λ e. cc) r))
memory_alone code shapes Stack pc laid f r = absurd (no_reason code shapes Stack pc laid f (reason_of code shapes Stack pc (λ e. cc) r))
memory_alone code shapes Context pc laid f r = absurd (no_reason code shapes Context pc laid f (reason_of code shapes Context pc (λ e. cc) r))
memory_alone code shapes MayBeNull pc laid f r = absurd (no_reason code shapes MayBeNull pc laid f (reason_of code shapes MayBeNull pc (λ e. cc) r))
memory_alone code shapes MapAccess pc laid f r = absurd (no_reason code shapes MapAccess pc laid f (reason_of code shapes MapAccess pc (λ e. cc) r))
memory_alone code shapes Helper pc laid f r = absurd (no_reason code shapes Helper pc laid f (reason_of code shapes Helper pc (λ e. cc) r))
memory_alone code shapes MapNumber pc laid f r = absurd (no_reason code shapes MapNumber pc laid f (reason_of code shapes MapNumber pc (λ e. cc) r))
memory_alone code shapes Argument pc laid f r = absurd (no_reason code shapes Argument pc laid f (reason_of code shapes Argument pc (λ e. cc) r))
memory_alone code shapes Unsupported pc laid f r = absurd (no_reason code shapes Unsupported pc laid f (reason_of code shapes Unsupported pc (λ e. cc) r))
