-- Which notes the second pass finds at a slot.
use Rattle.std.proofs.Common.{◌≡◌, inl, inr, ◌<◌, ◌+◌, ℕ, List, length, take, get_or, sym, ◌∙◌, arith, subst}
use Rattle.std.specs.Prelude.{Contains}
use Rattle.std.proofs.lemmas.Bool.{cases_lt}
use Rattle.bpf_insn.specs.Code.{IsCode}
use Rattle.bpf_insn.specs.declared.insn.Insn.{Insn}
use Rattle.bpf_insn.specs.declared.refusal.Cause.{Cause}
use Rattle.bpf_note.specs.Shape.{Shape}
use Rattle.bpf_note.specs.Facts.{Facts}
use Rattle.bpf_verify.specs.Edges.{IsPassOrder}
use Rattle.bpf_verify.specs.FirstRefusal.{IsStructured}
use Rattle.bpf_verify.specs.Gathered.{AreNotes, AreAllowed, IsFirstCause}
use Rattle.bpf_verify.specs.Lost.{ComesWith}
use Rattle.bpf_verify.proofs.AnswerLemmas.{agree, front_of, same_pass, passed_by}

module _ (code : List Insn) (shapes : List Shape) (laid : IsCode code) (structured : IsStructured code (length shapes)) where
  come_parts : (order : List ℕ) → IsPassOrder code order → (p : ℕ) (list : List Facts) (h : ComesWith code shapes p list) → (take (length h.before) order ≡ h.before) × (length h.before < length order) × (get_or order (length h.before) 0 ≡ p)
  come_parts order is p list h = front_of order h.before h.rest p (same_pass code shapes laid structured order h.order is h.is_order ∙ h.parts)

  -- the list of notes that the pass finds at a slot is one alone
  pub comes_once : (p : ℕ) (list list' : List Facts) → ComesWith code shapes p list → ComesWith code shapes p list' → list ≡ list'
  comes_once p list list' h g =
      let a = come_parts h.order h.is_order p list h in
      let b = come_parts h.order h.is_order p list' g in
      let are = subst (λ (ps : List ℕ). AreNotes code shapes ps h.notes) (sym a.0) h.are_notes in
      let are' = subst (λ (ps : List ℕ). AreNotes code shapes ps g.notes) (sym b.0) g.are_notes in
      elim (cases_lt (length h.before) (length g.before)) [
        | inl low ↦
            let same : h.notes (get_or h.order (length h.before) 0) ≡ g.notes (get_or h.order (length h.before) 0) = agree code shapes h.order laid structured h.is_order h.notes g.notes (length h.before) (length g.before) are are' (length h.before) (omega arith) (omega arith) a.1 in
            sym h.here ∙ subst (λ (q : ℕ). h.notes q ≡ g.notes q) a.2 same ∙ g.here
        | inr high ↦
            let same : h.notes (get_or h.order (length g.before) 0) ≡ g.notes (get_or h.order (length g.before) 0) = agree code shapes h.order laid structured h.is_order h.notes g.notes (length h.before) (length g.before) are are' (length g.before) (omega arith) (omega arith) b.1 in
            sym h.here ∙ subst (λ (q : ℕ). h.notes q ≡ g.notes q) b.2 same ∙ g.here
      ]

  module _ (order : List ℕ) (is : IsPassOrder code order) (slot : ℕ) (list : List Facts) (h : ComesWith code shapes slot list) where
    -- it comes to no slot that isn't in the order
    pub comes_inside : ((j : ℕ) → j < length order → get_or order j 0 ≡ slot → ⊥) → ⊥
    comes_inside away = let parts = come_parts order is slot list h in away (length h.before) parts.1 parts.2

    -- nor to one behind a slot at which it stops
    pub comes_before : (i pc : ℕ) (cause : Cause) (notes : ℕ → List Facts) → i < length order → get_or order i 0 ≡ pc → AreNotes code shapes (take i order) notes → ((p : ℕ) → Contains (take i order) p → AreAllowed code shapes p (notes p)) →
        IsFirstCause code shapes pc (notes pc) cause → ((j : ℕ) → j < i + 1 → get_or order j 0 ≡ slot → ⊥) → ⊥
    comes_before i pc cause notes low here are ok refused away =
        let parts = come_parts order is slot list h in
        elim (cases_lt i (length h.before)) [
          | inl before ↦ passed_by code shapes laid structured order is pc cause (record { at = i; low = low; here = here; notes = notes; are_notes = are; allowed = ok; refused = refused }) (length h.before) h.notes before (subst (λ (ps : List ℕ). AreNotes code shapes ps h.notes) (sym parts.0) h.are_notes)
              (λ p c. h.allowed p (subst (λ (ps : List ℕ). Contains ps p) parts.0 c))
          | inr past ↦ away (length h.before) (omega arith) parts.2
        ]
