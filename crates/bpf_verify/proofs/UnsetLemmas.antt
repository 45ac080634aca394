-- A register is Unset in the notes only where an unwritten path leads.
use Rattle.std.proofs.Common.{◌≡◌, ◌<◌, ◌⊎◌, inl, inr, ℕ, zero, suc, List, [], ◌∷◌, Bool, true, false, ◌&&◌, ◌||◌, not, refl, sym, ap, ◌∙◌, subst, Option, Some, None, arith, pos}
use Rattle.std.specs.Prelude.{if◌then◌else◌, ◌==◌, slice_get, Contains, Result, Ok, Err}
use Rattle.std.proofs.lemmas.Bool.Decides.{nat_tests}
use Rattle.bpf_insn.specs.declared.insn.Insn.{Insn}
use Rattle.bpf_insn.specs.declared.refusal.Cause.{Cause}
use Rattle.bpf_insn.specs.declared.refusal.Cause.TheVariants as cause
use Rattle.bpf_note.specs.Shape.{Shape}
use Rattle.bpf_note.specs.State.{start_register, context_start, stack_end}
use Rattle.bpf_note.specs.declared.val.Val.TheVariants.{Unset, Stack, Ctx}
use Rattle.bpf_note.specs.Facts.{Facts, is_unset, entry, entry_reg}
use Rattle.bpf_note.specs.Join.{joined}
use Rattle.bpf_flow.specs.Edges.{Edges}
use Rattle.bpf_flow.specs.Graph.{Leads, writes, loses}
use Rattle.bpf_flow.specs.Rule.{after_of}
use Rattle.bpf_flow.proofs.AnswerLemmas.{same_ok}
use Rattle.bpf_flow.proofs.SetLemmas.{KeepsSet, joined_unset, joined_kept_set}
use Rattle.bpf_flow.proofs.BehindLemmas.{Tells, AllTell, after_behind}
use Rattle.bpf_flow.proofs.ReadingLemmas.{unset_exactly}
use Rattle.bpf_verify.specs.Gathered.{rule_by, rule_at, first_notes, AreNotes, IsFirstCause}
use Rattle.bpf_verify.specs.Unwritten.{Reached, Unwritten, never, later, lost}
use Rattle.bpf_verify.specs.FirstRefusal.{ReadsUnset}
use Rattle.bpf_verify.proofs.ArriveLemmas.{EachHas, BringsOnly, each_at, told_only, gathering_each, further}

-- what the rule says of an instruction
pub rule_there : (code : List Insn) (shapes : List Shape) (p : ℕ) (n : Facts) (i : Insn) → slice_get code p ≡ Some i → rule_at code shapes p n ≡ after_of i p n shapes
unfolding rule_at
rule_there code shapes p n i at = ap (λ (o : Option Insn). rule_by o p n shapes) at

pub rule_nowhere : (code : List Insn) (shapes : List Shape) (p : ℕ) (n : Facts) → slice_get code p ≡ None → rule_at code shapes p n ≡ Ok []
unfolding rule_at
rule_nowhere code shapes p n at = ap (λ (o : Option Insn). rule_by o p n shapes) at

-- a note at slot q has register k unset only by a path, and keeps no Unset value
pub record Traced (code : List Insn) (k q : ℕ) (n : Facts) : Type 0 where
  pub unset : is_unset (n.reg k) ≡ true → Unwritten code k q
  pub kept : KeepsSet n

either_true : (a b : Bool) → (a || b) ≡ true → (a ≡ true) ⊎ (b ≡ true)
either_true true b h = inl refl
either_true false b h = inr h

both_true : (a b : Bool) → (a && not b) ≡ true → (a ≡ true) × (b ≡ false)
both_true true true h = absurd (cc)
both_true true false h = (refl, refl)
both_true false b h = absurd (cc)

traced_joined : (code : List Insn) (k q : ℕ) (a b : Facts) → Traced code k q a → Traced code k q b → Traced code k q (joined a b)
traced_joined code k q a b ta tb = record {
  unset = λ h. elim (either_true (is_unset (a.reg k)) (is_unset (b.reg k)) (sym (joined_unset (a.reg k) (b.reg k)) ∙ h)) [ inl x ↦ ta.unset x | inr x ↦ tb.unset x ];
  kept = λ j. joined_kept_set (a.kept j) (b.kept j) (ta.kept j) (tb.kept j);
}

traced_on : (code : List Insn) (k p q : ℕ) (i : Insn) (n m : Facts) → slice_get code p ≡ Some i → Reached code p → Traced code k p n → Tells i p k n q m → Traced code k q m
traced_on code k p q i n m at reached t e = record {
  unset = λ h. elim (either_true (loses i k) (is_unset (n.reg k) && not (writes i k)) (sym (e.unset t.kept) ∙ h)) [
    | inl l ↦ lost p q i reached at l e.leads
    | inr x ↦ let both = both_true (is_unset (n.reg k)) (writes i k) x in later p q i (t.unset both.0) at both.1 e.leads
  ];
  kept = e.kept t.kept;
}

traced_edges : (code : List Insn) (k p q : ℕ) (i : Insn) (n : Facts) (es : Edges) → slice_get code p ≡ Some i → Reached code p → (Leads i p q → Traced code k p n) → AllTell i p k n es → BringsOnly (Traced code k q) q es
traced_edges code k p q i n [] at reached t h = tt
traced_edges code k p q i n (e ∷ es) at reached t h = (
  λ is.
      let l : Leads i p q = subst (Leads i p) (sym is) h.0.leads in
      subst (λ (s : ℕ). Traced code k s e.1) (sym is) (traced_on code k p e.0 i n e.1 at reached (t l) h.0),
  traced_edges code k p q i n es at reached t h.1,
)

traced_rule : (code : List Insn) (shapes : List Shape) (k p q : ℕ) (n : Facts) (es : Edges) → Reached code p → ((i : Insn) → slice_get code p ≡ Some i → Leads i p q → Traced code k p n) → rule_at code shapes p n ≡ Ok es → BringsOnly (Traced code k q) q es
traced_rule code shapes k p q n es reached t e = by (slice_get code p) refl
  where
    by : (o : Option Insn) → slice_get code p ≡ o → BringsOnly (Traced code k q) q es
    by None at =
        let none : Edges = [] in
        subst (BringsOnly (Traced code k q) q) (same_ok none es (sym (rule_nowhere code shapes p n at) ∙ e)) tt
    by (Some i) at = traced_edges code k p q i n es at reached (t i at) (after_behind i p k n shapes es (sym (rule_there code shapes p n i at) ∙ e)).each

entry_by : (one ten : Bool) → is_unset (if one then Ctx else if ten then Stack (pos 0) else Unset) ≡ true → (if one then Some context_start else if ten then Some stack_end else None) ≡ None
entry_by true ten h = absurd (cc)
entry_by false true h = absurd (cc)
entry_by false false h = refl

entry_unset : (k : ℕ) → is_unset (entry_reg k) ≡ true → start_register k ≡ None
entry_unset k h = entry_by (k == 1) (k == 10) h

traced_first : (code : List Insn) (k q : ℕ) → EachHas (Traced code k q) (first_notes q)
traced_first code k q = by (q == 0) refl
  where
    by : (b : Bool) → b ≡ (q == 0) → EachHas (Traced code k q) (if b then entry ∷ [] else [])
    by true e =
        let is : q ≡ 0 = grind (arith, nat_tests) in
        (record { unset = λ h. subst (Unwritten code k) (sym is) (never (entry_unset k h)); kept = λ j. tt }, tt)
    by false e = tt

-- the slots that have told are reached, and can be numbered so that control goes from each to a higher one
pub record Rises (code : List Insn) (slots : List ℕ) : Type 0 where
  pub reached : (p : ℕ) → Contains slots p → Reached code p
  pub num : ℕ → ℕ
  pub rises : (p q : ℕ) (i : Insn) → Contains slots p → slice_get code p ≡ Some i → Leads i p q → num p < num q

module _ (code : List Insn) (shapes : List Shape) (slots : List ℕ) (notes : ℕ → List Facts) (up : Rises code slots) (are : AreNotes code shapes slots notes) (k : ℕ) where
  traced_below : (m q : ℕ) → up.num q < m → EachHas (Traced code k q) (notes q)
  traced_below zero q low = absurd (omega arith)
  traced_below (suc m) q low =
      gathering_each (Traced code k q) (traced_joined code k q) code shapes notes q slots (first_notes q) (notes q) (are q) (traced_first code k q)
      (λ p at. told_only (Traced code k q) code shapes p q (notes p) (λ n there es e.
      traced_rule code shapes k p q n es (up.reached p at) (λ i here l.
      let rise = up.rises p q i at here l in
      each_at (Traced code k p) (notes p) (traced_below m p (omega (arith, low, rise))) n there) e))

  -- each note at a slot has register k unset only by a path, and keeps no Unset value
  pub all_traced : (q : ℕ) → EachHas (Traced code k q) (notes q)
  all_traced q = traced_below (suc (up.num q)) q (omega arith)

  pub unset_unwritten : (q : ℕ) (n : Facts) → Contains (notes q) n → is_unset (n.reg k) ≡ true → Unwritten code k q
  unset_unwritten q n at h = (each_at (Traced code k q) (notes q) (all_traced q) n at).unset h

-- a note of the list that is refused
pub cause_found : (code : List Insn) (shapes : List Shape) (pc : ℕ) (ns : List Facts) (c : Cause) → IsFirstCause code shapes pc ns c → (n : Facts) × Contains ns n × (rule_at code shapes pc n ≡ Err c)
cause_found code shapes pc [] c h = absurd h
cause_found code shapes pc (n ∷ ns) c (inl e) = (n, (0, omega arith, refl), e)
cause_found code shapes pc (n ∷ ns) c (inr h) = let r = cause_found code shapes pc ns c h.1 in (r.0, further n ns r.0 r.1, r.2)

-- where Unset is the cause, a register is read that a path leaves unwritten
pub unset_read : (code : List Insn) (shapes : List Shape) (slots : List ℕ) (notes : ℕ → List Facts) (pc : ℕ) → Rises code slots → AreNotes code shapes slots notes → IsFirstCause code shapes pc (notes pc) cause.Unset → ReadsUnset code pc
unset_read code shapes slots notes pc up are h = by (slice_get code pc) refl
  where
    found : (n : Facts) × Contains (notes pc) n × (rule_at code shapes pc n ≡ Err cause.Unset)
    found = cause_found code shapes pc (notes pc) cause.Unset h

    by : (o : Option Insn) → slice_get code pc ≡ o → ReadsUnset code pc
    by None at = absurd (let no : ◌≡◌ {A = Result Edges Cause} (Ok []) (Err cause.Unset) = sym (rule_nowhere code shapes pc found.0 at) ∙ found.2 in cc)
    by (Some i) at =
        let r = (unset_exactly i pc found.0 shapes).0 (sym (rule_there code shapes pc found.0 i at) ∙ found.2) in
        record {
          insn = i;
          register = r.register;
          here = at;
          read = r.read;
          unwritten = unset_unwritten code shapes slots notes up are r.register pc found.0 found.1 r.unset;
        }
