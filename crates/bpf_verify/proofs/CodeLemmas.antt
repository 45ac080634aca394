-- What is laid out in a code: an instruction with a spelling, and after it another.
use Rattle.std.proofs.Common.{◌≡◌, ◌<◌, ◌+◌, ℕ, List, Some, length, refl, sym, ap, subst, ◌∙◌, arith, zero, suc, [], ◌∷◌, ◌++◌, true, false}
use Rattle.std.specs.Prelude.{slice_get, flat_map}
use Rattle.std.specs.List.{AllByRecursion}
use Rattle.bpf_insn.specs.Code.{IsCode, takes}
use Rattle.bpf_insn.specs.Spelling.{HasSpelling}
use Rattle.bpf_insn.specs.declared.insn.Insn.{Insn}
use Rattle.bpf_insn.specs.declared.insn.Insn.TheVariants.{Alu, Neg, End, MovSx, Const, MapRef, Ldx, St, Stx, AddCounter, Ja, Jump, Call, Exit, Second}
use Rattle.bpf_flow.specs.Graph.{next_slot}
use Rattle.bpf_verify.specs.Structure.{begins}

-- an instruction takes one slot, or two with a place holder
pub data Kind (i : Insn) : Type 0 where
  Narrow : takes i ≡ i ∷ [] → ((pc : ℕ) → next_slot i pc ≡ pc + 1) → begins (Some i) ≡ true → Kind i
  Wide : takes i ≡ i ∷ Second ∷ [] → ((pc : ℕ) → next_slot i pc ≡ pc + 2) → begins (Some i) ≡ true → Kind i

pub kind_of : (i : Insn) → HasSpelling i → Kind i
kind_of (Alu op wide dst src) h = Narrow refl (λ pc. refl) refl
kind_of (Neg wide dst) h = Narrow refl (λ pc. refl) refl
kind_of (End kind width dst) h = Narrow refl (λ pc. refl) refl
kind_of (MovSx wide bits dst src) h = Narrow refl (λ pc. refl) refl
kind_of (Const dst value) h = Wide refl (λ pc. refl) refl
kind_of (MapRef dst m) h = Wide refl (λ pc. refl) refl
kind_of (Ldx size signed dst src off) h = Narrow refl (λ pc. refl) refl
kind_of (St size dst off imm) h = Narrow refl (λ pc. refl) refl
kind_of (Stx size dst src off) h = Narrow refl (λ pc. refl) refl
kind_of (AddCounter fetch dst src off) h = Narrow refl (λ pc. refl) refl
kind_of (Ja wide_offset to) h = Narrow refl (λ pc. refl) refl
kind_of (Jump cond wide dst src off) h = Narrow refl (λ pc. refl) refl
kind_of (Call helper) h = Narrow refl (λ pc. refl) refl
kind_of Exit h = Narrow refl (λ pc. refl) refl
kind_of Second h = absurd (h.some refl)

-- the first of some instructions begins
first_in : (insns : List Insn) → AllByRecursion HasSpelling insns → 0 < length (flat_map takes insns) → begins (slice_get (flat_map takes insns) 0) ≡ true
first_in [] h lt = absurd (omega arith)
first_in (i ∷ is) h lt = elim (kind_of i h.0) [
  | Narrow t n b ↦ subst (λ (xs : List Insn). begins (slice_get (xs ++ flat_map takes is) 0) ≡ true) (sym t) b
  | Wide t n b ↦ subst (λ (xs : List Insn). begins (slice_get (xs ++ flat_map takes is) 0) ≡ true) (sym t) b
]

module _ (rest : List Insn) (first : 0 < length rest → begins (slice_get rest 0) ≡ true)
    (more : (pc q : ℕ) (j : Insn) → slice_get rest pc ≡ Some j → begins (Some j) ≡ true → q ≡ next_slot j pc → q < length rest → begins (slice_get rest q) ≡ true)
    (shift : (pc : ℕ) (j : Insn) → next_slot j (suc pc) ≡ suc (next_slot j pc)) where
  narrow : (i : Insn) → ((pc : ℕ) → next_slot i pc ≡ pc + 1) → (pc q : ℕ) (j : Insn) → slice_get (i ∷ rest) pc ≡ Some j → begins (Some j) ≡ true → q ≡ next_slot j pc → q < length (i ∷ rest) → begins (slice_get (i ∷ rest) q) ≡ true
  narrow i n zero q j e b s lt =
      let same : i ≡ j = cc in
      let one : q ≡ 1 = s ∙ (ap (λ (i : Insn). next_slot i 0) (sym same) ∙ n 0) in
      subst (λ (q : ℕ). begins (slice_get (i ∷ rest) q) ≡ true) (sym one) (first (omega arith))
  narrow i n (suc pc) zero j e b s lt = absurd (omega (arith, shift pc j))
  narrow i n (suc pc) (suc q) j e b s lt = more pc q j e b (omega (arith, shift pc j)) (omega arith)

  wide : (i : Insn) → ((pc : ℕ) → next_slot i pc ≡ pc + 2) → (pc q : ℕ) (j : Insn) → slice_get (i ∷ Second ∷ rest) pc ≡ Some j → begins (Some j) ≡ true → q ≡ next_slot j pc → q < length (i ∷ Second ∷ rest) → begins (slice_get (i ∷ Second ∷ rest) q) ≡ true
  wide i n zero q j e b s lt =
      let same : i ≡ j = cc in
      let two : q ≡ 2 = s ∙ (ap (λ (i : Insn). next_slot i 0) (sym same) ∙ n 0) in
      subst (λ (q : ℕ). begins (slice_get (i ∷ Second ∷ rest) q) ≡ true) (sym two) (first (omega arith))
  wide i n (suc zero) q j e b s lt = let same : Second ≡ j = cc in let no : false ≡ true = subst (λ (i : Insn). begins (Some i) ≡ true) (sym same) b in cc
  wide i n (suc (suc pc)) zero j e b s lt = absurd (omega (arith, shift (suc pc) j))
  wide i n (suc (suc pc)) (suc zero) j e b s lt = absurd (omega (arith, shift (suc pc) j, shift pc j))
  wide i n (suc (suc pc)) (suc (suc q)) j e b s lt = more pc q j e b (omega (arith, shift (suc pc) j, shift pc j)) (omega arith)

shift : (pc : ℕ) (j : Insn) → next_slot j (suc pc) ≡ suc (next_slot j pc)
shift pc (Alu op wide dst src) = omega arith
shift pc (Neg wide dst) = omega arith
shift pc (End kind width dst) = omega arith
shift pc (MovSx wide bits dst src) = omega arith
shift pc (Const dst value) = omega arith
shift pc (MapRef dst m) = omega arith
shift pc (Ldx size signed dst src off) = omega arith
shift pc (St size dst off imm) = omega arith
shift pc (Stx size dst src off) = omega arith
shift pc (AddCounter fetch dst src off) = omega arith
shift pc (Ja wide_offset to) = omega arith
shift pc (Jump cond wide dst src off) = omega arith
shift pc (Call helper) = omega arith
shift pc Exit = omega arith
shift pc Second = omega arith

next_in : (insns : List Insn) → AllByRecursion HasSpelling insns → (pc q : ℕ) (j : Insn) → slice_get (flat_map takes insns) pc ≡ Some j → begins (Some j) ≡ true → q ≡ next_slot j pc → q < length (flat_map takes insns) →
    begins (slice_get (flat_map takes insns) q) ≡ true
next_in [] h pc q j e b s lt = absurd (omega arith)
next_in (i ∷ is) h pc q j e b s lt =
    let rest = flat_map takes is in
    let Next : List Insn → Type 0 = λ xs. slice_get (xs ++ rest) pc ≡ Some j → q < length (xs ++ rest) → begins (slice_get (xs ++ rest) q) ≡ true in
    elim (kind_of i h.0) [
      | Narrow t n c ↦ subst Next (sym t) (λ e lt. narrow rest (first_in is h.1) (next_in is h.1) shift i n pc q j e b s lt) e lt
      | Wide t n c ↦ subst Next (sym t) (λ e lt. wide rest (first_in is h.1) (next_in is h.1) shift i n pc q j e b s lt) e lt
    ]

module _ (i : Insn) (rest : List Insn) (here : HasSpelling i) (more : (pc : ℕ) (j : Insn) → slice_get rest pc ≡ Some j → begins (Some j) ≡ true → HasSpelling j) where
  one : (pc : ℕ) (j : Insn) → slice_get (i ∷ rest) pc ≡ Some j → begins (Some j) ≡ true → HasSpelling j
  one zero j e b = let same : i ≡ j = cc in subst HasSpelling same here
  one (suc pc) j e b = more pc j e b

  two : (pc : ℕ) (j : Insn) → slice_get (i ∷ Second ∷ rest) pc ≡ Some j → begins (Some j) ≡ true → HasSpelling j
  two zero j e b = let same : i ≡ j = cc in subst HasSpelling same here
  two (suc zero) j e b = let same : Second ≡ j = cc in let no : false ≡ true = subst (λ (i : Insn). begins (Some i) ≡ true) (sym same) b in cc
  two (suc (suc pc)) j e b = more pc j e b

spelled_in : (insns : List Insn) → AllByRecursion HasSpelling insns → (pc : ℕ) (j : Insn) → slice_get (flat_map takes insns) pc ≡ Some j → begins (Some j) ≡ true → HasSpelling j
spelled_in [] h pc j e b = cc
spelled_in (i ∷ is) h pc j e b =
    let rest = flat_map takes is in
    let Here : List Insn → Type 0 = λ xs. slice_get (xs ++ rest) pc ≡ Some j → HasSpelling j in
    elim (kind_of i h.0) [
      | Narrow t n c ↦ subst Here (sym t) (λ e. one i rest h.0 (spelled_in is h.1) pc j e b) e
      | Wide t n c ↦ subst Here (sym t) (λ e. two i rest h.0 (spelled_in is h.1) pc j e b) e
    ]

pub first_begins : (code : List Insn) → IsCode code → begins (slice_get code 0) ≡ true
first_begins code h =
    subst (λ (code : List Insn). begins (slice_get code 0) ≡ true) (sym h.taken) (first_in h.insns h.spelled (omega (arith, h.some, ap length h.taken)))

pub next_begins : (code : List Insn) (pc : ℕ) (i : Insn) → IsCode code → slice_get code pc ≡ Some i → begins (Some i) ≡ true → next_slot i pc < length code → begins (slice_get code (next_slot i pc)) ≡ true
next_begins code pc i h e b lt =
    let Next : List Insn → Type 0 = λ code. slice_get code pc ≡ Some i → next_slot i pc < length code → begins (slice_get code (next_slot i pc)) ≡ true in
    subst Next (sym h.taken) (λ e lt. next_in h.insns h.spelled pc (next_slot i pc) i e b refl lt) e lt

pub spelled_at : (code : List Insn) (pc : ℕ) (i : Insn) → IsCode code → slice_get code pc ≡ Some i → begins (Some i) ≡ true → HasSpelling i
spelled_at code pc i h e b =
    let Here : List Insn → Type 0 = λ code. slice_get code pc ≡ Some i → HasSpelling i in
    subst Here (sym h.taken) (λ e. spelled_in h.insns h.spelled pc i e b) e
