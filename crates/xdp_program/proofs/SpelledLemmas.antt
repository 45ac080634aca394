-- The bytes of a program, instruction by instruction.
use Rattle.std.proofs.Common.{◌≡◌, ◌<◌, ◌+◌, ◌++◌, ◌∙◌, ◌⊎◌, inl, inr, ℕ, zero, suc, List, [], ◌∷◌, Some, take, drop, get_or, refl, sym, ap, subst, flat_map, arith, true, false, Option, None, length}
use Rattle.std.specs.Borrow.{Bor}
use Rattle.std.specs.Prelude.{IfNone, IfSome, MatchOption, ◌≢◌}
use Rattle.std.specs.List.{AllByRecursion}
use Rattle.std.proofs.lemmas.Grind.{flat_map-append}
use Rattle.std.proofs.lemmas.List.{append_cancel_left, drop_more, take-append-drop}
use Rattle.bpf_insn.specs.Code.{IsCode, takes}
use Rattle.bpf_insn.specs.Spelling.{HasSpelling, spelling}
use Rattle.bpf_insn.specs.declared.insn.Insn.{Insn}
use Rattle.bpf_insn.specs.declared.insn.Insn.TheVariants as insn

-- an instruction of a code has a spelling, or is the second slot of a wide load
abbrev pub IsSlot : Insn → Type 0
IsSlot i = HasSpelling i ⊎ (i ≡ insn.Second)

slots_of : (i : Insn) → HasSpelling i → AllByRecursion IsSlot (takes i)
slots_of (insn.Const dst value) h = (inl h, (inr refl, tt))
slots_of (insn.MapRef dst m) h = (inl h, (inr refl, tt))
slots_of (insn.Alu op wide dst src) h = (inl h, tt)
slots_of (insn.Neg wide dst) h = (inl h, tt)
slots_of (insn.End kind width dst) h = (inl h, tt)
slots_of (insn.MovSx wide bits dst src) h = (inl h, tt)
slots_of (insn.Ldx size signed dst src off) h = (inl h, tt)
slots_of (insn.St size dst off imm) h = (inl h, tt)
slots_of (insn.Stx size dst src off) h = (inl h, tt)
slots_of (insn.AddCounter fetch dst src off) h = (inl h, tt)
slots_of (insn.Ja wide_offset to) h = (inl h, tt)
slots_of (insn.Jump cond wide dst src off) h = (inl h, tt)
slots_of (insn.Call helper) h = (inl h, tt)
slots_of insn.Exit h = (inl h, tt)
slots_of insn.Second h = (inl h, tt)

joined : {A : Type 0} (P : A → Type 0) (xs ys : List A) → AllByRecursion P xs → AllByRecursion P ys → AllByRecursion P (xs ++ ys)
joined P [] ys a b = b
joined P (x ∷ xs) ys a b = (a.0, joined P xs ys a.1 b)

slots_all : (insns : List Insn) → AllByRecursion HasSpelling insns → AllByRecursion IsSlot (flat_map takes insns)
slots_all [] a = tt
slots_all (i ∷ is) a = joined IsSlot (takes i) (flat_map takes is) (slots_of i a.0) (slots_all is a.1)

at : {A : Type 0} (P : A → Type 0) (xs : List A) → AllByRecursion P xs → (k : ℕ) (d : A) → k < length xs → P (get_or xs k d)
at P [] a k d h = absurd (omega (arith, h))
at P (x ∷ xs) a zero d h = a.0
at P (x ∷ xs) a (suc k) d h = at P xs a.1 k d (omega (arith, h))

pub slot_at : (code : List Insn) → IsCode code → (k : ℕ) (d : Insn) → k < length code → IsSlot (get_or code k d)
slot_at code c k d h =
    at IsSlot code (subst (λ (xs : List Insn). AllByRecursion IsSlot xs) (sym c.taken) (slots_all c.insns c.spelled)) k d h

-- where a code's bytes go on with some after its first k slots, these are those of its other slots
pub spelled_rest : (code : List Insn) (bytes rest : List ℕ) (k : ℕ) (d : Insn) → k < length code → bytes ≡ flat_map spelling (take k code) ++ rest → bytes ≡ flat_map spelling code →
    rest ≡ spelling (get_or code k d) ++ flat_map spelling (drop (k + 1) code)
spelled_rest code bytes rest k d h e f =
    let front = flat_map spelling (take k code) in
    let parts : flat_map spelling code ≡ front ++ flat_map spelling (drop k code) =
    ap (flat_map spelling) (sym (take-append-drop k code)) ∙ flat_map-append spelling (take k code) (drop k code) in
    append_cancel_left front rest (flat_map spelling (drop k code)) (sym e ∙ f ∙ parts) ∙ ap (flat_map spelling) (drop_more code k d h)

pub false_true : false ≡ true → ⊥
false_true e = absurd (cc e)

-- what begins with one list begins with the same list
pub stripped : (s p q : List ℕ) (r : Option (Bor (List ℕ))) → p ≡ q → MatchOption r ((rest : List ℕ) → s ≢ p ++ rest) (λ x. s ≡ p ++ x.now) →
    IfSome r (λ x. s ≡ q ++ x.now) × IfNone r ((rest : List ℕ) → s ≡ q ++ rest → ⊥)
stripped s p q None e h = (tt, subst (λ (t : List ℕ). (rest : List ℕ) → s ≡ t ++ rest → ⊥) e h)
stripped s p q (Some x) e h = (subst (λ (t : List ℕ). s ≡ t ++ x.now) e h, tt)
