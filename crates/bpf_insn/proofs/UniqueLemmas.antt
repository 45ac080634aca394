-- Bytes spell at most one code, and have at most one refusal, and not both.
use Rattle.std.proofs.Common.{◌≡◌, ◌≢◌, ◌⊎◌, inl, inr, ℕ, ◌*◌, ◌<◌, ◌≤◌, refl, List, [], ◌∷◌, ◌++◌, length, ap, sym, ◌∙◌, subst, arith, append_assoc, append-nil, length-append}
use Rattle.std.specs.Prelude.{flat_map}
use Rattle.std.specs.List.{AllByRecursion}
use Rattle.bpf_insn.proofs.ClassLemmas.{one_is_narrow}
use Rattle.bpf_insn.proofs.FieldLemmas.{same_fields}
use Rattle.bpf_insn.proofs.InverseLemmas.{same_insn}
use Rattle.bpf_insn.proofs.ProgressLemmas.{length_spelling, slots_written}
use Rattle.bpf_insn.proofs.SpellingLemmas.{second_slot, slots_fit}
use Rattle.bpf_insn.specs.Code.{takes, Spells}
use Rattle.bpf_insn.specs.Fields.{slot_bytes, FitsSlot}
use Rattle.bpf_insn.specs.Refusal.{HasLength, HasCause, IsNoCode, IsRefused, unsupported_opcode, unknown_opcode, no_register, unsupported_field, other_field}
use Rattle.bpf_insn.specs.Spelling.{slots, spelling, HasSpelling, ContinuesNone}
use Rattle.bpf_insn.specs.declared.fields.Fields.{Fields}
use Rattle.bpf_insn.specs.declared.insn.Insn.{Insn}
use Rattle.bpf_insn.specs.declared.insn.Insn.TheVariants.{Const, MapRef}
use Rattle.bpf_insn.specs.declared.refusal.Cause.{Cause}
use Rattle.bpf_insn.specs.declared.refusal.Cause.TheVariants.{Memory}
use Rattle.bpf_insn.specs.declared.refusal.Refusal.{Refusal}

-- the slots of an instruction: one, or two that begin with a wide load's
data Shape : List Fields → Type 0 where
  one : (f : Fields) → f.op ≢ 0x18 → FitsSlot f → Shape (f ∷ [])
  two : (f g : Fields) → f.op ≡ 0x18 → FitsSlot f → FitsSlot g → Shape (f ∷ g ∷ [])

shape_by : (i : Insn) (fs : List Fields) → slots i ≡ fs → fs ≢ [] → AllByRecursion FitsSlot fs → Shape fs
shape_by i [] e some fits = absurd (some refl)
shape_by i (f ∷ []) e some fits = one f (one_is_narrow i f e) fits.0
shape_by i (f ∷ g ∷ gs) e some fits =
    let r = second_slot i f g gs e in
    subst (λ (t : List Fields). Shape (f ∷ g ∷ t)) (sym r.1) (two f g (sym r.0) fits.0 fits.1.0)

shape : (i : Insn) → HasSpelling i → Shape (slots i)
shape i h = shape_by i (slots i) refl h.some (slots_fit i h.fits)

same_slots : (fs gs : List Fields) (xs ys : List ℕ) → Shape fs → Shape gs → flat_map slot_bytes fs ++ xs ≡ flat_map slot_bytes gs ++ ys → (fs ≡ gs) × (xs ≡ ys)
same_slots fs gs xs ys (one f a b) (one g c d) h =
    let r = same_fields f g xs ys b d h in
    (ap (λ (x : Fields). x ∷ []) r.0, r.1)
same_slots fs gs xs ys (one f a b) (two g k c d e) h =
    let r = same_fields f g xs (slot_bytes k ++ ys) b d h in
    absurd (a (ap (λ (x : Fields). x.op) r.0 ∙ c))
same_slots fs gs xs ys (two f k a b c) (one g d e) h =
    let r = same_fields f g (slot_bytes k ++ xs) ys b e h in
    absurd (d (sym (ap (λ (x : Fields). x.op) r.0) ∙ a))
same_slots fs gs xs ys (two f k a b c) (two g l d e m) h =
    let r = same_fields f g (slot_bytes k ++ xs) (slot_bytes l ++ ys) b e h in
    let s = same_fields k l xs ys c m r.1 in
    ((λ i. r.0 i ∷ s.0 i ∷ []), s.1)

-- bytes begin with one instruction's spelling
pub same_front : (i j : Insn) (xs ys : List ℕ) → HasSpelling i → HasSpelling j → spelling i ++ xs ≡ spelling j ++ ys → (i ≡ j) × (xs ≡ ys)
same_front i j xs ys h k e =
    let r = same_slots (slots i) (slots j) xs ys (shape i h) (shape j k) e in
    (same_insn i j h k r.0, r.1)

shape_bytes : (fs : List Fields) → Shape fs → 8 ≤ length (flat_map slot_bytes fs)
shape_bytes fs (one f a b) = omega arith
shape_bytes fs (two f g a b c) = omega arith

some_bytes : (i : Insn) → HasSpelling i → 8 ≤ length (spelling i)
some_bytes i h = shape_bytes (slots i) (shape i h)

nothing : ContinuesNone []
nothing i more h e = absurd (omega (arith, some_bytes i h, ap length e, length-append (spelling i) more))

-- instructions spelled one after the other, up to where no spelling goes on, are determined
fronts : (is js : List Insn) (xs ys : List ℕ) → AllByRecursion HasSpelling is → AllByRecursion HasSpelling js → ContinuesNone xs → ContinuesNone ys →
    flat_map spelling is ++ xs ≡ flat_map spelling js ++ ys → (is ≡ js) × (xs ≡ ys)
fronts [] [] xs ys h k m n e = (refl, e)
fronts [] (j ∷ js) xs ys h k m n e = absurd (m j (flat_map spelling js ++ ys) k.0 (e ∙ append_assoc (spelling j) (flat_map spelling js) ys))
fronts (i ∷ is) [] xs ys h k m n e = absurd (n i (flat_map spelling is ++ xs) h.0 (sym e ∙ append_assoc (spelling i) (flat_map spelling is) xs))
fronts (i ∷ is) (j ∷ js) xs ys h k m n e =
    let r = same_front i j (flat_map spelling is ++ xs) (flat_map spelling js ++ ys) h.0 k.0
    (sym (append_assoc (spelling i) (flat_map spelling is) xs) ∙ (e ∙ append_assoc (spelling j) (flat_map spelling js) ys)) in
    let s = fronts is js xs ys h.1 k.1 m n r.1 in
    ((λ t. r.0 t ∷ s.0 t), s.1)

length_all : (is : List Insn) → AllByRecursion HasSpelling is → length (flat_map spelling is) ≡ 8 * length (flat_map takes is)
length_all [] h = refl
length_all (i ∷ is) h = omega (arith, length_spelling i h.0, length_all is h.1, length-append (spelling i) (flat_map spelling is), length-append (takes i) (flat_map takes is))

-- a code's bytes are those of its instructions
bytes_are : (code : List Insn) (bytes : List ℕ) (s : Spells code bytes) → bytes ≡ flat_map spelling s.laid_out.insns ++ []
bytes_are code bytes s = s.written ∙ (ap (flat_map spelling) s.laid_out.taken ∙ (slots_written s.laid_out.insns ∙ sym (append-nil _)))

pub code_has_length : (code : List Insn) (bytes : List ℕ) → Spells code bytes → HasLength bytes
code_has_length code bytes s =
    let e : length bytes ≡ 8 * length code =
    omega (arith, ap length (bytes_are code bytes s), length-append (flat_map spelling s.laid_out.insns) [], length_all s.laid_out.insns s.laid_out.spelled, ap length s.laid_out.taken) in
    record { some = omega (arith, s.laid_out.some); short = omega (arith, s.laid_out.short); whole = omega arith }

pub one_code : (a b : List Insn) (bytes : List ℕ) → Spells a bytes → Spells b bytes → a ≡ b
one_code a b bytes s t =
    let e = fronts s.laid_out.insns t.laid_out.insns [] [] s.laid_out.spelled t.laid_out.spelled nothing nothing (sym (bytes_are a bytes s) ∙ bytes_are b bytes t) in
    s.laid_out.taken ∙ (ap (flat_map takes) e.0 ∙ sym t.laid_out.taken)

begun : (f : Fields) (after rest : List ℕ) → rest ≡ slot_bytes f ++ after → [] ≡ rest → ⊥
begun f after rest e n = cc

pub code_or_none : (code : List Insn) (bytes : List ℕ) (cause : Cause) (pc : ℕ) → Spells code bytes → IsRefused bytes cause pc → ⊥
code_or_none code bytes cause pc s (inl h) = h.0 (code_has_length code bytes s)
code_or_none code bytes cause pc s (inr h) =
    let at = h.1 in
    let e = fronts s.laid_out.insns at.reached.front [] at.rest s.laid_out.spelled at.reached.spelled nothing at.stops.none (sym (bytes_are code bytes s) ∙ at.reached.written) in
    begun at.stops.fields at.stops.after at.rest at.stops.begins e.1

no_higher : (a b : ℕ) → (10 < a) ⊎ (10 < b) → a ≤ 10 → b ≤ 10 → ⊥
no_higher a b (inl h) m n = omega arith
no_higher a b (inr h) m n = omega arith

one_cause : (f : Fields) (c d : Cause) → HasCause f c → HasCause f d → c ≡ d
one_cause f c d (unsupported_opcode a) (unsupported_opcode b) = refl
one_cause f c d (unsupported_opcode a) (unknown_opcode b k) = absurd cc
one_cause f c d (unsupported_opcode a) (no_register b k r) = absurd cc
one_cause f c d (unsupported_opcode a) (unsupported_field b k m n u) = refl
one_cause f c d (unsupported_opcode a) (other_field b k m n u) = absurd cc
one_cause f c d (unknown_opcode a h) (unsupported_opcode b) = absurd cc
one_cause f c d (unknown_opcode a h) (unknown_opcode b k) = refl
one_cause f c d (unknown_opcode a h) (no_register b k r) = absurd (h k)
one_cause f c d (unknown_opcode a h) (unsupported_field b k m n u) = absurd (h k)
one_cause f c d (unknown_opcode a h) (other_field b k m n u) = refl
one_cause f c d (no_register a h r) (unsupported_opcode b) = absurd cc
one_cause f c d (no_register a h r) (unknown_opcode b k) = absurd (k h)
one_cause f c d (no_register a h r) (no_register b k s) = refl
one_cause f c d (no_register a h r) (unsupported_field b k m n u) = absurd (no_higher _ _ r m n)
one_cause f c d (no_register a h r) (other_field b k m n u) = absurd (no_higher _ _ r m n)
one_cause f c d (unsupported_field a h m n u) (unsupported_opcode b) = refl
one_cause f c d (unsupported_field a h m n u) (unknown_opcode b k) = absurd (k h)
one_cause f c d (unsupported_field a h m n u) (no_register b k r) = absurd (no_higher _ _ r m n)
one_cause f c d (unsupported_field a h m n u) (unsupported_field b k p q v) = refl
one_cause f c d (unsupported_field a h m n u) (other_field b k p q v) = absurd cc
one_cause f c d (other_field a h m n u) (unsupported_opcode b) = absurd cc
one_cause f c d (other_field a h m n u) (unknown_opcode b k) = refl
one_cause f c d (other_field a h m n u) (no_register b k r) = absurd (no_higher _ _ r m n)
one_cause f c d (other_field a h m n u) (unsupported_field b k p q v) = absurd cc
one_cause f c d (other_field a h m n u) (other_field b k p q v) = refl

pub one_refusal : (bytes : List ℕ) (c d : Cause) (p q : ℕ) → IsRefused bytes c p → IsRefused bytes d q → (c ≡ d) × (p ≡ q)
one_refusal bytes c d p q (inl h) (inl k) = (h.1 ∙ sym k.1, h.2 ∙ sym k.2)
one_refusal bytes c d p q (inl h) (inr k) = absurd (h.0 k.0)
one_refusal bytes c d p q (inr h) (inl k) = absurd (k.0 h.0)
one_refusal bytes c d p q (inr h) (inr k) =
    let a = h.1 in
    let b = k.1 in
    let e = fronts a.reached.front b.reached.front a.rest b.rest a.reached.spelled b.reached.spelled a.stops.none b.stops.none (sym a.reached.written ∙ b.reached.written) in
    let f = same_fields a.stops.fields b.stops.fields a.stops.after b.stops.after a.stops.fits b.stops.fits (sym a.stops.begins ∙ (e.1 ∙ b.stops.begins)) in
    (one_cause b.stops.fields c d (subst (λ (x : Fields). HasCause x c) f.0 a.stops.why) b.stops.why, sym a.reached.counted ∙ (ap (λ (is : List Insn). length (flat_map takes is)) e.0 ∙ b.reached.counted))

-- what is encoded is decoded again
some_taken : (i : Insn) → 0 < length (takes i)
some_taken (Const dst value) = omega arith
some_taken (MapRef dst m) = omega arith
some_taken _ = omega arith

few_taken : (i : Insn) → length (takes i) ≤ 4096
few_taken (Const dst value) = omega arith
few_taken (MapRef dst m) = omega arith
few_taken _ = omega arith

pub encoded : (i : Insn) → HasSpelling i → Spells (takes i) (spelling i)
encoded i h =
    let e : takes i ≡ flat_map takes (i ∷ []) = sym (append-nil (takes i)) in
    record {
      laid_out = record { insns = i ∷ []; spelled = (h, tt); taken = e; some = some_taken i; short = few_taken i };
      written = sym (append-nil (spelling i)) ∙ (sym (slots_written (i ∷ [])) ∙ ap (flat_map spelling) (sym e));
    }

pub memory_alone : (bytes : List ℕ) (r : Refusal) (code : List Insn) → IsNoCode bytes r → Spells code bytes → r.cause ≡ Memory
memory_alone bytes r code (inl h) s = absurd (code_or_none code bytes r.cause r.pc s h)
memory_alone bytes r code (inr h) s = h.0
