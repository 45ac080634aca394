-- A program has one first fault.
use Rattle.std.proofs.Common.{◌≡◌, inl, inr, ℕ, List, refl, sym, ap, ◌∙◌, arith, subst, Some}
use Rattle.std.specs.Prelude.{slice_get}
use Rattle.std.proofs.lemmas.Bool.{cases_lt}
use Rattle.bpf_insn.specs.declared.insn.Insn.{Insn}
use Rattle.bpf_insn.specs.declared.refusal.Cause.{Cause}
use Rattle.bpf_insn.specs.declared.refusal.Cause.TheVariants.{Memory, Length, Opcode, Register, Target, BackJump, End, Unset, FramePointer, NoPointer, Packet, Stack, Context, MayBeNull, MapAccess, Helper, MapNumber, Argument, Unsupported}
use Rattle.bpf_verify.specs.FirstRefusal.{IsFine, IsFault, IsFirstFault}

-- where nothing is wrong there is no fault
pub fine_fault : (code : List Insn) (maps pc : ℕ) (i : Insn) (c : Cause) → IsFine code maps pc i → IsFault code maps pc i c → ⊥
fine_fault code maps pc i Target f t = let both = sym f.target ∙ t in cc
fine_fault code maps pc i BackJump f t = f.cycle t.1
fine_fault code maps pc i End f t = let both = sym f.ends ∙ t.2 in cc
fine_fault code maps pc i MapNumber f t = let both = sym f.map ∙ t.3 in cc
fine_fault code maps pc i Memory f t = t
fine_fault code maps pc i Length f t = t
fine_fault code maps pc i Opcode f t = t
fine_fault code maps pc i Register f t = t
fine_fault code maps pc i Unset f t = t
fine_fault code maps pc i FramePointer f t = t
fine_fault code maps pc i NoPointer f t = t
fine_fault code maps pc i Packet f t = t
fine_fault code maps pc i Stack f t = t
fine_fault code maps pc i Context f t = t
fine_fault code maps pc i MayBeNull f t = t
fine_fault code maps pc i MapAccess f t = t
fine_fault code maps pc i Helper f t = t
fine_fault code maps pc i Argument f t = t
fine_fault code maps pc i Unsupported f t = t

-- each of the four causes wants the ones before it away
one_fault : (code : List Insn) (maps pc : ℕ) (i : Insn) (c d : Cause) → IsFault code maps pc i c → IsFault code maps pc i d → c ≡ d
one_fault code maps pc i Target Target f g = refl
one_fault code maps pc i Target BackJump f g = let both = sym f ∙ g.0 in cc
one_fault code maps pc i Target End f g = let both = sym f ∙ g.0 in cc
one_fault code maps pc i Target MapNumber f g = let both = sym f ∙ g.0 in cc
one_fault code maps pc i BackJump Target f g = let both = sym g ∙ f.0 in cc
one_fault code maps pc i BackJump BackJump f g = refl
one_fault code maps pc i BackJump End f g = absurd (g.1 f.1)
one_fault code maps pc i BackJump MapNumber f g = absurd (g.1 f.1)
one_fault code maps pc i End Target f g = let both = sym g ∙ f.0 in cc
one_fault code maps pc i End BackJump f g = absurd (f.1 g.1)
one_fault code maps pc i End End f g = refl
one_fault code maps pc i End MapNumber f g = let both = sym f.2 ∙ g.2 in cc
one_fault code maps pc i MapNumber Target f g = let both = sym g ∙ f.0 in cc
one_fault code maps pc i MapNumber BackJump f g = absurd (f.1 g.1)
one_fault code maps pc i MapNumber End f g = let both = sym g.2 ∙ f.2 in cc
one_fault code maps pc i MapNumber MapNumber f g = refl
one_fault code maps pc i Target Memory f g = absurd g
one_fault code maps pc i Target Length f g = absurd g
one_fault code maps pc i Target Opcode f g = absurd g
one_fault code maps pc i Target Register f g = absurd g
one_fault code maps pc i Target Unset f g = absurd g
one_fault code maps pc i Target FramePointer f g = absurd g
one_fault code maps pc i Target NoPointer f g = absurd g
one_fault code maps pc i Target Packet f g = absurd g
one_fault code maps pc i Target Stack f g = absurd g
one_fault code maps pc i Target Context f g = absurd g
one_fault code maps pc i Target MayBeNull f g = absurd g
one_fault code maps pc i Target MapAccess f g = absurd g
one_fault code maps pc i Target Helper f g = absurd g
one_fault code maps pc i Target Argument f g = absurd g
one_fault code maps pc i Target Unsupported f g = absurd g
one_fault code maps pc i BackJump Memory f g = absurd g
one_fault code maps pc i BackJump Length f g = absurd g
one_fault code maps pc i BackJump Opcode f g = absurd g
one_fault code maps pc i BackJump Register f g = absurd g
one_fault code maps pc i BackJump Unset f g = absurd g
one_fault code maps pc i BackJump FramePointer f g = absurd g
one_fault code maps pc i BackJump NoPointer f g = absurd g
one_fault code maps pc i BackJump Packet f g = absurd g
one_fault code maps pc i BackJump Stack f g = absurd g
one_fault code maps pc i BackJump Context f g = absurd g
one_fault code maps pc i BackJump MayBeNull f g = absurd g
one_fault code maps pc i BackJump MapAccess f g = absurd g
one_fault code maps pc i BackJump Helper f g = absurd g
one_fault code maps pc i BackJump Argument f g = absurd g
one_fault code maps pc i BackJump Unsupported f g = absurd g
one_fault code maps pc i End Memory f g = absurd g
one_fault code maps pc i End Length f g = absurd g
one_fault code maps pc i End Opcode f g = absurd g
one_fault code maps pc i End Register f g = absurd g
one_fault code maps pc i End Unset f g = absurd g
one_fault code maps pc i End FramePointer f g = absurd g
one_fault code maps pc i End NoPointer f g = absurd g
one_fault code maps pc i End Packet f g = absurd g
one_fault code maps pc i End Stack f g = absurd g
one_fault code maps pc i End Context f g = absurd g
one_fault code maps pc i End MayBeNull f g = absurd g
one_fault code maps pc i End MapAccess f g = absurd g
one_fault code maps pc i End Helper f g = absurd g
one_fault code maps pc i End Argument f g = absurd g
one_fault code maps pc i End Unsupported f g = absurd g
one_fault code maps pc i MapNumber Memory f g = absurd g
one_fault code maps pc i MapNumber Length f g = absurd g
one_fault code maps pc i MapNumber Opcode f g = absurd g
one_fault code maps pc i MapNumber Register f g = absurd g
one_fault code maps pc i MapNumber Unset f g = absurd g
one_fault code maps pc i MapNumber FramePointer f g = absurd g
one_fault code maps pc i MapNumber NoPointer f g = absurd g
one_fault code maps pc i MapNumber Packet f g = absurd g
one_fault code maps pc i MapNumber Stack f g = absurd g
one_fault code maps pc i MapNumber Context f g = absurd g
one_fault code maps pc i MapNumber MayBeNull f g = absurd g
one_fault code maps pc i MapNumber MapAccess f g = absurd g
one_fault code maps pc i MapNumber Helper f g = absurd g
one_fault code maps pc i MapNumber Argument f g = absurd g
one_fault code maps pc i MapNumber Unsupported f g = absurd g
one_fault code maps pc i Memory d f g = absurd f
one_fault code maps pc i Length d f g = absurd f
one_fault code maps pc i Opcode d f g = absurd f
one_fault code maps pc i Register d f g = absurd f
one_fault code maps pc i Unset d f g = absurd f
one_fault code maps pc i FramePointer d f g = absurd f
one_fault code maps pc i NoPointer d f g = absurd f
one_fault code maps pc i Packet d f g = absurd f
one_fault code maps pc i Stack d f g = absurd f
one_fault code maps pc i Context d f g = absurd f
one_fault code maps pc i MayBeNull d f g = absurd f
one_fault code maps pc i MapAccess d f g = absurd f
one_fault code maps pc i Helper d f g = absurd f
one_fault code maps pc i Argument d f g = absurd f
one_fault code maps pc i Unsupported d f g = absurd f

pub first_fault_once : (code : List Insn) (maps pc pc' : ℕ) (c d : Cause) → IsFirstFault code maps pc c → IsFirstFault code maps pc' d → (c ≡ d) × (pc ≡ pc')
first_fault_once code maps pc pc' c d f g = elim (cases_lt pc pc') [
  | inl low ↦ absurd (fine_fault code maps pc f.insn c (g.before pc f.insn low f.here) f.fault)
  | inr high ↦ elim (cases_lt pc' pc) [
    | inl low ↦ absurd (fine_fault code maps pc' g.insn d (f.before pc' g.insn low g.here) g.fault)
    | inr more ↦
        let slot : pc' ≡ pc = omega arith in
        let there : slice_get code pc ≡ Some g.insn = ap (slice_get code) (sym slot) ∙ g.here in
        let both : Some f.insn ≡ Some g.insn = sym f.here ∙ there in
        let same : g.insn ≡ f.insn = cc in
        (one_fault code maps pc f.insn c d f.fault (subst (λ (i : Insn). IsFault code maps pc i d) same (subst (λ (q : ℕ). IsFault code maps q g.insn d) slot g.fault)), sym slot)
  ]
]
