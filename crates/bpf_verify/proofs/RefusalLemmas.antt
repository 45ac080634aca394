-- The refusals are the program's.
use Rattle.std.proofs.Common.{◌≡◌, inl, inr, ℕ, suc, List, [], ◌∷◌, ◌++◌, Option, Some, None, length, arith, refl, subst, sym, true}
use Rattle.std.specs.Prelude.{slice_get, Contains, Err}
use Rattle.bpf_insn.specs.Code.{IsCode}
use Rattle.bpf_insn.specs.declared.insn.Insn.{Insn}
use Rattle.bpf_insn.specs.declared.refusal.Cause.{Cause}
use Rattle.bpf_insn.specs.declared.refusal.Cause.TheVariants.{Memory, Length, Opcode, Register, Target, BackJump, End, Unset, FramePointer, NoPointer, Packet, Stack, Context, MayBeNull, MapAccess, Helper, MapNumber, Argument, Unsupported}
use Rattle.bpf_note.specs.Shape.{Shape}
use Rattle.bpf_note.specs.Facts.{Facts}
use Rattle.bpf_flow.specs.Causes.{IsRuleCause}
use Rattle.bpf_flow.proofs.CauseLemmas.{rule_causes}
use Rattle.bpf_verify.specs.Structure.{begins}
use Rattle.bpf_verify.specs.FirstRefusal.{IsStructured, IsStopped, IsHalted, ReadsUnset, IsSecondRefusal, IsRefusal, at_start, in_notes}
use Rattle.bpf_verify.specs.Gathered.{rule_by, rule_at, IsFirstCause}
use Rattle.bpf_verify.proofs.FollowLemmas.{ruled_at}
use Rattle.bpf_verify.proofs.LawLemmas.{takes_within}
use Rattle.bpf_verify.proofs.PassingLemmas.{flows_begins}

in_middle : (xs ys : List ℕ) (p : ℕ) → Contains (xs ++ p ∷ ys) p
in_middle [] ys p = (0, omega arith, refl)
in_middle (x ∷ xs) ys p = let r = in_middle xs ys p in (suc r.0, (let l = r.1 in omega (arith, l)), r.2)

insn_cause : (code : List Insn) (shapes : List Shape) (pc : ℕ) (n : Facts) (c : Cause) (o : Option Insn) → IsStructured code (length shapes) → slice_get code pc ≡ o → begins o ≡ true → rule_by o pc n shapes ≡ Err c → IsRuleCause c
insn_cause code shapes pc n c None structured e b h = absurd (cc)
insn_cause code shapes pc n c (Some i) structured e b h =
    rule_causes i pc n shapes c (ruled_at code (length shapes) pc i structured e (subst (λ (o : Option Insn). begins o ≡ true) (sym e) b)) h

pub rule_cause : (code : List Insn) (shapes : List Shape) (pc : ℕ) (n : Facts) (c : Cause) → IsStructured code (length shapes) → begins (slice_get code pc) ≡ true → rule_at code shapes pc n ≡ Err c → IsRuleCause c
unfolding rule_at
rule_cause code shapes pc n c structured b h = insn_cause code shapes pc n c (slice_get code pc) structured refl b h

pub first_cause : (code : List Insn) (shapes : List Shape) (pc : ℕ) (ns : List Facts) (c : Cause) → IsStructured code (length shapes) → begins (slice_get code pc) ≡ true → IsFirstCause code shapes pc ns c → IsRuleCause c
first_cause code shapes pc [] c structured b h = absurd h
first_cause code shapes pc (n ∷ ns) c structured b (inl e) = rule_cause code shapes pc n c structured b e
first_cause code shapes pc (n ∷ ns) c structured b (inr h) = first_cause code shapes pc ns c structured b h.1

-- the second pass stops for these causes alone
stopped_cause : (code : List Insn) (shapes : List Shape) (pc : ℕ) (c : Cause) → IsCode code → IsStructured code (length shapes) → IsStopped code shapes pc c → IsRuleCause c
stopped_cause code shapes pc c laid structured s =
    let within = takes_within s.is_order.takes pc (subst (λ (ps : List ℕ). Contains ps pc) (sym s.parts) (in_middle s.before s.rest pc)) in
    first_cause code shapes pc (s.notes pc) c structured (flows_begins code pc laid within) s.refused

module _ (code : List Insn) (shapes : List Shape) (pc : ℕ) (laid : IsCode code) (structured : IsStructured code (length shapes)) where
  second : (c : Cause) → IsStopped code shapes pc c → IsSecondRefusal code shapes pc c
  second c s = record { structured = structured; stopped = s }

  none : (c : Cause) → (IsRuleCause c → ⊥) → IsStopped code shapes pc c → ⊥
  none c f s = f (stopped_cause code shapes pc c laid structured s)

  pub halted_refusal : (c : Cause) → (IsStopped code shapes pc Unset → ReadsUnset code pc) → IsHalted code shapes pc c → IsRefusal code shapes c pc
  halted_refusal Memory f (inl first) = at_start first
  halted_refusal Memory f (inr h) = in_notes structured h
  halted_refusal Length f h = absurd (none Length (λ x. x) h)
  halted_refusal Opcode f h = absurd (none Opcode (λ x. x) h)
  halted_refusal Register f h = absurd (none Register (λ x. x) h)
  halted_refusal Target f h = absurd (none Target (λ x. x) h)
  halted_refusal BackJump f h = absurd (none BackJump (λ x. x) h)
  halted_refusal End f h = absurd (none End (λ x. x) h)
  halted_refusal Unset f h = (second Unset h, f h)
  halted_refusal FramePointer f h = second FramePointer h
  halted_refusal NoPointer f h = second NoPointer h
  halted_refusal Packet f h = second Packet h
  halted_refusal Stack f h = second Stack h
  halted_refusal Context f h = second Context h
  halted_refusal MayBeNull f h = second MayBeNull h
  halted_refusal MapAccess f h = second MapAccess h
  halted_refusal Helper f h = second Helper h
  halted_refusal MapNumber f h = absurd (none MapNumber (λ x. x) h)
  halted_refusal Argument f h = second Argument h
  halted_refusal Unsupported f h = absurd (none Unsupported (λ x. x) h)
