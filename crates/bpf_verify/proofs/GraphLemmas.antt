-- What a structured program's edges are.
use Rattle.std.proofs.Common.{◌≡◌, ◌<◌, inl, inr, ℕ, ℤ, List, Option, Some, None, length, refl, subst, arith, Bool, true, false}
use Rattle.std.specs.Prelude.{slice_get, nat_lt, not, is_none, if◌then◌else◌}
use Rattle.std.proofs.lemmas.Bool.Decides.{nat_tests}
use Rattle.bpf_insn.specs.declared.insn.Insn.{Insn}
use Rattle.bpf_insn.specs.declared.insn.Insn.TheVariants.{Alu, Neg, End, MovSx, Const, MapRef, Ldx, St, Stx, AddCounter, Ja, Jump, Call, Exit, Second}
use Rattle.bpf_flow.specs.Step.{target}
use Rattle.bpf_flow.specs.Graph.{Leads, next_slot}
use Rattle.bpf_verify.specs.Structure.{misses_target, runs_off, landing, begins, jump_of, falls_through}
use Rattle.bpf_verify.specs.Consistent.{worth}

pub begun : (o : Option Insn) → begins o ≡ true → (i : Insn) × (o ≡ Some i)
begun None e = cc
begun (Some i) e = (i, refl)

pub begun_worth : (i : Insn) → begins (Some i) ≡ true → worth i ≡ 1
begun_worth (Alu op wide dst src) e = refl
begun_worth (Neg wide dst) e = refl
begun_worth (End kind width dst) e = refl
begun_worth (MovSx wide bits dst src) e = refl
begun_worth (Const dst value) e = refl
begun_worth (MapRef dst m) e = refl
begun_worth (Ldx size signed dst src off) e = refl
begun_worth (St size dst off imm) e = refl
begun_worth (Stx size dst src off) e = refl
begun_worth (AddCounter fetch dst src off) e = refl
begun_worth (Ja wide_offset to) e = refl
begun_worth (Jump cond wide dst src off) e = refl
begun_worth (Call helper) e = refl
begun_worth Exit e = refl
begun_worth Second e = cc

pub lands_of : (code : List Insn) (q : ℕ) (o : Option ℕ) → o ≡ Some q → is_none (landing code o) ≡ false → begins (slice_get code q) ≡ true
lands_of code q None e h = cc
lands_of code q (Some to) e h = let same : to ≡ q = cc in subst (λ q. begins (slice_get code q) ≡ true) same (was (begins (slice_get code to)) h)
  where
    was : (b : Bool) → is_none (if b then Some to else None) ≡ false → b ≡ true
    was true e = refl
    was false e = cc

pub next_above : (pc : ℕ) (i : Insn) → pc < next_slot i pc
next_above pc (Alu op wide dst src) = omega arith
next_above pc (Neg wide dst) = omega arith
next_above pc (End kind width dst) = omega arith
next_above pc (MovSx wide bits dst src) = omega arith
next_above pc (Const dst value) = omega arith
next_above pc (MapRef dst m) = omega arith
next_above pc (Ldx size signed dst src off) = omega arith
next_above pc (St size dst off imm) = omega arith
next_above pc (Stx size dst src off) = omega arith
next_above pc (AddCounter fetch dst src off) = omega arith
next_above pc (Ja wide_offset to) = omega arith
next_above pc (Jump cond wide dst src off) = omega arith
next_above pc (Call helper) = omega arith
next_above pc Exit = omega arith
next_above pc Second = omega arith

pub next_inside : (code : List Insn) (pc : ℕ) (i : Insn) → falls_through i ≡ true → runs_off code pc i ≡ false → next_slot i pc < length code
next_inside code pc i f h = by (falls_through i) f h
  where
    test : (n : ℕ) → not (nat_lt n (length code)) ≡ false → n < length code
    test n h = grind (arith, nat_tests)

    by : (b : Bool) → b ≡ true → (if b then not (nat_lt (next_slot i pc) (length code)) else false) ≡ false → next_slot i pc < length code
    by true f h = test (next_slot i pc) h
    by false f h = cc

-- an edge is a fall to the next slot, or a jump
pub data Way (i : Insn) (pc q : ℕ) : Type 0 where
  Falls : falls_through i ≡ true → q ≡ next_slot i pc → Way i pc q
  Jumps : (off : ℤ) → jump_of i ≡ Some off → target pc off ≡ Some q → Way i pc q

pub way : (i : Insn) (pc q : ℕ) → Leads i pc q → Way i pc q
way (Alu op wide dst src) pc q h = Falls refl h
way (Neg wide dst) pc q h = Falls refl h
way (End kind width dst) pc q h = Falls refl h
way (MovSx wide bits dst src) pc q h = Falls refl h
way (Const dst value) pc q h = Falls refl h
way (MapRef dst m) pc q h = Falls refl h
way (Ldx size signed dst src off) pc q h = Falls refl h
way (St size dst off imm) pc q h = Falls refl h
way (Stx size dst src off) pc q h = Falls refl h
way (AddCounter fetch dst src off) pc q h = Falls refl h
way (Ja wide_offset to) pc q h = Jumps to refl h
way (Jump cond wide dst src off) pc q (inl h) = Falls refl h
way (Jump cond wide dst src off) pc q (inr h) = Jumps off refl h
way (Call helper) pc q h = Falls refl h
way Exit pc q h = absurd h
way Second pc q h = absurd h

-- a jump that doesn't miss has a target
pub target_found : (code : List Insn) (pc : ℕ) (i : Insn) (off : ℤ) → jump_of i ≡ Some off → misses_target code pc (jump_of i) ≡ false → (q : ℕ) × (target pc off ≡ Some q)
target_found code pc i off j h = by (target pc off) (subst (λ (o : Option ℤ). misses_target code pc o ≡ false) j h)
  where
    by : (o : Option ℕ) → is_none (landing code o) ≡ false → (q : ℕ) × (o ≡ Some q)
    by None e = cc
    by (Some q) e = (q, refl)
