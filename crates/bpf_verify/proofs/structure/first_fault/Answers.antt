use Rattle.std.proofs.Common.{◌≡◌, ◌<◌, ◌≤◌, ◌+◌, length, inl, inr, ℕ, List, Some, arith, sym, subst, ap, ◌∙◌, false}
use Rattle.std.proofs.lemmas.Option.{slice_get_within}
use Rattle.std.specs.Prelude.{slice_get}
use Rattle.std.proofs.lemmas.Bool.{cases_lt}
use Rattle.std.proofs.lemmas.Option.{slice_get-get_or}
use Rattle.bpf_insn.specs.declared.insn.Insn.{Insn}
use Rattle.bpf_insn.specs.declared.refusal.Cause.{Cause}
use Rattle.bpf_insn.specs.declared.refusal.Cause.TheVariants.{Memory}
use Rattle.bpf_verify.specs.Consistent.{IsOrdered}
use Rattle.bpf_verify.specs.Edges.{ClosesCycle, JumpsBack}
use Rattle.bpf_verify.specs.Structure.{jump_of, misses_target}
use Rattle.bpf_verify.specs.FirstRefusal.{IsFine, IsFault, IsStructureRefusal}
use Rattle.bpf_verify.proofs.structure.first_fault.Goals as goal

first_refusal : (code : List Insn) (maps pc : ℕ) (i : Insn) (cause : Cause) → slice_get code pc ≡ Some i → IsFault code maps pc i cause →
    ((p : ℕ) (j : Insn) → p < pc → slice_get code p ≡ Some j → IsFine code maps p j) → IsStructureRefusal code maps pc cause
first_refusal code maps pc i Memory e f before = absurd f
first_refusal code maps pc i cause e f before = record { insn = i; here = e; fault = f; before = before }

one_more : (code : List Insn) (maps pc : ℕ) (i : Insn) → slice_get code pc ≡ Some i → IsFine code maps pc i →
    ((p : ℕ) (j : Insn) → p < pc → slice_get code p ≡ Some j → IsFine code maps p j) → (p : ℕ) (j : Insn) → p < pc + 1 → slice_get code p ≡ Some j → IsFine code maps p j
one_more code maps pc i here f before p j low e = elim (cases_lt p pc) [
  | inl l ↦ before p j l e
  | inr h ↦
      let same : pc ≡ p = omega arith in
      let insn : i ≡ j = cc (sym here ∙ (ap (slice_get code) same ∙ e)) in
      subst (λ (p : ℕ). IsFine code maps p j) same (subst (IsFine code maps pc) insn f)
]

none_closes : (code : List Insn) (maps pc : ℕ) → length code ≤ pc → ((p : ℕ) (j : Insn) → p < pc → slice_get code p ≡ Some j → IsFine code maps p j) → (q : ℕ) → ClosesCycle code q → ⊥
none_closes code maps pc h before q k = let low = slice_get_within code q k.insn k.here in (before q k.insn (omega (arith, low)) k.here).cycle k

pub returns-in-Ok-Some-clause-some : goal.returns-in-Ok-Some-clause-some
returns-in-Ok-Some-clause-some c =
    let code = c.args.code.now in
    let here = slice_get-get_or code c.loop-pc.pc _ (omega (arith, c.loop-pc-test.true)) in
    first_refusal code c.args.maps c.loop-pc.pc _ c.in-Ok-Some.cause here (rw c.in-Ok-Some.field-0-is at c.in-Ok-Some.ensures.some) c.loop-pc.invariant

pub loop-pc-preserved : goal.loop-pc-preserved
loop-pc-preserved c = λ p i low e.
    let code = c.args.code.now in
    let here = slice_get-get_or code c.loop-pc.pc _ (omega (arith, c.loop-pc-test.true)) in
    one_more code c.args.maps c.loop-pc.pc _ here (rw c.in-Ok-None.field-0-is at c.in-Ok-None.ensures.none) c.loop-pc.invariant p i low e

pub returns-clause-none : goal.returns-clause-none
returns-clause-none c = λ p i e.
    let low = slice_get_within c.args.code.now p i e in
    c.loop-pc.invariant p i (omega (arith, low)) e

pub returns-clause-ordered : goal.returns-clause-ordered
returns-clause-ordered c = c.in-Ok.ensures.acyclic (λ q low k. none_closes c.args.code.now c.args.maps c.loop-pc.pc (omega (arith, c.loop-pc-test.false)) c.loop-pc.invariant q k)

searching : (code : List Insn) (maps pc : ℕ) (i : Insn) → slice_get code pc ≡ Some i → JumpsBack code pc → (IsOrdered code → ⊥) → misses_target code pc (jump_of i) ≡ false →
    ((p : ℕ) (j : Insn) → p < pc → slice_get code p ≡ Some j → IsFine code maps p j) → IsStructureRefusal code maps pc Memory
searching code maps pc i here jump unordered found before =
    let both : Some i ≡ Some jump.insn = sym here ∙ jump.here in
    let same : i ≡ jump.insn = cc in
    inr (record { jump = jump; unordered = unordered; found = subst (λ (i : Insn). misses_target code pc (jump_of i) ≡ false) same found; before = before })

pub returns-in-Err-fault_of-clause-some : goal.returns-in-Err-fault_of-clause-some
returns-in-Err-fault_of-clause-some c =
    let code = c.args.code.now in
    let here = slice_get-get_or code c.loop-pc.pc _ (omega (arith, c.loop-pc-test.true)) in
    let e = c.in-Err-fault_of.ensures in
    rw (c.memory_refusal-in-Err-fault_of.ensures.cause, c.memory_refusal-in-Err-fault_of.ensures.slot) (searching code c.args.maps c.loop-pc.pc _ here e.search e.unordered e.target c.loop-pc.invariant)
