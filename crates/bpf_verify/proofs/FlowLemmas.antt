-- In a structured program control goes along edges of the flow graph alone.
use Rattle.std.proofs.Common.{◌≡◌, ℕ, ℤ, List, Option, Some, refl, sym, subst, true, false}
use Rattle.std.specs.Prelude.{slice_get}
use Rattle.bpf_insn.specs.Code.{IsCode}
use Rattle.bpf_insn.specs.declared.insn.Insn.{Insn}
use Rattle.bpf_insn.specs.declared.insn.Insn.TheVariants.{Alu, Neg, End, MovSx, Const, MapRef, Ldx, St, Stx, AddCounter, Ja, Jump, Call, Exit, Second}
use Rattle.bpf_flow.specs.Step.{target}
use Rattle.bpf_flow.specs.Graph.{Leads}
use Rattle.bpf_verify.specs.Structure.{begins, falls_through, misses_target}
use Rattle.bpf_verify.specs.Edges.{Edge, Flows}
use Rattle.bpf_verify.specs.Paths.{Reaches}
use Rattle.bpf_verify.specs.Paths as paths
use Rattle.bpf_verify.specs.FirstRefusal.{IsStructured}
use Rattle.bpf_verify.specs.Unwritten.{Reached, start, along}
use Rattle.bpf_verify.proofs.CodeLemmas.{next_begins}
use Rattle.bpf_verify.proofs.CycleLemmas.{one_more}
use Rattle.bpf_verify.proofs.GraphLemmas.{Falls, Jumps, way, lands_of, next_inside}

falling_begins : (i : Insn) → falls_through i ≡ true → begins (Some i) ≡ true
falling_begins (Alu op wide dst src) e = refl
falling_begins (Neg wide dst) e = refl
falling_begins (End kind width dst) e = refl
falling_begins (MovSx wide bits dst src) e = refl
falling_begins (Const dst value) e = refl
falling_begins (MapRef dst m) e = refl
falling_begins (Ldx size signed dst src off) e = refl
falling_begins (St size dst off imm) e = refl
falling_begins (Stx size dst src off) e = refl
falling_begins (AddCounter fetch dst src off) e = refl
falling_begins (Ja wide_offset to) e = refl
falling_begins (Jump cond wide dst src off) e = refl
falling_begins (Call helper) e = refl
falling_begins Exit e = refl
falling_begins Second e = cc

pub edge_begins : (code : List Insn) (maps pc q : ℕ) (i : Insn) → IsCode code → IsStructured code maps → slice_get code pc ≡ Some i → Leads i pc q → begins (slice_get code q) ≡ true
edge_begins code maps pc q i laid h e l =
    let f = h pc i e in
    elim (way i pc q l) [
      | Falls t s ↦ subst (λ (q : ℕ). begins (slice_get code q) ≡ true) (sym s) (next_begins code pc i laid e (falling_begins i t) (next_inside code pc i t f.ends))
      | Jumps off j t ↦ lands_of code q (target pc off) t (subst (λ (o : Option ℤ). misses_target code pc o ≡ false) j f.target)
    ]

pub structured_edge : (code : List Insn) (maps pc q : ℕ) (i : Insn) → IsCode code → IsStructured code maps → slice_get code pc ≡ Some i → Leads i pc q → Edge code pc q
structured_edge code maps pc q i laid h e l = record { insn = i; here = e; leads = l; lands = edge_begins code maps pc q i laid h e l }

pub reached_flows : (code : List Insn) (maps : ℕ) {q : ℕ} → IsCode code → IsStructured code maps → Reached code q → Flows code 0 q
reached_flows code maps laid h start = paths.here
reached_flows code maps laid h (along p q i r at l) = one_more (reached_flows code maps laid h r) (structured_edge code maps p q i laid h at l)

reached_on : (code : List Insn) {p q : ℕ} → Reached code p → Flows code p q → Reached code q
reached_on code r paths.here = r
reached_on code r (paths.along {p = p} {q = q} e l) = reached_on code (along p q e.insn r e.here e.leads) l

pub flows_reached : (code : List Insn) {q : ℕ} → Flows code 0 q → Reached code q
flows_reached code l = reached_on code start l
