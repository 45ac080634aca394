-- Steps in front of a run of the old program, and what they make of what stands in counters.
use Rattle.std.proofs.Common.{ℕ, ◌+◌, ◌%◌, ◌^◌, ◌≡◌, refl, sym, ap, ◌∙◌, subst, List, [], ◌∷◌, Option, None, Some, Bool, true, false}
use Rattle.bpf_insn.specs.declared.insn.Insn.{Insn}
use Rattle.bpf_note.specs.State.{State}
use Rattle.bpf_note.specs.declared.op.Op.{Op}
use Rattle.bpf_note.specs.declared.op.Op.TheVariants as ops
use Rattle.bpf_flow.specs.Step.{Exited, step, LeadsTo}
use Rattle.bpf_vm.specs.Run.{ends, goes}
use Rattle.bpf_same.specs.Same.{operations, Runs}
use Rattle.bpf_same.specs.Counts as counts
use Rattle.bpf_same.specs.Counts.{Does, Stores, IsCounterStore}
use Rattle.bpf_same.specs.Alone.{with_counter, counters_after, RunsAlone}
use Rattle.bpf_same.specs.Traces.{Trace, Has, IsNext, Follows}

-- an operation in front, if the label has one
abbrev pub in_front : Option Op → List Op → List Op
in_front None done = done
in_front (Some op) done = op ∷ done

operations_front : (label : Option Op) (labels : List (Option Op)) → operations (label ∷ labels) ≡ in_front label (operations labels)
operations_front None labels = refl
operations_front (Some op) labels = refl

-- a step in front of a run
pub before : (code : List Insn) (r0 : ℕ) (bytes : List ℕ) (t u : State) (label : Option Op) (done : List Op) → LeadsTo (step code t) label u → Runs code r0 bytes u done → Runs code r0 bytes t (in_front label done)
before code r0 bytes t u label done h r = record {
  labels = label ∷ r.labels;
  walk = goes t u label r.labels h r.walk;
  did = operations_front label r.labels ∙ ap (in_front label) r.did;
}

-- a step without an operation
pub silently : (alone : Bool) (code : List Insn) (r : Trace) (t u : State) → LeadsTo (step code t) None u → Has alone code r u → Has alone code r t
silently true code r t u h run = record { effects = run.effects; walk = counts.goes t u run.effects h run.walk; leaves = run.leaves }
silently false code r t u h run = before code r.r0 r.bytes t u None r.done h run

-- a step with a label that is the trace's next one
pub stepping : (alone : Bool) (code : List Insn) (r d : Trace) (t u : State) (label : Option Op) → LeadsTo (step code t) label u → IsNext alone label r d → Has alone code d u → Has alone code r t
stepping true code r d t u None h n run = silently true code r t u h (subst (λ (r : Trace). Has true code r u) (sym n) run)
stepping false code r d t u None h n run = silently false code r t u h (subst (λ (r : Trace). Has false code r u) (sym n) run)
stepping true code r d t u (Some op) h n run =
    let there : RunsAlone code r.r0 r.bytes u (counters_after r.found (Does op)) r.left = subst (λ (d : Trace). Has true code d u) n.1 run in
    record { effects = Does op ∷ there.effects; walk = counts.does t u op there.effects h there.walk; leaves = (n.0, there.leaves) }
stepping false code r d t u (Some op) h n run = subst (λ (r : Trace). Has false code r t) (sym n) (before code d.r0 d.bytes t u (Some op) d.done h run)

-- a step that the old program doesn't take
pub unmoved : (alone : Bool) (code : List Insn) (r d : Trace) (t : State) → IsNext alone None r d → Has alone code d t → Has alone code r t
unmoved true code r d t n run = subst (λ (r : Trace). Has true code r t) (sym n) run
unmoved false code r d t n run = subst (λ (r : Trace). Has false code r t) (sym n) run

-- a load that the new program alone makes leaves what is to come
pub loaded_alone : (code : List Insn) (r d : Trace) (t : State) (m k j v : ℕ) → IsNext true (Some (ops.Load m k j v)) r d → Has true code d t → Has true code r t
loaded_alone code r d t m k j v n run = subst (λ (d : Trace). Has true code d t) n.1 run

-- the old program's store of the sum in place of an addition
pub stored_alone : (code : List Insn) (r d : Trace) (t u : State) (m k j delta found : ℕ) → IsCounterStore code t m k j ((found + delta) % 2 ^ 64) u → IsNext true (Some (ops.Add m k j delta found)) r d → Has true code d u → Has true code r t
stored_alone code r d t u m k j delta found store n run =
    let there : RunsAlone code r.r0 r.bytes u (with_counter r.found m k j ((found + delta) % 2 ^ 64)) r.left = subst (λ (d : Trace). Has true code d u) n.1 run in
    record { effects = Stores m k j ((found + delta) % 2 ^ 64) ∷ there.effects; walk = counts.stores t u m k j ((found + delta) % 2 ^ 64) there.effects store there.walk; leaves = (tt, there.leaves) }

-- the trace after a label
pub record Following (alone : Bool) (label : Option Op) (labels : List (Option Op)) (r : Trace) : Type 0 where
  pub trace : Trace
  pub next : IsNext alone label r trace
  pub follows : Follows alone labels trace
  pub number : r.r0 ≡ trace.r0
  pub packet : r.bytes ≡ trace.bytes

pub following : (alone : Bool) (label : Option Op) (labels : List (Option Op)) (r : Trace) → Follows alone (label ∷ labels) r → Following alone label labels r
following true None labels r f = record { trace = r; next = refl; follows = f; number = refl; packet = refl }
following false None labels r f = record { trace = r; next = refl; follows = f; number = refl; packet = refl }
following true (Some op) labels r f = record {
  trace = record { r0 = r.r0; bytes = r.bytes; done = r.done; found = counters_after r.found (Does op); left = r.left };
  next = (f.0, refl);
  follows = f.1;
  number = refl;
  packet = refl;
}
following false (Some op) labels r f = record {
  trace = record { r0 = r.r0; bytes = r.bytes; done = operations labels; found = r.found; left = r.left };
  next = ap (λ (done : List Op). record { r0 = r.r0; bytes = r.bytes; done = done; found = r.found; left = r.left }) (sym f);
  follows = refl;
  number = refl;
  packet = refl;
}

pub ended : (alone : Bool) (code : List Insn) (r : Trace) (t : State) → step code t ≡ Exited r.r0 → t.packet ≡ r.bytes → Follows alone (None ∷ []) r → Has alone code r t
ended true code r t e b f = record { effects = []; walk = counts.ends t e b; leaves = f }
ended false code r t e b f = record { labels = None ∷ []; walk = ends t e b; did = f }
