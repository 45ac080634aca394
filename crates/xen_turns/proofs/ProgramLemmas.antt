-- The runs of a program's computation are the program's walks.
use Rattle.std.proofs.Common.{◌≡◌, ℕ, zero, suc, ◌+◌, ◌%◌, ◌≤◌, ◌^◌, List, [], ◌∷◌, length, map, Option, None, Some, refl, sym, ◌∙◌, ap, subst, arith}
use Rattle.bpf_insn.specs.declared.insn.Insn.{Insn}
use Rattle.bpf_note.specs.State.{State}
use Rattle.bpf_note.specs.declared.op.Op.{Op}
use Rattle.bpf_note.specs.declared.op.Op.TheVariants as op
use Rattle.bpf_flow.specs.Step.{Outcome, Next, Loads, Adds, Exited, Fault, step, LeadsTo}
use Rattle.bpf_verify.specs.Consistent.{instructions}
use Rattle.bpf_vm.specs.Course.{course, course_by, start_state}
use Rattle.xen_steps.specs.Event.{Event, Instr, Load, Add}
use Rattle.bpf_vm.specs.Run.{Walk, ends, goes}
use Rattle.xen_turns.specs.Program.{event_of, ops_in, IsProgram}
use Rattle.xen_steps.specs.Steps.{Runs}
use Rattle.xen_turns.specs.Tree.{Left, program, run_of}
use Rattle.xen_turns.specs.declared.wiring.Wiring.{Wiring}

-- what a walk of at most n steps from a state leaves, its events being these
record Walked (code : List Insn) (n : ℕ) (s : State) (ops : ℕ) (p : List Event) (out : Left) : Type 0 where
  pub r0 : ℕ
  pub labels : List (Option Op)
  pub walk : Walk code r0 out.packet s labels
  pub within : length labels ≤ n
  pub events : p ≡ map event_of labels
  pub number : out.number ≡ r0 % 2 ^ 32
  pub ops_done : out.ops ≡ ops + ops_in labels

module _ (code : List Insn) (n : ℕ) (s : State) (go : (t : State) (ops : ℕ) (q : List Event) (out : Left) → Runs (program (course n code t) ops) q out → Walked code n t ops q out) where
  walked_by : (o : Outcome) → step code s ≡ o → (ops : ℕ) (p : List Event) (out : Left) → Runs (program (course_by (course n code) s o) ops) p out → Walked code (suc n) s ops p out
  walked_by (Next t) e ops [] out h = absurd h
  walked_by (Next t) e ops (x ∷ p) out h =
      let r = go t ops p out h.2 in
      record {
        r0 = r.r0;
        labels = None ∷ r.labels;
        walk = goes s t None r.labels (subst (λ (o : Outcome). LeadsTo o None t) (sym e) refl) r.walk;
        within = omega (arith, r.within);
        events = rw h.1.1 (ap (λ l. Instr ∷ l) r.events);
        number = r.number;
        ops_done = r.ops_done;
      }
  walked_by (Loads m k j to) e ops [] out h = absurd h
  walked_by (Loads m k j to) e ops (x ∷ p) out h =
      let v = h.0 in
      let small : v % 2 ^ 64 ≡ v = omega (arith, h.1.0) in
      let r = go (to v) (ops + 1) p out (subst (λ a. Runs (program (course n code (to a)) (ops + 1)) p out) small h.2) in
      record {
        r0 = r.r0;
        labels = Some (op.Load m k j v) ∷ r.labels;
        walk = goes s (to v) (Some (op.Load m k j v)) r.labels (subst (λ (o : Outcome). LeadsTo o (Some (op.Load m k j v)) (to v)) (sym e) (refl, refl, refl, h.1.0, refl)) r.walk;
        within = omega (arith, r.within);
        events = rw h.1.1 (ap (λ l. Load m k j v ∷ l) r.events);
        number = r.number;
        ops_done = omega (arith, r.ops_done);
      }
  walked_by (Adds m k j d to) e ops [] out h = absurd h
  walked_by (Adds m k j d to) e ops (x ∷ p) out h =
      let v = h.0 in
      let small : v % 2 ^ 64 ≡ v = omega (arith, h.1.0) in
      let r = go (to v) (ops + 1) p out (subst (λ a. Runs (program (course n code (to a)) (ops + 1)) p out) small h.2) in
      record {
        r0 = r.r0;
        labels = Some (op.Add m k j d v) ∷ r.labels;
        walk = goes s (to v) (Some (op.Add m k j d v)) r.labels (subst (λ (o : Outcome). LeadsTo o (Some (op.Add m k j d v)) (to v)) (sym e) (refl, refl, refl, refl, h.1.0, refl)) r.walk;
        within = omega (arith, r.within);
        events = rw h.1.1 (ap (λ l. Add m k j d v ∷ l) r.events);
        number = r.number;
        ops_done = omega (arith, r.ops_done);
      }
  walked_by (Exited r0) e ops [] out h = absurd h
  walked_by (Exited r0) e ops (x ∷ []) out h =
      record {
        r0 = r0;
        labels = None ∷ [];
        walk = ends s e (ap (λ (l : Left). l.packet) h.2);
        within = omega arith;
        events = rw h.1.1 refl;
        number = sym (ap (λ (l : Left). l.number) h.2);
        ops_done = let same = ap (λ (l : Left). l.ops) h.2 in omega (arith, same);
      }
  walked_by (Exited r0) e ops (x ∷ y ∷ p) out h = absurd h.2
  walked_by Fault e ops p out h = absurd h

walked : (code : List Insn) (n : ℕ) (s : State) (ops : ℕ) (p : List Event) (out : Left) → Runs (program (course n code s) ops) p out → Walked code n s ops p out
walked code zero s ops p out h = absurd h
walked code (suc n) s ops p out h = walked_by code n s (λ t o q u g. walked code n t o q u g) (step code s) refl ops p out h

pub program_parts : (w : Wiring) (packet : List ℕ) (p : List Event) (out : Left) → Runs (program (run_of w packet) 0) p out → IsProgram w packet p out
program_parts w packet p out h =
    let g = w.program.now in
    let r = walked g.code (instructions g.code) (start_state g.shapes w.lists.now packet w.ifindex w.queue) 0 p out h in
    record { r0 = r.r0; labels = r.labels; walk = r.walk; within = r.within; events = r.events; number = r.number; ops = omega (arith, r.ops_done) }

-- what a walk leaves
abbrev left_by : ℕ → List ℕ → ℕ → Left
left_by r0 packet ops = record { number = r0 % 2 ^ 32; packet = packet; ops = ops }

module _ (code : List Insn) (n : ℕ) (s t : State) (r0 : ℕ) (packet : List ℕ) (labels : List (Option Op))
    (go : (ops : ℕ) → Runs (program (course n code t) ops) (map event_of labels) (left_by r0 packet (ops + ops_in labels))) where
  leads_on : (o : Outcome) (label : Option Op) → LeadsTo o label t → (ops : ℕ) →
      Runs (program (course_by (course n code) s o) ops) (map event_of (label ∷ labels)) (left_by r0 packet (ops + ops_in (label ∷ labels)))
  leads_on (Next a) None l ops = (0, (refl, refl), subst (λ (a : State). Runs (program (course n code a) ops) (map event_of labels) (left_by r0 packet (ops + ops_in labels))) (sym l) (go ops))
  leads_on (Next a) (Some x) l ops = absurd l
  leads_on (Loads m k j to) None l ops = absurd l
  leads_on (Loads m k j to) (Some (op.Load m' k' j' v)) l ops =
      let small : v % 2 ^ 64 ≡ v = omega (arith, l.3) in
      let count : ops + 1 + ops_in labels ≡ ops + suc (ops_in labels) = omega arith in
      let on = subst (λ c. Runs (program (course n code t) (ops + 1)) (map event_of labels) (left_by r0 packet c)) count (go (ops + 1)) in
      (v, (l.3, rw (l.0, l.1, l.2) refl), subst (λ (a : State). Runs (program (course n code a) (ops + 1)) (map event_of labels) (left_by r0 packet (ops + suc (ops_in labels)))) (sym (ap to small ∙ l.4)) on)
  leads_on (Loads m k j to) (Some (op.Add m' k' j' d v)) l ops = absurd l
  leads_on (Adds m k j d to) None l ops = absurd l
  leads_on (Adds m k j d to) (Some (op.Load m' k' j' v)) l ops = absurd l
  leads_on (Adds m k j d to) (Some (op.Add m' k' j' d' v)) l ops =
      let small : v % 2 ^ 64 ≡ v = omega (arith, l.4) in
      let count : ops + 1 + ops_in labels ≡ ops + suc (ops_in labels) = omega arith in
      let on = subst (λ c. Runs (program (course n code t) (ops + 1)) (map event_of labels) (left_by r0 packet c)) count (go (ops + 1)) in
      (v, (l.4, rw (l.0, l.1, l.2, l.3) refl), subst (λ (a : State). Runs (program (course n code a) (ops + 1)) (map event_of labels) (left_by r0 packet (ops + suc (ops_in labels)))) (sym (ap to small ∙ l.5)) on)
  leads_on (Exited x) label l ops = absurd l
  leads_on Fault label l ops = absurd l

walks_run : (code : List Insn) (r0 : ℕ) (packet : List ℕ) (s : State) (labels : List (Option Op)) → Walk code r0 packet s labels → (n : ℕ) → length labels ≤ n → (ops : ℕ) →
    Runs (program (course n code s) ops) (map event_of labels) (left_by r0 packet (ops + ops_in labels))
walks_run code r0 packet _ _ (ends s e q) zero h ops = absurd (omega arith)
walks_run code r0 packet _ _ (ends s e q) (suc n) h ops =
    let none : ops ≡ ops + 0 = omega arith in
    subst (λ (o : Outcome). Runs (program (course_by (course n code) s o) ops) (Instr ∷ []) (left_by r0 packet (ops + 0))) (sym e) (0, (refl, refl), ap (λ (b : List ℕ). left_by r0 b ops) q ∙ ap (left_by r0 packet) none)
walks_run code r0 packet _ _ (goes s t label labels l r) zero h ops = absurd (omega arith)
walks_run code r0 packet _ _ (goes s t label labels l r) (suc n) h ops = leads_on code n s t r0 packet labels (λ o. walks_run code r0 packet t labels r n (omega arith) o) (step code s) label l ops

pub runs_program : (w : Wiring) (packet : List ℕ) (p : List Event) (out : Left) → IsProgram w packet p out → Runs (program (run_of w packet) 0) p out
runs_program w packet p out h =
    let g = w.program.now in
    let r = walks_run g.code h.r0 out.packet (start_state g.shapes w.lists.now packet w.ifindex w.queue) h.labels h.walk (instructions g.code) h.within 0 in
    let none : 0 + ops_in h.labels ≡ out.ops = omega (arith, h.ops) in
    rw h.events (subst (λ (l : Left). Runs (program (run_of w packet) 0) (map event_of h.labels) l) (ap (left_by h.r0 out.packet) none ∙ ap (λ m. record { number = m; packet = out.packet; ops = out.ops }) (sym h.number)) r)
