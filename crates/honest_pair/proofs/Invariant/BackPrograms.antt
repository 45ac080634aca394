-- An accepted program ends on each packet, and keeps its size.
use Rattle.std.proofs.Common.{◌≡◌, ℕ, zero, suc, ◌%◌, ◌<◌, ◌≤◌, ◌^◌, inl, inr, Bool, true, false, List, [], ◌∷◌, length, Some, None, refl, sym, ◌∙◌, arith, subst}
use Rattle.std.specs.Prelude.{◌==◌, get_or, if◌then◌else◌}
use Rattle.std.proofs.lemmas.Bool.Decides.{nat_tests}
use Rattle.bpf_note.specs.Facts.{Facts}
use Rattle.bpf_note.specs.State.{State, IsStart, IsState, context_start, stack_end, start_register}
use Rattle.bpf_note.specs.declared.op.Op.TheVariants as ops
use Rattle.bpf_flow.specs.Step.{Outcome, Next, Loads, Adds, Exited, Fault, LeadsTo, step}
use Rattle.bpf_flow.proofs.KeptLemmas.{kept}
use Rattle.bpf_verify.specs.Consistent.{Accepted, GoesOn, IsConsistent, IsDescribed, OneDescribes, instructions}
use Rattle.bpf_vm.specs.Course.{course, course_by, start_state}
use Rattle.bpf_vm.proofs.RunLemmas.{edge_of, rank_below}
use Rattle.xen_turns.proofs.EndLemmas.{start_none, start_words}
use Rattle.xen_turns.specs.declared.wiring.Wiring.{Wiring as BackWiring}
use Rattle.honest_pair.specs.Invariant.Ended.{Fits, Leaves, Programmed}
use Rattle.honest_pair.specs.Machine.Layout.{IsBack}

one_state : (ns : List Facts) (s : State) → OneDescribes ns s → IsState s
one_state [] s h = absurd h
one_state (n ∷ ns) s (inl d) = d.state
one_state (n ∷ ns) s (inr r) = one_state ns s r

described_bytes : (p : Accepted) (s : State) → IsDescribed p s → (i : ℕ) → get_or s.packet i 0 < 256
described_bytes p s d = (one_state (d.0 s.pc) s d.2.1).packet_bytes

module _ (p : Accepted) (k : IsConsistent p) (bytes : List ℕ) where
  -- what follows a step, by its outcome
  leaves_by : (n : ℕ) (s : State) → IsDescribed p s → length s.packet ≡ length bytes → k.ordered.rank s.pc < suc n →
      ((t : State) → IsDescribed p t → length t.packet ≡ length bytes → k.ordered.rank t.pc < n → Leaves (Fits bytes) (course n p.code t)) →
      (o : Outcome) → step p.code s ≡ o → GoesOn p o → Leaves (Fits bytes) (course_by (course n p.code) s o)
  leaves_by n s d l h go (Next t) e g =
      let leads = subst (λ (o : Outcome). LeadsTo o None t) (sym e) refl in
      let edge = edge_of p s t None k d g leads in
      go t g ((kept p.code s None t leads).length ∙ l) (omega (arith, h, k.ordered.falls.falls s.pc t.pc edge))
  leaves_by n s d l h go (Loads m i j to) e g = λ v.
      let x = v % 2 ^ 64 in
      let small : x < 2 ^ 64 = omega arith in
      let leads = subst (λ (o : Outcome). LeadsTo o (Some (ops.Load m i j x)) (to x)) (sym e) (refl, refl, refl, small, refl) in
      let edge = edge_of p s (to x) (Some (ops.Load m i j x)) k d (g x small) leads in
      go (to x) (g x small) ((kept p.code s (Some (ops.Load m i j x)) (to x) leads).length ∙ l) (omega (arith, h, k.ordered.falls.falls s.pc (to x).pc edge))
  leaves_by n s d l h go (Adds m i j delta to) e g = λ v.
      let x = v % 2 ^ 64 in
      let small : x < 2 ^ 64 = omega arith in
      let leads = subst (λ (o : Outcome). LeadsTo o (Some (ops.Add m i j delta x)) (to x)) (sym e) (refl, refl, refl, refl, small, refl) in
      let edge = edge_of p s (to x) (Some (ops.Add m i j delta x)) k d (g x small) leads in
      go (to x) (g x small) ((kept p.code s (Some (ops.Add m i j delta x)) (to x) leads).length ∙ l) (omega (arith, h, k.ordered.falls.falls s.pc (to x).pc edge))
  leaves_by n s d l h go (Exited x) e g = (l, described_bytes p s d)
  leaves_by n s d l h go Fault e g = absurd g

  leaves_within : (n : ℕ) (s : State) → IsDescribed p s → length s.packet ≡ length bytes → k.ordered.rank s.pc < n → Leaves (Fits bytes) (course n p.code s)
  leaves_within zero s d l h = absurd (omega (arith, h))
  leaves_within (suc n) s d l h = leaves_by n s d l h (λ t c q r. leaves_within n t c q r) (step p.code s) refl (k.steps s d)

  leaves_all : (s : State) → IsStart s → s.shapes ≡ p.shapes → length s.packet ≡ length bytes → Leaves (Fits bytes) (course (instructions p.code) p.code s)
  leaves_all s is e l = let d = k.starts s is e in leaves_within (instructions p.code) s d l (rank_below p s k d)

runs_leave : (v : BackWiring) → IsConsistent v.program.now → v.ifindex < 2 ^ 32 → v.queue < 2 ^ 32 → Programmed v
runs_leave v c i q s good =
    leaves_all v.program.now c s.bytes (start_state v.program.now.shapes v.lists.now s.bytes v.ifindex v.queue)
    (record {
      state = record {
        words = λ k x e. start_words k x e;
        registers = λ k m. start_none k m;
        stack_bytes = λ j b e. cc;
        stack_size = λ j m. refl;
        packet_bytes = good.bytes;
        packet_size = good.most;
        ifindex_fits = i;
        queue_fits = q;
        maps = c.few_maps;
        shapes = c.maps;
      };
      pc = refl;
      reg = λ k. refl;
      stack = λ j. refl;
    })
    refl refl

pub programmed : (accepted : Accepted) (v : BackWiring) → IsConsistent accepted → IsBack accepted v → Programmed v
programmed accepted v c b = runs_leave v (subst IsConsistent (sym b.program) c) (subst (λ n. n < 2 ^ 32) (sym b.ifindex) (omega arith)) (subst (λ n. n < 2 ^ 32) (sym b.number) (omega arith))
