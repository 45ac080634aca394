-- What has been run so far with how many operations it did, and what follows it.
use Rattle.std.proofs.Common.{◌≡◌, ℕ, zero, suc, ◌+◌, ◌%◌, ◌^◌, refl, Some, None, List, [], ◌∷◌, length, subst, sym, ◌∙◌, arith}
use Rattle.std.specs.Prelude.{Option, replicate}
use Rattle.std.proofs.lemmas.List.{length-replicate}
use Rattle.bpf_insn.specs.declared.insn.Insn.{Insn}
use Rattle.bpf_flow.specs.Step.{Outcome, Next, Loads, Adds, Exited, Fault, step, LeadsTo}
use Rattle.bpf_lists.specs.Find.{find_in}
use Rattle.bpf_lists.specs.declared.list.MapList.{MapList}
use Rattle.bpf_note.specs.State.{State, IsStart}
use Rattle.bpf_note.specs.Shape.{Shape}
use Rattle.bpf_note.specs.declared.op.Op.{Op}
use Rattle.bpf_note.specs.declared.op.Op.TheVariants.{Load, Add}
use Rattle.bpf_verify.specs.Consistent.{Accepted}
use Rattle.bpf_vm.specs.Advance.{Silent, stays, steps, Advanced}
use Rattle.bpf_vm.specs.Run.{Walk, ends, goes, IsRunOf, IsStep}
use Rattle.bpf_vm.specs.Running.{FindsAlike}
use Rattle.bpf_vm.specs.Stands.{Running, Stands, label_of, now}
use Rattle.bpf_vm.specs.Wants.{IsLoadOf, IsAddOf}
use Rattle.xdp_program.specs.Ran.{IsHistory, Ran, RanCounting, operations}
use Rattle.xdp_program.specs.Tallies.{Went}

-- what has been run of a run: the labels so far before whatever follows, what they made of the counters, and where each start stands
pub record Sofar {C : Type 0} (did : Op → C → C → Type 0) (p : Accepted) (lists : List (Option MapList)) (packet : List ℕ) (ifindex queue : ℕ) (first : C) (v : Running) (tally : C) (ops : ℕ) : Type 0 where
  pub program : v.program ≡ p
  pub grown : List (Option Op) → List (Option Op)
  pub counted : (rest : List (Option Op)) → length (grown rest) ≡ v.count + length rest
  pub ops_done : (rest : List (Option Op)) → operations (grown rest) ≡ ops + operations rest
  pub history : (rest : List (Option Op)) (after : C) → Went did tally after rest → Went did first after (grown rest)
  pub walks : (s : State) → IsStart s → s.packet ≡ packet → s.ifindex ≡ ifindex → s.queue ≡ queue → s.shapes ≡ p.shapes → FindsAlike s.shapes s.find (find_in lists) →
      (t : State) × Stands v t × ((r0 : ℕ) (bytes : List ℕ) (rest : List (Option Op)) → Walk p.code r0 bytes t rest → Walk p.code r0 bytes s (grown rest))

abbrev pub nones : ℕ → List (Option Op) → List (Option Op)
nones zero rest = rest
nones (suc n) rest = nones n (None ∷ rest)

pub nones_length : (n : ℕ) (rest : List (Option Op)) → length (nones n rest) ≡ n + length rest
nones_length zero rest = omega arith
nones_length (suc n) rest = let r = nones_length n (None ∷ rest) in omega (arith, r)

pub nones_ops : (n : ℕ) (rest : List (Option Op)) → operations (nones n rest) ≡ operations rest
nones_ops zero rest = refl
nones_ops (suc n) rest = nones_ops n (None ∷ rest)

pub nones_history : {C : Type 0} (did : Op → C → C → Type 0) (n : ℕ) (rest : List (Option Op)) (before after : C) → Went did before after rest → Went did before after (nones n rest)
nones_history did zero rest before after h = h
nones_history did (suc n) rest before after h = nones_history did n (None ∷ rest) before after h

pub nones_walk : (code : List Insn) (n r0 : ℕ) (bytes : List ℕ) (rest : List (Option Op)) (s t : State) → Silent code n s t → Walk code r0 bytes t rest → Walk code r0 bytes s (nones n rest)
nones_walk code _ r0 bytes rest _ _ (stays s) w = w
nones_walk code _ r0 bytes rest _ _ (steps n s t u h l) w = nones_walk code n r0 bytes (None ∷ rest) s t h (goes t u None rest l w)

-- steps that read no counter
pub sofar_advanced : {C : Type 0} (did : Op → C → C → Type 0) (p : Accepted) (lists : List (Option MapList)) (packet : List ℕ) (ifindex queue : ℕ) (first : C) (v w : Running) (tally : C) (ops : ℕ) → Sofar did p lists packet ifindex queue first v tally ops → Advanced v w → Sofar did p lists packet ifindex queue first w tally ops
sofar_advanced did p lists packet ifindex queue first v w tally ops so a = record {
  program = a.program ∙ so.program;
  grown = λ rest. so.grown (nones a.done rest);
  counted = λ rest. let c = so.counted (nones a.done rest) in let d = nones_length a.done rest in let e = a.count in omega (arith, c, d, e);
  ops_done = λ rest. let c = so.ops_done (nones a.done rest) in let d = nones_ops a.done rest in omega (arith, c, d);
  history = λ rest after h. so.history (nones a.done rest) after (nones_history did a.done rest tally after h);
  walks = λ s h b i q e alike.
      let g = so.walks s h b i q e alike in
      let k = a.stands g.0 g.1 in
      let silent = subst (λ (x : Accepted). Silent x.code a.done g.0 k.0) so.program k.1 in
      (k.0, k.2, λ r0 bytes rest z. g.2 r0 bytes (nones a.done rest) (nones_walk p.code a.done r0 bytes rest g.0 k.0 silent z));
}

-- one more step, with an operation that takes the counters to others
pub sofar_step : {C : Type 0} (did : Op → C → C → Type 0) (p : Accepted) (lists : List (Option MapList)) (packet : List ℕ) (ifindex queue : ℕ) (first : C) (v w : Running) (tally more : C) (ops : ℕ) (op : Op) → Sofar did p lists packet ifindex queue first v tally ops → IsStep (Some op) v w → did op tally more →
    Sofar did p lists packet ifindex queue first w more (ops + 1)
sofar_step did p lists packet ifindex queue first v w tally more ops op so st h = record {
  program = st.program ∙ so.program;
  grown = λ rest. so.grown (Some op ∷ rest);
  counted = λ rest. let c = so.counted (Some op ∷ rest) in let e = st.count in let one : length (Some op ∷ rest) ≡ 1 + length rest = omega arith in omega (arith, c, e, one);
  ops_done = λ rest. let c = so.ops_done (Some op ∷ rest) in let one : operations (Some op ∷ rest) ≡ suc (operations rest) = refl in omega (arith, c, one);
  history = λ rest after x. so.history (Some op ∷ rest) after (more, h, x);
  walks = λ s i b j q e alike.
      let g = so.walks s i b j q e alike in
      let k = st.stands g.0 g.1 in
      let leads = subst (λ (x : Accepted). LeadsTo (step x.code g.0) (Some op) k.0) so.program k.1 in
      (k.0, k.2, λ r0 bytes rest z. g.2 r0 bytes (Some op ∷ rest) (goes g.0 k.0 (Some op) rest leads z));
}

pub load_label : (o : Outcome) (m k j x : ℕ) → IsLoadOf m k j o → label_of o x ≡ Some (Load m k j x)
load_label (Next t) m k j x h = absurd h
load_label (Loads m' k' j' go) m k j x h = let a = h.0 in let b = h.1 in let c = h.2 in cc (a, b, c)
load_label (Adds m' k' j' d go) m k j x h = absurd h
load_label (Exited y) m k j x h = absurd h
load_label Fault m k j x h = absurd h

pub add_label : (o : Outcome) (m k j d x : ℕ) → IsAddOf m k j d o → label_of o x ≡ Some (Add m k j d x)
add_label (Next t) m k j d x h = absurd h
add_label (Adds m' k' j' d' go) m k j d x h = let a = h.0 in let b = h.1 in let c = h.2 in let e = h.3 in cc (a, b, c, e)
add_label (Loads m' k' j' go) m k j d x h = absurd h
add_label (Exited y) m k j d x h = absurd h
add_label Fault m k j d x h = absurd h

-- the end
pub ran_of : {C : Type 0} (did : Op → C → C → Type 0) (p : Accepted) (lists : List (Option MapList)) (packet : List ℕ) (ifindex queue : ℕ) (first : C) (v : Running) (tally : C) (number count : ℕ) (bytes : List ℕ) (ops : ℕ) → Sofar did p lists packet ifindex queue first v tally ops →
    ((s : State) → Stands v s → (r0 : ℕ) × (step v.program.code s ≡ Exited r0) × (number ≡ r0 % 2 ^ 32) × (bytes ≡ s.packet)) → count ≡ v.count + 1 → RanCounting (Went did first tally) p lists packet ifindex queue number bytes count ops
ran_of did p lists packet ifindex queue first v tally number count bytes ops so f n = record {
  labels = so.grown (None ∷ []);
  counted = let c = so.counted (None ∷ []) in let one : length {A = Option Op} (None ∷ []) ≡ 1 = refl in omega (arith, c, n, one);
  operations_are = let c = so.ops_done (None ∷ []) in omega (arith, c);
  history = so.history (None ∷ []) tally refl;
  walks = λ s h b i q e alike.
      let g = so.walks s h b i q e alike in
      let k = f g.0 g.1 in
      let ended = subst (λ (x : Accepted). step x.code g.0 ≡ Exited k.0) so.program k.1 in
      (k.0, k.2, g.2 k.0 bytes (None ∷ []) (ends g.0 ended (sym k.3)));
}

pub sofar_load : {C : Type 0} (did : Op → C → C → Type 0) (p : Accepted) (lists : List (Option MapList)) (packet : List ℕ) (ifindex queue : ℕ) (first : C) (v w : Running) (tally more : C) (ops m k j x : ℕ) → Sofar did p lists packet ifindex queue first v tally ops → IsLoadOf m k j (now v) →
    IsStep (label_of (now v) x) v w → did (Load m k j x) tally more → Sofar did p lists packet ifindex queue first w more (ops + 1)
sofar_load did p lists packet ifindex queue first v w tally more ops m k j x so load st h =
    sofar_step did p lists packet ifindex queue first v w tally more ops (Load m k j x) so (subst (λ (l : Option Op). IsStep l v w) (load_label (now v) m k j x load) st) h

pub sofar_add : {C : Type 0} (did : Op → C → C → Type 0) (p : Accepted) (lists : List (Option MapList)) (packet : List ℕ) (ifindex queue : ℕ) (first : C) (v w : Running) (tally more : C) (ops m k j d x : ℕ) → Sofar did p lists packet ifindex queue first v tally ops → IsAddOf m k j d (now v) →
    IsStep (label_of (now v) x) v w → did (Add m k j d x) tally more → Sofar did p lists packet ifindex queue first w more (ops + 1)
sofar_add did p lists packet ifindex queue first v w tally more ops m k j d x so add st h =
    sofar_step did p lists packet ifindex queue first v w tally more ops (Add m k j d x) so (subst (λ (l : Option Op). IsStep l v w) (add_label (now v) m k j d x add) st) h

none_history : (n : ℕ) (shapes : List Shape) (words : List ℕ) → IsHistory shapes (replicate n None) words words
none_history zero shapes words = refl
none_history (suc n) shapes words = none_history n shapes words

-- a run without maps changes no word
pub ran_alone : (p : Accepted) (lists : List (Option MapList)) (packet : List ℕ) (ifindex queue : ℕ) (words : List ℕ) (number count : ℕ) (bytes : List ℕ) → p.shapes ≡ [] → IsRunOf p.code packet ifindex queue number bytes count →
    Ran p lists packet ifindex queue words number bytes words count
ran_alone p lists packet ifindex queue words number count bytes e run = record {
  labels = replicate count None;
  counted = length-replicate count None;
  history = none_history count p.shapes words;
  walks = λ s h b i q m alike. run s h b i q (m ∙ e);
}
