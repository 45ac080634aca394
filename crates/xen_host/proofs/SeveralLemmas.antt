-- Several turns side by side: what is said of each, and then of all.
use Rattle.std.proofs.Common.{◌≡◌, ℕ, zero, suc, ◌<◌, ◌+◌, Some, List, [], ◌∷◌, ◌++◌, length, take, drop, sym, ap, ◌∙◌, subst, append_assoc, append-nil, length-append, map, refl, arith}
use Rattle.std.specs.Prelude.{Option, slice_get, slice_set}
use Rattle.std.proofs.Math.Seq.{take-append_seam}
use Rattle.std.proofs.lemmas.Slice.{drop-append-drop}
use Rattle.bpf_note.specs.declared.op.Op.{Op as Operation}
use Rattle.xen_host.specs.Queues.{wired_to, wiring}
use Rattle.xen_host.specs.Severals.{AreAsked, GoneTogether, Group, SettledTogether, SteppedTogether, gone_by, head_of, on, ops_by, result_in, stages_of}
use Rattle.xen_host.specs.declared.lane.Lane.{Lane}
use Rattle.xen_host.specs.declared.op.HostOp.{HostOp}
use Rattle.xen_host.specs.declared.queue.Queue.{Queue}
use Rattle.xen_host.specs.declared.stage.Stage.{Stage}
use Rattle.xen_host.specs.declared.turn_result.TurnResult.{TurnResult}

-- ops that are put behind the first
pub put_at : (l : List HostOp) (i : ℕ) (x : HostOp) → i < length l → slice_set l i x ≡ take i l ++ x ∷ drop (i + 1) l
put_at [] i x h = absurd (omega (arith, h))
put_at (y ∷ l) zero x h = refl
put_at (y ∷ l) (suc i) x h =
    let e : suc i + 1 ≡ suc (i + 1) = omega arith in
    ap (λ t. y ∷ t) (put_at l i x (omega (arith, h))) ∙ ap (λ k. y ∷ (take i l ++ x ∷ drop k (y ∷ l))) (sym e)

pub put_one : (l : List HostOp) (i : ℕ) (x : HostOp) → i < length l → slice_set l i x ≡ (take i l ++ x ∷ []) ++ drop (i + 1) l
put_one l i x h = put_at l i x h ∙ sym (append_assoc (take i l) (x ∷ []) (drop (i + 1) l))

pub put_two : (l : List HostOp) (i : ℕ) (x y : HostOp) → i + 1 < length l → slice_set (slice_set l i x) (i + 1) y ≡ (take i l ++ x ∷ y ∷ []) ++ drop (i + 2) l
put_two [] i x y h = absurd (omega (arith, h))
put_two (a ∷ []) i x y h = absurd (omega (arith, h))
put_two (a ∷ b ∷ l) zero x y h = refl
put_two (a ∷ b ∷ l) (suc i) x y h =
    let e : suc i + 1 ≡ suc (i + 1) = omega arith in
    let f : suc i + 2 ≡ suc (i + 2) = omega arith in
    ap (λ k. slice_set (slice_set (a ∷ b ∷ l) (suc i) x) k y) e ∙ ap (λ t. a ∷ t) (put_two (b ∷ l) i x y (omega (arith, h))) ∙ ap (λ k. (take (suc i) (a ∷ b ∷ l) ++ x ∷ y ∷ []) ++ drop k (a ∷ b ∷ l)) (sym f)

-- the k-th result is written behind those before it
pub results_next : (lanes : List Lane) (results : List TurnResult) (k : ℕ) (l : Lane) → slice_get lanes k ≡ Some l → k < length results →
    slice_set (map result_in (take k lanes) ++ drop k results) k (result_in l) ≡ map result_in (take (k + 1) lanes) ++ drop (k + 1) results
results_next [] results k l e h = absurd (cc e)
results_next (a ∷ lanes) [] k l e h = absurd (omega (arith, h))
results_next (a ∷ lanes) (r ∷ results) zero l e h =
    let same : Some a ≡ Some l = e in
    let is : a ≡ l = cc same in
    ap (λ (x : Lane). result_in x ∷ results) (sym is)
results_next (a ∷ lanes) (r ∷ results) (suc k) l e h =
    let n : suc k + 1 ≡ suc (k + 1) = omega arith in
    ap (λ t. result_in a ∷ t) (results_next lanes results k l e (omega (arith, h))) ∙ ap (λ i. map result_in (take i (a ∷ lanes)) ++ drop i (r ∷ results)) (sym n)

-- what is put behind the first of a list
pub behind_first : (a b ops : List HostOp) (said count : ℕ) → said ≡ length a → count ≡ said + length b → take said (a ++ drop said ops) ++ (b ++ drop count (a ++ drop said ops)) ≡ (a ++ b) ++ drop count ops
behind_first a b ops said count e f =
    let front : take said (a ++ drop said ops) ≡ a = subst (λ n. take n (a ++ drop n ops) ≡ a) (sym e) (take-append_seam a (drop (length a) ops)) in
    let rest = drop-append-drop said ops a count (omega (arith, f)) (sym e) in
    ap (λ x. x ++ (b ++ drop count (a ++ drop said ops))) front ∙ ap (λ x. a ++ (b ++ x)) rest ∙ sym (append_assoc a b (drop count ops))

-- Nothing is said of all.
pub only_gone : {went : List (Option Operation) → Type 0} (old new : Queue) (lent lent_after : List ℕ) (ops ops_after : List HostOp) (results : List TurnResult) (count : ℕ) (g : Group) → wired_to new ≡ wired_to old →
    GoneTogether went old new lent lent_after ops ops_after count g → SteppedTogether went old new lent lent_after ops ops_after results results count g
only_gone old new lent lent_after ops ops_after results count g wires d =
    let none = append-nil (ops_by (wiring old) d.dids) in
    record {
      dids = d.dids;
      read = d.read;
      history = d.history;
      asked = d.asked;
      behind = [];
      said = d.said ∙ ap (λ l. l ++ drop count ops) (sym none);
      counted = d.counted ∙ ap (λ (l : List HostOp). length l) (sym none);
      goes = on d.phase_is d.together refl;
      wires = wires;
    }

pub settled : {went : List (Option Operation) → Type 0} (old mid new : Queue) (lent lent_after : List ℕ) (ops ops_mid ops_after : List HostOp) (results results_after : List TurnResult) (said count : ℕ) (g : Group) →
    wired_to mid ≡ wired_to old → wired_to new ≡ wired_to mid → stages_of new ≡ stages_of mid →
    (d : GoneTogether went old mid lent lent_after ops ops_mid said g) →
    SettledTogether mid new ops_mid ops_after said count results results_after (gone_by old.several.phase (wiring old) g lent_after d.dids) →
    SteppedTogether went old new lent lent_after ops ops_after results results_after count g
settled old mid new lent lent_after ops ops_mid ops_after results results_after said count g wires wires_after stages d s =
    record {
      dids = d.dids;
      read = d.read;
      history = d.history;
      asked = subst (λ (l : List Stage). AreAsked (wired_to old).table (length (wired_to old).owners) l d.dids) (sym stages) d.asked;
      behind = s.behind;
      said = s.filled ∙ ap (λ (l : List HostOp). take said l ++ (s.behind ++ drop count l)) d.said ∙ behind_first (ops_by (wiring old) d.dids) s.behind ops said count d.counted s.counted;
      counted = s.counted ∙ ap (λ n. n + length s.behind) d.counted ∙ sym (length-append (ops_by (wiring old) d.dids) s.behind);
      goes = s.goes (head_of lent);
      wires = wires_after ∙ wires;
    }

-- What went on in one way went on in another.
pub together_also : {went : List (Option Operation) → Type 0} {old new : Queue} {lent lent_after : List ℕ} {ops ops_after : List HostOp} {results results_after : List TurnResult} {count : ℕ} {g : Group} (also : List (Option Operation) → Type 0) →
    ((labels : List (Option Operation)) → went labels → also labels) → SteppedTogether went old new lent lent_after ops ops_after results results_after count g →
    SteppedTogether also old new lent lent_after ops ops_after results results_after count g
together_also also f d = record {
  dids = d.dids;
  read = d.read;
  history = f _ d.history;
  asked = d.asked;
  behind = d.behind;
  said = d.said;
  counted = d.counted;
  goes = d.goes;
  wires = d.wires;
}

-- What ran nothing went on in any way in which nothing may go on.
pub none_also : {old new : Queue} {lent lent_after : List ℕ} {ops ops_after : List HostOp} {results results_after : List TurnResult} {count : ℕ} {g : Group} (also : List (Option Operation) → Type 0) → also [] →
    SteppedTogether (λ labels. labels ≡ []) old new lent lent_after ops ops_after results results_after count g → SteppedTogether also old new lent lent_after ops ops_after results results_after count g
none_also also h d = record {
  dids = d.dids;
  read = d.read;
  history = subst also (sym d.history) h;
  asked = d.asked;
  behind = d.behind;
  said = d.said;
  counted = d.counted;
  goes = d.goes;
  wires = d.wires;
}
