-- A program whose counts are additions has the runs of the old one, by counts.
use Rattle.std.proofs.Common.{ℕ, zero, suc, ◌+◌, ◌%◌, ◌^◌, ◌≤◌, ◌⊎◌, inl, inr, refl, sym, ◌∙◌, subst, arith, List, [], ◌∷◌, length, Option, None, Some}
use Rattle.bpf_insn.specs.declared.insn.Insn.{Insn}
use Rattle.bpf_note.specs.Shape.{Shape}
use Rattle.bpf_note.specs.State.{State}
use Rattle.bpf_note.specs.declared.op.Op.{Op}
use Rattle.bpf_note.specs.declared.op.Op.TheVariants.{Load}
use Rattle.bpf_flow.specs.Step.{step, LeadsTo}
use Rattle.bpf_vm.specs.Run.{Walk, ends, goes}
use Rattle.bpf_same.specs.Same.{operations, Runs, IsSame}
use Rattle.bpf_same.specs.Counts as counts
use Rattle.bpf_same.specs.Counts.{Effect, Does, Stores, StoringWalk, Counts, RunsByCounts, IsSameByCounts}
use Rattle.bpf_same.specs.Fused.{Plan, Shadows, IsWalked, IsOutside, IsShared, Counted, IsCount, AreFused}
use Rattle.bpf_note.specs.Regions.{HaveNoParts}
use Rattle.bpf_flow.proofs.KeptLemmas.{kept}

-- from a state of the new program, with any registers of the old one that are alike
record Walked (plan : Plan) (r0 : ℕ) (bytes : List ℕ) (s : State) (done : List Op) : Type 0 where
  effects : List Effect
  counts : Counts effects done
  walk : IsWalked plan r0 bytes s effects

-- with what the label did in front
abbrev effects_front : Option Op → List Effect → List Effect
effects_front None effects = effects
effects_front (Some op) effects = Does op ∷ effects

counts_front : (label : Option Op) (labels : List (Option Op)) (effects : List Effect) → Counts effects (operations labels) → Counts (effects_front label effects) (operations (label ∷ labels))
counts_front None labels effects c = c
counts_front (Some op) labels effects c = counts.same op effects (operations labels) c

walk_front : (code : List Insn) (r0 : ℕ) (bytes : List ℕ) (s t : State) (label : Option Op) (effects : List Effect) → LeadsTo (step code s) label t → StoringWalk code r0 bytes t effects → StoringWalk code r0 bytes s (effects_front label effects)
walk_front code r0 bytes s t None effects h w = counts.goes s t effects h w
walk_front code r0 bytes s t (Some op) effects h w = counts.does s t op effects h w

itself : (s : State) → Shadows s s
itself s = record { pc = refl; packet = refl; ifindex = refl; queue = refl; shapes = refl; find = refl; stack = λ i. refl }

shared_step : (plan : Plan) (r0 : ℕ) (bytes : List ℕ) (s u : State) (label : Option Op) (labels : List (Option Op)) → IsShared plan s.pc → LeadsTo (step plan.new s) label u →
    (IsOutside plan u.pc → Walked plan r0 bytes u (operations labels)) → Walked plan r0 bytes s (operations (label ∷ labels))
shared_step plan r0 bytes s u label labels k h go =
    let some = k.goes s s refl (itself s) (λ i l e. refl) label u h in
    let there = go some.outside in
    record {
      effects = effects_front label there.effects;
      counts = counts_front label labels there.effects there.counts;
      walk = λ t beside a.
          let v = k.goes s t refl beside a label u h in
          walk_front plan.old r0 bytes t v.next label there.effects v.leads (there.walk v.next v.shadows v.alike);
    }

count_step : (plan : Plan) (r0 : ℕ) (bytes : List ℕ) (s : State) (labels : List (Option Op)) → (c : Counted plan s r0 bytes labels) → Walked plan r0 bytes c.after (operations c.rest) → Walked plan r0 bytes s (operations labels)
count_step plan r0 bytes s labels c there = record {
  effects = Does (Load c.m c.k c.j c.found) ∷ Stores c.m c.k c.j ((c.found + c.delta) % 2 ^ 64) ∷ there.effects;
  counts = subst (λ (done : List Op). Counts (Does (Load c.m c.k c.j c.found) ∷ Stores c.m c.k c.j ((c.found + c.delta) % 2 ^ 64) ∷ there.effects) done) (sym c.did)
      (counts.count c.m c.k c.j c.delta c.found there.effects (operations c.rest) there.counts);
  walk = λ t beside a. c.old_walk t beside a there.effects there.walk;
}

-- of shorter walks it is known
abbrev OfShorter : Plan → ℕ → List ℕ → ℕ → Type 0
OfShorter plan r0 bytes n = (s : State) (labels : List (Option Op)) → HaveNoParts s.shapes → length labels ≤ n → IsOutside plan s.pc → Walk plan.new r0 bytes s labels → Walked plan r0 bytes s (operations labels)

by_kind : (plan : Plan) (n : ℕ) (r0 : ℕ) (bytes : List ℕ) (s : State) (labels : List (Option Op)) → OfShorter plan r0 bytes n → HaveNoParts s.shapes → length labels ≤ suc n → Walk plan.new r0 bytes s labels → IsShared plan s.pc ⊎ IsCount plan s.pc →
    Walked plan r0 bytes s (operations labels)
by_kind plan n r0 bytes s labels go whole l w (inr count) =
    let c = count s whole refl r0 bytes labels w in
    count_step plan r0 bytes s labels c (go c.after c.rest (subst HaveNoParts (sym c.shapes) whole) (omega (arith, l, c.shorter)) c.outside c.walk)
by_kind plan n r0 bytes _ _ go whole l (ends s e b) (inl shared) = record { effects = []; counts = counts.none; walk = λ t beside a. counts.ends t (shared.ends s t refl beside a r0 e) (beside.packet ∙ b) }
by_kind plan n r0 bytes _ _ go whole l (goes s t label labels h w) (inl shared) = shared_step plan r0 bytes s t label labels shared h (λ out. go t labels (subst HaveNoParts (sym (kept plan.new s label t h).shapes) whole) (omega (arith, l)) out w)

no_labels : (code : List Insn) (r0 : ℕ) (bytes : List ℕ) (s : State) (labels : List (Option Op)) → length labels ≤ 0 → Walk code r0 bytes s labels → ⊥
no_labels code r0 bytes _ _ l (ends s e b) = omega (arith, l)
no_labels code r0 bytes _ _ l (goes s t label labels h w) = omega (arith, l)

walked : (plan : Plan) → AreFused plan → (r0 : ℕ) (bytes : List ℕ) (n : ℕ) → OfShorter plan r0 bytes n
walked plan k r0 bytes zero = λ s labels whole l out w. absurd (no_labels plan.new r0 bytes s labels l w)
walked plan k r0 bytes (suc n) = λ s labels whole l out w. by_kind plan n r0 bytes s labels (walked plan k r0 bytes n) whole l w (k.each s.pc out)

-- a program with the runs of the one whose counts are additions
pub fused_runs : (plan : Plan) (shapes : List Shape) (new : List Insn) → HaveNoParts shapes → AreFused plan → IsSame shapes plan.new new → IsSameByCounts shapes plan.old new
fused_runs plan shapes new whole k same = λ s is e r0 bytes done run.
    let mid : Runs plan.new r0 bytes s done = same s is e r0 bytes done run in
    let out : IsOutside plan s.pc = subst (λ (p : ℕ). IsOutside plan p) (sym is.pc) k.begins in
    let f = walked plan k r0 bytes (length mid.labels) s mid.labels (subst HaveNoParts (sym e) whole) (omega arith) out mid.walk in
    record { effects = f.effects; walk = f.walk s (itself s) (λ i l e. refl); counts = subst (λ (done : List Op). Counts f.effects done) mid.did f.counts }
