-- What a program's steps leave alone: its maps, and the length of its packet.
use Rattle.std.proofs.Common.{◌≡◌, ℕ, zero, suc, ◌%◌, ◌<◌, ◌^◌, List, Option, None, Some, length, refl, sym, ◌∙◌, ap, subst, arith}
use Rattle.bpf_insn.specs.declared.insn.Insn.{Insn}
use Rattle.bpf_note.specs.Shape.{Shape, AreShapes, IsCounter}
use Rattle.bpf_note.specs.State.{State}
use Rattle.bpf_note.specs.declared.op.Op.{Op}
use Rattle.bpf_note.specs.declared.op.Op.TheVariants as op
use Rattle.bpf_flow.specs.Step.{Outcome, Next, Loads, Adds, Exited, Fault, step, LeadsTo}
use Rattle.bpf_flow.proofs.KeptLemmas.{asked, kept}
use Rattle.bpf_vm.specs.Course.{Course, Exiting, Stepping, Loading, Adding, Broken, course, course_by}
use Rattle.bpf_vm.specs.Run.{Walk, ends, goes}

-- each load and each add is of a counter of the maps
abbrev pub IsOf : List Shape → Course → Type 0
IsOf shapes (Exiting r0 packet) = Unit {0}
IsOf shapes (Stepping c) = IsOf shapes c
IsOf shapes (Loading m k j to) = IsCounter shapes m k j × ((v : ℕ) → IsOf shapes (to v))
IsOf shapes (Adding m k j delta to) = IsCounter shapes m k j × ((v : ℕ) → IsOf shapes (to v))
IsOf shapes Broken = Unit {0}

course_from : (code : List Insn) (n : ℕ) (s : State) → AreShapes s.shapes → ((t : State) → t.shapes ≡ s.shapes → IsOf s.shapes (course n code t)) →
    (o : Outcome) → step code s ≡ o → IsOf s.shapes (course_by (course n code) s o)
course_from code n s own go (Next t) e = go t (kept code s None t (subst (λ (o : Outcome). LeadsTo o None t) (sym e) refl)).shapes
course_from code n s own go (Loads m i j to) e =
    let leads : (v : ℕ) → v < 2 ^ 64 → LeadsTo (step code s) (Some (op.Load m i j v)) (to v) =
    λ v l. subst (λ (o : Outcome). LeadsTo o (Some (op.Load m i j v)) (to v)) (sym e) (refl, refl, refl, l, refl) in (
      asked code s (Some (op.Load m i j 0)) (to 0) own (leads 0 (omega arith)),
      λ v. go (to (v % 2 ^ 64)) (kept code s (Some (op.Load m i j (v % 2 ^ 64))) (to (v % 2 ^ 64)) (leads (v % 2 ^ 64) (omega arith))).shapes,
    )
course_from code n s own go (Adds m i j d to) e =
    let leads : (v : ℕ) → v < 2 ^ 64 → LeadsTo (step code s) (Some (op.Add m i j d v)) (to v) =
    λ v l. subst (λ (o : Outcome). LeadsTo o (Some (op.Add m i j d v)) (to v)) (sym e) (refl, refl, refl, refl, l, refl) in (
      asked code s (Some (op.Add m i j d 0)) (to 0) own (leads 0 (omega arith)),
      λ v. go (to (v % 2 ^ 64)) (kept code s (Some (op.Add m i j d (v % 2 ^ 64))) (to (v % 2 ^ 64)) (leads (v % 2 ^ 64) (omega arith))).shapes,
    )
course_from code n s own go (Exited x) e = tt
course_from code n s own go Fault e = tt

pub course_of : (code : List Insn) (n : ℕ) (shapes : List Shape) (s : State) → s.shapes ≡ shapes → AreShapes shapes → IsOf shapes (course n code s)
course_of code zero shapes s e h = tt
course_of code (suc n) shapes s e h =
    let own : AreShapes s.shapes = subst AreShapes (sym e) h in
    subst (λ (shapes : List Shape). IsOf shapes (course (suc n) code s)) e
    (course_from code n s own (λ t f. subst (λ (q : List Shape). IsOf q (course n code t)) (sym e) (course_of code n shapes t (f ∙ e) h)) (step code s) refl)

pub walk_length : (code : List Insn) (r0 : ℕ) (packet : List ℕ) (s : State) (labels : List (Option Op)) → Walk code r0 packet s labels → length packet ≡ length s.packet
walk_length code r0 packet _ _ (ends s e same) = ap length (sym same)
walk_length code r0 packet _ _ (goes s t label labels h w) = walk_length code r0 packet t labels w ∙ (kept code s label t h).length
