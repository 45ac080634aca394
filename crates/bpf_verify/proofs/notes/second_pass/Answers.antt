use Rattle.std.proofs.Common.{ℕ, List, sym, subst, refl, arith}
use Rattle.std.proofs.lemmas.Option.{IfSome_then}
use Rattle.std.proofs.lemmas.Result.{err_from_is_err_and}
use Rattle.std.specs.Global.{Box}
use Rattle.std.specs.Prelude.{slice_index_or}
use Rattle.bpf_verify.specs.Edges.{IsPassOrder}
use Rattle.bpf_verify.specs.Gathered.{TakesMemory, IsFirstCause, IsFirstRefused}
use Rattle.bpf_note.specs.Facts.{Facts}
use Rattle.bpf_note.specs.Parts.{Noted, facts}
use Rattle.bpf_verify.specs.FirstRefusal.{IsHalted, IsStoppedBy}
use Rattle.bpf_verify.specs.Tables.{facts_at}
use Rattle.bpf_verify.proofs.PassingLemmas.{passing_first, passing_with, passing_stops, passing_stops_by, passing_takes, passing_last, list_there, order_begins, begun_inside, halted_by}
use Rattle.bpf_verify.proofs.notes.second_pass.Goals as goal

pub follow-requires-clause-there : goal.follow-requires-clause-there
follow-requires-clause-there c =
    let is = subst (IsPassOrder c.args.code.now) (sym c.deref-pc-items.ensures.value) c.in-Ok.ensures in
    begun_inside c.args.code.now _ (order_begins c.args.code.now c.deref-pc-items.result.now c.loop-pc.pc-index c.requires.laid is (omega arith))

pub follow-requires-clause-begins : goal.follow-requires-clause-begins
follow-requires-clause-begins c =
    let is = subst (IsPassOrder c.args.code.now) (sym c.deref-pc-items.ensures.value) c.in-Ok.ensures in
    order_begins c.args.code.now c.deref-pc-items.result.now c.loop-pc.pc-index c.requires.laid is (omega arith)

pub returns-in_err-follow-clause-halted : goal.returns-in_err-follow-clause-halted
returns-in_err-follow-clause-halted c =
    let is = subst (IsPassOrder c.args.code.now) (sym c.deref-pc-items.ensures.value) c.in-Ok.ensures in
    let pc = slice_index_or c.deref-pc-items.result.now c.loop-pc.pc-index 0 in
    let taken = c.loop-pc.invariant.1 in
    let s = c.in_err-follow.field-0.0 in
    let p = err_from_is_err_and c.from_residual.result c.from_residual.ensures.1 in
    let here = list_there c.args.code.now c.args.shapes.now c.deref-pc-items.result.now c.requires.laid c.requires.structured is c.loop-pc.pc-index pc (omega arith) refl taken.notes taken.passing (facts_at c.loop-pc.table.lists.items) taken.same in
    let halted = halted_by c.args.code.now c.args.shapes.now pc s.refusal.cause _ (IsFirstCause c.args.code.now c.args.shapes.now pc (facts_at c.loop-pc.table.lists.items pc) s.refusal.cause) c.in_err-follow.ensures.err
    (λ h. passing_takes c.args.code.now c.args.shapes.now c.deref-pc-items.result.now c.requires.laid c.requires.structured is c.loop-pc.pc-index pc (omega arith) refl taken.notes taken.passing (subst (λ (ns : List Facts). TakesMemory c.args.code.now c.args.shapes.now pc ns) here h))
    (λ h. passing_stops c.args.code.now c.args.shapes.now c.deref-pc-items.result.now c.requires.laid c.requires.structured is c.loop-pc.pc-index pc (omega arith) refl taken.notes taken.passing s.refusal.cause (subst (λ (ns : List Facts). IsFirstCause c.args.code.now c.args.shapes.now pc ns s.refusal.cause) here h)) in
    rw (p.1, p.2) (subst (λ (pc : ℕ). IsHalted c.args.code.now c.args.shapes.now pc s.refusal.cause) (sym c.in_err-follow.ensures.slot) halted)

pub returns-in_err-follow-clause-note : goal.returns-in_err-follow-clause-note
returns-in_err-follow-clause-note c =
    let is = subst (IsPassOrder c.args.code.now) (sym c.deref-pc-items.ensures.value) c.in-Ok.ensures in
    let pc = slice_index_or c.deref-pc-items.result.now c.loop-pc.pc-index 0 in
    let taken = c.loop-pc.invariant.1 in
    let s = c.in_err-follow.field-0.0 in
    let p = err_from_is_err_and c.from_residual.result c.from_residual.ensures.1 in
    let here = list_there c.args.code.now c.args.shapes.now c.deref-pc-items.result.now c.requires.laid c.requires.structured is c.loop-pc.pc-index pc (omega arith) refl taken.notes taken.passing (facts_at c.loop-pc.table.lists.items) taken.same in
    let by : (b : Box Noted) → IsFirstRefused c.args.code.now c.args.shapes.now pc (facts_at c.loop-pc.table.lists.items pc) s.refusal.cause (facts b.value) → IsStoppedBy c.args.code.now c.args.shapes.now s.refusal.pc s.refusal.cause (facts b.value) =
    λ b h. subst (λ (pc : ℕ). IsStoppedBy c.args.code.now c.args.shapes.now pc s.refusal.cause (facts b.value)) (sym c.in_err-follow.ensures.slot)
    (passing_stops_by c.args.code.now c.args.shapes.now c.deref-pc-items.result.now c.requires.laid c.requires.structured is c.loop-pc.pc-index pc (omega arith) refl taken.notes taken.passing s.refusal.cause (facts b.value)
    (subst (λ (ns : List Facts). IsFirstRefused c.args.code.now c.args.shapes.now pc ns s.refusal.cause (facts b.value)) here h)) in
    rw (p.1, p.2) (IfSome_then s.note c.in_err-follow.ensures.note by)

pub loop-pc-init : goal.loop-pc-init
loop-pc-init c = (c.in-Ok-blank.ensures.size, record { notes = facts_at c.in-Ok-blank.table.lists.items; passing = passing_first c.args.code.now c.args.shapes.now c.deref-pc-items.result.now (facts_at c.in-Ok-blank.table.lists.items) c.in-Ok-blank.ensures.first; same = λ q out. refl })

pub loop-pc-preserved : goal.loop-pc-preserved
loop-pc-preserved c =
    let is = subst (IsPassOrder c.args.code.now) (sym c.deref-pc-items.ensures.value) c.in-Ok.ensures in
    let pc = slice_index_or c.deref-pc-items.result.now c.loop-pc.pc-index 0 in
    let taken = c.loop-pc.invariant.1 in (
      c.in_ok-follow.ensures.size,
      passing_with c.args.code.now c.args.shapes.now c.deref-pc-items.result.now c.requires.laid c.requires.structured is c.loop-pc.pc-index pc (omega arith) refl taken.notes taken.passing
          (facts_at c.loop-pc.table.lists.items) (facts_at c.follow.new.table.lists.items) taken.same c.in_ok-follow.ensures.hears c.in_ok-follow.ensures.allowed,
    )

pub returns-clause-passed : goal.returns-clause-passed
returns-clause-passed c =
    let is = subst (IsPassOrder c.args.code.now) (sym c.deref-pc-items.ensures.value) c.in-Ok.ensures in
    let taken = c.loop-pc.invariant.1 in
    (taken.notes, passing_last c.args.code.now c.args.shapes.now c.deref-pc-items.result.now c.requires.laid c.requires.structured is c.loop-pc.pc-index taken.notes (omega arith) taken.passing)
