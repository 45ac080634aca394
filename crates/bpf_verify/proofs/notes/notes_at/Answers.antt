use Rattle.std.proofs.Common.{◌<◌, ◌∙◌, ℕ, List, length, map, get_or, sym, ap, subst, refl, arith}
use Rattle.std.specs.Prelude.{slice_index_or, vec_len}
use Rattle.bpf_note.specs.Facts.{Facts}
use Rattle.bpf_note.specs.Parts.{facts}
use Rattle.bpf_verify.specs.Edges.{IsPassOrder}
use Rattle.bpf_verify.specs.Gathered.{IsFirstCause}
use Rattle.bpf_verify.specs.Tables.{facts_at}
use Rattle.bpf_verify.proofs.BoxLemmas.{said}
use Rattle.bpf_verify.proofs.ComeLemmas.{comes_inside, comes_before}
use Rattle.bpf_verify.proofs.FollowLemmas.{list_at}
use Rattle.bpf_verify.proofs.LostLemmas.{met_memory, met_rule, away_next}
use Rattle.bpf_verify.proofs.PassingLemmas.{passing_first, passing_with, passing_comes, list_there, order_begins, begun_inside}
use Rattle.bpf_verify.proofs.RefusalLemmas.{first_cause}
use Rattle.bpf_verify.proofs.notes.notes_at.Goals as goal

pub loop-pc-init : goal.loop-pc-init
loop-pc-init c = (
  c.in_ok-table.ensures.size,
  record { notes = facts_at c.in_ok-table.table.lists.items; passing = passing_first c.args.code.now c.args.shapes.now c.deref-pc-items.result.now (facts_at c.in_ok-table.table.lists.items) c.in_ok-table.ensures.first; same = λ q out. refl },
  λ j low e. absurd (omega arith),
)

pub index_mut-requires : goal.index_mut-requires
index_mut-requires c =
    let is = subst (IsPassOrder c.args.code.now) (sym c.deref-pc-items.ensures.value) c.in_ok-order.ensures in
    let inside = begun_inside c.args.code.now _ (order_begins c.args.code.now c.deref-pc-items.result.now c.loop-pc.pc-index c.requires.laid is (omega arith)) in
    subst (λ (q : ℕ). q < vec_len c.loop-pc.table.lists) c.if-pc-at.true (subst (λ (n : ℕ). get_or c.deref-pc-items.result.now c.loop-pc.pc-index 0 < n) (sym c.loop-pc.invariant.0) inside)

pub returns-then-pc-at-clause-some : goal.returns-then-pc-at-clause-some
returns-then-pc-at-clause-some c =
    let is = subst (IsPassOrder c.args.code.now) (sym c.deref-pc-items.ensures.value) c.in_ok-order.ensures in
    let order = c.deref-pc-items.result.now in
    let taken = c.loop-pc.invariant.1 in
    let begins = subst (λ (q : ℕ). q < length c.args.code.now) c.if-pc-at.true (begun_inside c.args.code.now _ (order_begins c.args.code.now order c.loop-pc.pc-index c.requires.laid is (omega arith))) in
    let inside : c.args.at < length c.loop-pc.table.lists.items = omega (arith, c.loop-pc.table.lists.ok.0, c.loop-pc.invariant.0, begins) in
    let here = list_there c.args.code.now c.args.shapes.now order c.requires.laid c.requires.structured is c.loop-pc.pc-index c.args.at (omega arith) c.if-pc-at.true taken.notes taken.passing (facts_at c.loop-pc.table.lists.items) taken.same in
    let listed = list_at c.loop-pc.table.lists.items c.args.at c.index_mut.result.now inside c.index_mut.ensures.value in
    passing_comes c.args.code.now c.args.shapes.now order c.requires.laid c.requires.structured is c.loop-pc.pc-index c.args.at (omega arith) c.if-pc-at.true taken.notes taken.passing (map (λ b. facts b.value) c.into_notes.result.items)
    (sym here ∙ listed ∙ ap (map facts) (sym (c.into_notes.ensures ∙ c.replace-list.ensures.value)) ∙ said c.into_notes.result.items)

pub follow-requires-clause-there : goal.follow-requires-clause-there
follow-requires-clause-there c =
    let is = subst (IsPassOrder c.args.code.now) (sym c.deref-pc-items.ensures.value) c.in_ok-order.ensures in
    begun_inside c.args.code.now _ (order_begins c.args.code.now c.deref-pc-items.result.now c.loop-pc.pc-index c.requires.laid is (omega arith))

pub follow-requires-clause-begins : goal.follow-requires-clause-begins
follow-requires-clause-begins c =
    let is = subst (IsPassOrder c.args.code.now) (sym c.deref-pc-items.ensures.value) c.in_ok-order.ensures in
    order_begins c.args.code.now c.deref-pc-items.result.now c.loop-pc.pc-index c.requires.laid is (omega arith)

pub returns-then-is_rule_cause-clause-none : goal.returns-then-is_rule_cause-clause-none
returns-then-is_rule_cause-clause-none c = λ list h.
    let is = subst (IsPassOrder c.args.code.now) (sym c.deref-pc-items.ensures.value) c.in_ok-order.ensures in
    let order = c.deref-pc-items.result.now in
    let pc = slice_index_or order c.loop-pc.pc-index 0 in
    let taken = c.loop-pc.invariant.1 in
    let cause = c.in-Err.stopped.refusal.cause in
    let here = list_there c.args.code.now c.args.shapes.now order c.requires.laid c.requires.structured is c.loop-pc.pc-index pc (omega arith) refl taken.notes taken.passing (facts_at c.loop-pc.table.lists.items) taken.same in
    let first : IsFirstCause c.args.code.now c.args.shapes.now pc (facts_at c.loop-pc.table.lists.items pc) cause = met_rule cause _ _ (c.is_rule_cause.ensures.0 c.if-is_rule_cause.true) c.in-Err.ensures.err in
    comes_before c.args.code.now c.args.shapes.now c.requires.laid c.requires.structured order is c.args.at list h c.loop-pc.pc-index pc cause taken.notes (omega arith) refl taken.passing.are_notes taken.passing.allowed
    (subst (λ (ns : List Facts). IsFirstCause c.args.code.now c.args.shapes.now pc ns cause) here first)
    (away_next order c.loop-pc.pc-index c.args.at c.loop-pc.invariant.2 c.if-pc-at.false)

pub returns-in-Err-clause-err : goal.returns-in-Err-clause-err
returns-in-Err-clause-err c =
    let is = subst (IsPassOrder c.args.code.now) (sym c.deref-pc-items.ensures.value) c.in_ok-order.ensures in
    let order = c.deref-pc-items.result.now in
    let pc = slice_index_or order c.loop-pc.pc-index 0 in
    let cause = c.in-Err.stopped.refusal.cause in
    met_memory cause _ _ (λ r. absurd (let both = sym (c.is_rule_cause.ensures.1 r) ∙ c.if-is_rule_cause.false in cc))
    (λ h. first_cause c.args.code.now c.args.shapes.now pc (facts_at c.loop-pc.table.lists.items pc) cause c.requires.structured (order_begins c.args.code.now order c.loop-pc.pc-index c.requires.laid is (omega arith)) h)
    c.in-Err.ensures.err

pub loop-pc-preserved : goal.loop-pc-preserved
loop-pc-preserved c =
    let is = subst (IsPassOrder c.args.code.now) (sym c.deref-pc-items.ensures.value) c.in_ok-order.ensures in
    let order = c.deref-pc-items.result.now in
    let pc = slice_index_or order c.loop-pc.pc-index 0 in
    let taken = c.loop-pc.invariant.1 in (
      c.in_default.ensures.size,
      passing_with c.args.code.now c.args.shapes.now order c.requires.laid c.requires.structured is c.loop-pc.pc-index pc (omega arith) refl taken.notes taken.passing
          (facts_at c.loop-pc.table.lists.items) (facts_at c.follow.new.table.lists.items) taken.same c.in_default.ensures.hears c.in_default.ensures.allowed,
      away_next order c.loop-pc.pc-index c.args.at c.loop-pc.invariant.2 c.if-pc-at.false,
    )

pub returns-clause-none : goal.returns-clause-none
returns-clause-none c = λ list h.
    let is = subst (IsPassOrder c.args.code.now) (sym c.deref-pc-items.ensures.value) c.in_ok-order.ensures in
    comes_inside c.args.code.now c.args.shapes.now c.requires.laid c.requires.structured c.deref-pc-items.result.now is c.args.at list h (λ j low e. c.loop-pc.invariant.2 j (omega arith) e)
