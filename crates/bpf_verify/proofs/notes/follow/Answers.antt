use Rattle.std.proofs.Common.{◌<◌, ◌+◌, ◌∙◌, arith, ap, sym, length, map, reverse}
use Rattle.std.proofs.lemmas.Result.{err_from_is_err_and}
use Rattle.bpf_note.specs.Parts.{facts}
use Rattle.bpf_flow.specs.Causes.{IsRuleCause}
use Rattle.bpf_verify.specs.Gathered.{IsFirstRefused}
use Rattle.bpf_verify.specs.Tables.{facts_at}
use Rattle.bpf_verify.proofs.FollowLemmas.{drop_head, last_first, list_at, following_none, turned_back, following_on, stopped_at, refused_at, there_has}
use Rattle.bpf_verify.proofs.notes.follow.Goals as goal

pub loop-note-init : goal.loop-note-init
loop-note-init c =
    let items = c.args.table.now.lists.items in
    let here = c.index_mut.result.now in
    let inside : c.args.pc < length items = omega (arith, c.args.table.now.lists.ok.0, c.requires.size, c.requires.there) in
    let turned = turned_back c.replace-list.result c.reverse.new.self here c.reverse.ensures c.replace-list.ensures.value in (
      c.requires.size,
      (0, list_at items c.args.pc here inside c.index_mut.ensures.value ∙ ap (map facts) (sym turned), following_none c.args.code.now c.args.shapes.now c.args.pc items c.replace-list.new.dest),
    )

pub loop-note-preserved : goal.loop-note-preserved
loop-note-preserved c =
    let old = facts_at c.args.table.now.lists.items in
    let gone = c.loop-note.invariant.1 in
    let head = drop_head (old c.args.pc) gone.0 (facts c.in-Some.note.value) (map facts (reverse c.take_last.new.self)) (gone.1 ∙ ap (map facts) (last_first c.take_last.new.self c.in-Some.note.value c.in-Some.ensures.some)) in
    let h = c.in_ok-follow_note.ensures.hears in (
      c.in_ok-follow_note.ensures.size,
      (gone.0 + 1, head.1, following_on c.args.code.now c.args.shapes.now c.args.pc gone.0 old (facts_at c.loop-note.table.lists.items) gone.2 (facts c.in-Some.note.value) head.0 h.0 (facts_at c.follow_note.new.table.lists.items) h.1 h.2),
    )

pub returns-in_err-follow_note-clause-err : goal.returns-in_err-follow_note-clause-err
returns-in_err-follow_note-clause-err c =
    let old = facts_at c.args.table.now.lists.items in
    let gone = c.loop-note.invariant.1 in
    let head = drop_head (old c.args.pc) gone.0 (facts c.in-Some.note.value) (map facts (reverse c.take_last.new.self)) (gone.1 ∙ ap (map facts) (last_first c.take_last.new.self c.in-Some.note.value c.in-Some.ensures.some)) in
    let s = c.in_err-follow_note.field-0.0 in
    let p = err_from_is_err_and c.from_residual.result c.from_residual.ensures.1 in
    rw (p.1, p.2) (stopped_at c.args.code.now c.args.shapes.now c.args.pc gone.0 old (facts_at c.loop-note.table.lists.items) (facts c.in-Some.note.value) s.refusal.cause gone.2 head.0 c.in_err-follow_note.ensures.err)

pub returns-in_err-follow_note-clause-note : goal.returns-in_err-follow_note-clause-note
returns-in_err-follow_note-clause-note c =
    let old = facts_at c.args.table.now.lists.items in
    let gone = c.loop-note.invariant.1 in
    let head = drop_head (old c.args.pc) gone.0 (facts c.in-Some.note.value) (map facts (reverse c.take_last.new.self)) (gone.1 ∙ ap (map facts) (last_first c.take_last.new.self c.in-Some.note.value c.in-Some.ensures.some)) in
    let s = c.in_err-follow_note.field-0.0 in
    let p = err_from_is_err_and c.from_residual.result c.from_residual.ensures.1 in
    rw (p.1, p.2) (there_has s.note (λ b. b.value) c.in-Some.note.value
    (λ n. IsFirstRefused c.args.code.now c.args.shapes.now c.args.pc (facts_at c.args.table.now.lists.items c.args.pc) s.refusal.cause (facts n)) (IsRuleCause s.refusal.cause) c.in_err-follow_note.ensures.there c.in_err-follow_note.ensures.kept
    (λ r. refused_at c.args.code.now c.args.shapes.now c.args.pc gone.0 old (facts_at c.loop-note.table.lists.items) (facts c.in-Some.note.value) s.refusal.cause gone.2 head.0 (c.in_err-follow_note.ensures.err) r))
