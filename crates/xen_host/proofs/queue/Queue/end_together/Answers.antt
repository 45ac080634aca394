use Rattle.std.proofs.Common.{◌≡◌, ◌<◌, ◌^◌, ◌∙◌, ℕ, ap, length, subst, arith}
use Rattle.xen_ring.specs.Index.{is_due}
use Rattle.xen_host.specs.LentWords.{lent_words}
use Rattle.xen_host.specs.Severals.{head_of}
use Rattle.xen_host.proofs.EndTogetherLemmas.{ended_together, head_is}
use Rattle.xen_host.proofs.LentWordLemmas.{lent_length}
use Rattle.xen_host.proofs.queue.Queue.end_together.Goals as goal

pub returns-clause-stepped : goal.returns-clause-stepped
returns-clause-stepped c = λ g t.
    let e = c.end_lanes.ensures in
    let q = c.args.self.now in
    let some : 0 < length c.args.words.now = omega (arith, lent_length c.args.words.now, c.requires.some) in
    let event : c.from_le_bytes-event.result ≡ head_of (lent_words c.args.words.now) = c.from_le_bytes-event.ensures ∙ head_is c.args.words.now _ some in
    let small : c.from_le_bytes-event.result < 2 ^ 32 = omega arith in
    ended_together q _ c.args.words.now c.args.ops.now _ c.args.results.now _ _ c.due-is_due.result g c.requires.phase t e.stage e.state e.several e.wires e.results e.ops e.counted
    (c.due-is_due.ensures ∙ ap (λ x. is_due q.engine.state.tx_index q.several.after.tx_index x) event) (subst (λ (x : ℕ). x < 2 ^ 32) event small)
