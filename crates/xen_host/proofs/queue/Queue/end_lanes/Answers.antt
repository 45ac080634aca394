use Rattle.std.proofs.Common.{◌+◌, ◌++◌, ◌∷◌, [], ◌∙◌, ap, drop, map, sym, take, arith}
use Rattle.xen_host.specs.Asks.{Notify, op_of}
use Rattle.xen_host.specs.Queues.{wiring}
use Rattle.xen_host.specs.Results.{several_op}
use Rattle.xen_host.specs.Severals.{notice_of}
use Rattle.xen_host.proofs.SeveralLemmas.{put_one, put_two}
use Rattle.xen_host.proofs.queue.Queue.end_lanes.Goals as goal

pub returns-then-is_due-clause-ops : goal.returns-then-is_due-clause-ops
returns-then-is_due-clause-ops c =
    let ops = c.args.ops.now in
    let said = c.args.said in
    let w = wiring c.args.self.now in
    let over = c.several-over.result in
    let behind = drop (said + 2) ops in
    put_two ops said c.notify.result over (omega (arith, c.requires.room)) ∙ ap (λ x. (take said ops ++ x ∷ over ∷ []) ++ behind) (c.notify.ensures ∙ ap (λ p. op_of (Notify p)) c.port.ensures) ∙
    ap (λ x. (take said ops ++ op_of (Notify w.vif.port) ∷ x ∷ []) ++ behind) c.several-over.ensures ∙ ap (λ b. (take said ops ++ (map op_of (notice_of w b) ++ several_op c.args.self.now.several.count ∷ [])) ++ behind) (sym c.if-is_due.true)

pub returns-else-is_due-clause-ops : goal.returns-else-is_due-clause-ops
returns-else-is_due-clause-ops c =
    let ops = c.args.ops.now in
    let said = c.args.said in
    let w = wiring c.args.self.now in
    let behind = drop (said + 1) ops in
    put_one ops said c.several-over.result (omega (arith, c.requires.room)) ∙ ap (λ x. (take said ops ++ x ∷ []) ++ behind) c.several-over.ensures ∙
    ap (λ b. (take said ops ++ (map op_of (notice_of w b) ++ several_op c.args.self.now.several.count ∷ [])) ++ behind) (sym c.if-is_due.false)
