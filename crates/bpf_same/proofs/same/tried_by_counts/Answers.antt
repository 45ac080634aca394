use Rattle.std.proofs.lemmas.Result.{IfOk-weaker}
use Rattle.bpf_same.proofs.same.tried_by_counts.Goals as goal

pub returns-clause-shown : goal.returns-clause-shown
returns-clause-shown c = IfOk-weaker c.tried.result _ _ (λ a h is. c.same_by_counts.ensures _ c.args.shapes.now c.args.new.now (c.have_no_parts.ensures c.if-not-have_no_parts.false) (c.holds.ensures c.if-not-holds.false) (h is)) c.tried.ensures.shown
