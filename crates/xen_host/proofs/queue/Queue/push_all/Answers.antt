use Rattle.std.proofs.Common.{◌+◌, ◌++◌, ◌∷◌, ◌∙◌, ap, drop, take}
use Rattle.xen_steps.specs.Places.{page_word}
use Rattle.xen_host.specs.Asks.{Push, op_of}
use Rattle.xen_host.proofs.SeveralLemmas.{put_at}
use Rattle.xen_host.proofs.queue.Queue.push_all.Goals as goal

pub returns-clause-ops : goal.returns-clause-ops
returns-clause-ops c =
    let ops = c.args.ops.now in
    let said = c.args.said in
    let to = c.args.self.now.several.after.tx_index in
    put_at ops said c.push.result c.requires.room ∙ ap (λ x. take said ops ++ x ∷ drop (said + 1) ops) (c.push.ensures ∙ ap (λ at. op_of (Push at to 3)) (c.header.ensures ∙ ap (λ t. page_word t 2) c.tx.ensures))
