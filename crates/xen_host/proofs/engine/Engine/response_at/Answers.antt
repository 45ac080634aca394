use Rattle.std.proofs.Common.{◌∙◌}
use Rattle.xen_host.proofs.ChainLemmas.{response_at}
use Rattle.xen_host.proofs.engine.Engine.response_at.Goals as goal

pub returns : goal.returns
returns c =
    let work = c.args.self.now.work in
    c.response.ensures ∙ response_at work.answer.status work.chain c.args.i c.request.result c.request.ensures
