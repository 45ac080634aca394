use Rattle.std.proofs.Common.{[], ◌∷◌, ◌++◌}
use Rattle.xen_host.proofs.GoingLemmas.{asked_loan}
use Rattle.xen_host.proofs.engine.Engine.begin_over.Goals as goal

pub returns-clause-loan : goal.returns-clause-loan
returns-clause-loan g c =
    let b = c.turn_by.ensures.begun in
    asked_loan g.B.Bus.log g.B.Bus.access_gives g.B.Bus.size (b.first ++ b.last ∷ []) c.args.host.now c.turn_by.new.host b.asked
