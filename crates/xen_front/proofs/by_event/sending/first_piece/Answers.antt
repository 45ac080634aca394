use Rattle.std.proofs.Common.{ap, sym, length}
use Rattle.xen_steps.specs.Pages.{write_all}
use Rattle.xen_steps.specs.Places.{add32}
use Rattle.xen_front.specs.Tree.{publish}
use Rattle.xen_front.proofs.RestLemmas.{pieces_at}
use Rattle.xen_front.proofs.by_event.sending.first_piece.Goals as goal

pub returns-clause-rest : goal.returns-clause-rest
returns-clause-rest c = λ w s p q.
    let ids = c.args.ids.items in
    sym (ap (λ ns. write_all ns (publish w w.tx_frame c.args.start (add32 c.args.start (length ids)) s)) (pieces_at w c.args.start p (length ids) 0 ids c.requires))
