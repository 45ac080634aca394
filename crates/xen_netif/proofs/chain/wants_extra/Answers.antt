use Rattle.std.proofs.Common.{◌∷◌, ◌++◌, ◌∙◌, ap, drop, length}
use Rattle.std.specs.Prelude.{slice_get}
use Rattle.xen_netif.specs.Chain.{requests_after}
use Rattle.xen_netif.proofs.RequestLemmas.{data_behind_data}
use Rattle.xen_netif.proofs.chain.wants_extra.Goals as goal

pub returns-then-not-extra_asked : goal.returns-then-not-extra_asked
returns-then-not-extra_asked c slot rest =
    let l = c.loop-slot in
    let left = drop l.slot-index c.in-Some.later.now in
    l.invariant slot rest ∙ ap (λ asked. slice_get (requests_after asked (left ++ slot ∷ rest)) (length left)) c.if-not-extra_asked.true
    ∙ data_behind_data left slot rest
