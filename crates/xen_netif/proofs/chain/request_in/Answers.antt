use Rattle.std.proofs.Common.{◌∙◌, Option, Some, None, Bool, [], get_or, ap, sym, if◌then◌else◌}
use Rattle.xen_netif.specs.Chain.{Slot}
use Rattle.xen_netif.specs.Slots.{tx_req_of}
use Rattle.xen_netif.specs.declared.tx.TxReq.{TxReq}
use Rattle.xen_netif.proofs.RequestLemmas.{request_here}
use Rattle.xen_netif.proofs.chain.request_in.Goals as goal

abbrev made : Bool → Slot → Option TxReq
made extra slot = if extra then None else Some (tx_req_of slot)

pub returns-then-wants_extra : goal.returns-then-wants_extra
returns-then-wants_extra c =
    let slot = get_or c.args.slots.now c.args.number [] in
    request_here c.args.slots.now c.args.number (made c.wants_extra.result) c.requires c.wants_extra.ensures
    ∙ ap (λ extra. Some (made extra slot)) c.if-wants_extra.true

pub returns-else-wants_extra : goal.returns-else-wants_extra
returns-else-wants_extra c =
    let slot = get_or c.args.slots.now c.args.number [] in
    request_here c.args.slots.now c.args.number (made c.wants_extra.result) c.requires c.wants_extra.ensures
    ∙ ap (λ extra. Some (made extra slot)) c.if-wants_extra.false ∙ ap (λ r. Some (Some r)) (sym c.of_words.ensures.fields)
