use Rattle.std.proofs.Common.{ap, sym, ◌∙◌, length, drop}
use Rattle.xen_netif.specs.declared.rx.RxReq.{RxReq}
use Rattle.xen_steps.specs.Steps.{bind, next_by}
use Rattle.xen_rx_fill.specs.Rest.{rest_of, taking}
use Rattle.xen_rx_fill.specs.Transmit.{after_targets}
use Rattle.xen_rx_fill.specs.declared.by_event.phase.Phase.{Phase}
use Rattle.xen_rx_fill.proofs.SendLemmas.{rx_answer_by}
use Rattle.xen_rx_fill.proofs.by_event.feeding.phase_fed.Goals as goal

pub returns-in-Second : goal.returns-in-Second
returns-in-Second c =
    let w = c.args.vif.now in
    let x = c.args.rx_index in
    let o = c.args.packet.now.offload in
    let packet = c.args.packet.now.bytes.now in
    let r = c.in-Second.posting in
    c.requested.ensures x packet
    ∙ ap (λ (q : RxReq). bind (taking w x o r.left r.targets q) (after_targets w x o packet)) c.of_words.ensures.fields
    ∙ sym (ap (λ (s : Phase). next_by (rest_of w x o packet s) c.args.word 0) c.in-Second.is)

pub returns-in-Response : goal.returns-in-Response
returns-in-Response c =
    let w = c.args.vif.now in
    let x = c.args.rx_index in
    let o = c.args.packet.now.offload in
    let packet = c.args.packet.now.bytes.now in
    let r = c.in-Response in
    c.responded.ensures w x o packet
    ∙ rx_answer_by w x o packet r.grants (length r.targets) r.i (drop r.i r.targets) c.args.word 0
    ∙ sym (ap (λ (s : Phase). next_by (rest_of w x o packet s) c.args.word 0) r.is)
