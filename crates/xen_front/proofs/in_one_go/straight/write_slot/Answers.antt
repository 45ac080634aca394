use Rattle.std.proofs.Common.{get_or}
use Rattle.xen_page.specs.declared.access.Access.TheVariants as access
use Rattle.xen_page.proofs.AccessLemmas.{performs_one}
use Rattle.xen_steps.specs.Places.{add32}
use Rattle.xen_front.specs.Rest.{id_of, pieces}
use Rattle.xen_front.specs.Slots.{piece_request}
use Rattle.xen_front.proofs.StraightLemmas.{performs_request}
use Rattle.xen_front.proofs.in_one_go.straight.write_slot.Goals as goal

pub returns-clause-wrote : goal.returns-clause-wrote
returns-clause-wrote g c =
    let log = g.B.Bus.log in
    let gives = g.B.Bus.access_gives in
    let w = c.args.wiring.now in
    let r = c.args.piece.now in
    let words = c.words.result in
    let old = c.args.bus.now in
    let mid = c.write.new.self in
    let next = c.write-2.new.self in
    let new = c.write-3.new.self in
    let one = performs_one log gives old (access.Write c.tx_entry.result (get_or words 0 0)) mid c.write.ensures.told c.write.ensures.given in
    let two = performs_one log gives mid (access.Write c.tx_entry-2.result (get_or words 1 0)) next c.write-2.ensures.told c.write-2.ensures.given in
    let three = performs_one log gives next (access.Write c.tx_entry-3.result (get_or words 2 0)) new c.write-3.ensures.told c.write-3.ensures.given in
    performs_request log gives old mid next new c.tx_entry.result c.tx_entry-2.result c.tx_entry-3.result
    w.tx_frame (add32 r.start r.index) words c.request.result (piece_request w c.args.sent.now (pieces r) r.index (id_of r))
    c.tx_entry.ensures c.tx_entry-2.ensures c.tx_entry-3.ensures c.words.ensures.value c.request.ensures one two three
