use Rattle.std.proofs.Common.{ℕ, ◌++◌, List, length, sym, ◌∙◌, subst}
use Rattle.xen_page.specs.Access.{Performs}
use Rattle.xen_page.specs.declared.access.Access.{Access}
use Rattle.xen_page.proofs.AccessLemmas.{performs_then}
use Rattle.xen_front.specs.Rest.{id_of, pieces}
use Rattle.xen_front.specs.Slots.{buffer, grant_writes, page_writes, piece_words, slot_writes}
use Rattle.xen_front.specs.Straight.{AreOnBus, touched}
use Rattle.xen_front.proofs.StraightLemmas.{first_on_bus, second_on_bus, touched-append}
use Rattle.xen_front.proofs.in_one_go.straight.write_piece.Goals as goal

pub fill_page-requires-clause-on_bus : goal.fill_page-requires-clause-on_bus
fill_page-requires-clause-on_bus g c =
    let w = c.args.wiring.now in
    let p = c.args.sent.now in
    let r = c.args.piece.now in
    let page = page_writes p (buffer w.tx.now (id_of r)).frame r.index (piece_words (length p) r.index) 0 in
    let slot = slot_writes w r.start p (pieces r) r.index (id_of r) in
    subst (λ (n : ℕ). AreOnBus n page) (sym c.grant_page.ensures.size)
    (first_on_bus (g.B.Bus.size c.args.bus.now) page slot (second_on_bus (g.B.Bus.size c.args.bus.now) (grant_writes w (buffer w.tx.now (id_of r)) 5) (page ++ slot) c.requires.on_bus))

pub write_slot-requires-clause-on_bus : goal.write_slot-requires-clause-on_bus
write_slot-requires-clause-on_bus g c =
    let w = c.args.wiring.now in
    let p = c.args.sent.now in
    let r = c.args.piece.now in
    let page = page_writes p (buffer w.tx.now (id_of r)).frame r.index (piece_words (length p) r.index) 0 in
    let slot = slot_writes w r.start p (pieces r) r.index (id_of r) in
    subst (λ (n : ℕ). AreOnBus n slot) (sym (c.fill_page.ensures.size ∙ c.grant_page.ensures.size))
    (second_on_bus (g.B.Bus.size c.args.bus.now) page slot (second_on_bus (g.B.Bus.size c.args.bus.now) (grant_writes w (buffer w.tx.now (id_of r)) 5) (page ++ slot) c.requires.on_bus))

pub returns-clause-wrote : goal.returns-clause-wrote
returns-clause-wrote g c =
    let log = g.B.Bus.log in
    let gives = g.B.Bus.access_gives in
    let w = c.args.wiring.now in
    let p = c.args.sent.now in
    let r = c.args.piece.now in
    let grant = grant_writes w (buffer w.tx.now (id_of r)) 5 in
    let page = page_writes p (buffer w.tx.now (id_of r)).frame r.index (piece_words (length p) r.index) 0 in
    let slot = slot_writes w r.start p (pieces r) r.index (id_of r) in
    let old = c.args.bus.now in
    let granted = c.grant_page.new.bus in
    let filled = c.fill_page.new.bus in
    let new = c.write_slot.new.bus in
    let rest = performs_then log gives granted filled new (touched page) (touched slot) c.fill_page.ensures.wrote c.write_slot.ensures.wrote in
    let all = performs_then log gives old granted new (touched grant) (touched page ++ touched slot) c.grant_page.ensures.wrote rest in
    subst (λ (l : List Access). Performs log gives old (touched grant ++ l) new) (sym (touched-append page slot)) all
