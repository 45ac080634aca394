use Rattle.std.proofs.Common.{◌++◌, sym, subst}
use Rattle.xen_steps.specs.Drive.{Any, Bounded, Driven, IsPageWant}
use Rattle.xen_steps.specs.Pages.{write_all, writes}
use Rattle.xen_steps.specs.Places.{add32}
use Rattle.xen_steps.specs.Steps.{Steps}
use Rattle.xen_front.specs.Given.{Ending}
use Rattle.xen_front.specs.Rest.{id_of, later_writes, pieces, rest_at}
use Rattle.xen_front.specs.Slots.{piece_writes}
use Rattle.xen_front.specs.Tree.{publish}
use Rattle.xen_front.specs.declared.by_event.phase.Phase.{Phase}
use Rattle.xen_front.specs.declared.by_event.phase.Phase.TheVariants as phase
use Rattle.xen_front.proofs.StraightLemmas.{bounded_writes, driven_writes, first_on_bus, write_all-append}
use Rattle.xen_front.proofs.in_one_go.straight.past_piece.Goals as goal

pub write_piece-requires-clause-on_bus : goal.write_piece-requires-clause-on_bus
write_piece-requires-clause-on_bus g c =
    let w = c.args.wiring.now in
    let s = c.requires.bounded.0 in
    let p = c.args.sent.now in
    let q = c.requires.bounded.1 in
    let r = c.in-GrantFrame.piece in
    let frames = g.B.Bus.size c.args.bus.now in
    let bounded = subst (λ (x : Phase). Bounded (IsPageWant frames) Any (rest_at w s p q x) 17000) c.in-GrantFrame.is c.requires.bounded.2 in
    let own = piece_writes w r.start p (pieces r) r.index (id_of r) in
    first_on_bus frames own (later_writes w p r) (bounded_writes frames (own ++ later_writes w p r) (publish w w.tx_frame r.start (add32 r.start (pieces r)) s) 17000 bounded)

pub returns-in-GrantFrame-clause-driven : goal.returns-in-GrantFrame-clause-driven
returns-in-GrantFrame-clause-driven g c = λ s q.
    let log = g.B.Bus.log in
    let gives = g.B.Bus.access_gives in
    let w = c.args.wiring.now in
    let p = c.args.sent.now in
    let r = c.in-GrantFrame.piece in
    let old = c.args.bus.now in
    let new = c.write_piece.new.bus in
    let own = piece_writes w r.start p (pieces r) r.index (id_of r) in
    let later = later_writes w p r in
    let push : Steps Ending = publish w w.tx_frame r.start (add32 r.start (pieces r)) s in
    let made = driven_writes log gives own (write_all later push) old new c.write_piece.ensures.wrote in
    let from = subst (λ (x : Steps Ending). Driven log gives x (write_all later push) old new (writes own)) (sym (write_all-append own later push)) made in
    let to = subst (λ (x : Steps Ending). Driven log gives (rest_at w s p q (phase.GrantFrame r)) x old new (writes own)) (sym (c.slot_written.ensures.rest s p q)) from in
    (writes own, subst (λ (x : Phase). Driven log gives (rest_at w s p q x) (rest_at w s p q c.slot_written.result) old new (writes own)) (sym c.in-GrantFrame.is) to)
