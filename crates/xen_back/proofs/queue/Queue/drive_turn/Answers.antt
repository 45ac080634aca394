use Rattle.std.proofs.Common.{List, Option, refl, sym, ap, ◌∙◌, subst}
use Rattle.bpf_note.specs.declared.op.Op.{Op}
use Rattle.bpf_maps.specs.Seats.{SeatView}
use Rattle.xen_back.specs.Rest.{packet_of_stage}
use Rattle.xen_turns.specs.Turned.{Shows, turned}
use Rattle.xen_back.specs.declared.by_event.stage.Stage.{Stage}
use Rattle.xen_back.proofs.queue.Queue.drive_turn.Goals as goal

pub returns : goal.returns
returns g c =
    let e = c.take_turn-kind in
    let d = e.ensures.taken in
    let n = e.new.self in
    -- the seat was lent until here
    let grown = c.seat-1.given.1 (sym e.ensures.loan) ∙ d.grown in
    let ops = ap (λ (s : SeatView). s.ops) grown in
    let u = turned e.result (packet_of_stage n.stage) in (
      (
        refl,
        λ v. tt,
        record {
          trace = d.trace;
          turned = u;
          is_turn = d.is_turn;
          performed = d.performed;
          grown = ops;
          shows = subst (λ (x : Option Stage). Shows (turned e.result (packet_of_stage x)) c.shown.result) (sym c.in-Some.is) c.shown.ensures.shows;
          short = c.shown.ensures.short;
          ready = e.ensures.ready;
          same = d.same;
        },
      ),
      record { size = e.ensures.size; seat = grown ∙ ap (λ (l : List Op). record c.args.seat.now { ops = l }) (sym ops); turn = tt },
    )
