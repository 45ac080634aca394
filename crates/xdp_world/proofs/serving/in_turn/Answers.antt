use Rattle.std.proofs.Common.{Option, Some, None, refl, sym, ◌∙◌, subst}
use Rattle.xen_turns.specs.declared.delivery.wait.Awaited.{Awaited}
use Rattle.xen_turns.specs.declared.delivery.delivering.Delivery.{Delivery}
use Rattle.xdp_world.specs.Carries.{Moves, rests, turns}
use Rattle.xdp_world.proofs.serving.in_turn.Goals as goal

pub returns-in-Done-clause-moves : goal.returns-in-Done-clause-moves
returns-in-Done-clause-moves c =
    (None, rests c.requires.turn (sym c.want.ensures.want ∙ c.in-Done.is) refl (record { rest = refl; state = refl; counters = refl }))

pub returns-in_default : goal.returns-in_default
returns-in_default c =
    let t = c.turned in
    let m = t.ensures.moves in
    record {
      same = t.ensures.same;
      shapes = t.ensures.shapes;
      fits = t.ensures.fits;
      empty = t.ensures.empty;
      moves = (
        Some m.0.event,
        subst (λ (x : Option Delivery). Moves c.args.queue.now t.new.queue c.args.before t.result.0 c.args.counters.now t.new.counters c.args.answer (Some m.0.event) t.result.1.op t.result.1.kept x t.result.1.awaited) (sym m.2)
            (subst (λ (x : Option Awaited). Moves c.args.queue.now t.new.queue c.args.before t.result.0 c.args.counters.now t.new.counters c.args.answer (Some m.0.event) t.result.1.op t.result.1.kept None x) (sym m.3)
            (turns t.result.1.op t.result.1.kept c.requires.turn m.1 m.0)),
      );
    }
