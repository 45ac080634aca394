use Rattle.std.proofs.Common.{sym, ◌∙◌}
use Rattle.xen_host.specs.EngineAt.{engine_at}
use Rattle.xen_host.proofs.GoneLemmas.{gone_less}
use Rattle.xen_host.proofs.engine.Engine.turn_until_over.Goals as goal

pub look_over-requires-clause-open : goal.look_over-requires-clause-open
look_over-requires-clause-open g c = sym c.over.ensures ∙ c.in_default.is

pub look_over-requires-clause-goes : goal.look_over-requires-clause-goes
look_over-requires-clause-goes g c = (c.args.most, c.requires.goes)

pub step_until_over-requires : goal.step_until_over-requires
step_until_over-requires g c =
    let w = g.W.Wires.wiring c.args.wires.now in
    let h = c.requires.goes in
    let r = c.look_over.new in
    let x = c.look_over.ensures.gone in
    let new = engine_at w (g.R.Room.held r.packet) r.self in
    record {
      goes = record {
        task = h.task;
        state = h.state;
        bus = h.bus;
        before = h.before;
        gone = gone_less g.B.Bus.log g.B.Bus.access_gives g.B.Bus.size (g.T.Tallies.did w.program.now.shapes) h.task h.state w h.bus h.before x.0 new r.counters r.host (x.1 h.task h.state h.bus h.before h.gone);
        serving = h.serving;
        few = h.few;
      };
    }

pub returns-clause-gone : goal.returns-clause-gone
returns-clause-gone g c =
    let w = g.W.Wires.wiring c.args.wires.now in
    let r = c.look_over.new in
    let new = engine_at w (g.R.Room.held r.packet) r.self in
    let x = c.look_over.ensures.gone in
    let y = c.step_until_over.ensures.gone in (
      y.0,
      λ k s bus from d.
          y.1 k s bus from (gone_less g.B.Bus.log g.B.Bus.access_gives g.B.Bus.size (g.T.Tallies.did w.program.now.shapes) k s w bus from x.0 new r.counters r.host (x.1 k s bus from d)),
      y.2,
    )

pub returns-clause-loan : goal.returns-clause-loan
returns-clause-loan g c = c.step_until_over.ensures.loan ∙ c.look_over.ensures.loan
