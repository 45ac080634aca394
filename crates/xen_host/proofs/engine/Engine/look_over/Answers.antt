use Rattle.std.proofs.Common.{Some, ◌++◌, sym, ◌∙◌, map}
use Rattle.xen_turns.specs.Drive.{labels}
use Rattle.xen_host.specs.Asks.{did_by}
use Rattle.xen_host.specs.EngineAt.{engine_at}
use Rattle.xen_host.proofs.GoingLemmas.{gone_on, open_of}
use Rattle.xen_host.proofs.TaskLemmas.{is_busy}
use Rattle.xen_host.proofs.engine.Engine.look_over.Goals as goal

pub step_over-requires-clause-stands : goal.step_over-requires-clause-stands
step_over-requires-clause-stands g c = c.requires.goes.1.gone.stands

pub step_over-requires-clause-busy : goal.step_over-requires-clause-busy
step_over-requires-clause-busy g c =
    let h = c.requires.goes.1 in
    let d = h.gone in
    let e = engine_at (g.W.Wires.wiring c.args.wires.now) (g.R.Room.held c.args.packet.now) c.args.self.now in
    is_busy h.task e d.last.ask h.state _ (open_of d.last.ask (sym d.over ∙ c.requires.open)) d.goes

pub step_over-requires-clause-counts : goal.step_over-requires-clause-counts
step_over-requires-clause-counts g c =
    let h = c.requires.goes.1 in
    let d = h.gone in
    h.serving (map Some (labels (d.earlier ++ did_by d.last.ask d.last.words))) c.args.counters.now d.counted

pub returns-in-Announce-clause-gone : goal.returns-in-Announce-clause-gone
returns-in-Announce-clause-gone g c =
    let w = g.W.Wires.wiring c.args.wires.now in
    let r = c.step_over.new in
    let old = engine_at w (g.R.Room.held c.args.packet.now) c.args.self.now in
    let new = engine_at w (g.R.Room.held r.packet) r.self in (
      1,
      λ k s bus from d.
          gone_on g.B.Bus.log g.B.Bus.access_gives g.B.Bus.size (g.T.Tallies.did w.program.now.shapes) k s w bus from 0 old new c.args.counters.now r.counters c.args.host.now r.host d c.requires.open c.step_over.ensures.stands c.step_over.ensures.stepped,
    )

pub returns-in_default-clause-gone : goal.returns-in_default-clause-gone
returns-in_default-clause-gone g c = (0, λ k s bus from d. d)
