use Rattle.std.proofs.Common.{◌≡◌, suc, ◌+◌, Some, ◌++◌, sym, ◌∙◌, subst, map, arith}
use Rattle.xen_turns.specs.Drive.{labels}
use Rattle.xen_host.specs.Asks.{did_by}
use Rattle.xen_host.specs.EngineAt.{engine_at}
use Rattle.xen_host.specs.Going.{IsGone}
use Rattle.xen_host.proofs.GoingLemmas.{gone_on, open_of}
use Rattle.xen_host.proofs.TaskLemmas.{is_busy}
use Rattle.xen_host.proofs.engine.Engine.step_until_over.Goals as goal

pub step_over-requires-clause-stands : goal.step_over-requires-clause-stands
step_over-requires-clause-stands g c =
    let h = c.requires.goes in
    (c.loop-round.invariant.gone h.task h.state h.bus h.before h.gone).stands

pub step_over-requires-clause-busy : goal.step_over-requires-clause-busy
step_over-requires-clause-busy g c =
    let h = c.requires.goes in
    let d = c.loop-round.invariant.gone h.task h.state h.bus h.before h.gone in
    let goes_on = sym d.over ∙ sym c.over.ensures ∙ c.in_default.is in
    let e = engine_at (g.W.Wires.wiring c.args.wires.now) (g.R.Room.held c.loop-round.packet) c.loop-round.self in
    is_busy h.task e d.last.ask h.state _ (open_of d.last.ask goes_on) d.goes

pub step_over-requires-clause-counts : goal.step_over-requires-clause-counts
step_over-requires-clause-counts g c =
    let h = c.requires.goes in
    let d = c.loop-round.invariant.gone h.task h.state h.bus h.before h.gone in
    h.serving (map Some (labels (d.earlier ++ did_by d.last.ask d.last.words))) c.loop-round.counters d.counted

pub loop-round-preserved : goal.loop-round-preserved
loop-round-preserved g c =
    let log = g.B.Bus.log in
    let gives = g.B.Bus.access_gives in
    let size = g.B.Bus.size in
    let i = c.loop-round.invariant in
    let w = g.W.Wires.wiring c.args.wires.now in
    let did = g.T.Tallies.did w.program.now.shapes in
    let n = c.loop-round.round in
    let e : suc n ≡ n + 1 = omega arith in
    let goes_on = sym c.over.ensures ∙ c.in_default.is in
    let r = c.step_over.new in
    let old = engine_at w (g.R.Room.held c.loop-round.packet) c.loop-round.self in
    let new = engine_at w (g.R.Room.held r.packet) r.self in
    record {
      gone = λ k s bus from x. subst (λ m. IsGone log gives size did k s w bus from m new r.counters r.host) e
          (gone_on log gives size did k s w bus from n old new c.loop-round.counters r.counters c.loop-round.host r.host (i.gone k s bus from x) goes_on c.step_over.ensures.stands c.step_over.ensures.stepped);
      loan = c.step_over.ensures.loan ∙ i.loan;
    }

pub unreachable-requires : goal.unreachable-requires
unreachable-requires g c =
    let h = c.requires.goes in
    let d = c.loop-round.invariant.gone h.task h.state h.bus h.before h.gone in
    let e = engine_at (g.W.Wires.wiring c.args.wires.now) (g.R.Room.held c.loop-round.packet) c.loop-round.self in
    let f = h.few c.loop-round.round e c.loop-round.counters c.loop-round.host d in
    omega (arith, f, c.loop-round-test.false)
