use Rattle.std.proofs.Common.{[], suc, refl, subst, arith}
use Rattle.xen_steps.specs.Places.{add32}
use Rattle.xen_rx_fill.specs.Places.{tx_slot}
use Rattle.xen_turns.specs.Tree.{responses}
use Rattle.xen_host.specs.Asks as ask
use Rattle.xen_host.proofs.ChainLemmas.{stores_asked}
use Rattle.xen_host.specs.EngineAt.{engine_at}
use Rattle.xen_host.proofs.engine.Engine.say_each.Goals as goal

pub loop-i-init : goal.loop-i-init
loop-i-init g c = record { asked = (0, omega arith, refl); free = c.requires.free }

pub loop-i-preserved : goal.loop-i-preserved
loop-i-preserved g c =
    let q = engine_at (g.W.Wires.wiring c.args.wires.now) [] c.args.self.now in
    let t = q.state.tx_index in
    let i = c.loop-i.i in
    let s = c.loop-i.invariant.asked in
    let is = subst (λ w. g.H.Host.was_asked c.loop-i.host (ask.Store (tx_slot q.wires.vif (add32 t i) 0) w) [] c.say_response.new.host) c.response_at.ensures c.say_response.ensures.asked in
    record {
      asked = (suc s.0, omega (arith, s.1), stores_asked _ q.wires.vif t (responses q.work.answer.status q.work.chain) c.args.from s.0 i _ _ _ s.1 s.2 is);
      free = c.has_room.ensures.room c.if-not-has_room.false;
    }

pub returns-then-not-has_room : goal.returns-then-not-has_room
returns-then-not-has_room g c =
    let q = engine_at (g.W.Wires.wiring c.args.wires.now) [] c.args.self.now in
    let t = q.state.tx_index in
    let i = c.loop-i.i in
    let s = c.loop-i.invariant.asked in
    let is = subst (λ w. g.H.Host.was_asked c.loop-i.host (ask.Store (tx_slot q.wires.vif (add32 t i) 0) w) [] c.say_response.new.host) c.response_at.ensures c.say_response.ensures.asked in
    (s.0, omega (arith, s.1), omega (arith, c.loop-i-test.true, c.len-i-end.ensures.len), stores_asked _ q.wires.vif t (responses q.work.answer.status q.work.chain) c.args.from s.0 i _ _ _ s.1 s.2 is, c.has_room.ensures.full c.if-not-has_room.true)

pub returns : goal.returns
returns g c =
    let s = c.loop-i.invariant.asked in
    (s.0, omega (arith, s.1, c.len-i-end.ensures.len, c.loop-i-test.false), s.2, c.loop-i.invariant.free)
