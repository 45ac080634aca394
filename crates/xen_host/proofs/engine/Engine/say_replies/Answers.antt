use Rattle.std.proofs.Common.{suc, refl, arith}
use Rattle.xen_host.proofs.ChainLemmas.{replies_asked}
use Rattle.xen_host.specs.EngineAt.{engine_at}
use Rattle.xen_host.specs.Rest.{rx_offload}
use Rattle.xen_host.proofs.engine.Engine.say_replies.Goals as goal

pub loop-i-init : goal.loop-i-init
loop-i-init g c = record { asked = (0, omega arith, refl); free = c.requires.free }

pub loop-i-preserved : goal.loop-i-preserved
loop-i-preserved g c =
    let q = engine_at (g.W.Wires.wiring c.args.wires.now) (g.R.Room.held c.args.packet.now) c.args.self.now in
    let s = c.loop-i.invariant.asked in
    record {
      asked = (suc s.0, omega (arith, s.1), replies_asked _ q.wires.vif q.state.rx_index (rx_offload c.args.purpose q.work.offload) q.work.packet c.args.grants q.work.targets c.args.from s.0 c.loop-i.i _ _ _ s.1 s.2 c.say_reply.ensures.asked);
      free = c.has_room.ensures.room c.if-not-has_room.false;
    }

pub returns-then-not-has_room : goal.returns-then-not-has_room
returns-then-not-has_room g c =
    let q = engine_at (g.W.Wires.wiring c.args.wires.now) (g.R.Room.held c.args.packet.now) c.args.self.now in
    let s = c.loop-i.invariant.asked in
    (s.0, omega (arith, s.1), omega (arith, c.loop-i-test.true, c.len-i-end.ensures.value), replies_asked _ q.wires.vif q.state.rx_index (rx_offload c.args.purpose q.work.offload) q.work.packet c.args.grants q.work.targets c.args.from s.0 c.loop-i.i _ _ _ s.1 s.2 c.say_reply.ensures.asked, c.has_room.ensures.full c.if-not-has_room.true)

pub returns : goal.returns
returns g c =
    let s = c.loop-i.invariant.asked in
    (s.0, omega (arith, s.1, c.len-i-end.ensures.value, c.loop-i-test.false), s.2, c.loop-i.invariant.free)
