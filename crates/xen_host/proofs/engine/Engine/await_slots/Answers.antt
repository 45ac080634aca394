use Rattle.std.proofs.Common.{◌≡◌, [], None, refl, sym, ap, ◌∙◌, subst, arith}
use Rattle.xen_host.specs.Buses.{ask_of}
use Rattle.xen_host.specs.Driven.{HasAwaitedAt}
use Rattle.xen_host.specs.Driving.{wait}
use Rattle.xen_host.specs.EngineAt.{engine_at}
use Rattle.xen_host.specs.UnderWay.{packet_at}
use Rattle.xen_host.specs.declared.over_bus.Over.{Over}
use Rattle.xen_host.proofs.GoneLemmas.{going, gone_then, wait_begun, wait_over, wait_short}
use Rattle.xen_host.proofs.TaskLemmas.{begun_wait_busy}
use Rattle.xen_host.proofs.engine.Engine.await_slots.Goals as goal

pub step_over-requires-clause-stands : goal.step_over-requires-clause-stands
step_over-requires-clause-stands g c = c.begin_wait.ensures.stands (g.W.Wires.wiring c.args.wires.now) (g.R.Room.held c.args.packet.now) c.requires.stands

pub step_over-requires-clause-busy : goal.step_over-requires-clause-busy
step_over-requires-clause-busy g c =
    let w = g.W.Wires.wiring c.args.wires.now in
    let p = g.R.Room.held c.args.packet.now in
    let b = c.begin_wait.ensures.begun w p c.requires.rests in
    begun_wait_busy (engine_at w p c.begin_wait.new.self) c.args.self.now.state c.args.pages _ [] None b.waiting

pub step_over-requires-clause-counts : goal.step_over-requires-clause-counts
step_over-requires-clause-counts g c = c.requires.serving [] c.args.counters.now refl

pub step_until_over-requires : goal.step_until_over-requires
step_until_over-requires g c =
    let log = g.B.Bus.log in
    let gives = g.B.Bus.access_gives in
    let size = g.B.Bus.size in
    let w = g.W.Wires.wiring c.args.wires.now in
    let did = g.T.Tallies.did w.program.now.shapes in
    let serves = g.T.Tallies.serves w.program.now.shapes in
    let old = engine_at w (g.R.Room.held c.args.packet.now) c.args.self.now in
    let s = old.state in
    let bus = c.args.bus.now in
    let before = c.args.counters.now in
    let made = c.new-host.result in
    let sized = ap size c.new-host.ensures.bus ∙ c.requires.size in
    let pages = c.args.pages in
    let mid = engine_at w (g.R.Room.held c.args.packet.now) c.begin_wait.new.self in
    let e = engine_at w (g.R.Room.held c.step_over.new.packet) c.step_over.new.self in
    let host = c.step_over.new.host in
    let after = c.step_over.new.counters in
    let d = wait_begun log gives size did old mid e pages bus before after made host sized c.new-host.ensures.over c.new-host.ensures.bus (c.begin_wait.ensures.begun w (g.R.Room.held c.args.packet.now) c.requires.rests) c.step_over.ensures.stands c.step_over.ensures.stepped in
    let task = wait pages (packet_at old) in
    record { goes = going log gives size did serves task s w bus before 3 e after host d (λ n new end host_after x. let k = wait_short log gives size did c.waits_are_rests.ensures.rests s pages (packet_at old) w bus before n new end host_after x in omega (arith, k)) c.requires.serving }

pub returns : goal.returns
returns g c =
    let log = g.B.Bus.log in
    let gives = g.B.Bus.access_gives in
    let size = g.B.Bus.size in
    let w = g.W.Wires.wiring c.args.wires.now in
    let did = g.T.Tallies.did w.program.now.shapes in
    let old = engine_at w (g.R.Room.held c.args.packet.now) c.args.self.now in
    let s = old.state in
    let bus = c.args.bus.now in
    let before = c.args.counters.now in
    let made = c.new-host.result in
    let sized = ap size c.new-host.ensures.bus ∙ c.requires.size in
    let pages = c.args.pages in
    let mid = engine_at w (g.R.Room.held c.args.packet.now) c.begin_wait.new.self in
    let e = engine_at w (g.R.Room.held c.step_over.new.packet) c.step_over.new.self in
    let host = c.step_over.new.host in
    let after = c.step_over.new.counters in
    let d = wait_begun log gives size did old mid e pages bus before after made host sized c.new-host.ensures.over c.new-host.ensures.bus (c.begin_wait.ensures.begun w (g.R.Room.held c.args.packet.now) c.requires.rests) c.step_over.ensures.stands c.step_over.ensures.stepped in
    let task = wait pages (packet_at old) in
    let x = c.step_until_over.ensures.gone in
    let end = engine_at w (g.R.Room.held c.step_until_over.new.packet) c.step_until_over.new.self in
    let r = gone_then log gives size did task s w bus before x.0 e end after c.step_until_over.new.counters host c.step_until_over.new.host d x.1 in
    let m = wait_over log gives size did old pages bus before x.0 end c.step_until_over.new.counters c.step_until_over.new.host c.step_until_over.result r x.2 in
    -- the bus was lent to the host until here
    let same = c.bus-1.given.1 (sym (c.step_until_over.ensures.loan ∙ c.step_over.ensures.loan ∙ c.new-host.ensures.loan)) in
    let is : c.in-Wait.awaited ≡ m.0 = cc (sym (ap (λ (o : Over). ask_of o) c.in-Wait.is) ∙ m.1) in
    record {
      stands = r.stands;
      size = ap size same ∙ r.sized ∙ sym c.requires.size;
      awaited = subst (λ b. HasAwaitedAt log gives old end pages c.in-Wait.awaited bus b before c.step_until_over.new.counters) (sym same) (subst (λ k. HasAwaitedAt log gives old end pages k bus c.step_until_over.new.host.bus.now before c.step_until_over.new.counters) (sym is) m.2);
    }

pub unreachable-requires : goal.unreachable-requires
unreachable-requires g c =
    let log = g.B.Bus.log in
    let gives = g.B.Bus.access_gives in
    let size = g.B.Bus.size in
    let w = g.W.Wires.wiring c.args.wires.now in
    let did = g.T.Tallies.did w.program.now.shapes in
    let old = engine_at w (g.R.Room.held c.args.packet.now) c.args.self.now in
    let s = old.state in
    let bus = c.args.bus.now in
    let before = c.args.counters.now in
    let made = c.new-host.result in
    let sized = ap size c.new-host.ensures.bus ∙ c.requires.size in
    let pages = c.args.pages in
    let mid = engine_at w (g.R.Room.held c.args.packet.now) c.begin_wait.new.self in
    let e = engine_at w (g.R.Room.held c.step_over.new.packet) c.step_over.new.self in
    let host = c.step_over.new.host in
    let after = c.step_over.new.counters in
    let d = wait_begun log gives size did old mid e pages bus before after made host sized c.new-host.ensures.over c.new-host.ensures.bus (c.begin_wait.ensures.begun w (g.R.Room.held c.args.packet.now) c.requires.rests) c.step_over.ensures.stands c.step_over.ensures.stepped in
    let task = wait pages (packet_at old) in
    let x = c.step_until_over.ensures.gone in
    let end = engine_at w (g.R.Room.held c.step_until_over.new.packet) c.step_until_over.new.self in
    let r = gone_then log gives size did task s w bus before x.0 e end after c.step_until_over.new.counters host c.step_until_over.new.host d x.1 in
    let m = wait_over log gives size did old pages bus before x.0 end c.step_until_over.new.counters c.step_until_over.new.host c.step_until_over.result r x.2 in
    absurd (cc (sym (ap (λ (o : Over). ask_of o) c.in-Turn.is) ∙ m.1))

pub unreachable-requires-in-Delivery : goal.unreachable-requires-in-Delivery
unreachable-requires-in-Delivery g c =
    let log = g.B.Bus.log in
    let gives = g.B.Bus.access_gives in
    let size = g.B.Bus.size in
    let w = g.W.Wires.wiring c.args.wires.now in
    let did = g.T.Tallies.did w.program.now.shapes in
    let old = engine_at w (g.R.Room.held c.args.packet.now) c.args.self.now in
    let s = old.state in
    let bus = c.args.bus.now in
    let before = c.args.counters.now in
    let made = c.new-host.result in
    let sized = ap size c.new-host.ensures.bus ∙ c.requires.size in
    let pages = c.args.pages in
    let mid = engine_at w (g.R.Room.held c.args.packet.now) c.begin_wait.new.self in
    let e = engine_at w (g.R.Room.held c.step_over.new.packet) c.step_over.new.self in
    let host = c.step_over.new.host in
    let after = c.step_over.new.counters in
    let d = wait_begun log gives size did old mid e pages bus before after made host sized c.new-host.ensures.over c.new-host.ensures.bus (c.begin_wait.ensures.begun w (g.R.Room.held c.args.packet.now) c.requires.rests) c.step_over.ensures.stands c.step_over.ensures.stepped in
    let task = wait pages (packet_at old) in
    let x = c.step_until_over.ensures.gone in
    let end = engine_at w (g.R.Room.held c.step_until_over.new.packet) c.step_until_over.new.self in
    let r = gone_then log gives size did task s w bus before x.0 e end after c.step_until_over.new.counters host c.step_until_over.new.host d x.1 in
    let m = wait_over log gives size did old pages bus before x.0 end c.step_until_over.new.counters c.step_until_over.new.host c.step_until_over.result r x.2 in
    absurd (cc (sym (ap (λ (o : Over). ask_of o) c.in-Delivery.is) ∙ m.1))
