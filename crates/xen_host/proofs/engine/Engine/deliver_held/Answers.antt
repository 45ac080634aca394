use Rattle.std.proofs.Common.{◌≡◌, ℕ, [], None, refl, sym, ap, ◌∙◌, subst, arith}
use Rattle.std.proofs.lemmas.Option.{slice_get_within}
use Rattle.xen_page.specs.Access.{Performs}
use Rattle.xen_steps.specs.Drive.{accesses}
use Rattle.xen_steps.specs.Event as event
use Rattle.xen_steps.specs.Places.{page_word}
use Rattle.xen_rx_fill.specs.Places.{rx_word}
use Rattle.xen_host.specs.Buses.{ask_of}
use Rattle.xen_host.specs.Driven.{HasDeliveredAt}
use Rattle.xen_host.specs.Driving.{delivery}
use Rattle.xen_host.specs.EngineAt.{engine_at}
use Rattle.xen_host.specs.UnderWay.{first_read}
use Rattle.xen_host.specs.declared.over_bus.Over.{Over}
use Rattle.xen_host.proofs.BoundLemmas.{DeliveriesAreShort}
use Rattle.xen_host.proofs.GoneLemmas.{delivery_begun, delivery_over, delivery_short, going, gone_then}
use Rattle.xen_host.proofs.TaskLemmas.{begun_delivery_busy}
use Rattle.xen_host.proofs.engine.Engine.deliver_held.Goals as goal

pub look-producer-requires : goal.look-producer-requires
look-producer-requires g c =
    let v = (g.W.Wires.wiring c.args.wires.now).vif in
    let k = slice_get_within v.owners.now v.rx v.granter c.requires.stands.wired.rx in
    record { frame = omega (arith, c.rx.ensures, c.requires.size, k) }

pub step_over-requires-clause-stands : goal.step_over-requires-clause-stands
step_over-requires-clause-stands g c = c.begin_delivery.ensures.stands (g.W.Wires.wiring c.args.wires.now) (g.R.Room.held c.args.packet.now) c.requires.deliverable c.requires.stands

pub step_over-requires-clause-busy : goal.step_over-requires-clause-busy
step_over-requires-clause-busy g c =
    let w = g.W.Wires.wiring c.args.wires.now in
    let b = c.begin_delivery.ensures.begun w (g.R.Room.held c.args.packet.now) c.requires.deliverable c.requires.rests in
    begun_delivery_busy (engine_at w (g.R.Room.held c.args.packet.now) c.begin_delivery.new.self) c.args.self.now.state c.args.offload (g.R.Room.held c.args.packet.now) _ None b.delivering

pub step_over-requires-clause-counts : goal.step_over-requires-clause-counts
step_over-requires-clause-counts g c = c.requires.serving [] c.args.counters.now refl

pub step_until_over-requires : goal.step_until_over-requires
step_until_over-requires g c =
    let log = g.B.Bus.log in
    let gives = g.B.Bus.access_gives in
    let size = g.B.Bus.size in
    let w = g.W.Wires.wiring c.args.wires.now in
    let did = g.T.Tallies.did w.program.now.shapes in
    let serves = g.T.Tallies.serves w.program.now.shapes in
    let old = engine_at w (g.R.Room.held c.args.packet.now) c.args.self.now in
    let s = old.state in
    let bus = c.args.bus.now in
    let before = c.args.counters.now in
    let made = c.new-host.result in
    let producer = c.look-producer.result in
    let look = subst (λ (n : ℕ). Performs log gives bus (accesses (first_read s.halt (event.Read (page_word n 0) producer))) c.look-producer.new.bus) c.rx.ensures c.look-producer.ensures.read in
    let seen = subst (λ b. Performs log gives bus (accesses (first_read s.halt (event.Read (rx_word w.vif 0) producer))) b) (sym c.new-host.ensures.bus) look in
    let sized = ap size c.new-host.ensures.bus ∙ c.look-producer.ensures.size ∙ c.requires.size in
    let mid = engine_at w (g.R.Room.held c.args.packet.now) c.begin_delivery.new.self in
    let e = engine_at w (g.R.Room.held c.step_over.new.packet) c.step_over.new.self in
    let host = c.step_over.new.host in
    let after = c.step_over.new.counters in
    let packet = (g.R.Room.held c.args.packet.now) in
    let d = delivery_begun log gives size did old mid e c.args.offload packet bus before after producer made host sized c.new-host.ensures.over seen (c.begin_delivery.ensures.begun w (g.R.Room.held c.args.packet.now) c.requires.deliverable c.requires.rests) c.step_over.ensures.stands c.step_over.ensures.stepped in
    let task = delivery c.args.offload packet in
    let few = c.deliveries_are_bounded.ensures in
    let short : DeliveriesAreShort = λ v s o packet p end what t. let a = few.accesses v s o packet p end what t in let k = few.notices v s o packet p end what t in omega (arith, a, k) in
    record { goes = going log gives size did serves task s w bus before 16489 e after host d (λ n new end host_after x. let k = delivery_short log gives size did c.deliveries_are_rests.ensures.rests short s c.args.offload packet w bus before n new end host_after x in omega (arith, k)) c.requires.serving }

pub returns : goal.returns
returns g c =
    let log = g.B.Bus.log in
    let gives = g.B.Bus.access_gives in
    let size = g.B.Bus.size in
    let w = g.W.Wires.wiring c.args.wires.now in
    let did = g.T.Tallies.did w.program.now.shapes in
    let old = engine_at w (g.R.Room.held c.args.packet.now) c.args.self.now in
    let s = old.state in
    let bus = c.args.bus.now in
    let before = c.args.counters.now in
    let made = c.new-host.result in
    let producer = c.look-producer.result in
    let look = subst (λ (n : ℕ). Performs log gives bus (accesses (first_read s.halt (event.Read (page_word n 0) producer))) c.look-producer.new.bus) c.rx.ensures c.look-producer.ensures.read in
    let seen = subst (λ b. Performs log gives bus (accesses (first_read s.halt (event.Read (rx_word w.vif 0) producer))) b) (sym c.new-host.ensures.bus) look in
    let sized = ap size c.new-host.ensures.bus ∙ c.look-producer.ensures.size ∙ c.requires.size in
    let mid = engine_at w (g.R.Room.held c.args.packet.now) c.begin_delivery.new.self in
    let e = engine_at w (g.R.Room.held c.step_over.new.packet) c.step_over.new.self in
    let host = c.step_over.new.host in
    let after = c.step_over.new.counters in
    let packet = (g.R.Room.held c.args.packet.now) in
    let d = delivery_begun log gives size did old mid e c.args.offload packet bus before after producer made host sized c.new-host.ensures.over seen (c.begin_delivery.ensures.begun w (g.R.Room.held c.args.packet.now) c.requires.deliverable c.requires.rests) c.step_over.ensures.stands c.step_over.ensures.stepped in
    let task = delivery c.args.offload packet in
    let x = c.step_until_over.ensures.gone in
    let end = engine_at w (g.R.Room.held c.step_until_over.new.packet) c.step_until_over.new.self in
    let r = gone_then log gives size did task s w bus before x.0 e end after c.step_until_over.new.counters host c.step_until_over.new.host d x.1 in
    let m = delivery_over log gives size did old c.args.offload packet bus before x.0 end c.step_until_over.new.counters c.step_until_over.new.host c.step_until_over.result r x.2 in
    -- the bus was lent to the host until here
    let same = c.bus-1.given.1 (sym (c.step_until_over.ensures.loan ∙ c.step_over.ensures.loan ∙ c.new-host.ensures.loan)) in
    let is : c.in-Delivery.delivery ≡ m.0 = cc (sym (ap (λ (o : Over). ask_of o) c.in-Delivery.is) ∙ m.1) in
    record {
      stands = r.stands;
      size = ap size same ∙ r.sized ∙ sym c.requires.size;
      delivered = subst (λ b. HasDeliveredAt log gives old end c.args.offload packet c.in-Delivery.delivery bus b before c.step_until_over.new.counters) (sym same) (subst (λ k. HasDeliveredAt log gives old end c.args.offload packet k bus c.step_until_over.new.host.bus.now before c.step_until_over.new.counters) (sym is) m.2);
    }

pub unreachable-requires : goal.unreachable-requires
unreachable-requires g c =
    let log = g.B.Bus.log in
    let gives = g.B.Bus.access_gives in
    let size = g.B.Bus.size in
    let w = g.W.Wires.wiring c.args.wires.now in
    let did = g.T.Tallies.did w.program.now.shapes in
    let old = engine_at w (g.R.Room.held c.args.packet.now) c.args.self.now in
    let s = old.state in
    let bus = c.args.bus.now in
    let before = c.args.counters.now in
    let made = c.new-host.result in
    let producer = c.look-producer.result in
    let look = subst (λ (n : ℕ). Performs log gives bus (accesses (first_read s.halt (event.Read (page_word n 0) producer))) c.look-producer.new.bus) c.rx.ensures c.look-producer.ensures.read in
    let seen = subst (λ b. Performs log gives bus (accesses (first_read s.halt (event.Read (rx_word w.vif 0) producer))) b) (sym c.new-host.ensures.bus) look in
    let sized = ap size c.new-host.ensures.bus ∙ c.look-producer.ensures.size ∙ c.requires.size in
    let mid = engine_at w (g.R.Room.held c.args.packet.now) c.begin_delivery.new.self in
    let e = engine_at w (g.R.Room.held c.step_over.new.packet) c.step_over.new.self in
    let host = c.step_over.new.host in
    let after = c.step_over.new.counters in
    let packet = (g.R.Room.held c.args.packet.now) in
    let d = delivery_begun log gives size did old mid e c.args.offload packet bus before after producer made host sized c.new-host.ensures.over seen (c.begin_delivery.ensures.begun w (g.R.Room.held c.args.packet.now) c.requires.deliverable c.requires.rests) c.step_over.ensures.stands c.step_over.ensures.stepped in
    let task = delivery c.args.offload packet in
    let x = c.step_until_over.ensures.gone in
    let end = engine_at w (g.R.Room.held c.step_until_over.new.packet) c.step_until_over.new.self in
    let r = gone_then log gives size did task s w bus before x.0 e end after c.step_until_over.new.counters host c.step_until_over.new.host d x.1 in
    let m = delivery_over log gives size did old c.args.offload packet bus before x.0 end c.step_until_over.new.counters c.step_until_over.new.host c.step_until_over.result r x.2 in
    absurd (cc (sym (ap (λ (o : Over). ask_of o) c.in-Turn.is) ∙ m.1))

pub unreachable-requires-in-Wait : goal.unreachable-requires-in-Wait
unreachable-requires-in-Wait g c =
    let log = g.B.Bus.log in
    let gives = g.B.Bus.access_gives in
    let size = g.B.Bus.size in
    let w = g.W.Wires.wiring c.args.wires.now in
    let did = g.T.Tallies.did w.program.now.shapes in
    let old = engine_at w (g.R.Room.held c.args.packet.now) c.args.self.now in
    let s = old.state in
    let bus = c.args.bus.now in
    let before = c.args.counters.now in
    let made = c.new-host.result in
    let producer = c.look-producer.result in
    let look = subst (λ (n : ℕ). Performs log gives bus (accesses (first_read s.halt (event.Read (page_word n 0) producer))) c.look-producer.new.bus) c.rx.ensures c.look-producer.ensures.read in
    let seen = subst (λ b. Performs log gives bus (accesses (first_read s.halt (event.Read (rx_word w.vif 0) producer))) b) (sym c.new-host.ensures.bus) look in
    let sized = ap size c.new-host.ensures.bus ∙ c.look-producer.ensures.size ∙ c.requires.size in
    let mid = engine_at w (g.R.Room.held c.args.packet.now) c.begin_delivery.new.self in
    let e = engine_at w (g.R.Room.held c.step_over.new.packet) c.step_over.new.self in
    let host = c.step_over.new.host in
    let after = c.step_over.new.counters in
    let packet = (g.R.Room.held c.args.packet.now) in
    let d = delivery_begun log gives size did old mid e c.args.offload packet bus before after producer made host sized c.new-host.ensures.over seen (c.begin_delivery.ensures.begun w (g.R.Room.held c.args.packet.now) c.requires.deliverable c.requires.rests) c.step_over.ensures.stands c.step_over.ensures.stepped in
    let task = delivery c.args.offload packet in
    let x = c.step_until_over.ensures.gone in
    let end = engine_at w (g.R.Room.held c.step_until_over.new.packet) c.step_until_over.new.self in
    let r = gone_then log gives size did task s w bus before x.0 e end after c.step_until_over.new.counters host c.step_until_over.new.host d x.1 in
    let m = delivery_over log gives size did old c.args.offload packet bus before x.0 end c.step_until_over.new.counters c.step_until_over.new.host c.step_until_over.result r x.2 in
    absurd (cc (sym (ap (λ (o : Over). ask_of o) c.in-Wait.is) ∙ m.1))
