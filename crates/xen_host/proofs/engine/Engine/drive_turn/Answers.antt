use Rattle.std.proofs.Common.{◌≡◌, ℕ, sym, ap, ◌∙◌, subst, arith}
use Rattle.std.proofs.lemmas.Option.{slice_get_within}
use Rattle.xen_page.specs.Access.{Performs}
use Rattle.xen_steps.specs.Drive.{accesses}
use Rattle.xen_steps.specs.Event as event
use Rattle.xen_steps.specs.Places.{page_word}
use Rattle.xen_rx_fill.specs.Places.{tx_word}
use Rattle.xen_host.specs.Buses.{ask_of}
use Rattle.xen_host.specs.Driven.{HasTurnedAt}
use Rattle.xen_host.specs.Driving.{turn}
use Rattle.xen_host.specs.EngineAt.{engine_at}
use Rattle.xen_host.specs.UnderWay.{first_read}
use Rattle.xen_host.specs.declared.over_bus.Over.{Over}
use Rattle.xen_host.proofs.BoundLemmas.{TurnsAreShort}
use Rattle.xen_host.proofs.GoneLemmas.{going, gone_then, turn_begun, turn_over, turn_short}
use Rattle.xen_host.proofs.engine.Engine.drive_turn.Goals as goal

pub look-producer-requires : goal.look-producer-requires
look-producer-requires g c =
    let v = (g.W.Wires.wiring c.args.wires.now).vif in
    let k = slice_get_within v.owners.now v.tx v.granter c.requires.stands.wired.tx in
    record { frame = omega (arith, c.tx.ensures, c.requires.size, k) }

pub turn_until_over-requires : goal.turn_until_over-requires
turn_until_over-requires g c =
    let log = g.B.Bus.log in
    let gives = g.B.Bus.access_gives in
    let size = g.B.Bus.size in
    let w = g.W.Wires.wiring c.args.wires.now in
    let did = g.T.Tallies.did w.program.now.shapes in
    let serves = g.T.Tallies.serves w.program.now.shapes in
    let old = engine_at w (g.R.Room.held c.args.packet.now) c.args.self.now in
    let s = old.state in
    let bus = c.args.bus.now in
    let before = c.args.counters.now in
    let made = c.new-host.result in
    let producer = c.look-producer.result in
    let look = subst (λ (n : ℕ). Performs log gives bus (accesses (first_read s.halt (event.Read (page_word n 0) producer))) c.look-producer.new.bus) c.tx.ensures c.look-producer.ensures.read in
    let seen = subst (λ b. Performs log gives bus (accesses (first_read s.halt (event.Read (tx_word w.vif 0) producer))) b) (sym c.new-host.ensures.bus) look in
    let sized = ap size c.new-host.ensures.bus ∙ c.look-producer.ensures.size ∙ c.requires.size in
    let e = engine_at w (g.R.Room.held c.begin_over.new.packet) c.begin_over.new.self in
    let host = c.begin_over.new.host in
    let after = before in
    let d = turn_begun log gives size did old e bus before producer made host sized c.new-host.ensures.over seen c.begin_over.ensures.stands c.begin_over.ensures.begun in
    let task = turn in
    let few = c.turns_are_bounded.ensures in
    let short : TurnsAreShort = λ v s p new u t. let a = few.accesses v s p new u t in let k = few.notices v s p new u t in omega (arith, a, k) in
    record { goes = going log gives size did serves task s w bus before 33033 e after host d (λ n new end host_after x. let k = turn_short log gives size did c.turns_are_rests.ensures.turns short s w bus before n new end host_after x in omega (arith, k)) c.requires.serving }

pub returns : goal.returns
returns g c =
    let log = g.B.Bus.log in
    let gives = g.B.Bus.access_gives in
    let size = g.B.Bus.size in
    let w = g.W.Wires.wiring c.args.wires.now in
    let did = g.T.Tallies.did w.program.now.shapes in
    let old = engine_at w (g.R.Room.held c.args.packet.now) c.args.self.now in
    let s = old.state in
    let bus = c.args.bus.now in
    let before = c.args.counters.now in
    let made = c.new-host.result in
    let producer = c.look-producer.result in
    let look = subst (λ (n : ℕ). Performs log gives bus (accesses (first_read s.halt (event.Read (page_word n 0) producer))) c.look-producer.new.bus) c.tx.ensures c.look-producer.ensures.read in
    let seen = subst (λ b. Performs log gives bus (accesses (first_read s.halt (event.Read (tx_word w.vif 0) producer))) b) (sym c.new-host.ensures.bus) look in
    let sized = ap size c.new-host.ensures.bus ∙ c.look-producer.ensures.size ∙ c.requires.size in
    let e = engine_at w (g.R.Room.held c.begin_over.new.packet) c.begin_over.new.self in
    let host = c.begin_over.new.host in
    let after = before in
    let d = turn_begun log gives size did old e bus before producer made host sized c.new-host.ensures.over seen c.begin_over.ensures.stands c.begin_over.ensures.begun in
    let task = turn in
    let x = c.turn_until_over.ensures.gone in
    let end = engine_at w (g.R.Room.held c.turn_until_over.new.packet) c.turn_until_over.new.self in
    let r = gone_then log gives size did task s w bus before x.0 e end after c.turn_until_over.new.counters host c.turn_until_over.new.host d x.1 in
    let m = turn_over log gives size did old bus before x.0 end c.turn_until_over.new.counters c.turn_until_over.new.host c.turn_until_over.result r x.2 in
    -- the bus was lent to the host until here
    let same = c.bus-1.given.1 (sym (c.turn_until_over.ensures.loan ∙ c.begin_over.ensures.loan ∙ c.new-host.ensures.loan)) in
    let is : c.in-Turn.kind ≡ m.0 = cc (sym (ap (λ (o : Over). ask_of o) c.in-Turn.is) ∙ m.1) in
    record {
      stands = r.stands;
      size = ap size same ∙ r.sized ∙ sym c.requires.size;
      turned = subst (λ b. HasTurnedAt log gives did old end c.in-Turn.kind bus b before c.turn_until_over.new.counters) (sym same) (subst (λ k. HasTurnedAt log gives did old end k bus c.turn_until_over.new.host.bus.now before c.turn_until_over.new.counters) (sym is) m.2);
    }

pub unreachable-requires : goal.unreachable-requires
unreachable-requires g c =
    let log = g.B.Bus.log in
    let gives = g.B.Bus.access_gives in
    let size = g.B.Bus.size in
    let w = g.W.Wires.wiring c.args.wires.now in
    let did = g.T.Tallies.did w.program.now.shapes in
    let old = engine_at w (g.R.Room.held c.args.packet.now) c.args.self.now in
    let s = old.state in
    let bus = c.args.bus.now in
    let before = c.args.counters.now in
    let made = c.new-host.result in
    let producer = c.look-producer.result in
    let look = subst (λ (n : ℕ). Performs log gives bus (accesses (first_read s.halt (event.Read (page_word n 0) producer))) c.look-producer.new.bus) c.tx.ensures c.look-producer.ensures.read in
    let seen = subst (λ b. Performs log gives bus (accesses (first_read s.halt (event.Read (tx_word w.vif 0) producer))) b) (sym c.new-host.ensures.bus) look in
    let sized = ap size c.new-host.ensures.bus ∙ c.look-producer.ensures.size ∙ c.requires.size in
    let e = engine_at w (g.R.Room.held c.begin_over.new.packet) c.begin_over.new.self in
    let host = c.begin_over.new.host in
    let after = before in
    let d = turn_begun log gives size did old e bus before producer made host sized c.new-host.ensures.over seen c.begin_over.ensures.stands c.begin_over.ensures.begun in
    let task = turn in
    let x = c.turn_until_over.ensures.gone in
    let end = engine_at w (g.R.Room.held c.turn_until_over.new.packet) c.turn_until_over.new.self in
    let r = gone_then log gives size did task s w bus before x.0 e end after c.turn_until_over.new.counters host c.turn_until_over.new.host d x.1 in
    let m = turn_over log gives size did old bus before x.0 end c.turn_until_over.new.counters c.turn_until_over.new.host c.turn_until_over.result r x.2 in
    absurd (cc (sym (ap (λ (o : Over). ask_of o) c.in-Delivery.is) ∙ m.1))

pub unreachable-requires-in-Wait : goal.unreachable-requires-in-Wait
unreachable-requires-in-Wait g c =
    let log = g.B.Bus.log in
    let gives = g.B.Bus.access_gives in
    let size = g.B.Bus.size in
    let w = g.W.Wires.wiring c.args.wires.now in
    let did = g.T.Tallies.did w.program.now.shapes in
    let old = engine_at w (g.R.Room.held c.args.packet.now) c.args.self.now in
    let s = old.state in
    let bus = c.args.bus.now in
    let before = c.args.counters.now in
    let made = c.new-host.result in
    let producer = c.look-producer.result in
    let look = subst (λ (n : ℕ). Performs log gives bus (accesses (first_read s.halt (event.Read (page_word n 0) producer))) c.look-producer.new.bus) c.tx.ensures c.look-producer.ensures.read in
    let seen = subst (λ b. Performs log gives bus (accesses (first_read s.halt (event.Read (tx_word w.vif 0) producer))) b) (sym c.new-host.ensures.bus) look in
    let sized = ap size c.new-host.ensures.bus ∙ c.look-producer.ensures.size ∙ c.requires.size in
    let e = engine_at w (g.R.Room.held c.begin_over.new.packet) c.begin_over.new.self in
    let host = c.begin_over.new.host in
    let after = before in
    let d = turn_begun log gives size did old e bus before producer made host sized c.new-host.ensures.over seen c.begin_over.ensures.stands c.begin_over.ensures.begun in
    let task = turn in
    let x = c.turn_until_over.ensures.gone in
    let end = engine_at w (g.R.Room.held c.turn_until_over.new.packet) c.turn_until_over.new.self in
    let r = gone_then log gives size did task s w bus before x.0 e end after c.turn_until_over.new.counters host c.turn_until_over.new.host d x.1 in
    let m = turn_over log gives size did old bus before x.0 end c.turn_until_over.new.counters c.turn_until_over.new.host c.turn_until_over.result r x.2 in
    absurd (cc (sym (ap (λ (o : Over). ask_of o) c.in-Wait.is) ∙ m.1))
