use Rattle.std.proofs.Common.{◌≡◌, ◌+◌, ◌∙◌, [], ap, arith, refl, subst}
use Rattle.std.specs.Prelude.{Some, slice_get}
use Rattle.xen_steps.specs.Places.{add32}
use Rattle.xen_rx_fill.specs.Places.{tx_slot}
use Rattle.xen_turns.specs.Tree.{responses}
use Rattle.xen_host.specs.Asks as ask
use Rattle.xen_host.proofs.ChainLemmas.{response_at, stores_asked}
use Rattle.xen_host.specs.EngineAt.{engine_at}
use Rattle.xen_host.proofs.engine.Engine.say_only.Goals as goal

pub returns-then-from-ne0 : goal.returns-then-from-ne0
returns-then-from-ne0 g c = (0, omega (arith, c.requires.one, c.requires.within, c.if-from-ne0.true), refl, c.requires.free)

pub returns-then-has_room : goal.returns-then-has_room
returns-then-has_room g c =
    let q = engine_at (g.W.Wires.wiring c.args.wires.now) [] c.args.self.now in
    let status = q.work.answer.status in
    let t = q.state.tx_index in
    let first : c.args.from + 0 ≡ 0 = omega (arith, c.if-from-ne0.false) in
    let word = c.response-word.ensures ∙ response_at status q.work.chain 0 (Some c.args.request) (ap (λ l. slice_get l 0) c.requires.all) in
    let is = subst (λ w. g.H.Host.was_asked c.args.host.now (ask.Store (tx_slot q.wires.vif (add32 t 0) 0) w) [] c.say_response.new.host) word c.say_response.ensures.asked in
    (1, omega (arith, c.requires.one, first), stores_asked g.H.Host.was_asked q.wires.vif t (responses status q.work.chain) c.args.from 0 0 c.args.host.now c.args.host.now c.say_response.new.host first refl is, c.has_room.ensures.room c.if-has_room.true)

pub returns-else-has_room : goal.returns-else-has_room
returns-else-has_room g c =
    let q = engine_at (g.W.Wires.wiring c.args.wires.now) [] c.args.self.now in
    let status = q.work.answer.status in
    let t = q.state.tx_index in
    let first : c.args.from + 0 ≡ 0 = omega (arith, c.if-from-ne0.false) in
    let word = c.response-word.ensures ∙ response_at status q.work.chain 0 (Some c.args.request) (ap (λ l. slice_get l 0) c.requires.all) in
    let is = subst (λ w. g.H.Host.was_asked c.args.host.now (ask.Store (tx_slot q.wires.vif (add32 t 0) 0) w) [] c.say_response.new.host) word c.say_response.ensures.asked in
    (0, omega (arith, first), omega (arith, c.requires.one), stores_asked g.H.Host.was_asked q.wires.vif t (responses status q.work.chain) c.args.from 0 0 c.args.host.now c.args.host.now c.say_response.new.host first refl is, c.has_room.ensures.full c.if-has_room.false)
