use Rattle.std.proofs.Common.{[], ◌∷◌, refl, sym, ap, ◌∙◌, subst}
use Rattle.std.specs.Prelude.{slice_index}
use Rattle.xen_page.specs.declared.place.Place.{Place}
use Rattle.xen_steps.specs.Places.{page_word}
use Rattle.xen_host.specs.HostLed.{FillGoesOn}
use Rattle.xen_host.specs.declared.stage.Fill.{Fill}
use Rattle.xen_host.proofs.FedLemmas.{words_below}
use Rattle.xen_host.specs.EngineAt.{engine_at}
use Rattle.xen_host.proofs.engine.Engine.after_fill.Goals as goal

pub returns-in-Producer-clause-led : goal.returns-in-Producer-clause-led
returns-in-Producer-clause-led g c =
    let q = engine_at (g.W.Wires.wiring c.args.wires.now) (g.R.Room.held c.args.packet.now) c.args.self.now in
    let r = c.found in
    subst (λ (f : Fill). FillGoesOn g.H.Host.was_asked g.H.Host.is_full g.H.Host.has_given f c.args.purpose q (engine_at q.wires (g.R.Room.held r.new.packet) r.new.self) c.args.host.now r.new.host) (sym c.in-Producer.is)
    (record { words = _; mid = c.word-producer.new.self; given = (refl, subst (λ (x : Place). g.H.Host.has_given c.args.host.now x (c.word-producer.result ∷ []) c.word-producer.new.self) (c.header.ensures ∙ ap (λ k. page_word k 0) c.rx.ensures) c.word-producer.ensures.given, (c.word-producer.type_inv, tt)); led = r.ensures.led })

pub returns-in-Slot-clause-led : goal.returns-in-Slot-clause-led
returns-in-Slot-clause-led g c =
    let q = engine_at (g.W.Wires.wiring c.args.wires.now) (g.R.Room.held c.args.packet.now) c.args.self.now in
    let r = c.after_post in
    subst (λ (f : Fill). FillGoesOn g.H.Host.was_asked g.H.Host.is_full g.H.Host.has_given f c.args.purpose q (engine_at q.wires q.work.packet r.new.self) c.args.host.now r.new.host) (sym c.in-Slot.is)
    (record { words = _; mid = c.two.new.self; given = (refl, subst (λ (x : Place). g.H.Host.has_given c.args.host.now x (slice_index c.two.result 0 ∷ slice_index c.two.result 1 ∷ []) c.two.new.self) c.post_place.ensures c.two.ensures.given, words_below (slice_index c.two.result 0 ∷ slice_index c.two.result 1 ∷ []) c.are_words.ensures); led = r.ensures.led })

pub returns-in-Grant-clause-led : goal.returns-in-Grant-clause-led
returns-in-Grant-clause-led g c =
    let q = engine_at (g.W.Wires.wiring c.args.wires.now) (g.R.Room.held c.args.packet.now) c.args.self.now in
    let r = c.after_grant in
    subst (λ (f : Fill). FillGoesOn g.H.Host.was_asked g.H.Host.is_full g.H.Host.has_given f c.args.purpose q (engine_at q.wires q.work.packet r.new.self) c.args.host.now r.new.host) (sym c.in-Grant.is)
    (record { words = _; mid = c.two-in-Grant.new.self; given = (refl, c.two-in-Grant.ensures.given, words_below (slice_index c.two-in-Grant.result 0 ∷ slice_index c.two-in-Grant.result 1 ∷ []) c.are_words-in-Grant.ensures); led = r.ensures.led })

pub returns-in-Words-clause-led : goal.returns-in-Words-clause-led
returns-in-Words-clause-led g c =
    let q = engine_at (g.W.Wires.wiring c.args.wires.now) (g.R.Room.held c.args.packet.now) c.args.self.now in
    let r = c.write_page in
    subst (λ (f : Fill). FillGoesOn g.H.Host.was_asked g.H.Host.is_full g.H.Host.has_given f c.args.purpose q (engine_at q.wires q.work.packet r.new.self) c.args.host.now r.new.host) (sym c.in-Words.is)
    (record { words = []; mid = c.args.host.now; given = (refl, refl); led = r.ensures.led })

pub returns-in-Respond-clause-led : goal.returns-in-Respond-clause-led
returns-in-Respond-clause-led g c =
    let q = engine_at (g.W.Wires.wiring c.args.wires.now) (g.R.Room.held c.args.packet.now) c.args.self.now in
    let r = c.reply_from in
    subst (λ (f : Fill). FillGoesOn g.H.Host.was_asked g.H.Host.is_full g.H.Host.has_given f c.args.purpose q (engine_at q.wires q.work.packet r.new.self) c.args.host.now r.new.host) (sym c.in-Respond.is)
    (record { words = []; mid = c.args.host.now; given = (refl, refl); led = r.ensures.led })

pub returns-in-Push-clause-led : goal.returns-in-Push-clause-led
returns-in-Push-clause-led g c =
    let q = engine_at (g.W.Wires.wiring c.args.wires.now) (g.R.Room.held c.args.packet.now) c.args.self.now in
    let r = c.after_reply_event in
    subst (λ (f : Fill). FillGoesOn g.H.Host.was_asked g.H.Host.is_full g.H.Host.has_given f c.args.purpose q (engine_at q.wires (g.R.Room.held r.new.packet) r.new.self) c.args.host.now r.new.host) (sym c.in-Push.is)
    (record { words = _; mid = c.word-event.new.self; given = (refl, subst (λ (x : Place). g.H.Host.has_given c.args.host.now x (c.word-event.result ∷ []) c.word-event.new.self) (c.header-in-Push.ensures ∙ ap (λ k. page_word k 3) c.rx-in-Push.ensures) c.word-event.ensures.given, (c.word-event.type_inv, tt)); led = r.ensures.led })

pub returns-in-Notice-clause-led : goal.returns-in-Notice-clause-led
returns-in-Notice-clause-led g c =
    let q = engine_at (g.W.Wires.wiring c.args.wires.now) (g.R.Room.held c.args.packet.now) c.args.self.now in
    let r = c.replied in
    subst (λ (f : Fill). FillGoesOn g.H.Host.was_asked g.H.Host.is_full g.H.Host.has_given f c.args.purpose q (engine_at q.wires (g.R.Room.held r.new.packet) r.new.self) c.args.host.now r.new.host) (sym c.in-Notice.is)
    (record { words = []; mid = c.args.host.now; given = (refl, refl); led = r.ensures.led })
