use Rattle.std.proofs.Common.{◌≡◌, ℕ, ◌<◌, ◌≤◌, ◌+◌, ◌-◌, ◌*◌, List, inr, refl, sym, ap, ◌∙◌, subst, arith}
use Rattle.std.specs.Prelude.{min}
use Rattle.xen_page.specs.declared.place.Place.{Place}
use Rattle.xen_steps.specs.Steps.{Steps}
use Rattle.xen_host.specs.Asks as ask
use Rattle.xen_host.specs.Led.{beside}
use Rattle.xen_steps.specs.Places.{page_word}
use Rattle.xen_rx_fill.specs.Transmit.{fill_from, rx_respond}
use Rattle.xen_rx_fill.specs.declared.by_event.phase.TransmitOutcome.{TransmitOutcome}
use Rattle.xen_rx_fill.specs.declared.target.Grants.TheVariants.{Passed}
use Rattle.xen_host.specs.declared.stage.Fill.TheVariants as fill
use Rattle.xen_host.proofs.FillLemmas.{IsFillOn, fill_before, lift_fill}
use Rattle.xen_host.proofs.HostLedLemmas.{asks_last}
use Rattle.xen_steps.specs.Drive.{LedBy}
use Rattle.xen_rx_fill.specs.Packets.{frame_in, slot_of, target_at, words}
use Rattle.xen_host.specs.Asks.{writes_at}
use Rattle.xen_host.specs.Filling.{packet_words}
use Rattle.xen_host.proofs.ChainLemmas.{fill_over, page_gone, taken_words}
use Rattle.xen_host.specs.EngineAt.{engine_at}
use Rattle.xen_host.specs.Rest.{rx_offload}
use Rattle.xen_host.proofs.engine.Engine.write_page.Goals as goal

pub returns-then-to-all-clause-led : goal.returns-then-to-all-clause-led
returns-then-to-all-clause-led g c =
    let q = engine_at (g.W.Wires.wiring c.args.wires.now) (g.R.Room.held c.args.packet.now) c.args.self.now in
    let w = q.wires.vif in
    let x = q.state.rx_index in
    let p = q.work.packet in
    let ts = q.work.targets in
    let i = c.args.i in
    let o = rx_offload c.args.purpose q.work.offload in
    let to = c.min-to.result in
    let n = to - 1024 * i in
    let all : c.words_of-all.result ≡ words p = c.words_of-all.ensures.value ∙ ap words c.bytes.ensures.same in
    let some : 1024 * i < words p = omega (arith, all, c.if-all-from.false) in
    let most : to ≡ min (words p) (1024 * i + 1024) = c.min-to.ensures ∙ ap (λ k. min k (1024 * i + 1024)) all in
    let at = page_word (frame_in (target_at ts (slot_of o i)).frame) 0 in
    let put = packet_words p (1024 * i) n in
    let from = fill_from w x o p ts (1024 * i) in
    let place : ◌≡◌ {A = Place} (record { frame = c.buffer.result; word = 0 }) at = ap (λ k. page_word k 0) c.buffer.ensures in
    let asked = subst (λ (l : List ℕ). g.H.Host.was_asked c.args.host.now (ask.Write at n) l c.write.new.self) (ap (λ (l : List ℕ). packet_words l (1024 * i) n) c.bytes-2.ensures.same)
    (subst (λ (y : Place). g.H.Host.was_asked c.args.host.now (ask.Write y n) (packet_words c.bytes-2.result.now (1024 * i) n) c.write.new.self) place c.write.ensures.asked) in
    let sized : (1 ≤ n) × (n ≤ 1024) = (omega (arith, some, most), omega (arith, most)) in
    let left = fill_from w x o p ts (1024 * (i + 1)) in
    let gone = subst (λ (l : List ℕ). LedBy from (writes_at at l) left) (sym (taken_words p (1024 * i) n)) (page_gone w x o p ts i to some most) in
    let f = fill.Words (i + 1) in
    lift_fill _ _ c.args.purpose q ts f from _ _
    (asks_last _ _ (IsFillOn q ts o f) _ from left _ _ _ (ask.Write at n) put asked (inr refl) sized gone (refl, tt, refl) refl (omega (arith, some, all, c.words_of-all.ensures.few)))

pub returns-clause-led : goal.returns-clause-led
returns-clause-led g c =
    let q = engine_at (g.W.Wires.wiring c.args.wires.now) (g.R.Room.held c.args.packet.now) c.args.self.now in
    let w = q.wires.vif in
    let x = q.state.rx_index in
    let p = q.work.packet in
    let ts = q.work.targets in
    let i = c.args.i in
    let o = rx_offload c.args.purpose q.work.offload in
    let to = c.min-to.result in
    let n = to - 1024 * i in
    let all : c.words_of-all.result ≡ words p = c.words_of-all.ensures.value ∙ ap words c.bytes.ensures.same in
    let some : 1024 * i < words p = omega (arith, all, c.if-all-from.false) in
    let most : to ≡ min (words p) (1024 * i + 1024) = c.min-to.ensures ∙ ap (λ k. min k (1024 * i + 1024)) all in
    let at = page_word (frame_in (target_at ts (slot_of o i)).frame) 0 in
    let put = packet_words p (1024 * i) n in
    let from = fill_from w x o p ts (1024 * i) in
    let place : ◌≡◌ {A = Place} (record { frame = c.buffer.result; word = 0 }) at = ap (λ k. page_word k 0) c.buffer.ensures in
    let asked = subst (λ (l : List ℕ). g.H.Host.was_asked c.args.host.now (ask.Write at n) l c.write.new.self) (ap (λ (l : List ℕ). packet_words l (1024 * i) n) c.bytes-2.ensures.same)
    (subst (λ (y : Place). g.H.Host.was_asked c.args.host.now (ask.Write y n) (packet_words c.bytes-2.result.now (1024 * i) n) c.write.new.self) place c.write.ensures.asked) in
    let sized : (1 ≤ n) × (n ≤ 1024) = (omega (arith, some, most), omega (arith, most)) in
    let last : words p ≤ 1024 * (i + 1) = omega (arith, most, all, c.if-to-all.false) in
    let left = rx_respond w x o p Passed ts in
    let gone = subst (λ (l : List ℕ). LedBy from (writes_at at l) left) (sym (taken_words p (1024 * i) n))
    (subst (λ (s : Steps TransmitOutcome). LedBy from (writes_at at put) s) (fill_over w x o p ts (1024 * (i + 1)) last) (page_gone w x o p ts i to some most)) in
    fill_before _ _ c.args.purpose (beside q) from left _ _ _ _ (ask.Write at n) put asked refl sized gone c.reply_from-2.ensures.led
