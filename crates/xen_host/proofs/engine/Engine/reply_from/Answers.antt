use Rattle.std.proofs.Common.{◌≡◌, ◌≤◌, ◌+◌, suc, [], length, drop, refl, sym, ap, subst, arith}
use Rattle.std.proofs.lemmas.List.{drop_all}
use Rattle.xen_steps.specs.Drive.{LedBy}
use Rattle.xen_rx_fill.specs.Transmit.{rx_answer, rx_publish}
use Rattle.xen_host.specs.Asks.{did_all}
use Rattle.xen_host.specs.Chained.{replies, reply}
use Rattle.xen_host.specs.HostLed.{HasReplied}
use Rattle.xen_host.specs.Led.{beside}
use Rattle.xen_host.specs.declared.stage.Fill.TheVariants as fill
use Rattle.xen_host.proofs.ChainLemmas.{replies_chained, replies_gone}
use Rattle.xen_host.proofs.FillLemmas.{IsFillOn, fill_all, fill_same, lift_fill, waits_none}
use Rattle.xen_host.proofs.HostLedLemmas.{asks_full}
use Rattle.xen_host.proofs.ToldLemmas.{other_none}
use Rattle.xen_host.specs.EngineAt.{engine_at}
use Rattle.xen_host.specs.Rest.{rx_offload}
use Rattle.xen_host.proofs.engine.Engine.reply_from.Goals as goal

pub returns-in-Some-clause-led : goal.returns-in-Some-clause-led
returns-in-Some-clause-led g c =
    let q = engine_at (g.W.Wires.wiring c.args.wires.now) (g.R.Room.held c.args.packet.now) c.args.self.now in
    let w = q.wires.vif in
    let x = q.state.rx_index in
    let p = q.work.packet in
    let ts = q.work.targets in
    let o = rx_offload c.args.purpose q.work.offload in
    let grants = c.args.grants in
    let from = c.args.from in
    let r = c.say_replies in
    let i = c.in-Some.i in
    let s = subst (λ k. HasReplied g.H.Host.was_asked g.H.Host.is_free g.H.Host.is_full q o grants from k c.args.host.now r.new.host) c.in-Some.is r.ensures in
    let n = s.0 in
    let f = fill.Respond grants i in
    let left = rx_answer w x o p grants (length ts) i (drop i ts) in
    let inside : from + suc n ≤ length ts = omega (arith, s.1, s.2) in
    let gone = subst (λ k. LedBy (rx_answer w x o p grants (length ts) from (drop from ts)) (did_all (replies w x o p grants ts from (suc n)) []) (rx_answer w x o p grants (length ts) k (drop k ts))) s.1 (replies_gone w x o p grants ts from (suc n) [] inside) in
    lift_fill _ _ c.args.purpose q ts f _ _ _
    (asks_full _ _ (IsFillOn q ts o f) _ _ left _ (reply w x o p grants ts from) (replies w x o p grants ts (from + 1) n) _ _ s.3 (replies_chained w x o p grants ts from (suc n)) s.4 gone
    (λ a h. (refl, other_none a h, waits_none a left h)) refl s.2)

pub returns-in-None-clause-led : goal.returns-in-None-clause-led
returns-in-None-clause-led g c =
    let q = engine_at (g.W.Wires.wiring c.args.wires.now) (g.R.Room.held c.args.packet.now) c.args.self.now in
    let w = q.wires.vif in
    let x = q.state.rx_index in
    let p = q.work.packet in
    let ts = q.work.targets in
    let m = length ts in
    let o = rx_offload c.args.purpose q.work.offload in
    let grants = c.args.grants in
    let from = c.args.from in
    let r = c.say_replies in
    let s = subst (λ k. HasReplied g.H.Host.was_asked g.H.Host.is_free g.H.Host.is_full q o grants from k c.args.host.now r.new.host) c.in-None.is r.ensures in
    let n = s.0 in
    let inside : from + n ≤ length ts = omega (arith, s.1) in
    let end : drop (from + n) ts ≡ [] = drop_all (from + n) ts (omega (arith, s.1)) in
    let same : rx_answer w x o p grants m (from + n) (drop (from + n) ts) ≡ rx_publish w x grants m = ap (λ l. rx_answer w x o p grants m (from + n) l) end in
    fill_all _ _ c.args.purpose (beside q) _ _ _ (replies w x o p grants ts from n) _ _ _ s.2 (replies_chained w x o p grants ts from n) (replies_gone w x o p grants ts from n [] inside)
    (fill_same _ _ c.args.purpose (beside q) _ _ _ _ _ (sym same) (c.push_replies.ensures.led q.work.packet))
