use Rattle.std.proofs.Common.{◌≡◌, ◌≤◌, ◌+◌, suc, [], length, drop, refl, sym, ap, subst, arith}
use Rattle.std.specs.Prelude.{slice_index}
use Rattle.xen_rx_fill.specs.Places.{tx_slot}
use Rattle.xen_host.specs.Asks as ask
use Rattle.xen_host.specs.declared.stage.Stage.TheVariants as stage
use Rattle.xen_steps.specs.Drive.{LedBy}
use Rattle.xen_host.specs.Asks.{did_all}
use Rattle.xen_host.specs.HostLed.{HasResponded}
use Rattle.std.proofs.lemmas.List.{drop_all}
use Rattle.xen_steps.specs.Places.{add32}
use Rattle.xen_turns.specs.Tree.{answer, publish, responses}
use Rattle.xen_turns.proofs.Bounds.{responses_length}
use Rattle.xen_host.specs.Rest.{ended_at}
use Rattle.xen_host.specs.Chained.{stores}
use Rattle.xen_host.proofs.ChainLemmas.{stores_chained, stores_gone}
use Rattle.xen_host.proofs.FillLemmas.{turn_of_on, waits_none}
use Rattle.xen_host.proofs.HostLedLemmas.{asked_from, asks_all, asks_full}
use Rattle.xen_host.proofs.ToldLemmas.{other_none}
use Rattle.xen_host.specs.EngineAt.{EngineAt, engine_at}
use Rattle.xen_host.proofs.engine.Engine.respond_from.Goals as goal

pub returns-in-Some-clause-led : goal.returns-in-Some-clause-led
returns-in-Some-clause-led g c =
    λ packet.
    let q = engine_at (g.W.Wires.wiring c.args.wires.now) packet c.args.self.now in
    let w = q.wires in
    let t = q.state.tx_index in
    let m = length q.work.chain in
    let words = responses q.work.answer.status q.work.chain in
    let e = ended_at q.state q.work in
    let from = c.args.from in
    let r = c.say_responses in
    let i = c.in-Some.i in
    let s = subst (λ o. HasResponded g.H.Host.was_asked g.H.Host.is_free g.H.Host.is_full w.vif q.work.chain t q.work.answer.status from o c.args.host.now r.new.host) c.in-Some.is r.ensures in
    let n = s.0 in
    let left = answer w t m i (drop i words) e in
    let inside : from + suc n ≤ length words = omega (arith, s.1, s.2, responses_length q.work.answer.status q.work.chain) in
    let gone = subst (λ k. LedBy (answer w t m from (drop from words) e) (did_all (stores w.vif t words from (suc n)) []) (answer w t m k (drop k words) e)) s.1 (stores_gone w t m words e from (suc n) [] inside) in
    let new : EngineAt = record q { stage = stage.Respond i } in
    asks_full _ _ _ _ _ left _ (ask.Store (tx_slot w.vif (add32 t from) 0) (slice_index words from)) (stores w.vif t words (from + 1) n) _ _ s.3 (stores_chained w.vif t words from (suc n)) s.4 gone
    (λ x h. turn_of_on new x left (record { is_rest = refl; waits = waits_none x left h; is_here = refl; told = other_none x h })) refl s.2

pub returns-in-None-clause-led : goal.returns-in-None-clause-led
returns-in-None-clause-led g c =
    λ packet.
    let q = engine_at (g.W.Wires.wiring c.args.wires.now) packet c.args.self.now in
    let w = q.wires in
    let t = q.state.tx_index in
    let m = length q.work.chain in
    let words = responses q.work.answer.status q.work.chain in
    let e = ended_at q.state q.work in
    let from = c.args.from in
    let r = c.say_responses in
    let s = subst (λ o. HasResponded g.H.Host.was_asked g.H.Host.is_free g.H.Host.is_full w.vif q.work.chain t q.work.answer.status from o c.args.host.now r.new.host) c.in-None.is r.ensures in
    let n = s.0 in
    let inside : from + n ≤ length words = omega (arith, s.1, responses_length q.work.answer.status q.work.chain) in
    let end : drop (from + n) words ≡ [] = drop_all (from + n) words (omega (arith, s.1, responses_length q.work.answer.status q.work.chain)) in
    let same : answer w t m (from + n) (drop (from + n) words) e ≡ publish w t (add32 t m) e = ap (λ l. answer w t m (from + n) l e) end in
    asks_all _ _ _ _ _ _ _ (stores w.vif t words from n) _ _ _ s.2 (stores_chained w.vif t words from n) (stores_gone w t m words e from n [] inside)
    (asked_from _ _ _ _ _ _ _ _ _ (sym same) (c.push_responses.ensures.led q.work.packet))
