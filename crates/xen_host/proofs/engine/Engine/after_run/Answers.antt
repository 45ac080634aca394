use Rattle.xen_steps.specs.Places.{page_word}
use Rattle.std.proofs.Common.{◌≡◌, ℕ, List, length, refl, sym, ap, ◌∙◌, arith, true, false, Bool}
use Rattle.xen_steps.specs.Steps.{Steps}
use Rattle.xen_turns.specs.declared.state.State.{State}
use Rattle.xen_host.specs.Asks as ask
use Rattle.xen_host.proofs.HostLedLemmas.{asked_from, asks_one}
use Rattle.std.specs.Prelude.{◌==◌, if◌then◌else◌}
use Rattle.xen_netif.specs.Chain.{Slot}
use Rattle.xen_netif.specs.declared.status.Status.{Status}
use Rattle.xen_page.specs.declared.place.Place.{Place}
use Rattle.xen_rx_fill.specs.Places.{rx_word}
use Rattle.xen_turns.specs.Tree.{after_run, respond, send, status_of}
use Rattle.xen_turns.specs.Turned.{Ending, Ran}
use Rattle.xen_turns.specs.declared.wiring.Wiring.{Wiring}
use Rattle.std.proofs.lemmas.Bool.Decides.{nat_tests}
use Rattle.xen_host.specs.EngineAt.{engine_at}
use Rattle.xen_host.proofs.engine.Engine.after_run.Goals as goal

tx_run : (w : Wiring) (s : State) (slots : List Slot) (n : ℕ) (packet : List ℕ) (ops : ℕ) → n ≡ 3 → after_run w s slots (record { number = n; packet = packet; ops = ops }) ≡ send w s slots packet ops
tx_run w s slots n packet ops e = ap (λ k. after_run w s slots (record { number = k; packet = packet; ops = ops })) e

other_run : (w : Wiring) (s : State) (slots : List Slot) (n : ℕ) (packet : List ℕ) (ops : ℕ) → (n ≡ 3 → ⊥) →
    after_run w s slots (record { number = n; packet = packet; ops = ops }) ≡ respond w s slots (status_of n) (Ran n packet ops (length slots))
other_run w s slots n packet ops h = by (n == 3) refl
  where
    other : Steps Ending
    other = respond w s slots (status_of n) (Ran n packet ops (length slots))

    by : (b : Bool) → (n == 3) ≡ b → (if b then send w s slots packet ops else other) ≡ other
    by true e = let is : n ≡ 3 = grind (arith, nat_tests) in absurd (h is)
    by false e = refl

pub returns-then-number-eq-XDP_TX-clause-led : goal.returns-then-number-eq-XDP_TX-clause-led
returns-then-number-eq-XDP_TX-clause-led g c =
    λ packet.
    let q = engine_at (g.W.Wires.wiring c.args.wires.now) packet c.args.self.now in
    let w = q.wires in
    let r = c.args.ran in
    let left = send w q.state q.work.chain q.work.packet r.ops in
    asked_from _ _ _ _ _ _ _ _ _ (sym (tx_run w q.state q.work.chain r.number q.work.packet r.ops c.if-number-eq-XDP_TX.true))
    (asks_one _ _ _ _ left left _ _ _ (ask.Read (rx_word w.vif 0) 1) _ c.read.ensures (ap (λ (p : Place). ask.Read p 1) (c.header.ensures ∙ ap (λ k. page_word k 0) c.rx.ensures)) refl (omega arith, omega arith) refl
    (record { is_rest = refl; waits = (refl, (refl, λ a. tt)); is_here = refl; told = tt }) refl tt)

pub returns-clause-led : goal.returns-clause-led
returns-clause-led g c =
    λ packet.
    let q = engine_at (g.W.Wires.wiring c.args.wires.now) packet c.args.self.now in
    let w = q.wires in
    let r = c.args.ran in
    let same = ap (λ (x : Status). respond w q.state q.work.chain x (Ran r.number q.work.packet r.ops c.len-slots.result)) c.status.ensures
    ∙ ap (λ k. respond w q.state q.work.chain (status_of r.number) (Ran r.number q.work.packet r.ops k)) c.len-slots.ensures.len in
    asked_from _ _ _ _ _ _ _ _ _ (same ∙ sym (other_run w q.state q.work.chain r.number q.work.packet r.ops c.if-number-eq-XDP_TX.false)) (c.respond.ensures.led q.work.packet)
