use Rattle.std.proofs.Common.{◌≡◌, List, ℕ, [], refl, sym, ap, ◌∙◌}
use Rattle.std.specs.Prelude.{false}
use Rattle.xen_steps.specs.Steps.{done}
use Rattle.xen_turns.specs.Turned.{Turned, turned}
use Rattle.xen_turns.specs.declared.turn.Kind.{Kind}
use Rattle.xen_turns.specs.declared.turn.Kind.TheVariants as kind
use Rattle.xen_host.specs.Asks as ask
use Rattle.xen_host.specs.Led.{packet_after}
use Rattle.xen_host.specs.Said.{has_run}
use Rattle.xen_host.proofs.HostLedLemmas.{asks_one}
use Rattle.xen_host.specs.EngineAt.{engine_at}
use Rattle.xen_host.proofs.engine.Engine.end.Goals as goal

turned_after : (k : Kind) (packet : List ℕ) → turned k packet ≡ turned k (packet_after k packet)
turned_after kind.Idle packet = refl
turned_after (kind.Ran ops number slots) packet = refl
turned_after (kind.Refused cause ops slots) packet = refl
turned_after (kind.Halted cause) packet = refl

none_after : (k : Kind) (packet : List ℕ) → has_run k ≡ false → packet_after k packet ≡ []
none_after kind.Idle packet h = refl
none_after (kind.Ran ops number slots) packet h = cc h
none_after (kind.Refused cause ops slots) packet h = refl
none_after (kind.Halted cause) packet h = refl

pub returns-clause-led : goal.returns-clause-led
returns-clause-led g c =
    λ w.
    let q = engine_at w (g.R.Room.held c.args.packet.now) c.args.self.now in
    let k = c.args.kind in
    let p : (g.R.Room.held c.keep_packet.new.packet) ≡ packet_after k q.work.packet = c.keep_packet.ensures in
    let over = ap (λ (u : Turned). done (q.state, u)) (turned_after k q.work.packet ∙ ap (λ l. turned k l) (sym p)) in
    asks_one _ _ _ _ _ _ _ _ _ (ask.TurnOver k) _ c.done.ensures refl refl tt refl
    (record { over = over; ready = refl; packet = λ h. p ∙ none_after k q.work.packet h }) refl tt
