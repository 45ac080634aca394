-- A transmit inside what follows it, and how it goes on once enough slots are shown.
use Rattle.std.proofs.Common.{◌≡◌, ℕ, ◌≤◌, List, [], ◌∷◌, Some, ap}
use Rattle.std.specs.Prelude.{if◌then◌else◌}
use Rattle.std.proofs.lemmas.Bool.{le-ltb}
use Rattle.xen_netif.specs.declared.offload.RxOffload.{RxOffload}
use Rattle.xen_steps.specs.Drive.{Goes, LedBy}
use Rattle.xen_steps.specs.Event.{Event}
use Rattle.xen_steps.specs.Steps.{Steps, done, ask, never, bind}
use Rattle.xen_rx_fill.specs.Packets.{slots}
use Rattle.xen_rx_fill.specs.Transmit.{after_targets, found, read_targets}
use Rattle.xen_rx_fill.specs.declared.by_event.phase.TransmitOutcome.TheVariants as outcome
use Rattle.xen_rx_fill.specs.declared.vif.Vif.{Vif}

goes_bind : {A B : Type 0} (s s' : Steps A) (e : Event) (f : A → Steps B) → Goes s e s' → Goes (bind s f) e (bind s' f)
goes_bind (done x) s' e f g = absurd g.1
goes_bind (ask w k) s' e f g = (g.0, g.1, ap (λ q. bind q f) g.2)
goes_bind never s' e f g = absurd g.1

pub gone_bind : {A B : Type 0} (s s' : Steps A) (t : List Event) (f : A → Steps B) → LedBy s t s' → LedBy (bind s f) t (bind s' f)
gone_bind s s' [] f g = ap (λ q. bind q f) g
gone_bind s s' (e ∷ t) f g = (bind g.0 f, goes_bind s g.0 e f g.1, gone_bind g.0 s' t f g.2)

-- Enough slots are shown.
pub found_enough : (w : Vif) (x : ℕ) (o : RxOffload) (packet : List ℕ) (m : ℕ) → slots o packet ≤ m → found w x o packet (Some m) ≡ bind (read_targets w x o (slots o packet) []) (after_targets w x o packet)
found_enough w x o packet m h = ap (λ b. if b then done outcome.TooFew else bind (read_targets w x o (slots o packet) []) (after_targets w x o packet)) (le-ltb m (slots o packet) h)
