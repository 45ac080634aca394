-- Taking an answer, and coming to the end of a turn.
use Rattle.std.proofs.Common.{◌≡◌, ℕ, List, length, drop, refl}
use Rattle.xen_back.specs.Rest.{rest_at, rest_in}
use Rattle.xen_steps.proofs.BindLemmas.{asks_on}
use Rattle.xen_steps.specs.Steps.{want_of}
use Rattle.xen_netif.specs.declared.offload.RxOffload.TheVariants.{Whole}
use Rattle.xen_rx_fill.proofs.SendLemmas.{going_asks}
use Rattle.xen_rx_fill.specs.Rest.{rest_of}
use Rattle.xen_turns.specs.Tree.{after_transmit}
use Rattle.xen_back.specs.declared.by_event.phase.Phase.{Phase}
use Rattle.xen_back.specs.declared.by_event.phase.Phase.TheVariants as phase
use Rattle.xen_back.specs.declared.by_event.stage.Executing.{Executing}
use Rattle.xen_back.specs.declared.by_event.stage.Stage.{Stage}
use Rattle.xen_back.specs.declared.by_event.stage.Stage.TheVariants as stage
use Rattle.xen_turns.specs.declared.state.State.{State}
use Rattle.xen_turns.specs.declared.turn.Kind.{Kind}
use Rattle.xen_steps.specs.declared.want.Want.TheVariants as want
use Rattle.xen_turns.specs.declared.wiring.Wiring.{Wiring}
use Rattle.xen_turns.proofs.FeedLemmas.{answer_asks}

-- a phase that wants nothing is between turns, or at the end of one
pub asks_nothing : (w : Wiring) (s : State) (packet : List ℕ) (p : Phase) → (p ≡ phase.Ready → ⊥) → ((after : State) (kind : Kind) → p ≡ phase.Ended after kind → ⊥) → want_of (rest_at w s packet p) ≡ want.Done → ⊥
asks_nothing w s packet phase.Ready r e h = r refl
asks_nothing w s packet phase.Announce r e h = cc
asks_nothing w s packet phase.CheckAgain r e h = cc
asks_nothing w s packet (phase.First x) r e h = cc
asks_nothing w s packet (phase.Second x a) r e h = cc
asks_nothing w s packet (phase.Third x a b) r e h = cc
asks_nothing w s packet (phase.Answering at words i kind) r e h = answer_asks w at.tx_index (length words.items) i (drop i words.items) _ h
asks_nothing w s packet (phase.ReadEvent at n kind) r e h = cc
asks_nothing w s packet (phase.Notice after kind) r e h = cc
asks_nothing w s packet (phase.Ended after kind) r e h = e after kind refl

-- a stage that wants nothing stands at a phase, unless a program runs
pub stage_asks : (w : Wiring) (s : State) (g : Stage) → ((packet : List ℕ) (p : Phase) → g ≡ stage.At packet p → ⊥) → ((r : Executing) → g ≡ stage.Run r → ⊥) → want_of (rest_in w s g) ≡ want.Done → ⊥
stage_asks w s (stage.At packet p) at run h = at packet p refl
stage_asks w s (stage.EntryFlags e) at run h = cc
stage_asks w s (stage.EntryFrame e a) at run h = cc
stage_asks w s (stage.Page g) at run h = cc
stage_asks w s (stage.Run r) at run h = run r refl
stage_asks w s (stage.Send packet t) at run h = asks_on (rest_of w.vif s.rx_index Whole packet t.transmit.phase) (after_transmit w s t.chain packet t.ops) (going_asks w.vif s.rx_index Whole packet t.transmit.phase t.transmit.going) h
