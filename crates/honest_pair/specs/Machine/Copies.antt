-- Stated: claims rest on this file.
-- The copy of which a turn's first half speaks is the one of its trace.
use Rattle.std.specs.Prelude.{ℕ, ◌≡◌, List}
use Rattle.xen_netif.specs.Chain.{Slot}
use Rattle.xen_steps.specs.Event.{Event}
use Rattle.xen_steps.specs.Steps.{Runs}
use Rattle.xen_turns.specs.Tree.{Left}
use Rattle.xen_turns.specs.Turns.{HasRun as Ran}
use Rattle.xen_turns.specs.declared.state.State.{State}
use Rattle.xen_turns.specs.declared.wiring.Wiring.{Wiring}
use Rattle.honest_pair.specs.Machine.Halves.{HasRun, half_turn}

-- The events of a first half that ends in a run are a look, the reads of a chain, the copy of this packet, and the program's run on it.
abbrev pub RunsHaveCopies : Type 0
RunsHaveCopies = (w : Wiring) (s : State) (t : List Event) (slots : List Slot) (packet : List ℕ) (left : Left) →
    Runs (half_turn w s) t (HasRun slots packet left) →
    (r : Ran w s t slots left) × (r.packet ≡ packet)
