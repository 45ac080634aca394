-- Stated: claims rest on this file.
-- What a queue has left of its turn (its continuation).
use Rattle.std.specs.Prelude.{ℕ, suc, ◌+◌, true, List, [], length, drop}
use Rattle.std.specs.Prelude.{Option, Some, None}
use Rattle.bpf_vm.specs.Course.{left}
use Rattle.xen_steps.specs.Places.{add32}
use Rattle.xen_netif.specs.declared.offload.RxOffload.TheVariants.{Whole}
use Rattle.xen_rx_fill.specs.Rest.{rest_of}
use Rattle.xen_steps.specs.Steps.{Steps, done, never, bind}
use Rattle.xen_turns.specs.Turned.{Ending, turned}
use Rattle.xen_rx_fill.specs.Entries.{entry_at, entry_checked}
use Rattle.xen_turns.specs.Tree.{whole_turn, announce, check_again, after_look, after_copy, after_run, after_transmit}
use Rattle.xen_turns.specs.Tree.{read_slot, second, third, answer, answered, read_event, notice}
use Rattle.xen_turns.specs.Tree.{entered, copy, program}
use Rattle.xen_steps.specs.Pages.{copy_words}
use Rattle.xen_back.specs.declared.by_event.phase.Phase.{Phase}
use Rattle.xen_back.specs.declared.by_event.phase.Phase.TheVariants as phase
use Rattle.xen_back.specs.declared.by_event.stage.Stage.{Stage}
use Rattle.xen_back.specs.declared.by_event.stage.Stage.TheVariants as stage
use Rattle.xen_turns.specs.declared.state.State.{State}
use Rattle.xen_turns.specs.declared.wiring.Wiring.{Wiring}
use Rattle.xen_page.specs.declared.entry.Rights.TheVariants.{ReadOnly}
use Rattle.xen_turns.specs.Rest.{fragment_at, rest_of_slot}

abbrev pub rest_at : Wiring → State → List ℕ → Phase → Steps Ending
rest_at w s packet phase.Ready = whole_turn w s
rest_at w s packet phase.Announce = bind (announce w s.tx_index) (after_look w s)
rest_at w s packet phase.CheckAgain = bind (check_again w s.tx_index) (after_look w s)
rest_at w s packet (phase.First r) = rest_of_slot w s r.left r.chain (read_slot w (add32 s.tx_index (length r.chain)))
rest_at w s packet (phase.Second r a) = rest_of_slot w s r.left r.chain (second w (add32 s.tx_index (length r.chain)) a)
rest_at w s packet (phase.Third r a b) = rest_of_slot w s r.left r.chain (third w (add32 s.tx_index (length r.chain)) a b)
rest_at w s packet (phase.Answering at words i kind) =
    answer w at.tx_index (length words.items) i (drop i words.items) (answered at (length words.items), turned kind packet)
rest_at w s packet (phase.ReadEvent at n kind) = read_event w at.tx_index (add32 at.tx_index n) (answered at n, turned kind packet)
rest_at w s packet (phase.Notice after kind) = notice w true (after, turned kind packet)
rest_at w s packet (phase.Ended after kind) = done (after, turned kind packet)

abbrev pub rest_in : Wiring → State → Stage → Steps Ending
rest_in w s (stage.At packet phase) = rest_at w s packet phase
rest_in w s (stage.EntryFlags e) =
    bind (bind (entry_at w.vif ReadOnly (Some e.at)) (entered (fragment_at e.fragments.items e.i)
    (copy w (drop (e.i + 1) e.fragments.items)) e.packet)) (after_copy w s e.chain)
rest_in w s (stage.EntryFrame e a) =
    bind (bind (entry_checked w.vif ReadOnly e.at a) (entered (fragment_at e.fragments.items e.i)
    (copy w (drop (e.i + 1) e.fragments.items)) e.packet)) (after_copy w s e.chain)
rest_in w s (stage.Page g) = bind (bind (copy_words g.fragment g.frame g.place (suc g.n) g.packet)
    (copy w (drop g.i g.fragments.items))) (after_copy w s g.chain)
rest_in w s (stage.Run r) = bind (program (left r.vm) r.ops) (after_run w s r.chain)
rest_in w s (stage.Send packet t) = bind (rest_of w.vif s.rx_index Whole packet t.transmit.phase) (after_transmit w s t.chain packet t.ops)

-- what is left of the turn, by a queue's stage, which is out only while the next one is made of it
abbrev pub rest_of_stage : Wiring → State → Option Stage → Steps Ending
rest_of_stage w s (Some g) = rest_in w s g
rest_of_stage w s None = never

-- the bytes of a stage's packet
abbrev pub packet_at : Stage → List ℕ
packet_at (stage.At packet phase) = packet
packet_at (stage.EntryFlags e) = e.packet
packet_at (stage.EntryFrame e a) = e.packet
packet_at (stage.Page g) = g.packet
packet_at (stage.Run r) = []
packet_at (stage.Send packet t) = packet

-- the bytes of a queue's packet
abbrev pub packet_of_stage : Option Stage → List ℕ
packet_of_stage (Some g) = packet_at g
packet_of_stage None = []

-- a stage with another phase, if it has one
abbrev pub at_phase : Stage → Phase → Stage
at_phase (stage.At packet old) phase = stage.At packet phase
at_phase g phase = g
