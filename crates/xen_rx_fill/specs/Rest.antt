-- Stated: claims rest on this file.
-- What a transmit has left.
use Rattle.std.specs.Prelude.{ℕ, ◌+◌, true, List, length, drop, Some}
use Rattle.xen_rx_fill.specs.Entries.{entry_at, entry_checked}
use Rattle.xen_netif.specs.declared.offload.RxOffload.{RxOffload}
use Rattle.xen_netif.specs.declared.rx.RxReq.{RxReq}
use Rattle.xen_rx_fill.specs.Packets.{response_word, takes_extra, target_at}
use Rattle.xen_steps.specs.Places.{add32}
use Rattle.xen_rx_fill.specs.Places.{rx_slot}
use Rattle.xen_steps.specs.Steps.{Steps, done, ask, bind}
use Rattle.xen_rx_fill.specs.Transmit.{Posted, after_targets, fill_from, outcome_of, posted, posted_second, read_targets, rx_answer}
use Rattle.xen_rx_fill.specs.Transmit.{rx_event, rx_notice, requested, targeted, transmit}
use Rattle.xen_rx_fill.specs.declared.transmit.Progress.{Progress}
use Rattle.xen_rx_fill.specs.declared.transmit.Progress.TheVariants as progress
use Rattle.xen_rx_fill.specs.declared.by_event.phase.TransmitOutcome.{TransmitOutcome}
use Rattle.xen_rx_fill.specs.declared.by_event.phase.Phase.{Phase}
use Rattle.xen_rx_fill.specs.declared.by_event.phase.Phase.TheVariants as phase
use Rattle.xen_steps.specs.declared.want.Want.TheVariants as want
use Rattle.xen_rx_fill.specs.declared.target.Target.{Target}
use Rattle.xen_rx_fill.specs.declared.vif.Vif.{Vif}
use Rattle.xen_page.specs.declared.entry.Rights.TheVariants.{ReadWrite}

-- after the request in the slot behind those that were read, with `left` more slots to read
abbrev pub taking : Vif → ℕ → RxOffload → ℕ → List Target → RxReq → Steps Posted
taking w x o left targets request = requested w (takes_extra o (length targets)) targets (read_targets w x o left) request

abbrev pub rest_of : Vif → ℕ → RxOffload → List ℕ → Phase → Steps TransmitOutcome
rest_of w x o packet phase.Look = transmit w x o packet
rest_of w x o packet (phase.First r) =
    bind (posted w (add32 x (length r.targets)) (taking w x o r.left r.targets)) (after_targets w x o packet)
rest_of w x o packet (phase.Second r a) =
    bind (posted_second w (add32 x (length r.targets)) (taking w x o r.left r.targets) a) (after_targets w x o packet)
rest_of w x o packet (phase.EntryFlags g) =
    bind (bind (entry_at w ReadWrite (Some g.at)) (targeted g.targets (read_targets w x o g.left) g.id)) (after_targets w x o packet)
rest_of w x o packet (phase.EntryFrame g a) =
    bind (bind (entry_checked w ReadWrite g.at a) (targeted g.targets (read_targets w x o g.left) g.id)) (after_targets w x o packet)
rest_of w x o packet (phase.Filling targets k) = fill_from w x o packet targets k
rest_of w x o packet (phase.Response grants targets i) = rx_answer w x o packet grants (length targets) i (drop i targets)
rest_of w x o packet (phase.HalfResponse h) =
    ask (want.Write (rx_slot w (add32 x h.i) 1) (response_word o h.grants packet (length h.targets) h.i (target_at h.targets h.i).id 1))
    (λ _. rx_answer w x o packet h.grants (length h.targets) (h.i + 1) (drop (h.i + 1) h.targets))
rest_of w x o packet (phase.ReadEvent grants n) = rx_event w x grants n
rest_of w x o packet (phase.Notice grants n) = rx_notice w true (outcome_of grants n)
rest_of w x o packet (phase.Over out) = done out

-- what is left after one of its events
abbrev pub rest_after : Vif → ℕ → RxOffload → List ℕ → Progress → Steps TransmitOutcome
rest_after w x o packet (progress.On t) = rest_of w x o packet t.phase
rest_after w x o packet (progress.Over out) = done out
