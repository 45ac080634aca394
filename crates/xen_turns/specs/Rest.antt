-- Stated: claims rest on this file.
-- What a queue has left of its turn (its continuation).
use Rattle.std.specs.Prelude.{ℕ, List, [], ◌∷◌, ◌++◌}
use Rattle.std.specs.Prelude.{slice_index_or, Result, Ok, Err}
use Rattle.xen_netif.specs.Chain.{Slot}
use Rattle.xen_netif.specs.Standing.{standing}
use Rattle.xen_netif.specs.declared.fragment.Fragment.{Fragment}
use Rattle.bpf_vm.specs.Course.{left}
use Rattle.xen_steps.specs.Steps.{Steps, bind}
use Rattle.xen_turns.specs.Turned.{Ending, turned}
use Rattle.xen_turns.specs.Tree.{after_scan}
use Rattle.xen_turns.specs.Tree.{judged, read_slots, halted, respond}
use Rattle.xen_turns.specs.declared.decisions.Reply.{Reply}
use Rattle.xen_turns.specs.declared.state.State.{State}
use Rattle.xen_turns.specs.declared.turn.Halt.{Halt}
use Rattle.xen_turns.specs.declared.wiring.Wiring.{Wiring}

-- `left` slots are left after the one that is being read
abbrev pub rest_of_slot : Wiring → State → ℕ → List Slot → Steps Slot → Steps Ending
rest_of_slot w s left slots reading =
    bind (bind reading (λ slot. judged (slots ++ slot ∷ []) (standing (slots ++ slot ∷ []))
    (read_slots w s.tx_index left (slots ++ slot ∷ [])))) (after_scan w s)

-- the i-th fragment, which is there
abbrev pub fragment_at : List Fragment → ℕ → Fragment
fragment_at fragments i = slice_index_or fragments i (record { gref = 0; offset = 0; size = 0 })

-- a chain's reply, or the halt that it ends in
abbrev pub after_reply : Wiring → State → List Slot → List ℕ → Result Reply Halt → Steps Ending
after_reply w s chain packet (Ok r) = respond w r.at chain r.status (turned r.kind packet)
after_reply w s chain packet (Err cause) = halted s cause
