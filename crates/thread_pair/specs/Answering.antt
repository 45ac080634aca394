-- Stated: claims rest on this file.
-- What the host sends because of a turn.
use Rattle.std.specs.Prelude.{ℕ, ◌++◌, List, drop, take, Option, None, Some, if◌then◌else◌}
use Rattle.bpf_vm.specs.Actions.{action_of}
use Rattle.bpf_vm.specs.declared.action.Action.{Action}
use Rattle.bpf_vm.specs.declared.action.Action.TheVariants as action
use Rattle.xen_turns.specs.Delivered.{is_frame}
use Rattle.xen_turns.specs.Turned.{Turned, Ran}
use Rattle.xen_turns.specs.declared.turn.Turn.{Turn}
use Rattle.xen_turns.specs.declared.turn.Turn.TheVariants as shown
use Rattle.thread_pair.specs.declared.host.OnPass.{OnPass}
use Rattle.thread_pair.specs.declared.host.OnPass.TheVariants as host

-- a packet, the two addresses of its Ethernet header, of six bytes each, exchanged
abbrev pub exchanged : List ℕ → List ℕ
exchanged packet = take 6 (drop 6 packet) ++ (take 6 packet ++ drop 12 packet)

-- the answer to a frame
abbrev pub frame_answer : List ℕ → Option (List ℕ)
frame_answer packet = if is_frame packet then Some (exchanged packet) else None

-- the answer to a packet for which the program chose this action
abbrev pub answer_to : Action → List ℕ → Option (List ℕ)
answer_to action.Pass packet = frame_answer packet
answer_to action.Aborted packet = None
answer_to action.Drop packet = None
answer_to action.Tx packet = None

-- what is sent because of a turn: nothing by a host that takes what it is passed
abbrev pub reply : OnPass → Turned → Option (List ℕ)
reply host.Answers (Ran number packet ops slots) = answer_to (action_of number) packet
reply h u = None

-- what is sent because of a turn as a host sees it
abbrev pub shown_reply : OnPass → Turn → Option (List ℕ)
shown_reply host.Answers (shown.Ran a number packet ops slots) = answer_to a packet.now
shown_reply h u = None
