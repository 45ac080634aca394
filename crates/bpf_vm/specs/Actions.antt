-- Stated: claims rest on this file.
-- What becomes of a packet: the actions of XDP (Linux's uapi/linux/bpf.h, enum xdp_action).
use Rattle.std.specs.Prelude.{ℕ, List, codes, ◌==◌, if◌then◌else◌}
use Rattle.bpf_vm.specs.declared.action.Action.{Action}
use Rattle.bpf_vm.specs.declared.action.Action.TheVariants as action

-- the action of the number that a program ends with; each from 4 on is ABORTED, which is this project's own choice
abbrev pub action_of : ℕ → Action
action_of n = if n == 1 then action.Drop else if n == 2 then action.Pass else if n == 3 then action.Tx else action.Aborted

abbrev pub action_name : Action → List ℕ
action_name action.Aborted = codes "ABORTED"
action_name action.Drop = codes "DROP"
action_name action.Pass = codes "PASS"
action_name action.Tx = codes "TX"
