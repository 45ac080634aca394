-- Stated: claims rest on this file.
-- The result of a run, as C gets it.
use Rattle.std.specs.Prelude.{ℕ, ◌≡◌, List}
use Rattle.bpf_vm.specs.Actions.{action_of}
use Rattle.bpf_vm.specs.declared.action.Action.{Action}
use Rattle.bpf_vm.specs.declared.action.Action.TheVariants as action
use Rattle.xdp_program.specs.declared.program.Run.{Run}
use Rattle.xdp_host.specs.declared.abi.XdpRun.{XdpRun}

-- the numbers of Linux's uapi/linux/bpf.h, enum xdp_action
abbrev pub action_number : Action → ℕ
action_number action.Aborted = 0
action_number action.Drop = 1
action_number action.Pass = 2
action_number action.Tx = 3

abbrev pub run_of : Run → XdpRun
run_of r = record { number = r.number; action = action_number (action_of r.number); instructions = r.instructions }

-- nothing was run
abbrev pub nothing : XdpRun
nothing = record { number = 0; action = 0; instructions = 0 }

-- nothing was run, and nothing has changed
pub record IsNotRun (r : XdpRun) (packet_old packet_new words_old words_new : List ℕ) : Type 0 where
  pub nothing : r ≡ nothing
  pub packet : packet_new ≡ packet_old
  pub words : words_new ≡ words_old
