use Rattle.std.proofs.Common.{◌∙◌, ap, arith, length, sym, subst, Option, ℕ, Some, IsSome}
use Rattle.bpf_insn.specs.Size.{size_bytes}
use Rattle.bpf_vm.specs.Running.{machine_state}
use Rattle.bpf_vm.proofs.ByteLemmas.{some_bytes}
use Rattle.bpf_vm.proofs.RegionLemmas.{loaded_below, loaded_above}
use Rattle.bpf_vm.proofs.machine.Machine.read.Goals as goal

pub load-requires : goal.load-requires
load-requires c =
    subst (λ (o : Option ℕ). IsSome o) (loaded_below (machine_state 0 c.args.self.now) c.args.address (size_bytes c.args.size) (some_bytes c.args.size) (omega arith)) c.requires.there

pub returns-then-address-lt-CONSTANTS_START : goal.returns-then-address-lt-CONSTANTS_START
returns-then-address-lt-CONSTANTS_START c =
    loaded_below (machine_state 0 c.args.self.now) c.args.address (size_bytes c.args.size) (some_bytes c.args.size) (omega arith) ∙ c.load.ensures

pub returns-else-address-lt-CONSTANTS_START : goal.returns-else-address-lt-CONSTANTS_START
returns-else-address-lt-CONSTANTS_START c =
    loaded_above (machine_state 0 c.args.self.now) c.args.address (size_bytes c.args.size) (omega (arith, c.bytes-packet.ensures.short, ap length c.bytes-packet.ensures.same)) (some_bytes c.args.size) (omega arith) c.requires.there
    ∙ ap Some (sym c.load_of_constants.ensures)
