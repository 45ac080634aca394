use Rattle.bpf_vm.specs.Stands.{now}
use Rattle.bpf_vm.proofs.AdvanceLemmas.{no_step_of}
use Rattle.bpf_vm.proofs.vm.Vm.advance.Goals as goal

pub returns-clause-waits : goal.returns-clause-waits
returns-clause-waits c = no_step_of c.want.result (now c.run.new.self) c.want.ensures.own c.run.ensures.waits
