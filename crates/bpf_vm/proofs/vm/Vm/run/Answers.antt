use Rattle.bpf_vm.specs.Stands.{running_of}
use Rattle.bpf_vm.proofs.AdvanceLemmas.{ends_without_maps}
use Rattle.bpf_vm.proofs.vm.Vm.run.Goals as goal

pub returns-clause-no_maps : goal.returns-clause-no_maps
returns-clause-no_maps c =
    let r = c.run-pc in
    ends_without_maps (running_of c.self.inside.program.now r.result.pc r.new.self r.result.count) r.ensures.running r.ensures.waits
