use Rattle.std.proofs.Common.{◌≡◌, ◌-◌}
use Rattle.bpf_verify.specs.Consistent.{instructions}
use Rattle.bpf_vm.specs.Advance.{Advanced}
use Rattle.bpf_vm.specs.Stands.{IsRunning, running_of}
use Rattle.bpf_vm.proofs.machine.Machine.run.Given as goal

abbrev pub invariant-loop-to : goal.invariant-loop-to
invariant-loop-to l = record {
  maps : l.self.shapes.now ≡ l.program.shapes;
  running : IsRunning (running_of l.program l.at l.self l.done);
  advanced : Advanced (running_of l.program l.fn.pc l.fn.self l.fn.count) (running_of l.program l.at l.self l.done);
}

abbrev pub decreases-loop-to : goal.decreases-loop-to
decreases-loop-to l = instructions l.program.code - l.done
