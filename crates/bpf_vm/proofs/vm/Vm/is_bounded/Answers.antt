use Rattle.bpf_vm.proofs.RunLemmas.{counted_below}
use Rattle.bpf_vm.proofs.vm.Vm.is_bounded.Goals as goal

pub returns : goal.returns
returns c =
    let below = counted_below _ c.self.invariant.1.consistent c.self.invariant.1 in
    rw (← c.self.view_is) below
